-- In every run of a listing views have a place for each word: those of the processes, of the words that they keep, and
-- of the registers.
use Rattle.std.proofs.Common.{◌≡◌, ℕ, ◌-◌, ◌<◌, List, [], ◌∷◌, Option, Some, None}
use Rattle.std.proofs.Common.{Bool, true, false, if◌then◌else◌, Result, Ok, Err, length, get_or}
use Rattle.std.proofs.Common.{slice_set, refl, sym, ap, subst, ◌∙◌, arith, length-set}
use Rattle.std.specs.List.{AllByRecursion}
use Rattle.std.specs.Prelude.{nat_eq}
use Rattle.std.proofs.lemmas.List.{length-replicate}
use Rattle.std.proofs.lemmas.List.Elements.{All-get_or, All-set, All-replicate}
use Rattle.snap_words.specs.Kind.{has_bank}
use Rattle.snap_words.specs.Shape.{Counts, IsOneOf}
use Rattle.snap_words.specs.declared.address.Bank.{Bank}
use Rattle.snap_words.specs.declared.address.Bank.TheVariants as bank
use Rattle.snap_words.specs.declared.kind.KindTag.{KindTag}
use Rattle.snap_words.specs.declared.kind.KindTag.TheVariants as kind
use Rattle.snap_semantics.specs.IsListing.{IsLine, IsListing}
use Rattle.snap_semantics.specs.RightUses.{HasRightUses}
use Rattle.snap_semantics.specs.Source.{Source, instr_at}
use Rattle.snap_semantics.specs.State.{Locals, Memory, Process, State, initial, initial_memory, initial_process}
use Rattle.snap_semantics.specs.State.{nobody, process_at, value_at}
use Rattle.snap_semantics.specs.Table.{Effect, Goes, Answers, Finishes, call}
use Rattle.snap_semantics.specs.Table.{call_skip, called, crash, done}
use Rattle.snap_semantics.specs.Table.{effect_at, leave}
use Rattle.snap_semantics.specs.Table.{step, who, with_bit_at}
use Rattle.snap_semantics.specs.Uses.{index_uses, view}
use Rattle.snap_semantics.specs.Value.{Context, index_value}
use Rattle.snap_semantics.specs.declared.instr.BitBank.TheVariants as bits
use Rattle.snap_semantics.specs.declared.instr.Instr.{Instr}
use Rattle.snap_semantics.specs.declared.instr.Line.{Line}
use Rattle.snap_semantics.specs.declared.process.Activity.{Activity}
use Rattle.snap_semantics.specs.declared.process.Cause.{Cause}
use Rattle.snap_semantics.specs.declared.process.Item.{Item}
use Rattle.snap_semantics.specs.declared.process.Item.TheVariants as item
use Rattle.snap_semantics.specs.declared.process.Op.{Op}
use Rattle.snap_semantics.specs.declared.process.Reason.{Reason}
use Rattle.snap_semantics.specs.declared.process.Status.{Status}
use Rattle.snap_semantics.specs.declared.process.Status.TheVariants.{Idle, Busy, Trapped, Crashed}
use Rattle.snap_regs.specs.Store.{HasColumns, IsOfShape, rows_in}
use Rattle.snap_regs.proofs.NewRegisters.{IsOfShape-new}
use Rattle.snap_regs.proofs.Words.{IsOfShape-set_word}
use Rattle.snap_runs.proofs.Effects.{Does, goes, Writes, puts_word, puts_bit, puts_view, line_does}
use Rattle.snap_asm_program.proofs.Declared.{is_view, rest_is_right}
use Rattle.snap_machine.specs.Sizes.{AllSized, AreSized}
use Rattle.snap_machine.proofs.Sizes.{AreSized-initial}
use Rattle.snap_machine.proofs.Sizes.{place_below}
use Rattle.snap_machine.proofs.Sizes as sizes
use Rattle.snap_machine.proofs.LineLaws.{kept_sizes}
use Rattle.snap_machine.proofs.Tuples.{word_suits}

-- The registers have the sizes that the shape wants.
abbrev pub HasSizes : Source → Counts → Memory → Type 0
HasSizes s shape m = IsOfShape s.kind shape m

module _ (s : Source) (shape : Counts) where
  -- The locals of the processes have the lengths of the shape, and there are as many processes as it has.
  pub record IsSized (S : State) : Type 0 where
    pub count : length S.processes ≡ shape.n
    pub memory : HasSizes s shape S.memory
    pub locals : AllSized s shape S.processes

  -- what a line leaves has the right sizes
  abbrev Leaves : Result Effect Cause → Type 0
  Leaves (Ok (Goes m l link line)) = HasSizes s shape m × AreSized s shape l
  Leaves (Ok (Answers v)) = Unit {0}
  Leaves (Ok Finishes) = Unit {0}
  Leaves (Err c) = Unit {0}

  -- a bank that the kind has, with another bit in one of its rows
  with_bit : (b : Bank) (rows : List (List ℕ)) (k p x : ℕ) → has_bank s.kind b ≡ true → k < shape.n →
      length rows ≡ rows_in s.kind shape b → HasColumns shape.n rows →
      (length (with_bit_at rows k p x) ≡ rows_in s.kind shape b) × HasColumns shape.n (with_bit_at rows k p x)
  with_bit b rows k p x has below count columns =
      let old : List ℕ = get_or rows k [] in
      let many : length rows ≡ shape.n = count ∙ ap (λ (h : Bool). if h then shape.n else 0) has in
      let there : k < length rows = subst (λ (n : ℕ). k < n) (sym many) below in (
        length-set rows k (slice_set old p x) ∙ count,
        All-set (λ (row : List ℕ). length row ≡ shape.n) rows k (slice_set old p x)
            (length-set old p x ∙ All-get_or (λ (row : List ℕ). length row ≡ shape.n) rows k [] there columns) columns,
      )

-- the registers behind a line
registers_sized : (s : Source) (c : Context) (m : Memory) {i : Instr} {m' : Memory} {l' : Locals} →
    Writes c m i m' l' → HasRightUses s i → AreSized s c.shape c.locals → HasSizes s c.shape m → HasSizes s c.shape m'
registers_sized s c m (puts_word j t k w is) right h of =
    IsOfShape-set_word s.kind c.shape m k w of (word_suits s c j t w h right is).0
registers_sized s c m (puts_bit bits.Q j i e k p x there) right h of =
    let below = place_below c.shape.n (index_value c j) k there in
    let put = with_bit s c.shape bank.Q m.q k p x right.0 below of.q_rows of.q_columns in record {
      word_count = of.word_count;
      words_sized = of.words_sized;
      q_rows = put.0;
      q_columns = put.1;
      p_rows = of.p_rows;
      p_columns = of.p_columns;
      view_count = of.view_count;
      view_places = of.view_places;
    }
registers_sized s c m (puts_bit bits.P j i e k p x there) right h of =
    let below = place_below c.shape.n (index_value c j) k there in
    let put = with_bit s c.shape bank.P m.p k p x right.0 below of.p_rows of.p_columns in record {
      word_count = of.word_count;
      words_sized = of.words_sized;
      q_rows = of.q_rows;
      q_columns = of.q_columns;
      p_rows = put.0;
      p_columns = put.1;
      view_count = of.view_count;
      view_places = of.view_places;
    }
registers_sized s c m (puts_view j x k) right h of =
    let v : List ℕ = value_at x c.locals.views [] in
    let named = is_view s x (rest_is_right s (index_uses j) (view x ∷ []) right.1).0 in record {
      word_count = of.word_count;
      words_sized = of.words_sized;
      q_rows = of.q_rows;
      q_columns = of.q_columns;
      p_rows = of.p_rows;
      p_columns = of.p_columns;
      view_count = length-set m.views k v ∙ of.view_count;
      view_places = All-set (λ (row : List ℕ). length row ≡ c.shape.w) m.views k v (h.views x named) of.view_places;
    }
registers_sized s c m _ right h of = of

-- each form of a line, where the locals that it leaves have the right sizes
keeps : (s : Source) (c : Context) (m : Memory) (a : Activity) {i : Instr} {r : Result Effect Cause} →
    Does c m a i r → HasRightUses s i → AreSized s c.shape c.locals → HasSizes s c.shape m → sizes.Leaves s c.shape r →
    Leaves s c.shape r
keeps s c m a (goes i m' l' link line w) right h of left = (registers_sized s c m w right h of, left)
keeps s c m a _ right h of left = tt

instr_by : (P : Instr → Type 0) (i k : Instr) (rest : Option Instr) (b : Bool) → P i → (rest ≡ Some k → P k) →
    (if b then Some i else rest) ≡ Some k → P k
instr_by P i k rest true h g e = let is : i ≡ k = cc in subst P is h
instr_by P i k rest false h g e = g e

-- an instruction that a line has speaks of what the listing has
pub right_instr : (s : Source) (lines : List Line) → AllByRecursion (IsLine s) lines → (number : ℕ) (i : Instr) →
    instr_at lines number ≡ Some i → HasRightUses s i
right_instr s [] h number i e = absurd cc
right_instr s (line ∷ lines) h number i e =
    instr_by (HasRightUses s) line.instr i (instr_at lines number) (nat_eq line.number number) h.0.uses
    (right_instr s lines h.1 number i) e

module _ (s : Source) (shape : Counts) (listing : IsListing s) where
  keeps_at : (c : Context) (m : Memory) (a : Activity) (found : Option Instr) → instr_at s.lines a.line ≡ found →
      AreSized s c.shape c.locals → HasSizes s c.shape m → Leaves s c.shape (effect_at s c m a found)
  keeps_at c m a None e h of = tt
  keeps_at c m a (Some i) e h of =
      let right = right_instr s s.lines listing.lines a.line i e in
      keeps s c m a (line_does s c m a i) right h of (kept_sizes s c m a i h of right)

  with_process_sized : (S : State) (i : ℕ) (p : Process) (m : Memory) → IsSized s shape S → HasSizes s shape m →
      AreSized s shape p.locals →
      IsSized s shape (record { memory = m; processes = slice_set S.processes (i - 1) p })
  with_process_sized S i p m h of sized = record {
    count = length-set S.processes (i - 1) p ∙ h.count;
    memory = of;
    locals = All-set (λ (q : Process). AreSized s shape q.locals) S.processes (i - 1) p sized h.locals;
  }

  pub own_sized : (S : State) (i : ℕ) → IsSized s shape S → IsOneOf shape.n i → AreSized s shape (process_at S i).locals
  own_sized S i h one =
      let count = h.count in
      All-get_or (λ (q : Process). AreSized s shape q.locals) S.processes (i - 1) nobody
      (let first = one.0 in let last = one.1 in omega (arith, first, last, count)) h.locals

  leave_sized : (S : State) (i : ℕ) (a : Activity) (l : Locals) (e : Result Effect Cause) → IsSized s shape S →
      AreSized s shape l → Leaves s shape e → IsSized s shape (leave S i a l e).0
  leave_sized S i a l (Ok (Goes m k link line)) h sized left = with_process_sized S i _ m h left.0 left.1
  leave_sized S i a l (Ok (Answers v)) h sized left = with_process_sized S i _ S.memory h h.memory sized
  leave_sized S i a l (Ok Finishes) h sized left = with_process_sized S i _ S.memory h h.memory sized
  leave_sized S i a l (Err c) h sized left = with_process_sized S i _ S.memory h h.memory sized

  step_sized : (S : State) (i : ℕ) (status : Status) → IsSized s shape S → IsOneOf shape.n i →
      IsSized s shape (step s shape S i (process_at S i) status).0
  step_sized S i Idle h one = h
  step_sized S i (Trapped c a) h one = h
  step_sized S i (Crashed was) h one = h
  step_sized S i (Busy a) h one =
      let l = (process_at S i).locals in
      let c : Context = record { shape = shape; me = i; op = a.op; locals = l; place = 0 } in
      leave_sized S i a l (effect_at s c S.memory a (instr_at s.lines a.line)) h (own_sized S i h one)
      (keeps_at c S.memory a (instr_at s.lines a.line) refl (own_sized S i h one) h.memory)

  called_sized : (S : State) (i : ℕ) (o : Op) (why : Option Reason) → IsSized s shape S → IsOneOf shape.n i →
      IsSized s shape (called s S i (process_at S i) o why).0
  called_sized S i o (Some why) h one = h
  called_sized S i o None h one = with_process_sized S i _ S.memory h h.memory (own_sized S i h one)

  call_sized : (S : State) (i : ℕ) (o : Op) (status : Status) → IsSized s shape S → IsOneOf shape.n i →
      IsSized s shape (call s shape S i o (process_at S i) status).0
  call_sized S i o (Trapped c a) h one = h
  call_sized S i o (Crashed was) h one = h
  call_sized S i o (Busy a) h one = h
  call_sized S i o Idle h one = called_sized S i o (call_skip s.kind shape i o) h one

  crash_sized : (S : State) (i : ℕ) (status : Status) → IsSized s shape S → IsOneOf shape.n i →
      IsSized s shape (crash S i (process_at S i) status).0
  crash_sized S i (Trapped c a) h one = h
  crash_sized S i (Crashed was) h one = h
  crash_sized S i (Busy a) h one = with_process_sized S i _ S.memory h h.memory (own_sized S i h one)
  crash_sized S i Idle h one = with_process_sized S i _ S.memory h h.memory (own_sized S i h one)

  -- what an item leaves has the right sizes
  pub done_sized : (S : State) (x : Item) → IsSized s shape S → IsOneOf shape.n (who x) →
      IsSized s shape (done s shape S x).0
  done_sized S (item.Step i) h one = step_sized S i (process_at S i).status h one
  done_sized S (item.Call i o) h one = call_sized S i o (process_at S i).status h one
  done_sized S (item.Crash i) h one = crash_sized S i (process_at S i).status h one

  of_shape : (k : KindTag) → IsOfShape k shape (initial_memory k shape)
  of_shape kind.Seq = IsOfShape-new kind.Seq shape (initial_memory kind.Seq shape) refl refl refl refl
  of_shape kind.Bits = IsOfShape-new kind.Bits shape (initial_memory kind.Bits shape) refl refl refl refl
  of_shape kind.Multi = IsOfShape-new kind.Multi shape (initial_memory kind.Multi shape) refl refl refl refl

  -- the state before the first item has the lengths of the shape
  pub initial_sized : IsSized s shape (initial s shape)
  initial_sized = record {
    count = length-replicate shape.n (initial_process s shape);
    memory = of_shape s.kind;
    locals =
        All-replicate (λ (q : Process). AreSized s shape q.locals) shape.n (initial_process s shape)
        (AreSized-initial s shape);
  }
