-- After an item a report has as many lines of registers and of locals as before it, so that a trace compares them
-- line by line.
use Rattle.std.proofs.Common.{◌≡◌, ℕ, ◌-◌, ◌<◌, length, Option, Some, None, Result, Ok, slice_set, refl, sym, ap}
use Rattle.std.proofs.Common.{◌∙◌, arith}
use Rattle.std.proofs.lemmas.List.{get_or-set_same, set-get_or}
use Rattle.snap_words.specs.Shape.{Counts}
use Rattle.snap_words.specs.declared.kind.KindTag.{KindTag}
use Rattle.snap_semantics.specs.Report.{head_line, locals_text, process_lines, register_lines}
use Rattle.snap_semantics.specs.Source.{Source, instr_at}
use Rattle.snap_semantics.specs.State.{Locals, Memory, Process, State, nobody, process_at}
use Rattle.snap_semantics.specs.Table.{Effect, Goes, effect_at, leave, step, call, called, call_skip, crash, done, who}
use Rattle.snap_semantics.specs.Value.{Context}
use Rattle.snap_semantics.specs.declared.instr.BitBank.TheVariants as bits
use Rattle.snap_semantics.specs.declared.instr.Instr.{Instr}
use Rattle.snap_semantics.specs.declared.process.Activity.{Activity}
use Rattle.snap_semantics.specs.declared.process.Cause.{Cause}
use Rattle.snap_semantics.specs.declared.process.Item.{Item}
use Rattle.snap_semantics.specs.declared.process.Item.TheVariants as item
use Rattle.snap_semantics.specs.declared.process.Op.{Op}
use Rattle.snap_semantics.specs.declared.process.Outcome.{Outcome}
use Rattle.snap_semantics.specs.declared.process.Outcome.TheVariants.{Skipped}
use Rattle.snap_semantics.specs.declared.process.Reason.{Reason}
use Rattle.snap_semantics.specs.declared.process.Status.{Status}
use Rattle.snap_semantics.specs.declared.process.Status.TheVariants.{Idle, Busy, Trapped, Crashed}
use Rattle.snap_runs.proofs.Effects.{Does, goes, Writes, nothing, sets_word, puts_bit, line_does}
use Rattle.snap_output.proofs.Wholes.{feeds, feeds_append, feeds_both}
use Rattle.snap_output.proofs.Feeds.{head_feeds, bit_set, list_set, number_set, view_set, word_set, words_set}

-- lines of which one is set
ruleset same_lines = (feeds_append, number_set, list_set, view_set, word_set, bit_set)

module _ (g : KindTag) (m0 : Memory) (l0 : Locals) where
  -- registers and locals with as many lines
  record Kept (m : Memory) (l : Locals) : Type 0 where
    registers : feeds (register_lines g m) ≡ feeds (register_lines g m0)
    locals : feeds (locals_text g l) ≡ feeds (locals_text g l0)

  -- a line that goes on leaves as many
  Keeps : Result Effect Cause → Type 0
  Keeps (Ok (Goes m l link line)) = Kept m l
  Keeps _ = Unit {0}

  -- what a line writes
  wrote : (c : Context) (m : Memory) {i : Instr} {m' : Memory} {l' : Locals} → Writes c m i m' l' →
      Kept m c.locals → Kept m' l'
  wrote c m (nothing i) h = h
  wrote c m (puts_bit bits.Q j i e k p x there) h = omega (arith, same_lines)
  wrote c m (puts_bit bits.P j i e k p x there) h = omega (arith, same_lines)
  wrote c m (sets_word i x k w) h = omega (arith, same_lines, words_set g x k w c.locals.words)
  wrote c m _ h = omega (arith, same_lines)

  -- each form of a line
  keeps : (c : Context) (m : Memory) (a : Activity) {i : Instr} {r : Result Effect Cause} → Does c m a i r →
      Kept m c.locals → Keeps r
  unfolding Keeps
  keeps c m a (goes i m' l' link line w) h = wrote c m w h
  keeps c m a _ h = tt

  -- the line at which a process stands, where there is one
  keeps_at : (s : Source) (c : Context) (m : Memory) (a : Activity) (i : Option Instr) →
      Kept m c.locals → Keeps (effect_at s c m a i)
  unfolding Keeps
  keeps_at s c m a None h = tt
  keeps_at s c m a (Some i) h = keeps c m a (line_does s c m a i) h

  as_they_are : Kept m0 l0
  as_they_are = record { registers = refl; locals = refl }

-- One process and the registers have changed, each into as many lines.
pub record IsMove (g : KindTag) (i : ℕ) (S S' : State) : Type 0 where
  pub process : Process
  pub processes : S'.processes ≡ slice_set S.processes (i - 1) process
  pub lines : feeds (process_lines g i process) ≡ feeds (process_lines g i (process_at S i))
  pub registers : feeds (register_lines g S'.memory) ≡ feeds (register_lines g S.memory)

-- the process behind a move
pub process_behind : {g : KindTag} {i : ℕ} {S S' : State} (h : IsMove g i S S') → i - 1 < length S.processes →
    process_at S' i ≡ h.process
process_behind h there = rw (h.processes, get_or-set_same)

-- what an item leaves, with its outcome: a move, which is none where the item is skipped
abbrev Moves : KindTag → ℕ → State → State × Outcome → Type 0
Moves g i S to = IsMove g i S to.0 × ((r : Reason) → to.1 ≡ Skipped r → to.0 ≡ S)

stays : (g : KindTag) (i : ℕ) (S : State) (o : Outcome) → Moves g i S (S, o)
stays g i S o = (
  record {
    process = process_at S i;
    processes = sym (set-get_or S.processes (i - 1) nobody);
    lines = refl;
    registers = refl;
  },
  λ r e. refl,
)

-- the process stands elsewhere
stands : (g : KindTag) (i : ℕ) (S : State) (m : Memory) (p : Process) (o : Outcome) →
    Kept g S.memory (process_at S i).locals m p.locals → ((r : Reason) → o ≡ Skipped r → ⊥) →
    Moves g i S (record { memory = m; processes = slice_set S.processes (i - 1) p }, o)
stands g i S m p o h happens =
    let old = process_at S i in (
      record {
        process = p;
        processes = refl;
        lines =
            feeds_both (head_line i p.status) (head_line i old.status) (locals_text g p.locals)
            (locals_text g old.locals) (head_feeds i p.status ∙ sym (head_feeds i old.status)) h.locals;
        registers = h.registers;
      },
      λ r e. absurd (happens r e),
    )

left : (g : KindTag) (S : State) (i : ℕ) (a : Activity) (r : Result Effect Cause) →
    Keeps g S.memory (process_at S i).locals r → Moves g i S (leave S i a (process_at S i).locals r)
unfolding Keeps
left g S i a (Ok (Goes m l link line)) h = stands g i S m _ _ h (λ r e. cc)
left g S i a _ h = stands g i S S.memory _ _ (as_they_are g _ _) (λ r e. cc)

stepped : (g : KindTag) (s : Source) (n : Counts) (S : State) (i : ℕ) (t : Status) →
    Moves g i S (step s n S i (process_at S i) t)
stepped g s n S i (Busy a) =
    let p = process_at S i in
    let c : Context = record { shape = n; me = i; op = a.op; locals = p.locals; place = 0 } in
    left g S i a (effect_at s c S.memory a (instr_at s.lines a.line))
    (keeps_at g S.memory p.locals s c S.memory a (instr_at s.lines a.line) (as_they_are g S.memory p.locals))
stepped g s n S i _ = stays g i S _

asked : (g : KindTag) (s : Source) (S : State) (i : ℕ) (o : Op) (r : Option Reason) →
    Moves g i S (called s S i (process_at S i) o r)
asked g s S i o (Some r) = stays g i S _
asked g s S i o None = stands g i S S.memory _ _ (as_they_are g _ _) (λ r e. cc)

calls : (g : KindTag) (s : Source) (n : Counts) (S : State) (i : ℕ) (o : Op) (t : Status) →
    Moves g i S (call s n S i o (process_at S i) t)
calls g s n S i o Idle = asked g s S i o (call_skip s.kind n i o)
calls g s n S i o _ = stays g i S _

crashes : (g : KindTag) (S : State) (i : ℕ) (t : Status) → Moves g i S (crash S i (process_at S i) t)
crashes g S i (Trapped e a) = stays g i S _
crashes g S i (Crashed was) = stays g i S _
crashes g S i _ = stands g i S S.memory _ _ (as_they_are g _ _) (λ r e. cc)

does : (g : KindTag) (s : Source) (n : Counts) (S : State) (x : Item) → Moves g (who x) S (done s n S x)
does g s n S (item.Step i) = stepped g s n S i (process_at S i).status
does g s n S (item.Call i o) = calls g s n S i o (process_at S i).status
does g s n S (item.Crash i) = crashes g S i (process_at S i).status

-- what an item does
pub moves : (g : KindTag) (s : Source) (n : Counts) (S : State) (x : Item) → IsMove g (who x) S (done s n S x).0
moves g s n S x = (does g s n S x).0

-- an item that is skipped changes nothing
pub skipped_stays : (s : Source) (n : Counts) (S S' : State) (x : Item) (r : Reason) →
    done s n S x ≡ (S', Skipped r) → S' ≡ S
skipped_stays s n S S' x r is =
    sym (ap (λ (a : State × Outcome). a.0) is) ∙ (does s.kind s n S x).1 r (ap (λ (a : State × Outcome). a.1) is)
