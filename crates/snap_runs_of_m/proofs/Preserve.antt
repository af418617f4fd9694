-- Each item of a run of M keeps the invariant.
use Rattle.snap_runs.proofs.Flow.{scan_inside}
use Rattle.snap_runs.proofs.Totals.{total_less}
use Rattle.snap_runs.proofs.Computing.{either, whether, lt_true, same_number, other_number}
use Rattle.std.proofs.Common.{◌≡◌, ◌≢◌, ℕ, suc, ◌+◌, ◌*◌, ◌<◌, ◌≤◌, Bool, true, false, length, Option, Some, None}
use Rattle.std.proofs.Common.{nat_lt, if◌then◌else◌, refl, sym, ◌∙◌, ap, subst, arith, inl, inr}
use Rattle.std.proofs.lemmas.Bool.{cases_eq}
use Rattle.std.proofs.lemmas.Grind.{common_steps}
use Rattle.snap_runs.proofs.Common.{IsOneOf, Op, Scan, Update, Reason, Item, Step, Call, Crash, Called, Stepped}
use Rattle.snap_runs.proofs.Common.{Answered, Finished, who}
use Rattle.snap_words.specs.declared.kind.KindTag.TheVariants as kind
use Rattle.snap_semantics.specs.Table.{call_skip}
use Rattle.snap_runs.proofs.Algorithm.{Idle, At, To, Begin, Answer, Finish, by_move, by_step, by_admission}
use Rattle.snap_runs.proofs.Algorithm.{by_call, memory_after, typed_at, changed, happens, stepped_auxiliary}
use Rattle.snap_runs.proofs.Algorithm.{Mode, Scanning, Updating, op_of}
use Rattle.snap_runs.proofs.Embedding as embed
use Rattle.snap_runs.proofs.Flow as flow
use Rattle.snap_runs_of_m.specs.Promises.{counts}
use Rattle.snap_runs_of_m.proofs.Algorithm.{lines, Registers, restarts, Process, Control, Move, State, Variables}
use Rattle.snap_runs_of_m.proofs.Algorithm.{ProgramCounter, L15, L16, L18, L20, L23, L26, L29, L30, L31, L32, L35, L37}
use Rattle.snap_runs_of_m.proofs.Algorithm.{L52, L53, L54, L55, L56, L57, L58, place, bit, flip, move, first_to}
use Rattle.snap_runs_of_m.proofs.Algorithm.{same_at, all_still, third_move, after_15, after_52, after_55, after_57}
use Rattle.snap_runs_of_m.proofs.Algorithm.{IsLineOf, IsScan, tests, writes, algorithm}
use Rattle.snap_runs_of_m.proofs.Basics.{less_or_not}
use Rattle.snap_runs_of_m.proofs.Control.{Keeps, BelowLimit, LongMove, long_move, MoveWell}
use Rattle.snap_runs_of_m.proofs.Control.{ControlWell, Ground, move_well, called_well}
use Rattle.snap_runs_of_m.proofs.Flows.{Flows, flows}
use Rattle.snap_runs_of_m.proofs.History.{Now, Since, Laws, Acts, acts_nothing, laws_next, laws_up_to}
use Rattle.snap_runs_of_m.proofs.Collect.{events}
use Rattle.snap_runs_of_m.proofs.Stage.{Stage, StageMove, IsQuiet, Low, Row, events_le, stage_move, stage_15}
use Rattle.snap_runs_of_m.proofs.Count.{Count, CountMove, count_move, moves}
use Rattle.snap_runs_of_m.proofs.Invariant.{HasWritten, ProcessInvariant, Invariant, Books, BooksAt, BooksMove, Rest}
use Rattle.snap_runs_of_m.proofs.Invariant.{StageAt, CountAt, Untouched, untouched_same, books_move, books_scan}
use Rattle.snap_runs_of_m.proofs.Invariant.{own_kept, inv_later, put_inv}
use Rattle.snap_runs_of_m.proofs.Writes.{acts_15, now_15, untouched_15, asks_there, asks_here, acts_52, now_52}
use Rattle.snap_runs_of_m.proofs.Writes.{untouched_52, acts_55, now_55, untouched_55, acts_57, now_57, untouched_57}
use Rattle.snap_runs_of_m.proofs.Writes.{raised_here, raised_at_here, raised_at_elsewhere}
use Rattle.snap_runs_of_m.proofs.Writes.{with_at_here, with_at_elsewhere}

abbrev pub KeepsMemory : Registers → Move → Type 0
KeepsMemory m v = memory_after m v ≡ m

module _ (n w me : ℕ) (m : Registers) (p : Variables) where
  -- a quiet line keeps the registers
  pub kept : (d : Mode) (k : ProgramCounter) → IsQuiet k → KeepsMemory m (move n w me d m p k)
  kept d L15 q = absurd q
  kept Scanning L35 q = refl
  kept Scanning L37 q = refl
  kept Scanning L54 q = refl
  kept d L16 q = either (KeepsMemory m) (nat_lt p.j n) _ _ (λ t. refl) (λ t. refl)
  kept d L18 q = either (KeepsMemory m) (nat_lt p.k w) _ _ (λ t. refl) (λ t. refl)
  kept d L20 q = either (KeepsMemory m) (nat_lt p.k w) _ _ (λ t. refl) (λ t. refl)
  kept d L23 q = either (KeepsMemory m) (nat_lt p.j n) _ _ (λ t. refl) (λ t. refl)
  kept d L26 q = either (KeepsMemory m) (same_at p.a p.b p.k) _ _ (λ t. refl) (λ t. refl)
  kept d L29 q = either (KeepsMemory m) (nat_lt p.k w) _ _ (λ t. refl) (λ t. refl)
  kept d L30 q = either (KeepsMemory m) (all_still n p) _ _ (λ t. refl) (λ t. refl)
  kept d L32 q = whether (KeepsMemory m) (first_to d m p) (third_move n p) (λ e. refl) (λ c e. refl)
  kept d L52 q = absurd q
  kept d L53 q = either (KeepsMemory m) (nat_lt p.j n) _ _ (λ t. refl) (λ t. refl)
  kept d L55 q = absurd q
  kept d L57 q = absurd q
  kept d k q = refl

-- process i
abbrev pub at : ℕ → ℕ → State → ℕ → Process
at n w x i = typed_at (algorithm n w) x i

-- the start of the last double collect, also where a line starts another one
round_from : (again : Bool) (since round t : ℕ) → since ≤ round → round ≤ t → since ≤ (if again then t else round)
round_from true since round t h le = omega arith
round_from false since round t h le = h

round_to : (again : Bool) (round t : ℕ) → round ≤ t → (if again then t else round) ≤ t
round_to true round t h = omega arith
round_to false round t h = h

module _ (n w i : ℕ) (history : ℕ → Registers) (t since round : ℕ) where
  -- No process sees itself move.
  unmoved : (p : Variables) → IsOneOf n i → Since n w history round t → Low n i history since round p.moved →
      BelowLimit n p → events (history since) i i ≡ events (history t) i i → moves n p + 2 ≤ 2 * n
  unmoved p one s low small self =
      let less : moves n p + 2 ≤ n * 2 =
      total_less 2 (place p.moved) n i one
      (let l : events (history since) i i + place p.moved i ≤ events (history round) i i = low i one in
      let le : events (history round) i i ≤ events (history t) i i = events_le n w i round t history s one i one in
      let z : place p.moved i ≡ 0 = omega arith in z)
      (λ k e. omega (arith, small k e)) in omega arith

  pub sharp_at : (d : Mode) (p : Variables) (k : ProgramCounter) → IsOneOf n i → Since n w history round t →
      IsLineOf w d k → Keeps n w d p k → Books n w i (history since) (history t) d p k →
      Stage n w i history t since round p k → k ≡ L30 → moves n p + 2 ≤ 2 * n
  sharp_at d p k one s line keeps books stage e =
      let keeps30 : Keeps n w d p L30 = subst (Keeps n w d p) e keeps in
      unmoved p one s (subst (Stage n w i history t since round p) e stage).0 keeps30.2
      (books.self (scan_inside (IsOneOf w) d (subst (IsLineOf w d) e line)))

  pub bits_at : (p : Variables) (k : ProgramCounter) → Stage n w i history t since round p k → k ≡ L31 → (c : ℕ) →
      IsOneOf n c → place p.d c ≤ 1
  bits_at p k stage e =
      let at31 : Stage n w i history t since round p L31 = subst (Stage n w i history t since round p) e stage in
      let row : Row n w i history round t p.g p.h p.d p.a p.b (w + 1) = at31.2 in row.bits

-- what holds of a process that stands at a line
record Stands (n w t : ℕ) (history : ℕ → Registers) (i : ℕ) (q : Process) (d : Mode) (k : ProgramCounter) : Type 0 where
  line : IsLineOf w d k
  keeps : Keeps n w d q.variables k
  stage : Stage n w i history t q.auxiliary.since q.auxiliary.round q.variables k
  counts : Count n w q.variables q.auxiliary.own q.auxiliary.collects q.auxiliary.tested k
  wrote : HasWritten (At d k) q.auxiliary.wrote
  books : Books n w i (history q.auxiliary.since) (history t) d q.variables k

stands : (n w t : ℕ) (history : ℕ → Registers) (i : ℕ) (q : Process) (d : Mode) (k : ProgramCounter) →
    q.control ≡ At d k → ProcessInvariant n w t history i q → Stands n w t history i q d k
stands n w t history i q d k is own =
    let well : ControlWell n w q.variables (At d k) = subst (ControlWell n w q.variables) is own.well in
    record {
      line = well.0;
      keeps = well.1;
      stage = subst (StageAt n w i history t q.auxiliary.since q.auxiliary.round q.variables) is own.stage;
      counts =
          subst (CountAt n w q.variables q.auxiliary.own q.auxiliary.collects q.auxiliary.tested) is own.counts;
      wrote = subst (λ (y : Control). HasWritten y q.auxiliary.wrote) is own.wrote;
      books = subst (BooksAt n w i (history q.auxiliary.since) (history t) q.variables) is own.books;
    }

-- what the move v of process i at line k owes; t is the item's number
record Owes (n w t : ℕ) (history : ℕ → Registers) (q : Process) (i : ℕ) (d : Mode)
    (k : ProgramCounter) (v : Move) : Type 0 where
  pub well : MoveWell (op_of d) n w v
  pub long : LongMove n w v
  pub stage : StageMove n w i history t q.auxiliary.since (if restarts k then t else q.auxiliary.round) v
  pub counts_are : CountMove n w (suc q.auxiliary.own) (q.auxiliary.collects + tests k)
      (if restarts k then 0 else q.auxiliary.tested + tests k) v
  pub wrote : flow.CountsWrites lines (q.auxiliary.wrote + writes k) v
  pub books : BooksMove n w i (history q.auxiliary.since) (history t) q.variables.tog v

-- the process whose operation has ended
idle_own : (n w t : ℕ) (history : ℕ → Registers) (i : ℕ) (q : Process) (k : ProgramCounter) →
    ProcessInvariant n w t history i q → Rest n w i (history t) q.variables.tog → ProcessInvariant n w t history i
    (record { control = Idle; variables = q.variables; auxiliary = stepped_auxiliary (algorithm n w) k t q.auxiliary })
idle_own n w t history i q k own rest = record {
  well = tt;
  long = own.long;
  opened = round_from (restarts k) q.auxiliary.since q.auxiliary.round t own.opened own.round_le;
  round_le = round_to (restarts k) q.auxiliary.round t own.round_le;
  stage = tt;
  counts = tt;
  wrote = tt;
  books = rest;
}

module _ (n w t : ℕ) (history : ℕ → Registers) where
  -- a line that writes no register; `own` is what held of the process when time had passed
  quiet_put : (x : State) (i : ℕ) (d : Mode) (k : ProgramCounter) (v : Move) → length x.processes ≡ n → IsOneOf n i →
      ((u : ℕ) → u ≤ suc t → Laws n w history u) → history (suc t) ≡ history t → Invariant n w t history x →
      ProcessInvariant n w (suc t) history i (at n w x i) → Owes n w (suc t) history (at n w x i) i d k v →
      Invariant n w (suc t) history (changed x i (by_move (algorithm n w) (suc t) x.memory (at n w x i) k v))
  quiet_put x i d k (To d' m' p k') count one laws same h own owes =
      let q = at n w x i in
      put_inv n w t history x i m' _ Stepped count one laws
      (λ j o other. untouched_same n w j (history t) (history (suc t)) same) h
      (record {
        well = (owes.well.0, owes.well.1);
        long = owes.long;
        opened = round_from (restarts k) q.auxiliary.since q.auxiliary.round (suc t) own.opened own.round_le;
        round_le = round_to (restarts k) q.auxiliary.round (suc t) own.round_le;
        stage = owes.stage;
        counts = owes.counts_are;
        wrote = owes.wrote;
        books = owes.books;
      })
  quiet_put x i d k (Begin d' p k') count one laws same h own owes =
      let q = at n w x i in
      put_inv n w t history x i x.memory _ Stepped count one laws
      (λ j o other. untouched_same n w j (history t) (history (suc t)) same) h
      (record {
        well = (owes.well.0, owes.well.1);
        long = owes.long;
        opened = omega arith;
        round_le = omega arith;
        stage = subst (λ y. Stage n w i history (suc t) (suc t) (suc t) p y) (sym owes.stage) tt;
        counts = subst (λ y. Count n w p 0 0 0 y) (sym owes.stage) (refl, refl, refl);
        wrote = owes.wrote;
        books = owes.books;
      })
  quiet_put x i d k (Answer v) count one laws same h own owes =
      let q = at n w x i in
      put_inv n w t history x i x.memory _ (Answered v) count one laws
      (λ j o other. untouched_same n w j (history t) (history (suc t)) same) h
      (idle_own n w (suc t) history i q k own owes.books)
  quiet_put x i d k Finish count one laws same h own owes =
      let q = at n w x i in
      put_inv n w t history x i x.memory _ Finished count one laws
      (λ j o other. untouched_same n w j (history t) (history (suc t)) same) h
      (idle_own n w (suc t) history i q k own owes.books)

  -- the laws when nothing was written
  laws_same : history (suc t) ≡ history t → ((u : ℕ) → u ≤ t → Laws n w history u) → (u : ℕ) → u ≤ suc t →
      Laws n w history u
  laws_same same laws =
      laws_up_to n w history t laws
      (laws_next n w history t (history t) same (acts_nothing n w history t (history t)) laws (laws t (omega arith)).now)

  ground : (i : ℕ) (m : Registers) (q : Process) → IsOneOf n i → 0 < w → Now n w (history t) → history t ≡ m →
      ProcessInvariant n w t history i q → Ground n w i m q.variables
  ground i m q one some now is own = record {
    one = one;
    some = some;
    bits = λ c o. subst (λ (y : Registers). bit y.p c i ≤ 1) is (now.bits c i o one);
    long = own.long;
  }

module _ (n w t : ℕ) (history : ℕ → Registers) (x : State) (i : ℕ) (d : Mode) (k : ProgramCounter) where
  quiet_inv : IsQuiet k → 0 < w → length x.processes ≡ n → IsOneOf n i → history t ≡ x.memory →
      Invariant n w t history x → (at n w x i).control ≡ At d k →
      history (suc t) ≡ (changed x i (by_step (algorithm n w) (suc t) x.memory i (at n w x i) (At d k))).memory →
      Invariant n w (suc t) history (changed x i (by_step (algorithm n w) (suc t) x.memory i (at n w x i) (At d k)))
  quiet_inv quiet some count one now h is next =
      let q = at n w x i in
      let p = q.variables in
      let m = x.memory in
      let stays : history (suc t) ≡ m =
      next ∙ embed.move_memory (algorithm n w) (suc t) x i k (move n w i d m p k) ∙ kept n w i m p d k quiet in
      let same : history (suc t) ≡ history t = stays ∙ sym now in
      let laws : (u : ℕ) → u ≤ suc t → Laws n w history u = laws_same n w t history same h.laws in
      let here : Laws n w history (suc t) = laws (suc t) (omega arith) in
      let own : ProcessInvariant n w (suc t) history i q =
      own_kept n w t history i q one (here.since t (omega arith))
      (untouched_same n w i (history t) (history (suc t)) same) (h.each i one) in
      let s = stands n w (suc t) history i q d k is own in
      quiet_put n w t history x i d k (move n w i d m p k) count one laws same h own
      (record {
        well = move_well n w i d m p k (ground n w (suc t) history i m q one some here.now stays own) s.line s.keeps;
        long = long_move n w i d m p k own.long;
        stage = stage_move n w i history (suc t) q.auxiliary.since q.auxiliary.round m d p k
            (record {
              one = one;
              some = some;
              laws = laws;
              now = stays;
              opened = own.opened;
              round_le = own.round_le;
              long = own.long;
              line = s.line;
              keeps = s.keeps;
              quiet = quiet;
            })
            s.stage;
        counts_are =
            count_move n w i d m p k q.auxiliary.own q.auxiliary.collects
            (q.auxiliary.collects + tests k) q.auxiliary.tested
            (if restarts k then 0 else q.auxiliary.tested + tests k) (omega arith) refl refl s.keeps
            (sharp_at n w i history (suc t) q.auxiliary.since q.auxiliary.round d p k one
            (here.since q.auxiliary.round own.round_le) s.line s.keeps s.books s.stage)
            (bits_at n w i history (suc t) q.auxiliary.since q.auxiliary.round p k s.stage) s.counts;
        wrote =
            flow.counts_writes lines (algorithm n w) d m p k
            (move n w i d m p k) q.auxiliary.wrote (flows n w i d m p k s.line) s.wrote;
        books = books_move n w i (history q.auxiliary.since) (history (suc t)) m d p k s.line quiet own.long s.books;
      })

module _ (n w t : ℕ) (history : ℕ → Registers) (x : State) (i : ℕ) (d : Mode) (k k' : ProgramCounter)
    (after : Registers → Registers) where
  -- what a line that writes registers and goes on owes, said of the registers before it
  record Writes : Type 0 where
    again : restarts k ≡ false
    flow_is : Flows n w d x.memory (at n w x i).variables k (To d (after x.memory) (at n w x i).variables k')
    acts : Acts n w history t (history t) (after (history t))
    now : Now n w (after (history t))
    untouched : (j : ℕ) → IsOneOf n j → j ≢ i → Untouched n w j (history t) (after (history t))
    line : IsLineOf w d k'
    keeps : Keeps n w d (at n w x i).variables k'
    stage : Stage n w i history (suc t) (at n w x i).auxiliary.since (at n w x i).auxiliary.round
        (at n w x i).variables k'
    counts_are : Count n w (at n w x i).variables (suc (at n w x i).auxiliary.own)
        ((at n w x i).auxiliary.collects + tests k) ((at n w x i).auxiliary.tested + tests k) k'
    books : Books n w i (history (at n w x i).auxiliary.since) (after (history t)) d (at n w x i).variables k'

  written_inv : length x.processes ≡ n → IsOneOf n i → history t ≡ x.memory → Invariant n w t history x →
      (at n w x i).control ≡ At d k → history (suc t) ≡ after x.memory → Writes → Invariant n w (suc t) history
      (changed x i (by_move (algorithm n w) (suc t) x.memory (at n w x i) k
      (To d (after x.memory) (at n w x i).variables k')))
  written_inv count one now h is next owes =
      let q = at n w x i in
      let g = q.auxiliary in
      let own : ProcessInvariant n w t history i q = h.each i one in
      let back : after (history t) ≡ history (suc t) = ap after now ∙ sym next in
      let Good : ℕ → ℕ → Type 0 = λ round tested. ProcessInvariant n w (suc t) history i (record {
        control = At d k';
        variables = q.variables;
        auxiliary = record {
          since = g.since;
          own = suc g.own;
          collects = g.collects + tests k;
          round = round;
          tested = tested;
          called = g.called;
          wrote = g.wrote + writes k;
        };
      }) in
      put_inv n w t history x i (after x.memory) _ Stepped count one
      (laws_up_to n w history t h.laws
      (laws_next n w history t (after (history t)) (sym back) owes.acts h.laws owes.now))
      (λ j o other. subst (Untouched n w j (history t)) back (owes.untouched j o other)) h
      (subst (λ b. Good (if b then suc t else g.round) (if b then 0 else g.tested + tests k)) (sym owes.again) (record {
        well = (owes.line, owes.keeps);
        long = own.long;
        opened = own.opened;
        round_le = omega (arith, own.round_le);
        stage = owes.stage;
        counts = owes.counts_are;
        wrote = flow.counts_writes lines (algorithm n w) d x.memory q.variables k _ g.wrote owes.flow_is
            (stands n w t history i q d k is own).wrote;
        books = subst (λ m. Books n w i (history g.since) m d q.variables k') back owes.books;
      }))

books_15 : (n w i : ℕ) (base m : Registers) (d : Mode) (p : Variables) → IsScan w d → Books n w i base m d p L15 →
    Books n w i base (after_15 i m p) d p L16
books_15 n w i base m d p s h =
    let next = books_scan n w i base m d p p L15 L16 s refl h in
    record {
      settled = assumption;
      made = next.made;
      self = next.self;
    }

line15_inv : (n w t : ℕ) (history : ℕ → Registers) (x : State) (i : ℕ) (d : Mode) →
    length x.processes ≡ n → IsOneOf n i → history t ≡ x.memory → Invariant n w t history x →
    (at n w x i).control ≡ At d L15 → history (suc t) ≡ after_15 i x.memory (at n w x i).variables →
    Invariant n w (suc t) history (changed x i (by_step (algorithm n w) (suc t) x.memory i (at n w x i) (At d L15)))
line15_inv n w t history x i d count one now h is next =
    let q = at n w x i in
    let p = q.variables in
    let s = stands n w t history i q d L15 is (h.each i one) in
    let inside : IsOneOf n p.j = s.keeps.0 in
    let becomes : history (suc t) ≡ after_15 i (history t) p = next ∙ ap (λ m. after_15 i m p) (sym now) in
    let old : Now n w (history t) = (h.laws t (omega arith)).now in
    written_inv n w t history x i d L15 L16 (λ m. after_15 i m p) count one now h is next (record {
      again = refl;
      flow_is = flows n w i d x.memory p L15 s.line;
      acts = acts_15 n w i history t (history t) p;
      now = now_15 n w i (history t) p one old;
      untouched = λ j o other. untouched_15 n w i j (history t) p one o other;
      line = s.line;
      keeps = (inside, s.keeps.1, s.keeps.2);
      stage = stage_15 n w i history t q.auxiliary.since q.auxiliary.round p inside
          (λ c o other.
          ap (λ (m : Registers). bit m.q i c) becomes ∙ asks_there n w i c (history t) p one inside old o other)
          (ap (λ (m : Registers). bit m.q i p.j) becomes ∙ asks_here n w i (history t) p one inside old) s.stage;
      counts_are =
          count_move n w i d x.memory p L15 q.auxiliary.own q.auxiliary.collects (q.auxiliary.collects + 0)
          q.auxiliary.tested (q.auxiliary.tested + 0) (omega arith) refl refl s.keeps
          (λ e. absurd (cc)) (λ e. absurd (cc)) s.counts;
      books = books_15 n w i (history q.auxiliary.since) (history t) d p s.line s.books;
    })

-- line 52 answers one more process
more_or_same : (c j : ℕ) → c ≢ j → nat_lt c (j + 1) ≡ nat_lt c j
more_or_same c j other = elim (less_or_not c j) [
  | inl lt ↦ lt_true c (j + 1) (omega arith) ∙ sym (lt_true c j lt)
  | inr ge ↦ not_less c (j + 1) (omega arith) ∙ sym (not_less c j ge)
]
  where
    not_less : (x y : ℕ) → y ≤ x → nat_lt x y ≡ false
    not_less x y h = grind (arith, common_steps)

not_self : (x : ℕ) → nat_lt x x ≡ false
not_self x = grind (arith, common_steps)

module _ (n w i y z : ℕ) (base m : Registers) (p : Variables) where
  -- before line 52 the process has not yet answered process j
  not_yet : IsOneOf n p.j → Books n w i base m (Updating y z) p L52 → m.answers i p.j ≡ m.writes i
  not_yet inside h =
      let old = h.settled in
      let e : m.answers i p.j ≡ m.writes i + (if nat_lt p.j p.j then 1 else 0) = old.answers_are p.j inside in
      let f : m.writes i + (if nat_lt p.j p.j then 1 else 0) ≡ m.writes i + 0 =
      ap (λ b. m.writes i + (if b then 1 else 0)) (not_self p.j) in
      omega arith

  books_52 : IsOneOf n p.j → Books n w i base m (Updating y z) p L52 →
      Books n w i base (after_52 i m p) (Updating y z) p L53
  books_52 inside h =
      let old = h.settled in
      record {
        settled = record {
          answers_are = λ c o. elim (cases_eq c p.j) [
            | inl same ↦
                subst (λ v. (after_52 i m p).answers i v ≡ m.writes i + (if nat_lt v (p.j + 1) then 1 else 0)) (sym same)
                (raised_at_here m.answers i p.j ∙ ap (λ v. v + 1) (not_yet inside h)
                ∙ ap (λ b. m.writes i + (if b then 1 else 0)) (sym (lt_true p.j (p.j + 1) (omega arith))))
            | inr other ↦
                raised_at_elsewhere m.answers i p.j i c other ∙ old.answers_are c o
                ∙ ap (λ b. m.writes i + (if b then 1 else 0)) (sym (more_or_same c p.j other))
          ];
          puts_are = old.puts_are;
          toggles_are = old.toggles_are;
        };
        made = λ making. absurd making;
        self = λ inside. absurd inside;
      }

line52_inv : (n w t : ℕ) (history : ℕ → Registers) (x : State) (i y z : ℕ) → length x.processes ≡ n →
    IsOneOf n i → history t ≡ x.memory → Invariant n w t history x → (at n w x i).control ≡ At (Updating y z) L52 →
    history (suc t) ≡ after_52 i x.memory (at n w x i).variables → Invariant n w (suc t) history
    (changed x i (by_step (algorithm n w) (suc t) x.memory i (at n w x i) (At (Updating y z) L52)))
line52_inv n w t history x i y z count one now h is next =
    let q = at n w x i in
    let p = q.variables in
    let s = stands n w t history i q (Updating y z) L52 is (h.each i one) in
    let old : Now n w (history t) = (h.laws t (omega arith)).now in
    let first : (history t).answers i p.j ≡ (history t).writes i =
    not_yet n w i y z (history q.auxiliary.since) (history t) p s.keeps s.books in
    written_inv n w t history x i (Updating y z) L52 L53 (λ m. after_52 i m p) count one now h is next (record {
      again = refl;
      flow_is = flows n w i (Updating y z) x.memory p L52 s.line;
      acts = acts_52 n w i history t p one s.keeps old s.stage first;
      now = now_52 n w i history t p one s.keeps old s.stage first;
      untouched = λ j o other. untouched_52 n w i j (history t) p other;
      line = s.line;
      keeps = s.keeps;
      stage = tt;
      counts_are = tt;
      books = books_52 n w i y z (history q.auxiliary.since) (history t) p s.keeps s.books;
    })

-- line 55 puts the view
books_55 : (n w i y z : ℕ) (base m : Registers) (p : Variables) → Books n w i base m (Updating y z) p L55 →
    Books n w i base (after_55 i m p) (Updating y z) p L56
books_55 n w i y z base m p h =
    let old = h.settled in
    record {
      settled = record {
        answers_are = old.answers_are;
        puts_are =
            (let e : m.puts i ≡ m.writes i + 0 = old.puts_are in
            raised_here m.puts i ∙ (let f : m.puts i + 1 ≡ m.writes i + 1 = omega arith in f));
        toggles_are = old.toggles_are;
      };
      made = λ making. absurd making;
      self = λ inside. absurd inside;
    }

line55_inv : (n w t : ℕ) (history : ℕ → Registers) (x : State) (i y z : ℕ) → length x.processes ≡ n →
    IsOneOf n i → history t ≡ x.memory → Invariant n w t history x → (at n w x i).control ≡ At (Updating y z) L55 →
    history (suc t) ≡ after_55 i x.memory (at n w x i).variables → Invariant n w (suc t) history
    (changed x i (by_step (algorithm n w) (suc t) x.memory i (at n w x i) (At (Updating y z) L55)))
line55_inv n w t history x i y z count one now h is next =
    let q = at n w x i in
    let p = q.variables in
    let own : ProcessInvariant n w t history i q = h.each i one in
    let s = stands n w t history i q (Updating y z) L55 is own in
    let settled = s.books.settled in
    let before : q.auxiliary.since ≤ t = omega (arith, own.opened, own.round_le) in
    let puts : (history t).puts i ≡ (history t).writes i = omega (arith, settled.puts_are) in
    written_inv n w t history x i (Updating y z) L55 L56 (λ m. after_55 i m p) count one now h is next (record {
      again = refl;
      flow_is = flows n w i (Updating y z) x.memory p L55 s.line;
      acts = acts_55 n w i history t q.auxiliary.since p one h.laws s.stage settled.answers_are puts
          (s.books.made tt) before;
      now = now_55 n w i history t q.auxiliary.since p one h.laws s.stage settled.answers_are puts
          (s.books.made tt) before;
      untouched = λ j o other. untouched_55 n w i j (history t) p other;
      line = s.line;
      keeps = tt;
      stage = tt;
      counts_are = tt;
      books = books_55 n w i y z (history q.auxiliary.since) (history t) p s.books;
    })

-- line 57 writes the word
books_57 : (n w i y z : ℕ) (base m : Registers) (p : Variables) → Books n w i base m (Updating y z) p L57 →
    Books n w i base (after_57 i (Updating y z) m p) (Updating y z) p L58
books_57 n w i y z base m p h =
    let old = h.settled in
    let m' = after_57 i (Updating y z) m p in
    let more : m'.writes i ≡ m.writes i + 1 = raised_here m.writes i in
    record {
      settled = record {
        answers_are = λ c o. omega (arith, old.answers_are c o);
        puts_are = omega (arith, old.puts_are);
        toggles_are = λ v o. elim (cases_eq v y) [
          | inl same ↦
              subst (λ u. place p.tog u ≡ m'.toggles i u) (sym same) (sym (with_at_here m.toggles i y (place p.tog y)))
          | inr other ↦
              old.toggles_are v o ∙ ap (λ b. if b then flip (m.toggles i v) else m.toggles i v) (other_number v y other)
              ∙ sym (with_at_elsewhere m.toggles i y (place p.tog y) i v other)
        ];
      };
      made = λ making. absurd making;
      self = λ inside. absurd inside;
    }

module _ (n w t : ℕ) (history : ℕ → Registers) (x : State) where
  line57_inv : (i y z : ℕ) → length x.processes ≡ n → IsOneOf n i → history t ≡ x.memory →
      Invariant n w t history x → (at n w x i).control ≡ At (Updating y z) L57 →
      history (suc t) ≡ after_57 i (Updating y z) x.memory (at n w x i).variables →
      Invariant n w (suc t) history
      (changed x i (by_step (algorithm n w) (suc t) x.memory i (at n w x i) (At (Updating y z) L57)))
  line57_inv i y z count one now h is next =
      let q = at n w x i in
      let p = q.variables in
      let s = stands n w t history i q (Updating y z) L57 is (h.each i one) in
      let settled = s.books.settled in
      let old : Now n w (history t) = (h.laws t (omega arith)).now in
      let turned : place p.tog y ≡ flip ((history t).toggles i y) =
      settled.toggles_are y s.line
      ∙ ap (λ b. if b then flip ((history t).toggles i y) else (history t).toggles i y) (same_number y) in
      written_inv n w t history x i (Updating y z) L57 L58 (λ m. after_57 i (Updating y z) m p) count one now h is next
      (record {
        again = refl;
        flow_is = flows n w i (Updating y z) x.memory p L57 s.line;
        acts = acts_57 n w i y z history t p one s.line old settled.answers_are settled.puts_are turned;
        now = now_57 n w i y z history t p one s.line old settled.answers_are settled.puts_are turned;
        untouched = λ j o other. untouched_57 n w i j (Updating y z) (history t) p other;
        line = s.line;
        keeps = tt;
        stage = tt;
        counts_are = tt;
        books = books_57 n w i y z (history q.auxiliary.since) (history t) p s.books;
      })

  -- each line
  line_inv : (i : ℕ) (d : Mode) (k : ProgramCounter) → IsLineOf w d k → 0 < w → length x.processes ≡ n → IsOneOf n i →
      history t ≡ x.memory → Invariant n w t history x → (at n w x i).control ≡ At d k →
      history (suc t) ≡ (changed x i (by_step (algorithm n w) (suc t) x.memory i (at n w x i) (At d k))).memory →
      Invariant n w (suc t) history (changed x i (by_step (algorithm n w) (suc t) x.memory i (at n w x i) (At d k)))
  line_inv i d L15 s some count one now h is next = line15_inv n w t history x i d count one now h is next
  line_inv i (Updating y z) L52 s some count one now h is next =
      line52_inv n w t history x i y z count one now h is next
  line_inv i (Updating y z) L55 s some count one now h is next =
      line55_inv n w t history x i y z count one now h is next
  line_inv i (Updating y z) L57 s some count one now h is next = line57_inv i y z count one now h is next
  line_inv i d L52 s some count one now h is next = absurd s
  line_inv i d L55 s some count one now h is next = absurd s
  line_inv i d L57 s some count one now h is next = absurd s
  line_inv i d k s some count one now h is next = quiet_inv n w t history x i d k tt some count one now h is next

  step_inv : (i : ℕ) (control : Control) → 0 < w → length x.processes ≡ n → IsOneOf n i → history t ≡ x.memory →
      Invariant n w t history x → (at n w x i).control ≡ control →
      history (suc t) ≡ (changed x i (by_step (algorithm n w) (suc t) x.memory i (at n w x i) control)).memory →
      Invariant n w (suc t) history (changed x i (by_step (algorithm n w) (suc t) x.memory i (at n w x i) control))
  step_inv i Idle some count one now h is next =
      let same : history (suc t) ≡ history t = next ∙ sym now in
      let laws : (u : ℕ) → u ≤ suc t → Laws n w history u = laws_same n w t history same h.laws in
      inv_later n w t history x (laws (suc t) (omega arith)) same laws h
  step_inv i (At d k) some count one now h is next =
      let well : ControlWell n w (at n w x i).variables (At d k) =
      subst (ControlWell n w (at n w x i).variables) is (h.each i one).well in
      line_inv i d k well.0 some count one now h is next

  -- a call
  admit_inv : (i : ℕ) (op : Op) (o : Option Reason) → call_skip kind.Multi (counts n w) i op ≡ o →
      length x.processes ≡ n → IsOneOf n i → history (suc t) ≡ history t → ((u : ℕ) → u ≤ suc t → Laws n w history u) →
      Invariant n w t history x → (at n w x i).control ≡ Idle →
      Invariant n w (suc t) history (changed x i (by_admission (algorithm n w) (suc t) x.memory (at n w x i) op o))
  admit_inv i op (Some why) e count one same laws h is =
      inv_later n w t history x (laws (suc t) (omega arith)) same laws h
  admit_inv i Scan None e count one same laws h is =
      let q = at n w x i in
      let own : ProcessInvariant n w (suc t) history i q =
      own_kept n w t history i q one ((laws (suc t) (omega arith)).since t (omega arith))
      (untouched_same n w i (history t) (history (suc t)) same) (h.each i one) in
      let rest : Rest n w i (history (suc t)) q.variables.tog =
      subst (BooksAt n w i (history q.auxiliary.since) (history (suc t)) q.variables) is own.books in
      put_inv n w t history x i x.memory _ Called count one laws
      (λ j o other. untouched_same n w j (history t) (history (suc t)) same) h
      (record {
        well = called_well n w i q.variables Scan e;
        long = own.long;
        opened = omega arith;
        round_le = omega arith;
        stage = tt;
        counts = (refl, refl, refl);
        wrote = tt;
        books = record {
          settled = rest;
          made = λ making. absurd making;
          self = λ inside. refl;
        };
      })
  admit_inv i (Update word value) None e count one same laws h is =
      let q = at n w x i in
      let own : ProcessInvariant n w (suc t) history i q =
      own_kept n w t history i q one ((laws (suc t) (omega arith)).since t (omega arith))
      (untouched_same n w i (history t) (history (suc t)) same) (h.each i one) in
      let rest : Rest n w i (history (suc t)) q.variables.tog =
      subst (BooksAt n w i (history q.auxiliary.since) (history (suc t)) q.variables) is own.books in
      put_inv n w t history x i x.memory _ Called count one laws
      (λ j o other. untouched_same n w j (history t) (history (suc t)) same) h
      (record {
        well = called_well n w i q.variables (Update word value) e;
        long = own.long;
        opened = own.opened;
        round_le = own.round_le;
        stage = tt;
        counts = tt;
        wrote = refl;
        books = record {
          settled = rest;
          made = λ making. absurd making;
          self = λ inside. absurd inside;
        };
      })

  asked_inv : (i : ℕ) (op : Op) (control : Control) → length x.processes ≡ n → IsOneOf n i →
      history (suc t) ≡ history t → ((u : ℕ) → u ≤ suc t → Laws n w history u) → Invariant n w t history x →
      (at n w x i).control ≡ control →
      Invariant n w (suc t) history (changed x i (by_call (algorithm n w) (suc t) x.memory i op (at n w x i) control))
  asked_inv i op Idle count one same laws h is =
      admit_inv i op (call_skip kind.Multi (counts n w) i op) refl count one same laws h is
  asked_inv i op (At d k) count one same laws h is = inv_later n w t history x (laws (suc t) (omega arith)) same laws h

  pub happens_inv : (y : Item) → 0 < w → length x.processes ≡ n → IsOneOf n (who y) → history t ≡ x.memory →
      Invariant n w t history x → history (suc t) ≡ (happens (algorithm n w) (suc t) x y).memory →
      Invariant n w (suc t) history (happens (algorithm n w) (suc t) x y)
  happens_inv (Step i) some count one now h next = step_inv i (at n w x i).control some count one now h refl next
  happens_inv (Call i op) some count one now h next =
      let same : history (suc t) ≡ history t =
      next ∙ embed.call_memory (algorithm n w) (suc t) x i op (at n w x i).control ∙ sym now in
      asked_inv i op (at n w x i).control count one same (laws_same n w t history same h.laws) h refl
  happens_inv (Crash i) some count one now h next =
      let same : history (suc t) ≡ history t = next ∙ sym now in
      let laws = laws_same n w t history same h.laws in
      inv_later n w t history x (laws (suc t) (omega arith)) same laws h
