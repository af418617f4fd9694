-- The lint is sound: in every run, control stays on the lines that its flow reaches, and a trap that it can foresee
-- is at a line with a warning of it.
use Rattle.std.specs.Prelude.{◌≡◌, ◌≢◌, ℕ, zero, suc, ◌-◌, ◌<◌, List, [], ◌∷◌, length, take}
use Rattle.std.specs.Prelude.{slice_index_or, slice_set}
use Rattle.std.specs.Prelude.{Option, Some, None, Result, Ok, Err, refl}
use Rattle.std.proofs.Common.{subst, inl, inr, arith}
use Rattle.std.proofs.lemmas.Bool.{cases_eq, cases_lt}
use Rattle.std.proofs.lemmas.Bool.Decides.{nat_tests}
use Rattle.std.proofs.lemmas.List.{get_or_past, get_or-replicate, get_or-set_other, get_or-set_same, length-replicate}
use Rattle.std.proofs.lemmas.List.{length-set}
use Rattle.std.proofs.lemmas.List.Elements.{All-contains}
use Rattle.snap_words.specs.Shape.{Counts, IsOneOf}
use Rattle.snap_semantics.specs.declared.instr.Instr.{Instr}
use Rattle.snap_semantics.specs.declared.process.Activity.{Activity}
use Rattle.snap_semantics.specs.declared.process.Cause.{Cause}
use Rattle.snap_semantics.specs.declared.process.Item.{Item}
use Rattle.snap_semantics.specs.declared.process.Item.TheVariants.{Step, Call, Crash}
use Rattle.snap_semantics.specs.declared.process.Op.{Op}
use Rattle.snap_semantics.specs.declared.process.Op.TheVariants.{Scan, Update}
use Rattle.snap_semantics.specs.declared.process.Outcome.TheVariants as outcome
use Rattle.snap_semantics.specs.declared.process.Reason.{Reason}
use Rattle.snap_semantics.specs.declared.process.Status.{Status}
use Rattle.snap_semantics.specs.declared.process.Status.TheVariants.{Idle, Busy, Trapped}
use Rattle.snap_semantics.specs.IsListing.{IsListing}
use Rattle.snap_semantics.specs.Run.{after}
use Rattle.snap_semantics.specs.Source.{Source, instr_at}
use Rattle.snap_semantics.specs.State.{Locals, Memory, Process, State, initial, initial_process, nobody, process_at}
use Rattle.snap_semantics.specs.Table.{Effect, Goes, Finishes, effect_at, leave, step, entry, call_skip}
use Rattle.snap_semantics.specs.Table.{called, call, crash, done, who}
use Rattle.snap_semantics.specs.Value.{Context}
use Rattle.snap_runs.specs.Run.{before, item, outcome as outcome_at, run_of_items, state}
use Rattle.snap_lint.specs.declared.concern.Concern.{Concern}
use Rattle.snap_lint.specs.declared.mode.Mode.TheVariants as mode
use Rattle.snap_lint.specs.declared.concern.Warning.{Warning}
use Rattle.snap_lint.specs.Sound.{AreOfProcesses, IsWarnedOf, SaysNothingOf, SilentNeverTraps, TrapsAreWarnedOf, concern_of}
use Rattle.snap_lint.specs.Warnings.{warnings}
use Rattle.snap_lint.proofs.Lines.{has_instr}
use Rattle.snap_lint.proofs.Steps.{Keeps, MayStand, OwnsWord, comes_to_line, line_keeps, begins}
use Rattle.snap_lint.proofs.Warned.{warning_at}

-- a process is where control may come and updates no word of another one, or it has trapped where that is warned of
abbrev IsInFlow : Source → (who : ℕ) → Status → Type 0
IsInFlow s who (Busy a) = MayStand s a.op a.link a.line × OwnsWord s.kind who a.op
IsInFlow s who (Trapped why a) = IsWarnedOf s a.line why
IsInFlow s who _ = Unit {0}

-- each of some processes is, by its number
abbrev AreInFlow : Source → List Process → Type 0
AreInFlow s ps = (k : ℕ) (d : Process) → k < length ps → IsInFlow s (suc k) (slice_index_or ps k d).status

abbrev StateInFlow : Source → State → Type 0
StateInFlow s S = AreInFlow s S.processes

-- with another process in one place
set_in : (s : Source) (ps : List Process) (k : ℕ) (p : Process) → IsInFlow s (suc k) p.status → AreInFlow s ps →
    AreInFlow s (slice_set ps k p)
set_in s ps k p own h j d lt = elim (cases_eq j k) [
  | inl is ↦ let less : k < length ps = omega (arith, length-set ps k p) in rw (is, get_or-set_same) own
  | inr not ↦ rw get_or-set_other (h j d (omega (arith, length-set ps k p)))
]

-- a number from 1 is behind one from 0
behind : (n i : ℕ) → IsOneOf n i → suc (i - 1) ≡ i
behind n i is = omega (arith, is.0)

module _ (s : Source) (listing : IsListing s) (shape : Counts) where
  process_in : (S : State) → StateInFlow s S → (i : ℕ) → IsInFlow s (suc (i - 1)) (process_at S i).status
  process_in S h i = elim (cases_lt (i - 1) (length S.processes)) [
    | inl less ↦ h (i - 1) nobody less
    | inr past ↦ rw get_or_past tt
  ]

  -- who takes the step
  abbrev taker : ℕ → Process → Activity → Context
  taker i p a = record { shape = shape; me = i; op = a.op; locals = p.locals; place = 0 }

  at_keeps : (c : Context) (m : Memory) (a : Activity) → MayStand s a.op a.link a.line → c.op ≡ a.op →
      OwnsWord s.kind c.me a.op → (i : Option Instr) → instr_at s.lines a.line ≡ i →
      Keeps s a.line a.op (effect_at s c m a i)
  at_keeps c m a stand same owns None is = absurd (has_instr s.lines a.line (comes_to_line s _ a.line stand.here) is)
  at_keeps c m a stand same owns (Some i) is = line_keeps s listing a c m stand same owns i is

  -- what a step of a process at a line does is as it may be
  taken : (i : ℕ) (p : Process) (a : Activity) (m : Memory) → IsOneOf shape.n i → IsInFlow s (suc (i - 1)) (Busy a) →
      Keeps s a.line a.op (effect_at s (taker i p a) m a (instr_at s.lines a.line))
  taken i p a m one own =
      at_keeps (taker i p a) m a own.0 refl
      (rw (behind shape.n i one) at own.1) (instr_at s.lines a.line) refl

  leave_keeps : (S : State) (i : ℕ) (a : Activity) (l : Locals) (r : Result Effect Cause) → StateInFlow s S →
      OwnsWord s.kind (suc (i - 1)) a.op → Keeps s a.line a.op r → StateInFlow s (leave S i a l r).0
  unfolding Keeps
  leave_keeps S i a l (Ok (Goes m k link line)) h owns keeps = set_in s S.processes (i - 1) _ (keeps, owns) h
  leave_keeps S i a l (Err e) h owns keeps = set_in s S.processes (i - 1) _ keeps h
  leave_keeps S i a l _ h owns keeps = set_in s S.processes (i - 1) _ tt h

  step_keeps : (S : State) (i : ℕ) (p : Process) (status : Status) → IsOneOf shape.n i → StateInFlow s S →
      IsInFlow s (suc (i - 1)) status → StateInFlow s (step s shape S i p status).0
  step_keeps S i p (Busy a) one h own = leave_keeps S i a p.locals _ h own.1 (taken i p a S.memory one own)
  step_keeps S i p _ one h own = h

  entry_comes : (o : Op) → MayStand s o None (entry s o)
  entry_comes Scan =
      record { here = begins s mode.Scan s.scan (grind (arith, nat_tests)) listing.targets.0; after_call = tt }
  entry_comes (Update word value) =
      record { here = begins s mode.Update s.update (grind (arith, nat_tests)) listing.targets.1.0; after_call = tt }

  -- a call that is not skipped is of no update of another process's word
  call_owns : (i : ℕ) (o : Op) → call_skip s.kind shape i o ≡ None → OwnsWord s.kind i o
  call_owns i o is = grind (arith, nat_tests)

  called_keeps : (S : State) (i : ℕ) (p : Process) (o : Op) (why : Option Reason) → IsOneOf shape.n i →
      call_skip s.kind shape i o ≡ why → StateInFlow s S → StateInFlow s (called s S i p o why).0
  called_keeps S i p o (Some why) one is h = h
  called_keeps S i p o None one is h =
      set_in s S.processes (i - 1) _
      (entry_comes o, rw (behind shape.n i one) (call_owns i o is)) h

  call_keeps : (S : State) (i : ℕ) (o : Op) (p : Process) (status : Status) → IsOneOf shape.n i → StateInFlow s S →
      StateInFlow s (call s shape S i o p status).0
  call_keeps S i o p Idle one h = called_keeps S i p o (call_skip s.kind shape i o) one refl h
  call_keeps S i o p _ one h = h

  crash_keeps : (S : State) (i : ℕ) (p : Process) (status : Status) → StateInFlow s S →
      StateInFlow s (crash S i p status).0
  crash_keeps S i p (Busy a) h = set_in s S.processes (i - 1) _ tt h
  crash_keeps S i p Idle h = set_in s S.processes (i - 1) _ tt h
  crash_keeps S i p _ h = h

  done_keeps : (S : State) (x : Item) → IsOneOf shape.n (who x) → StateInFlow s S → StateInFlow s (done s shape S x).0
  done_keeps S (Step i) one h = step_keeps S i (process_at S i) (process_at S i).status one h (process_in S h i)
  done_keeps S (Call i o) one h = call_keeps S i o (process_at S i) (process_at S i).status one h
  done_keeps S (Crash i) one h = crash_keeps S i (process_at S i) (process_at S i).status h

  after_keeps : (S : State) (items : List Item) → AreOfProcesses shape items → StateInFlow s S →
      StateInFlow s (after s shape S items)
  after_keeps S [] all h = h
  after_keeps S (x ∷ xs) all h = after_keeps (done s shape S x).0 xs all.1 (done_keeps S x all.0 h)

  begins_in : StateInFlow s (initial s shape)
  begins_in k d lt =
      let less : k < shape.n = omega (arith, length-replicate shape.n (initial_process s shape)) in
      rw get_or-replicate tt

  -- the first items are of processes
  front_of : (t : ℕ) (items : List Item) → AreOfProcesses shape items → AreOfProcesses shape (take t items)
  front_of (suc t) (x ∷ xs) all = (all.0, front_of t xs all.1)
  front_of _ _ all = tt

  state_in : (items : List Item) (t : ℕ) → AreOfProcesses shape items →
      StateInFlow s (state (run_of_items s shape items) t)
  state_in items t all = after_keeps (initial s shape) (take t items) (front_of t items all) begins_in

  before_in : (items : List Item) (t : ℕ) → AreOfProcesses shape items →
      StateInFlow s (before (run_of_items s shape items) t)
  before_in items zero all = state_in items 0 all
  before_in items (suc t) all = state_in items t all

  -- what a step traps on is warned of
  left_trap : (S : State) (i : ℕ) (a : Activity) (l : Locals) (r : Result Effect Cause) (why : Cause) →
      Keeps s a.line a.op r → (leave S i a l r).1 ≡ outcome.Trapped why → IsWarnedOf s a.line why
  unfolding Keeps
  left_trap S i a l (Err e) why keeps is = subst (IsWarnedOf s a.line) (let same : e ≡ why = cc in same) keeps
  left_trap S i a l (Ok Finishes) why keeps is = absurd cc
  left_trap S i a l _ why keeps is = absurd cc

  abbrev WarnedSomewhere : Cause → Type 0
  WarnedSomewhere why = (k : ℕ) × IsWarnedOf s k why

  step_trap : (S : State) (i : ℕ) (p : Process) (status : Status) (why : Cause) → IsOneOf shape.n i →
      IsInFlow s (suc (i - 1)) status → (step s shape S i p status).1 ≡ outcome.Trapped why → WarnedSomewhere why
  step_trap S i p (Busy a) why one own is =
      (a.line, left_trap S i a p.locals _ why (taken i p a S.memory one own) is)
  step_trap S i p _ why one own is = absurd cc

  item_trap : (S : State) (x : Item) (why : Cause) → IsOneOf shape.n (who x) → StateInFlow s S →
      (done s shape S x).1 ≡ outcome.Trapped why → WarnedSomewhere why
  item_trap S (Step i) why one h is =
      step_trap S i (process_at S i) (process_at S i).status why one (process_in S h i) is
  item_trap S (Call i o) why one h is = absurd (grind arith)
  item_trap S (Crash i) why one h is = absurd (grind arith)

  -- an item of the run is of a process
  item_of : (items : List Item) (t : ℕ) → AreOfProcesses shape items → IsOneOf (length items) t →
      IsOneOf shape.n (who (item (run_of_items s shape items) t))
  item_of items zero all there = absurd (omega (arith, there.0))
  item_of [] (suc t) all there = absurd (omega (arith, there.1))
  item_of (x ∷ xs) (suc zero) all there = all.0
  item_of (x ∷ xs) (suc (suc t)) all there = item_of xs (suc t) all.1 (omega arith, omega (arith, there.1))

  silent : (c : Concern) → SaysNothingOf c (warnings s) → (why : Cause) → concern_of why ≡ Some c →
      (items : List Item) → AreOfProcesses shape items → (t : ℕ) → IsOneOf (length items) t →
      outcome_at (run_of_items s shape items) t ≡ outcome.Trapped why → ⊥
  silent c nothing why of items all t there is =
      let r = run_of_items s shape items in
      let warned =
      item_trap (before r t) (item r t) why (item_of items t all there) (before_in items t all) is in
      All-contains (λ (w : Warning). w.concern ≢ c) (warnings s) (warning_at warned.0 c) nothing (warned.1 c of) refl

pub traps_are_warned_of : TrapsAreWarnedOf
traps_are_warned_of l listing shape items all t i why a is =
    let r = run_of_items l shape items in
    let there = process_in l listing shape (state r t) (state_in l listing shape items t all) i in
    subst (IsInFlow l (suc (i - 1))) is there

pub silent_never_traps : SilentNeverTraps
silent_never_traps l listing c nothing why of shape items all t there =
    silent l listing shape c nothing why of items all t there
