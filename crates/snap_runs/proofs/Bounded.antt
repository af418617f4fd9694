-- The numbers of a run stay within limits where each of its lines keeps them there: for any algorithm, and then also
-- with crashes.
use Rattle.std.proofs.Common.{◌≡◌, ℕ, zero, suc, ◌-◌, ◌<◌, ◌≤◌, ◌&&◌, true, List, [], ◌∷◌, length, map, Option, Some}
use Rattle.std.proofs.Common.{None, IfSome, nat_lt, nat_le, refl, sym, ◌∙◌, ap, subst, arith, inl, inr}
use Rattle.std.specs.List.{AllByRecursion}
use Rattle.std.proofs.lemmas.List.{length-map}
use Rattle.snap_runs.proofs.Common.{Counts, IsOneOf, Activity, Item, Step, Call, Crash, Op, Scan, Update, Outcome}
use Rattle.snap_runs.proofs.Common.{Called, Stepped, Answered, Finished, Reason, Process, State, who, Run, IsValidRun}
use Rattle.snap_runs.proofs.Common.{state, item, outcome}
use Rattle.snap_semantics.specs.declared.process.Reason.TheVariants.{NoSuchWord}
use Rattle.snap_semantics.specs.declared.process.Status.{Status}
use Rattle.snap_semantics.specs.declared.process.Status.TheVariants.{Idle as IdleNow, Busy, Trapped, Crashed}
use Rattle.snap_semantics.specs.Source.{Source}
use Rattle.snap_semantics.specs.Table.{call_skip, owner_skip}
use Rattle.snap_runs.specs.Update.{executes}
use Rattle.snap_runs.specs.Bounded.{WasAsked, IsValue, Limits, IsMemoryWithin, IsLocalsWithin, IsOpWithin, HasLine}
use Rattle.snap_runs.specs.Bounded.{IsActivityWithin, IsStatusWithin, IsProcessWithin, IsStateWithin, StaysWithin}
use Rattle.snap_runs.specs.Bounded.{sequence_numbers, one_more, CountsWrites}
use Rattle.snap_runs.proofs.Algorithm.{Mode, Scanning, Embedded, op_of, value_of, link_of, op_is, Control}
use Rattle.snap_runs.proofs.Algorithm.{Idle, At, WhenBusy, Move, To, Begin, Answer, Finish, TypedProcess, TypedState}
use Rattle.snap_runs.proofs.Algorithm.{Algorithm, New, by_move, by_step, by_admission, by_call, typed_at, by_item}
use Rattle.snap_runs.proofs.Algorithm.{changed, outcome_of, happens, item_at, typed_state, first_process, first_state}
use Rattle.snap_runs.proofs.Algorithm.{status_of, process_of, SameOp}
use Rattle.snap_runs.proofs.Calm.{calm, uncrashed, revived, calmed, same_length, state_is, kept_or_paused, steady_of}
use Rattle.snap_runs.proofs.CalmItems.{executes_same, who_same}
use Rattle.snap_runs.proofs.CalmPromises.{OfCalm}
use Rattle.snap_runs.proofs.Computing.{both, lt_from, le_from, none_then}
use Rattle.snap_runs.proofs.Embedding as embed
use Rattle.snap_runs.proofs.Steady.{Steady, fits_of}
use Rattle.snap_runs.proofs.Within.{Wider, as_wide, all_wider, all_read, all_set, all_mapped, all_same, memory_wider}
use Rattle.snap_runs.proofs.Within.{locals_wider, op_wider, first_memory_within, first_locals_within}

-- values are values at later items
asked_later : (r : Run) (t t' value : ℕ) → t ≤ t' → WasAsked r t value → WasAsked r t' value
asked_later r t t' value le h = (h.0, h.1, h.2, omega arith, h.4, h.5)

pub value_later : (r : Run) (t t' value : ℕ) → t ≤ t' → IsValue r t value → IsValue r t' value
value_later r t t' value le (inl none) = inl none
value_later r t t' value le (inr asked) = inr (asked_later r t t' value le asked)

module _ {V P M : Type 0} (a : Algorithm V P M) (m : Limits) (Value : ℕ → Type 0) where
  abbrev pub MemoryWithin : M → Type 0
  MemoryWithin x = IsMemoryWithin m a.shape Value (a.real x)

  abbrev pub VariablesWithin : V → Type 0
  VariablesWithin p = IsLocalsWithin m a.shape Value (a.locals_of p)

  abbrev pub TaskWithin : Mode → Type 0
  TaskWithin d = IsOpWithin a.shape Value (op_of d)

  -- the value that it writes, and 0 in a scan
  pub value_within : Value 0 → (d : Mode) → TaskWithin d → Value (value_of d)
  value_within zeroed Scanning h = zeroed
  value_within zeroed _ h = h.1

  pub record ProcessWithin (q : TypedProcess V P M) : Type 0 where
    pub variables : VariablesWithin q.variables
    pub mode : WhenBusy (λ d k. TaskWithin d) q.control

  pub record StateWithin (x : TypedState V P M) : Type 0 where
    pub memory : MemoryWithin x.memory
    pub processes : AllByRecursion ProcessWithin x.processes

  -- what a line leaves
  abbrev pub MoveWithin : Move V P M → Type 0
  MoveWithin (To d x p k) = MemoryWithin x × VariablesWithin p
  MoveWithin (Begin d p k) = VariablesWithin p
  MoveWithin _ = Unit {0}

  put_within : (x : TypedState V P M) (i : ℕ) (x' : M) (q : TypedProcess V P M) (o : Outcome) → MemoryWithin x' →
      ProcessWithin q → StateWithin x → StateWithin (changed x i (New x' q o))
  put_within x i x' q o memory process h =
      record { memory = memory; processes = all_set ProcessWithin x.processes (i - 1) q h.processes process }

  same_task : (d d' : Mode) → op_of d' ≡ op_of d → TaskWithin d → TaskWithin d'
  same_task d d' same h = subst (IsOpWithin a.shape Value) (sym same) h

  moved_within : (time : ℕ) (x : TypedState V P M) (i : ℕ) (q : TypedProcess V P M) (d : Mode) (k : P)
      (v : Move V P M) → SameOp a d v → TaskWithin d → VariablesWithin q.variables → MoveWithin v → StateWithin x →
      StateWithin (changed x i (by_move a time x.memory q k v))
  moved_within time x i q d k (To d' x' p k') same mode now new h =
      put_within x i x' _ Stepped new.0 (record { variables = new.1; mode = same_task d d' same mode }) h
  moved_within time x i q d k (Begin d' p k') same mode now new h =
      put_within x i x.memory _ Stepped h.memory (record { variables = new; mode = same_task d d' same mode }) h
  moved_within time x i q d k (Answer v) same mode now new h =
      put_within x i x.memory _ (Answered v) h.memory (record { variables = now; mode = tt }) h
  moved_within time x i q d k Finish same mode now new h =
      put_within x i x.memory _ Finished h.memory (record { variables = now; mode = tt }) h

-- the word of a call that is not skipped is one
one_of_words : (source : Source) (s : Counts) (i word value : ℕ) →
    call_skip source.kind s i (Update word value) ≡ None → IsOneOf s.w word
one_of_words source s i word value h =
    let there = both (nat_lt 0 word) (nat_le word s.w)
    (none_then (nat_lt 0 word && nat_le word s.w) (owner_skip source.kind i word) NoSuchWord h).0 in
    (lt_from 0 word there.0, le_from word s.w there.1)

module _ {V P M : Type 0} (a : Algorithm V P M) (limits : ℕ → Limits)
    (wider : (t : ℕ) → Wider (limits t) (limits (suc t)))
    (lined : (k : P) → HasLine a.source (a.number k)) (back_lined : HasLine a.source a.back) (items : List Item) where
  abbrev pub run : Run
  run = embed.run_of a items

  abbrev pub at : ℕ → TypedState V P M
  at t = typed_state a items t

  -- within the limits of item t, with the values of updates called before
  abbrev pub Now : ℕ → TypedState V P M → Type 0
  Now t = StateWithin a (limits t) (IsValue run t)

  abbrev pub ProcessNow : ℕ → TypedProcess V P M → Type 0
  ProcessNow t = ProcessWithin a (limits t) (IsValue run t)

  abbrev pub TaskNow : ℕ → Mode → Type 0
  TaskNow t = TaskWithin a (limits t) (IsValue run t)

  abbrev pub MemoryNow : ℕ → M → Type 0
  MemoryNow t = MemoryWithin a (limits t) (IsValue run t)

  abbrev pub VariablesNow : ℕ → V → Type 0
  VariablesNow t = VariablesWithin a (limits t) (IsValue run t)

  abbrev pub MoveNow : ℕ → Move V P M → Type 0
  MoveNow t = MoveWithin a (limits t) (IsValue run t)

  -- one item later
  process_later : (t : ℕ) (q : TypedProcess V P M) → ProcessNow t q → ProcessNow (suc t) q
  process_later t q h = record {
    variables = locals_wider (limits t) (limits (suc t)) (wider t) a.shape (IsValue run t) (IsValue run (suc t))
        (λ x. value_later run t (suc t) x (omega arith)) (a.locals_of q.variables) h.variables;
    mode = task_later q.control h.mode;
  }
    where
      task_later : (control : Control P) → WhenBusy (λ d k. TaskNow t d) control →
          WhenBusy (λ d k. TaskNow (suc t) d) control
      task_later Idle is = tt
      task_later (At d k) is =
          op_wider (limits t) (limits (suc t)) (wider t) a.shape (IsValue run t) (IsValue run (suc t))
          (λ x. value_later run t (suc t) x (omega arith)) (op_of d) is

  later : (t : ℕ) (x : TypedState V P M) → Now t x → Now (suc t) x
  later t x h = record {
    memory = memory_wider (limits t) (limits (suc t)) (wider t) a.shape (IsValue run t) (IsValue run (suc t))
        (λ y. value_later run t (suc t) y (omega arith)) (a.real x.memory) h.memory;
    processes = all_wider
        (ProcessNow t) (ProcessNow (suc t)) (process_later t) x.processes h.processes;
  }

  -- the start
  first_variables_within : (t : ℕ) → VariablesNow t a.first_variables
  first_variables_within t =
      subst (IsLocalsWithin (limits t) a.shape (IsValue run t)) (sym a.variables_is)
      (first_locals_within (limits t) a.shape (IsValue run t) (inl refl) a.source)

  first_process_within : (t : ℕ) → ProcessNow t (first_process a)
  first_process_within t = record { variables = first_variables_within t; mode = tt }

  first_within : Now 0 (first_state a)
  first_within = record {
    memory =
        subst (IsMemoryWithin (limits 0) a.shape (IsValue run 0)) (sym a.memory_is)
        (first_memory_within (limits 0) a.shape (IsValue run 0) (inl refl) a.source.kind);
    processes = all_same (ProcessNow 0) a.shape.n (first_process a) (first_process_within 0);
  }

  -- Each line keeps the limits, at whichever process and item.
  abbrev pub KeepsLimits : Type 0
  KeepsLimits =
      (t i : ℕ) (d : Mode) (k : P) → t < length items → IsOneOf a.shape.n i → (typed_at a (at t) i).control ≡ At d k →
      TaskNow (suc t) d → MemoryNow (suc t) (at t).memory →
      VariablesNow (suc t) (typed_at a (at t) i).variables →
      MoveNow (suc t) (a.move i d (at t).memory (typed_at a (at t) i).variables k)

  module _ (fits : Steady run) (does : embed.AllDo a items) (keeps : KeepsLimits) where
    process_within : (t i : ℕ) → Now (suc t) (at t) → ProcessNow (suc t) (typed_at a (at t) i)
    process_within t i h =
        all_read (ProcessNow (suc t)) (at t).processes (i - 1) (first_process a) h.processes
        (first_process_within (suc t))

    step_within : (t i : ℕ) (control : Control P) → t < length items → IsOneOf a.shape.n i →
        (typed_at a (at t) i).control ≡ control → Now (suc t) (at t) →
        Now (suc t) (changed (at t) i (by_step a (suc t) (at t).memory i (typed_at a (at t) i) control))
    step_within t i Idle lt one is h = h
    step_within t i (At d k) lt one is h =
        let m = (at t).memory in
        let q = typed_at a (at t) i in
        let own = process_within t i h in
        let mode : TaskNow (suc t) d =
        subst (WhenBusy (λ d k. TaskNow (suc t) d)) is own.mode in
        let same : SameOp a d (a.move i d m q.variables k) =
        (subst (embed.Does a i m q.variables) is (does t i lt one)).1 in
        moved_within a (limits (suc t)) (IsValue run (suc t)) (suc t) (at t) i q d k
        (a.move i d m q.variables k) same mode own.variables
        (keeps t i d k lt one is mode h.memory own.variables) h

    -- a call that is not skipped brings its value
    asked : (t i : ℕ) (op : Op) → item_at items t ≡ Call i op → outcome run (suc t) ≡ Called →
        call_skip a.source.kind a.shape i op ≡ None → IsOpWithin a.shape (IsValue run (suc t)) op
    asked t i Scan is out admitted = tt
    asked t i (Update word value) is out admitted =
        (one_of_words a.source a.shape i word value admitted, inr (suc t, i, word, omega arith, is, out))

    admission_within : (t i : ℕ) (op : Op) (o : Option Reason) → item_at items t ≡ Call i op →
        call_skip a.source.kind a.shape i op ≡ o → outcome run (suc t)
        ≡ outcome_of (by_admission a (suc t) (at t).memory (typed_at a (at t) i) op o) → Now (suc t) (at t) →
        Now (suc t) (changed (at t) i (by_admission a (suc t) (at t).memory (typed_at a (at t) i) op o))
    admission_within t i op (Some why) is skip out h = h
    admission_within t i op None is skip out h =
        put_within a (limits (suc t)) (IsValue run (suc t)) (at t) i (at t).memory _ Called h.memory
        (record {
          variables = (process_within t i h).variables;
          mode = subst (IsOpWithin a.shape (IsValue run (suc t))) (sym (op_is op)) (asked t i op is out skip);
        })
        h

    call_within : (t i : ℕ) (op : Op) (control : Control P) → item_at items t ≡ Call i op →
        outcome run (suc t) ≡ outcome_of (by_call a (suc t) (at t).memory i op (typed_at a (at t) i) control) →
        Now (suc t) (at t) →
        Now (suc t) (changed (at t) i (by_call a (suc t) (at t).memory i op (typed_at a (at t) i) control))
    call_within t i op Idle is out h = admission_within t i op (call_skip a.source.kind a.shape i op) is refl out h
    call_within t i op (At d k) is out h = h

    item_within : (t : ℕ) (y : Item) → t < length items → IsOneOf a.shape.n (who y) → item_at items t ≡ y →
        outcome run (suc t) ≡ outcome_of (by_item a (suc t) (at t) y) → Now (suc t) (at t) →
        Now (suc t) (happens a (suc t) (at t) y)
    item_within t (Step i) lt one is out h = step_within t i (typed_at a (at t) i).control lt one refl h
    item_within t (Call i op) lt one is out h = call_within t i op (typed_at a (at t) i).control is out h
    item_within t (Crash i) lt one is out h = h

    each_within : (t : ℕ) → t ≤ length items → Now t (at t)
    each_within zero h = first_within
    each_within (suc t) h =
        item_within t (item_at items t) (omega arith) (embed.one_at a items fits t (omega arith)) refl
        (embed.outcome_is a items fits does t (omega arith))
        (later t (at t) (each_within t (omega arith)))

    -- in the words of the machine
    link_within : (d : Mode) → IfSome (link_of a.back d) (HasLine a.source)
    link_within (Embedded word value) = back_lined
    link_within _ = tt

    status_within : (t : ℕ) (control : Control P) → WhenBusy (λ d k. TaskNow t d) control →
        IsStatusWithin a.source a.shape (IsValue run t) (status_of a control)
    status_within t Idle h = tt
    status_within t (At d k) h = record { op = h; line = lined k; link = link_within d }

    shown_within : (t : ℕ) (q : TypedProcess V P M) → ProcessNow t q →
        IsProcessWithin (limits t) a.source a.shape (IsValue run t) (process_of a q)
    shown_within t q h = record { status = status_within t q.control h.mode; locals = h.variables }

    pub stays_within : StaysWithin limits run
    stays_within whole t h =
        let now = each_within t h in
        let processes = (at t).processes in
        subst (IsStateWithin (limits t) a.source a.shape (IsValue run t)) (sym (embed.state_is a items fits does t h))
        (record {
          memory = now.memory;
          processes = (
            let count = embed.count a items t in let same = length-map processes (process_of a) in omega arith,
            all_mapped
                (IsProcessWithin (limits t) a.source a.shape (IsValue run t)) (process_of a) processes
                (all_wider
                (ProcessNow t) (λ q. IsProcessWithin (limits t) a.source a.shape (IsValue run t) (process_of a q))
                (shown_within t) processes now.processes),
          );
        })

-- With crashes.
status_back : (source : Source) (s : Counts) (Value : ℕ → Type 0) (st : Status) →
    IsStatusWithin source s Value (uncrashed st) → IsStatusWithin source s Value st
status_back source s Value (Crashed None) h = tt
status_back source s Value _ h = h

module _ (r : Run) where
  asked_from : IsValidRun r → (t value : ℕ) → t ≤ length r.items → WasAsked (calm r) t value → WasAsked r t value
  asked_from fits t value short (zero, i, word, le, is, out) = absurd (cc)
  asked_from fits t value short (suc c, i, word, le, is, out) =
      elim (kept_or_paused r fits c (omega arith)) [
        | inl k ↦ (suc c, i, word, le, sym k.item_is ∙ is, sym k.outcome_is ∙ out)
        | inr k ↦ absurd (let e = sym k.outcome_is ∙ out in cc)
      ]

  value_from : IsValidRun r → (t value : ℕ) → t ≤ length r.items → IsValue (calm r) t value → IsValue r t value
  value_from fits t value short (inl none) = inl none
  value_from fits t value short (inr asked) = inr (asked_from fits t value short asked)

  -- with the values of the run without crashes, and then with its own
  module _ (fits : IsValidRun r) (t : ℕ) (short : t ≤ length r.items) (m : Limits) where
    abbrev Mine : ℕ → Type 0
    Mine = IsValue r t

    mine : (value : ℕ) → IsValue (calm r) t value → Mine value
    mine value = value_from fits t value short

    process_from : (p : Process) → IsProcessWithin m r.source r.shape (IsValue (calm r) t) (revived p) →
        IsProcessWithin m r.source r.shape Mine p
    process_from p h = record {
      status = status_back r.source r.shape Mine p.status (status_mine (uncrashed p.status) h.status);
      locals = locals_wider m m (as_wide m) r.shape (IsValue (calm r) t) Mine mine p.locals h.locals;
    }
      where
        activity_mine : (a : Activity) → IsActivityWithin r.source r.shape (IsValue (calm r) t) a →
            IsActivityWithin r.source r.shape Mine a
        activity_mine a is =
            record {
              op = op_wider m m (as_wide m) r.shape (IsValue (calm r) t) Mine mine a.op is.op;
              line = is.line;
              link = is.link;
            }

        status_mine : (st : Status) → IsStatusWithin r.source r.shape (IsValue (calm r) t) st →
            IsStatusWithin r.source r.shape Mine st
        status_mine IdleNow is = is
        status_mine (Busy a) is = activity_mine a is
        status_mine (Trapped cause a) is = activity_mine a is
        status_mine (Crashed None) is = tt
        status_mine (Crashed (Some a)) is = activity_mine a is

    processes_from : (ps : List Process) →
        AllByRecursion (IsProcessWithin m r.source r.shape (IsValue (calm r) t)) (map revived ps) →
        AllByRecursion (IsProcessWithin m r.source r.shape Mine) ps
    processes_from [] h = tt
    processes_from (p ∷ ps) h = (process_from p h.0, processes_from ps h.1)

    state_from : (S : State) → IsStateWithin m r.source r.shape (IsValue (calm r) t) (calmed S) →
        IsStateWithin m r.source r.shape Mine S
    state_from S h = record {
      memory = memory_wider m m (as_wide m) r.shape (IsValue (calm r) t) Mine mine S.memory h.memory;
      processes = (
        let same = length-map S.processes revived in
            omega arith,
        processes_from S.processes h.processes.1,
      );
    }

  short_too : (t : ℕ) → t ≤ length r.items → t ≤ length (calm r).items
  short_too t h = subst (λ k. t ≤ k) (sym (same_length r)) h

  pub stays_within_too : (limits : ℕ → Limits) → OfCalm r (StaysWithin limits) → StaysWithin limits r
  stays_within_too limits p fits t h =
      state_from fits t h (limits t) (state r t)
      (subst (IsStateWithin (limits t) r.source r.shape (IsValue (calm r) t)) (state_is r t)
      (p (steady_of r fits) (fits_of (calm r) (steady_of r fits)) t (short_too t h)))

  numbers_same : (t : ℕ) → sequence_numbers (state (calm r) t) ≡ sequence_numbers (state r t)
  numbers_same t = ap sequence_numbers (state_is r t)

  pub counts_writes_too : (line : ℕ) → OfCalm r (CountsWrites line) → CountsWrites line r
  counts_writes_too line p fits t h =
      let i = who (item r (suc t)) in
      elim (p (steady_of r fits) (fits_of (calm r) (steady_of r fits)) t (short_too (suc t) h)) [
        | inl same ↦ inl (sym (numbers_same (suc t)) ∙ same ∙ numbers_same t)
        | inr more ↦ inr (
          sym (executes_same r fits i line t h)
              ∙ subst (λ j. executes (calm r) j line (suc t) ≡ true) (who_same r fits t h) more.0,
          sym (numbers_same (suc t)) ∙ more.1 ∙ ap (one_more (who (item (calm r) (suc t)))) (numbers_same t)
              ∙ ap (λ j. one_more j (sequence_numbers (state r t))) (who_same r fits t h),
        )
      ]
