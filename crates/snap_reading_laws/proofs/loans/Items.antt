-- What each item of a run leaves of the views and words is as the trace tells (`Told`).
use Rattle.std.proofs.Common.{◌≡◌, ◌≢◌, ℕ, zero, suc, ◌+◌, ◌-◌, ◌<◌, List, [], ◌∷◌, Option, Some, None}
use Rattle.std.proofs.Common.{Result, Ok, Err, length, slice_index_or, slice_set, take, refl, sym, subst, arith}
use Rattle.std.specs.List.{AllByRecursion}
use Rattle.std.proofs.lemmas.List.{get_or-set_other, get_or-set_same}
use Rattle.snap_words.specs.Shape.{Counts, IsOneOf}
use Rattle.snap_semantics.specs.IsListing.{IsListing}
use Rattle.snap_semantics.specs.Run.{after}
use Rattle.snap_semantics.specs.Source.{Source, instr_at}
use Rattle.snap_semantics.specs.State.{Locals, Memory, Process, State, initial, nobody, process_at}
use Rattle.snap_semantics.specs.Table.{Effect, Goes, Answers, Finishes, call, call_skip, called, crash, done}
use Rattle.snap_semantics.specs.Table.{effect_at, leave, step, who}
use Rattle.snap_semantics.specs.Value.{Context}
use Rattle.snap_semantics.specs.declared.instr.Instr.{Instr}
use Rattle.snap_semantics.specs.declared.process.Activity.{Activity}
use Rattle.snap_semantics.specs.declared.process.Cause.{Cause}
use Rattle.snap_semantics.specs.declared.process.Item.{Item}
use Rattle.snap_semantics.specs.declared.process.Item.TheVariants as item
use Rattle.snap_semantics.specs.declared.process.Op.{Op}
use Rattle.snap_semantics.specs.declared.process.Reason.{Reason}
use Rattle.snap_semantics.specs.declared.process.Status.{Status}
use Rattle.snap_semantics.specs.declared.process.Status.TheVariants.{Idle, Busy, Trapped}
use Rattle.snap_runs.specs.Run.{IsValidRun, Run, state, item as item_at, outcome as outcome_at}
use Rattle.snap_machine.specs.Sizes.{AreSized}
use Rattle.snap_run_judge.proofs.Sizes.{HasSizes, IsSized, done_sized, initial_sized, own_sized, right_instr}
use Rattle.snap_acts.specs.Loans.{step_at}
use Rattle.snap_acts.specs.Trace.{act_of, context_of, intent_in, intent_of, intent_of_instr, returned, step_of, stepped}
use Rattle.snap_acts.specs.Trace.{steps_of, trace_of}
use Rattle.snap_acts.specs.declared.act.Act.{Act}
use Rattle.snap_acts.specs.declared.act.Act.TheVariants as act
use Rattle.snap_reading_laws.proofs.Lines.{Leaves, leaves}
use Rattle.snap_reading_laws.proofs.loans.Turns.{Turn, done_turn}
use Rattle.snap_reading_laws.proofs.loans.Went.{Tells, Went, kept}

-- what an item of process i left, which did this: the other processes are as they were
pub record Told (n i : ℕ) (S : State) (a : Act) (S' : State) : Type 0 where
  pub one : IsOneOf n i
  pub went : Went (process_at S i).locals S.memory a S'.memory (process_at S' i).locals
  pub others : (k : ℕ) → IsOneOf n k → k ≢ i → process_at S' k ≡ process_at S k

module _ (s : Source) (shape : Counts) where
  -- an item that leaves all as it is
  skipped : (i : ℕ) (S : State) → IsOneOf shape.n i → Told shape.n i S act.Skip S
  skipped i S one = record {
    one = one;
    went = kept (process_at S i).locals _ S.memory _ act.Skip refl refl refl refl tt;
    others = λ k is other. refl;
  }

  -- an item that sets its process
  set_told : (i : ℕ) (S : State) (a : Act) (m : Memory) (p : Process) → IsOneOf shape.n i →
      length S.processes ≡ shape.n → Went (process_at S i).locals S.memory a m p.locals →
      Told shape.n i S a (record { memory = m; processes = slice_set S.processes (i - 1) p })
  set_told i S a m p one count h =
      let within : i - 1 < length S.processes = omega (arith, one.0, one.1, count) in record {
        one = one;
        went = subst (λ (q : Process). Went (process_at S i).locals S.memory a m q.locals)
            (sym (get_or-set_same S.processes (i - 1) p nobody within)) h;
        others = λ k is other. get_or-set_other S.processes (i - 1) (k - 1) p nobody
            (λ same. other (omega (arith, one.0, is.0, same)));
      }

  -- an item that sets the status of its process alone
  status_told : (i : ℕ) (S : State) (t : Act) (status : Status) → IsOneOf shape.n i → length S.processes ≡ shape.n →
      (let l : Locals = (process_at S i).locals in Tells l S.memory t S.memory l) →
      (let p : Process = record { status = status; locals = (process_at S i).locals } in
      Told shape.n i S t (record { memory = S.memory; processes = slice_set S.processes (i - 1) p }))
  status_told i S t status one count h =
      let l : Locals = (process_at S i).locals in
      set_told i S t S.memory (record { status = status; locals = l }) one count
      (kept l l S.memory S.memory t refl refl refl refl h)

  leave_told : (i : ℕ) (S : State) (a : Activity) (x : Item) (c : Context) (found : Option Instr)
      (e : Result Effect Cause) → IsOneOf shape.n i → length S.processes ≡ shape.n →
      ((S' : State) → Leaves (process_at S i).locals S.memory (stepped (intent_of_instr c found) S' i)
      (returned (intent_of_instr c found)) e) → (let r = leave S i a (process_at S i).locals e in
      Told shape.n i S (act_of (intent_of_instr c found) r.0 i x r.1) r.0)
  leave_told i S a x c found (Ok (Goes m l link line)) one count h =
      let q : Process = record { status = Busy (record { op = a.op; line = line; link = link }); locals = l } in
      let S' : State = record { memory = m; processes = slice_set S.processes (i - 1) q } in
      set_told i S _ m q one count (h S')
  leave_told i S a x c found (Ok (Answers v)) one count h =
      status_told i S (act.Answer v (returned (intent_of_instr c found))) Idle one count (h S)
  leave_told i S a x c found (Ok Finishes) one count h = status_told i S act.Done Idle one count tt
  leave_told i S a x c found (Err cause) one count h = status_told i S act.Trap (Trapped cause a) one count tt

  module _ (listing : IsListing s) where
    leaves_at : (S' : State) (c : Context) (m : Memory) (a : Activity) (found : Option Instr) →
        instr_at s.lines a.line ≡ found → AreSized s c.shape c.locals → HasSizes s c.shape m →
        Leaves c.locals m (stepped (intent_of_instr c found) S' c.me) (returned (intent_of_instr c found))
        (effect_at s c m a found)
    leaves_at S' c m a None e h of = tt
    leaves_at S' c m a (Some i) e h of =
        leaves s S' c m a i h of (right_instr s s.lines listing.lines a.line i e)

    step_told : (i : ℕ) (S : State) (x : Item) (status : Status) → IsSized s shape S → IsOneOf shape.n i →
        (let r = step s shape S i (process_at S i) status in
        Told shape.n i S (act_of (intent_in s shape i (process_at S i) status) r.0 i x r.1) r.0)
    step_told i S x (Busy a) sized one =
        let c : Context = context_of shape i (process_at S i) a.op in
        leave_told i S a x c (instr_at s.lines a.line)
        (effect_at s c S.memory a (instr_at s.lines a.line)) one sized.count
        (λ S'. leaves_at S' c S.memory a (instr_at s.lines a.line) refl (own_sized s shape listing S i sized one)
        sized.memory)
    step_told i S x _ sized one = skipped i S one

    called_told : (i : ℕ) (S : State) (o : Op) (why : Option Reason) → IsSized s shape S → IsOneOf shape.n i →
        (let r = called s S i (process_at S i) o why in
        Told shape.n i S (act_of (intent_of s shape S (item.Call i o)) r.0 i (item.Call i o) r.1) r.0)
    called_told i S o (Some reason) sized one = skipped i S one
    called_told i S o None sized one = status_told i S (act.Call o) _ one sized.count tt

    call_told : (i : ℕ) (S : State) (o : Op) (status : Status) → IsSized s shape S → IsOneOf shape.n i →
        (let r = call s shape S i o (process_at S i) status in
        Told shape.n i S (act_of (intent_of s shape S (item.Call i o)) r.0 i (item.Call i o) r.1) r.0)
    call_told i S o Idle sized one = called_told i S o (call_skip s.kind shape i o) sized one
    call_told i S o _ sized one = skipped i S one

    crash_told : (i : ℕ) (S : State) (status : Status) → IsSized s shape S → IsOneOf shape.n i →
        (let r = crash S i (process_at S i) status in
        Told shape.n i S (act_of (intent_of s shape S (item.Crash i)) r.0 i (item.Crash i) r.1) r.0)
    crash_told i S (Busy a) sized one = status_told i S act.Crash _ one sized.count tt
    crash_told i S Idle sized one = status_told i S act.Crash _ one sized.count tt
    crash_told i S _ sized one = skipped i S one

    -- each item
    done_told : (S : State) (t : ℕ) (x : Item) → IsSized s shape S → IsOneOf shape.n (who x) →
        Told shape.n (step_of s shape S t x).process S (step_of s shape S t x).act (done s shape S x).0
    unfolding step_of
    done_told S t (item.Step i) sized one = step_told i S (item.Step i) (process_at S i).status sized one
    done_told S t (item.Call i o) sized one = call_told i S o (process_at S i).status sized one
    done_told S t (item.Crash i) sized one = crash_told i S (process_at S i).status sized one

    -- each of these items
    told_of : (S : State) (t k : ℕ) (xs : List Item) → IsSized s shape S →
        AllByRecursion (λ (x : Item). IsOneOf shape.n (who x)) xs → k < length xs →
        (let step = step_at (steps_of s shape S t xs) k in
        Told shape.n step.process (after s shape S (take k xs)) step.act (after s shape S (take (suc k) xs)))
    told_of S t k [] sized all within = absurd (omega (arith, within))
    told_of S t zero (x ∷ xs) sized all within = done_told S t x sized all.0
    told_of S t (suc k) (x ∷ xs) sized all within =
        told_of (done s shape S x).0 (t + 1) k xs (done_sized s shape listing S x sized all.0) all.1
        (omega (arith, within))

-- what it makes of the status of its process
turn_of : (s : Source) (shape : Counts) (listing : IsListing s) (S : State) (t k : ℕ) (xs : List Item) →
    IsSized s shape S → AllByRecursion (λ (x : Item). IsOneOf shape.n (who x)) xs → k < length xs →
    (let step = step_at (steps_of s shape S t xs) k in
    let S' = after s shape S (take k xs) in
    let x = slice_index_or xs k (item.Step 0) in
    Turn s step.process x (process_at S' step.process).status step.act (done s shape S' x).1
    (process_at (after s shape S (take (suc k) xs)) step.process).status × (step.process ≡ who x))
unfolding step_of
turn_of s shape listing S t k [] sized all within = absurd (omega (arith, within))
turn_of s shape listing S t zero (x ∷ xs) sized all within = (done_turn s shape S t x all.0 sized.count, refl)
turn_of s shape listing S t (suc k) (x ∷ xs) sized all within =
    turn_of s shape listing (done s shape S x).0 (t + 1) k xs (done_sized s shape listing S x sized all.0) all.1
    (omega (arith, within))

-- the item at a place of a run
pub told : (r : Run) (k : ℕ) → IsListing r.source → IsValidRun r → k < length r.items →
    Told r.shape.n (step_at (trace_of r) k).process (state r k) (step_at (trace_of r) k).act (state r (suc k))
told r k listing valid within =
    told_of r.source r.shape listing (initial r.source r.shape) 1 k r.items
    (initial_sized r.source r.shape listing) valid.all within

pub turn : (r : Run) (k : ℕ) → IsListing r.source → IsValidRun r → k < length r.items →
    (let step = step_at (trace_of r) k in
    Turn r.source step.process (item_at r (suc k)) (process_at (state r k) step.process).status step.act
    (outcome_at r (suc k)) (process_at (state r (suc k)) step.process).status
    × (step.process ≡ who (item_at r (suc k))))
turn r k listing valid within =
    turn_of r.source r.shape listing (initial r.source r.shape) 1 k r.items
    (initial_sized r.source r.shape listing) valid.all within
