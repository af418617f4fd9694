-- What is told of a trap in a run is its cause.
use Rattle.std.proofs.Common.{◌≡◌, ℕ, ◌-◌, ◌<◌, suc, length, Option, Some, None, Result, Ok, Err, refl, sym, ap, subst}
use Rattle.std.proofs.Common.{◌∙◌, List, [], ◌∷◌, zero, slice_index_or, slice_set}
use Rattle.snap_semantics.specs.IsListing.{AreDistinct}
use Rattle.snap_semantics.specs.Listing.{all_names}
use Rattle.snap_semantics.specs.Source.{instr_at}
use Rattle.snap_semantics.specs.State.{Locals, Memory, Process, State, nobody, process_at, with_process}
use Rattle.snap_semantics.specs.Table.{Effect, Finishes, done, effect_at, leave, step}
use Rattle.snap_semantics.specs.declared.instr.Instr.{Instr}
use Rattle.snap_semantics.specs.declared.process.Activity.{Activity}
use Rattle.snap_semantics.specs.declared.process.Cause.{Cause}
use Rattle.snap_semantics.specs.declared.process.Item.TheVariants.{Step}
use Rattle.snap_semantics.specs.declared.process.Outcome.TheVariants as outcomes
use Rattle.snap_semantics.specs.declared.process.Status.{Status}
use Rattle.snap_semantics.specs.declared.process.Status.TheVariants.{Busy, Trapped}
use Rattle.snap_runs.specs.Run.{Run, item, outcome, state}
use Rattle.snap_runs.proofs.Embedding.{next_state}
use Rattle.snap_why.specs.Troubles.{context_of}
use Rattle.snap_why.specs.declared.taker.Taker.{Taker}
use Rattle.snap_why.specs.declared.trouble.Trouble.{Trouble}
use Rattle.snap_why.specs.Trap.{trouble_of}
use Rattle.snap_reading_laws.specs.traps.Operands.{IsFirstFault, operands_at, operands_of}
use Rattle.snap_reading_laws.specs.traps.Told.{IsCauseOf, IsTold, effect_there, operands_there, standing, trouble_there}
use Rattle.snap_reading_laws.proofs.Lines.{line_told}
use Rattle.snap_reading_laws.proofs.traps.FirstFaults.{is_first, line_first}
use Rattle.snap_reading_laws.proofs.traps.OneSort.{one_sort}
use Rattle.snap_reading_laws.proofs.traps.Values.{HaveOneSort}

-- the line at which a process stands, where it is there, whatever memory holds
at_line : (r : Run) (S : State) (i : ℕ) (m : Memory) (a : Activity) (o : Option Instr) →
    HaveOneSort (process_at S i).locals →
    IsTold (trouble_of r.source r.shape S (record { process = i; op = a.op; place = 0 }) o)
    (effect_at r.source (standing r i a (process_at S i).locals) m a o)
at_line r S i m a None h = tt
at_line r S i m a (Some line) h =
    line_told r.source r.shape S (record { process = i; op = a.op; place = 0 }) m a line h

pub told_before : (r : Run) (t i : ℕ) (a : Activity) → AreDistinct (all_names r.source) →
    IsTold (trouble_there r (state r t) i a) (effect_there r (state r t) i a)
told_before r t i a distinct =
    at_line r (state r t) i (state r t).memory a (instr_at r.source.lines a.line) (one_sort r t i distinct)

-- the operand that is told is the first that the line cannot take
first_at_line : (r : Run) (S : State) (i : ℕ) (a : Activity) (o : Option Instr) →
    HaveOneSort (process_at S i).locals →
    IsFirstFault r.source.kind (operands_at (standing r i a (process_at S i).locals) o)
    (trouble_of r.source r.shape S (record { process = i; op = a.op; place = 0 }) o)
first_at_line r S i a None h = λ k. refl
first_at_line r S i a (Some line) h =
    let t : Taker = record { process = i; op = a.op; place = 0 } in
    subst (IsFirstFault r.source.kind (operands_of (context_of r.shape S t) line))
    (sym (line_first r.source.kind r.shape S t line h))
    (is_first r.source.kind (operands_of (context_of r.shape S t) line))

pub first_told : (r : Run) (t i : ℕ) (a : Activity) → AreDistinct (all_names r.source) →
    IsFirstFault r.source.kind (operands_there r (state r t) i a) (trouble_there r (state r t) i a)
first_told r t i a distinct =
    first_at_line r (state r t) i a (instr_at r.source.lines a.line) (one_sort r t i distinct)

-- the cause of a step that traps
cause_told : (o : Option Trouble) (found : Result Effect Cause) (c : Cause) → IsTold o found → found ≡ Err c →
    IsCauseOf o c
cause_told None (Ok e) c h is = absurd cc
cause_told None (Err d) c h is = subst (λ f. IsTold None f) is h
cause_told (Some t) found c h is = cc

-- a step that traps leaves the locals of its process
trapped_by : (S : State) (i : ℕ) (a : Activity) (l : Locals) (found : Result Effect Cause) (c : Cause) →
    (leave S i a l found).1 ≡ outcomes.Trapped c →
    (found ≡ Err c) × ((leave S i a l found).0 ≡ with_process S i (record { status = Trapped c a; locals = l }))
trapped_by S i a l (Ok Finishes) c h = absurd cc
trapped_by S i a l (Ok _) c h = absurd cc
trapped_by S i a l (Err d) c h =
    let same : d ≡ c = cc in (
      ap (λ e. Err e) same,
      ap (λ e. with_process S i (record { status = Trapped e a; locals = l })) same,
    )

set_there : (ps : List Process) (k : ℕ) (p : Process) (a : Activity) → (slice_index_or ps k nobody).status ≡ Busy a →
    slice_index_or (slice_set ps k p) k nobody ≡ p
set_there [] k p a busy = absurd cc
set_there (q ∷ ps) zero p a busy = refl
set_there (q ∷ ps) (suc k) p a busy = set_there ps k p a busy

-- a step that trapped was of this effect, and left its process trapped, with the same locals
record HasTrapped (r : Run) (t i : ℕ) (a : Activity) (c : Cause) : Type 0 where
  pub trapped : effect_there r (state r t) i a ≡ Err c
  pub same : (process_at (state r (suc t)) i).locals ≡ (process_at (state r t) i).locals

has_trapped : (r : Run) (t i : ℕ) (a : Activity) (c : Cause) → t < length r.items → item r (suc t) ≡ Step i →
    (process_at (state r t) i).status ≡ Busy a → outcome r (suc t) ≡ outcomes.Trapped c → HasTrapped r t i a c
has_trapped r t i a c fits is_step busy traps =
    let S = state r t in
    let p = process_at S i in
    let steps : done r.source r.shape S (item r (suc t)) ≡ leave S i a p.locals (effect_there r S i a) =
    ap (λ x. done r.source r.shape S x) is_step ∙ ap (λ (u : Status). step r.source r.shape S i p u) busy in
    let by = trapped_by S i a p.locals (effect_there r S i a) c (sym (ap (λ x. x.1) steps) ∙ traps) in
    let q : Process = record { status = Trapped c a; locals = p.locals } in
    let left : state r (suc t) ≡ with_process S i q = next_state r t fits ∙ ap (λ x. x.0) steps ∙ by.1 in
    let there : process_at (state r (suc t)) i ≡ q =
    ap (λ (T : State). process_at T i) left ∙ set_there S.processes (i - 1) q a busy in
    record { trapped = by.0; same = ap (λ (u : Process). u.locals) there }

pub told_after : (r : Run) (t i : ℕ) (a : Activity) (c : Cause) → AreDistinct (all_names r.source) →
    t < length r.items →
    item r (suc t) ≡ Step i → (process_at (state r t) i).status ≡ Busy a → outcome r (suc t) ≡ outcomes.Trapped c →
    IsCauseOf (trouble_there r (state r (suc t)) i a) c
told_after r t i a c distinct fits is_step busy traps =
    let S = state r t in
    let has = has_trapped r t i a c fits is_step busy traps in
    let told : IsTold (trouble_there r (state r (suc t)) i a) (effect_there r S i a) =
    subst (λ (l : Locals). IsTold (trouble_there r (state r (suc t)) i a)
    (effect_at r.source (standing r i a l) S.memory a (instr_at r.source.lines a.line)))
    has.same
    (at_line r (state r (suc t)) i S.memory a (instr_at r.source.lines a.line) (one_sort r (suc t) i distinct)) in
    cause_told (trouble_there r (state r (suc t)) i a) (effect_there r S i a) c told has.trapped

pub first_told_after : (r : Run) (t i : ℕ) (a : Activity) (c : Cause) → AreDistinct (all_names r.source) →
    t < length r.items →
    item r (suc t) ≡ Step i → (process_at (state r t) i).status ≡ Busy a → outcome r (suc t) ≡ outcomes.Trapped c →
    IsFirstFault r.source.kind (operands_there r (state r t) i a) (trouble_there r (state r (suc t)) i a)
first_told_after r t i a c distinct fits is_step busy traps =
    let has = has_trapped r t i a c fits is_step busy traps in
    subst (λ (l : Locals). IsFirstFault r.source.kind
    (operands_at (standing r i a l) (instr_at r.source.lines a.line)) (trouble_there r (state r (suc t)) i a))
    has.same (first_told r (suc t) i a distinct)
