-- `Transition`: what one item may do to the status of its process, and what comes of it, for any listing.
use Rattle.std.proofs.Common.{◌≡◌, ◌≢◌, ℕ, ◌-◌, ◌<◌, ◌⊎◌, List, length, Option, Some, None, Result, Ok, Err, slice_set}
use Rattle.std.proofs.Common.{refl, sym, ◌∙◌, ap, subst, arith, inl, inr}
use Rattle.std.proofs.lemmas.Grind.{get_or-set_at}
use Rattle.std.proofs.lemmas.List.{length-set, get_or-set_other}
use Rattle.snap_runs.proofs.Common.{Counts, IsOneOf, Activity, Item, Step, Call, Crash, Op, Scan, Update, Outcome}
use Rattle.snap_runs.proofs.Common.{Reason, Process, State, process_at, who}
use Rattle.snap_semantics.specs.declared.process.Cause.{Cause}
use Rattle.snap_semantics.specs.declared.process.Outcome.TheVariants as outcome
use Rattle.snap_semantics.specs.declared.process.Reason.TheVariants as reason
use Rattle.snap_semantics.specs.declared.process.Status.{Status}
use Rattle.snap_semantics.specs.declared.process.Status.TheVariants.{Idle, Busy, Trapped, Crashed}
use Rattle.snap_semantics.specs.Source.{Source, instr_at}
use Rattle.snap_semantics.specs.State.{Locals, Memory, nobody}
use Rattle.snap_semantics.specs.Table.{Effect, Goes, Answers, Finishes, leave, step, entry, call_skip, called, call}
use Rattle.snap_semantics.specs.Table.{crash, done}
use Rattle.snap_runs.specs.StepRoles.{StepRole}
use Rattle.snap_runs.proofs.OneItem.{Leaves, leaves_at}

-- a busy process is not skipped at its step
abbrev pub MaySkip : Status → Item → Type 0
MaySkip (Busy a) (Step i) = ⊥
MaySkip _ _ = Unit {0}

-- what an item may do to the status of its process, and what comes of it
pub data Transition : Status → Item → Outcome → Status → Type 0 where
  skipped : (s : Status) (x : Item) (why : Reason) → MaySkip s x → Transition s x (outcome.Skipped why) s
  calls : (i : ℕ) (op : Op) (line : ℕ) →
      Transition Idle (Call i op) outcome.Called (Busy (record { op = op; line = line; link = None }))
  goes : (i : ℕ) (a : Activity) (line : ℕ) (link : Option ℕ) →
      Transition (Busy a) (Step i) outcome.Stepped (Busy (record { op = a.op; line = line; link = link }))
  answers : (i : ℕ) (a : Activity) (view : List ℕ) → a.op ≡ Scan →
      Transition (Busy a) (Step i) (outcome.Answered view) Idle
  finishes : (i : ℕ) (a : Activity) (word value : ℕ) → a.op ≡ Update word value →
      Transition (Busy a) (Step i) outcome.Finished Idle
  traps : (i : ℕ) (a : Activity) (cause : Cause) →
      Transition (Busy a) (Step i) (outcome.Trapped cause) (Trapped cause a)
  crashes : (i : ℕ) (s : Status) (was : Option Activity) → Transition s (Crash i) outcome.Crashed (Crashed was)

-- process i's status in a state
abbrev pub status_of : State → ℕ → Status
status_of S i = (process_at S i).status

-- An item sets its process and perhaps the memory, or leaves the state, and makes a transition from this status.
abbrev Turns : State → Status → Item → State × Outcome → Type 0
Turns S from x to =
    ((m : Memory) × (p : Process) × (to.0 ≡ record { memory = m; processes = slice_set S.processes (who x - 1) p })
    × Transition from x to.1 p.status)
    ⊎ ((to.0 ≡ S) × Transition from x to.1 from)

-- what a line leaves
left : (S : State) (i : ℕ) (a : Activity) (l : Locals) (d : StepRole) (e : Result Effect Cause) →
    Leaves S.memory a.op d e → Turns S (Busy a) (Step i) (leave S i a l e)
unfolding Leaves
left S i a l d (Ok (Goes m k link line)) h = inl (m, _, refl, goes i a line link)
left S i a l d (Ok (Answers v)) h = inl (S.memory, _, refl, answers i a v h.1)
left S i a l d (Ok Finishes) h = inl (S.memory, _, refl, finishes i a h.0 h.1 h.2)
left S i a l d (Err e) h = inl (S.memory, _, refl, traps i a e)

module _ (s : Source) (shape : Counts) (S : State) where
  steps : (i : ℕ) (p : Process) (status : Status) → Turns S status (Step i) (step s shape S i p status)
  steps i p (Trapped e a) = inr (refl, skipped (Trapped e a) (Step i) reason.Trapped tt)
  steps i p (Crashed was) = inr (refl, skipped (Crashed was) (Step i) reason.Crashed tt)
  steps i p Idle = inr (refl, skipped Idle (Step i) reason.Idle tt)
  steps i p (Busy a) =
      left S i a p.locals _ _
      (leaves_at s (record { shape = shape; me = i; op = a.op; locals = p.locals; place = 0 }) S.memory a
      (instr_at s.lines a.line))

  admits : (i : ℕ) (p : Process) (op : Op) (why : Option Reason) → Turns S Idle (Call i op) (called s S i p op why)
  admits i p op (Some why) = inr (refl, skipped Idle (Call i op) why tt)
  admits i p op None = inl (S.memory, _, refl, calls i op (entry s op))

  is_called : (i : ℕ) (p : Process) (op : Op) (status : Status) →
      Turns S status (Call i op) (call s shape S i op p status)
  is_called i p op (Trapped e a) = inr (refl, skipped (Trapped e a) (Call i op) reason.Trapped tt)
  is_called i p op (Crashed was) = inr (refl, skipped (Crashed was) (Call i op) reason.Crashed tt)
  is_called i p op (Busy a) = inr (refl, skipped (Busy a) (Call i op) reason.Busy tt)
  is_called i p op Idle = admits i p op (call_skip s.kind shape i op)

  is_crashed : (i : ℕ) (p : Process) (status : Status) → Turns S status (Crash i) (crash S i p status)
  is_crashed i p (Trapped e a) = inr (refl, skipped (Trapped e a) (Crash i) reason.Trapped tt)
  is_crashed i p (Crashed was) = inr (refl, skipped (Crashed was) (Crash i) reason.Crashed tt)
  is_crashed i p (Busy a) = inl (S.memory, _, refl, crashes i (Busy a) (Some a))
  is_crashed i p Idle = inl (S.memory, _, refl, crashes i Idle None)

  turns : (x : Item) → Turns S (status_of S (who x)) x (done s shape S x)
  turns (Step i) = steps i (process_at S i) (status_of S i)
  turns (Call i op) = is_called i (process_at S i) op (status_of S i)
  turns (Crash i) = is_crashed i (process_at S i) (status_of S i)

  -- an item leaves the number of processes, and the status of each process but its own
  pub same_count : (x : Item) → length (done s shape S x).0.processes ≡ length S.processes
  same_count x =
      elim (turns x) [
        | inl h ↦ ap (λ (T : State). length T.processes) h.2 ∙ length-set S.processes (who x - 1) h.1
        | inr h ↦ ap (λ (T : State). length T.processes) h.0
      ]

  pub other_status : (x : Item) (i : ℕ) → 0 < who x → 0 < i → who x ≢ i →
      status_of (done s shape S x).0 i ≡ status_of S i
  other_status x i positive one other =
      elim (turns x) [
        | inl h ↦ ap (λ (T : State). status_of T i) h.2 ∙ ap (λ (p : Process). p.status)
            (get_or-set_other S.processes (who x - 1) (i - 1) h.1 nobody (λ same. other (omega arith)))
        | inr h ↦ ap (λ (T : State). status_of T i) h.0
      ]

  pub own_turn : (x : Item) → length S.processes ≡ shape.n → IsOneOf shape.n (who x) →
      Transition (status_of S (who x)) x (done s shape S x).1 (status_of (done s shape S x).0 (who x))
  own_turn x count one =
      elim (turns x) [
        | inl h ↦ subst (Transition (status_of S (who x)) x (done s shape S x).1)
            (sym (ap (λ (T : State). status_of T (who x)) h.2 ∙ ap (λ (p : Process). p.status)
            (get_or-set_at S.processes (who x - 1) (who x - 1) h.1 nobody refl (omega arith)))) h.3
        | inr h ↦ subst (Transition (status_of S (who x)) x (done s shape S x).1)
            (sym (ap (λ (T : State). status_of T (who x)) h.0)) h.1
      ]
