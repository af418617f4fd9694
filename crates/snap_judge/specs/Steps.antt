-- Another account of linearizable histories, which a search can follow: one goes through the events, and on the way
-- each operation takes place at some moment after its call and before its end.
use Rattle.std.specs.Prelude.{◌≡◌, ℕ, ◌-◌, List, [], ◌∷◌, Option, Some, None, ◌==◌, if◌then◌else◌, replicate}
use Rattle.std.specs.Prelude.{slice_index_or, slice_set}
use Rattle.snap_semantics.specs.declared.event.Event.{Event}
use Rattle.snap_semantics.specs.declared.event.Happening.{Happening}
use Rattle.snap_semantics.specs.declared.event.Happening.TheVariants as what
use Rattle.snap_semantics.specs.declared.process.Op.TheVariants as op
use Rattle.snap_runs.specs.Operation.{Sets, Sees, Operation}
use Rattle.snap_runs.specs.Linearization.{Allows, after}
use Rattle.snap_judge.specs.History.{History, IsHistory}
use Rattle.snap_judge.specs.Linearizable.{IsLinearizationOf}

-- the first of these events that is one of process i
abbrev pub next_of : ℕ → List Event → Option Event
next_of i [] = None
next_of i (e ∷ es) = if e.process == i then Some e else next_of i es

-- An event as a search sees it: a call of an operation, with the end that it will come to; an end; or what changes
-- nothing: a crash, or the call of a scan that has no answer.
pub data Step : Type 0 where
  Calls : Operation → Step
  Ends : (process : ℕ) → Step
  Waits : Step

-- the number of an end
abbrev pub end_number : ℕ → Happening → Option ℕ
end_number t (what.Call o) = None
end_number t (what.Answer view) = None
end_number t what.Done = Some t
end_number t what.Crash = None

-- the end of an update whose process came to this event next
abbrev pub update_end : Option Event → Option ℕ
update_end None = None
update_end (Some e) = end_number e.item e.what

-- the call of a scan at event c whose process did this next, at event t
abbrev pub answered_step : (i c t : ℕ) → Happening → Step
answered_step i c t (what.Call o) = Waits
answered_step i c t (what.Answer view) = Calls (record { process = i; call = c; end = Some t; action = Sees view })
answered_step i c t what.Done = Waits
answered_step i c t what.Crash = Waits

-- the call of a scan whose process came to this event next
abbrev pub scan_step : (i c : ℕ) → Option Event → Step
scan_step i c None = Waits
scan_step i c (Some e) = answered_step i c e.item e.what

-- event c of process i, before these
abbrev pub step_of : (i c : ℕ) → Happening → List Event → Step
step_of i c (what.Call op.Scan) rest = scan_step i c (next_of i rest)
step_of i c (what.Call (op.Update word value)) rest =
    Calls (record { process = i; call = c; end = update_end (next_of i rest); action = Sets word value })
step_of i c (what.Answer view) rest = Ends i
step_of i c what.Done rest = Ends i
step_of i c what.Crash rest = Waits

abbrev pub steps_of : List Event → List Step
steps_of [] = []
steps_of (e ∷ es) = step_of e.process e.item e.what es ∷ steps_of es

-- What a process has open: nothing, an operation that has not taken place, or one that has.
pub data Slot : Type 0 where
  Free : Slot
  Open : Operation → Slot
  Taken : Operation → Slot

-- the slot of process i
abbrev pub slot : List Slot → ℕ → Slot
slot slots i = slice_index_or slots (i - 1) Free

-- the slots, that of process i changed
abbrev pub with_slot : List Slot → ℕ → Slot → List Slot
with_slot slots i s = slice_set slots (i - 1) s

-- A call comes where its process has nothing open, and an end only when what ends has taken place.
abbrev pub MayPass : List Slot → Step → Type 0
MayPass slots (Calls o) = slot slots o.process ≡ Free
MayPass slots (Ends i) = (o : Operation) × (slot slots i ≡ Taken o)
MayPass slots Waits = Unit {0}

-- the slots behind an event
abbrev pub passed : List Slot → Step → List Slot
passed slots (Calls o) = with_slot slots o.process (Open o)
passed slots (Ends i) = with_slot slots i Free
passed slots Waits = slots

-- An operation takes place, or the next event is passed.
pub data Move : Type 0 where
  Take : Operation → Move
  Pass : Move

-- From these values and slots on, the moves pass all events, and each operation that takes place may do so there.
abbrev pub Explains : List Move → List Step → List ℕ → List Slot → Type 0
Explains [] [] values slots = Unit {0}
Explains [] (x ∷ xs) values slots = ⊥
Explains (Take o ∷ moves) xs values slots =
    (slot slots o.process ≡ Open o) × Allows values o.action
    × Explains moves xs (after values o.action) (with_slot slots o.process (Taken o))
Explains (Pass ∷ moves) [] values slots = ⊥
Explains (Pass ∷ moves) (x ∷ xs) values slots = MayPass slots x × Explains moves xs values (passed slots x)

-- some moves do
abbrev pub CanBeExplained : List Step → List ℕ → List Slot → Type 0
CanBeExplained xs values slots = (moves : List Move) × Explains moves xs values slots

-- the operations, in the order in which they take place
abbrev pub taken : List Move → List Operation
taken [] = []
taken (Take o ∷ moves) = o ∷ taken moves
taken (Pass ∷ moves) = taken moves

-- the moves explain the whole history
abbrev pub ExplainsHistory : History → List Move → Type 0
ExplainsHistory h moves =
    Explains moves (steps_of h.events) (replicate h.shape.w 0) (replicate h.shape.n Free)

-- What the moves of an explained history take is a linearization, and each linearization is taken by such moves.
pub record ExplainedExactly (h : History) : Type 0 where
  pub sound : (moves : List Move) → ExplainsHistory h moves → IsLinearizationOf h (taken moves)
  pub complete : (os : List Operation) → IsLinearizationOf h os →
      (moves : List Move) × ExplainsHistory h moves × (taken moves ≡ os)

abbrev pub HistoriesAreExplained : Type 0
HistoriesAreExplained = (h : History) → IsHistory h → ExplainedExactly h
