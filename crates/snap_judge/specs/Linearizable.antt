-- Linearizable: the operations that a history tells of are as if each took place at one moment between its call and
-- its end.
use Rattle.std.specs.Prelude.{◌≡◌, ℕ, ◌-◌, ◌<◌, List, Option, Some, None, replicate, slice_index_or, take}
use Rattle.std.specs.List.{All, AllPairs, Contains}
use Rattle.snap_semantics.specs.declared.event.Event.{Event}
use Rattle.snap_semantics.specs.declared.event.Happening.{Happening}
use Rattle.snap_semantics.specs.declared.event.Happening.TheVariants as what
use Rattle.snap_semantics.specs.declared.process.Op.{Op}
use Rattle.snap_semantics.specs.declared.process.Op.TheVariants as op
use Rattle.snap_runs.specs.Operation.{Action, Sets, Sees, Operation, HasEnded}
use Rattle.snap_runs.specs.Linearization.{KeepsOrder, RunsFrom}
use Rattle.snap_judge.specs.History.{History, IsHistory}

-- how an operation is called
abbrev pub called_as : Action → Op
called_as (Sets word value) = op.Update word value
called_as (Sees view) = op.Scan

-- how an action ends
abbrev pub ends_as : Action → Happening
ends_as (Sets word value) = what.Done
ends_as (Sees view) = what.Answer view

-- event number t of process i
abbrev pub event : (i t : ℕ) → Happening → Event
event i t happening = record { item = t; process = i; what = happening }

-- After its call at event c, process i came to this end, and to nothing before it.
abbrev pub CameToEnd : List Event → (i c : ℕ) → Option ℕ → Action → Type 0
CameToEnd es i c (Some t) a =
    (c < t) × Contains es (event i t (ends_as a))
    × ((e : Event) → Contains es e → e.process ≡ i → c < e.item → e.item < t → ⊥)
-- an update that has not ended; its process may have crashed
CameToEnd es i c None (Sets word value) =
    (e : Event) → Contains es e → e.process ≡ i → c < e.item → e.what ≡ what.Crash
-- a scan that has not ended has seen no view
CameToEnd es i c None (Sees view) = ⊥

-- An operation is one of the history: it was called, and has ended as it says.
pub record IsOperationOf (h : History) (o : Operation) : Type 0 where
  pub called : Contains h.events (event o.process o.call (what.Call (called_as o.action)))
  pub came : CameToEnd h.events o.process o.call o.end o.action

-- A list of operations in the order in which they could have taken place one after another.
pub record IsLinearizationOf (h : History) (os : List Operation) : Type 0 where
  -- each is an operation of the history: it ended with this answer, or is an update that may or may not have ended
  pub took_place : All (IsOperationOf h) os
  -- no two have the same call: each stands once
  pub once : AllPairs (λ (a b : Operation). a.call ≡ b.call → ⊥) os
  -- every operation that has ended is there
  pub complete : (o : Operation) → IsOperationOf h o → HasEnded o → Contains os o
  -- the order in time is kept
  pub order : KeepsOrder os
  -- the object runs them, from w zeros on, with these answers
  pub runs : RunsFrom (replicate h.shape.w 0) os

-- A history has a linearization.
abbrev pub IsLinearizableHistory : History → Type 0
IsLinearizableHistory h = (os : List Operation) × IsLinearizationOf h os

-- the history up to its event number k, counted from 1
abbrev pub up_to : ℕ → History → History
up_to k h = record { shape = h.shape; events = take k h.events }

-- the last of the first so many events of a history
abbrev pub last_of : ℕ → History → Event
last_of count h = slice_index_or h.events (count - 1) (event 0 0 what.Crash)

-- What is linearizable was so from its beginning on.
abbrev pub LinearizableFromTheBeginning : Type 0
LinearizableFromTheBeginning = (h : History) (k : ℕ) → IsHistory h → IsLinearizableHistory h →
    IsLinearizableHistory (up_to k h)
