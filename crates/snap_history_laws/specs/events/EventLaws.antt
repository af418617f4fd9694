-- `EventsTellOperations`: the events of a run are the calls and the ends of its operations, the calls of scans that
-- have not ended, and crashes.
use Rattle.std.specs.Prelude.{◌≡◌, ℕ, length, Some}
use Rattle.std.specs.List.{All, Contains}
use Rattle.snap_semantics.specs.Table.{who}
use Rattle.snap_semantics.specs.declared.event.Event.{Event}
use Rattle.snap_semantics.specs.declared.event.Happening.{Happening}
use Rattle.snap_semantics.specs.declared.event.Happening.TheVariants as what
use Rattle.snap_semantics.specs.declared.process.Item.TheVariants as items
use Rattle.snap_semantics.specs.declared.process.Outcome.TheVariants as outcomes
use Rattle.snap_runs.specs.Operation.{IsOperation, Operation, Sees, Sets}
use Rattle.snap_runs.specs.Run.{IsValidRun, Run, events_of, item, outcome}
use Rattle.snap_judge.specs.Linearizable.{called_as, ends_as}

-- What is told of process i at item t is so: the item calls this, or an operation of the
-- process ends at it, or it crashes.
abbrev pub Tells : Run → (i t : ℕ) → Happening → Type 0
Tells r i t (what.Call o) = (item r t ≡ items.Call i o) × (outcome r t ≡ outcomes.Called)
Tells r i t (what.Answer view) =
    (c : ℕ) × IsOperation r (record { process = i; call = c; end = Some t; action = Sees view })
Tells r i t what.Done =
    (c : ℕ) × (word : ℕ) × (value : ℕ)
    × IsOperation r (record { process = i; call = c; end = Some t; action = Sets word value })
Tells r i t what.Crash = (who (item r t) ≡ i) × (outcome r t ≡ outcomes.Crashed)

-- The events of a whole run are the calls and the ends of its operations, the calls of scans
-- that have not ended, and crashes.
pub record TellsOperations (r : Run) : Type 0 where
  -- what each event tells is so
  pub each : All (λ (e : Event). Tells r e.process e.item e.what) (events_of r (length r.items))
  -- the call of each operation is told, and its end where it has ended
  pub calls : (o : Operation) → IsOperation r o →
      Contains (events_of r (length r.items))
      (record { item = o.call; process = o.process; what = what.Call (called_as o.action) })
  pub ends : (o : Operation) (t : ℕ) → IsOperation r o → o.end ≡ Some t →
      Contains (events_of r (length r.items)) (record { item = t; process = o.process; what = ends_as o.action })

abbrev pub EventsTellOperations : Type 0
EventsTellOperations = (r : Run) → IsValidRun r → TellsOperations r
