-- `find_point` of snap_audit (src/caller.rt): what holds at the head of each of its loops.
use Rattle.std.proofs.Common.{◌≡◌, ℕ, ◌≤◌, ◌+◌, ◌-◌, drop}
use Rattle.snap_record.specs.History.{values_by}
use Rattle.snap_audit.specs.Sweep.{least_by}
use Rattle.snap_audit.proofs.caller.find_point.Given as goal

-- the point is still to come, and the values are those before
abbrev pub invariant-loop-t : goal.invariant-loop-t
invariant-loop-t l = record {
  left : least_by l.fn.values (drop l.next l.changes) l.view l.t (l.item + l.count - l.t)
      ≡ least_by l.fn.values (drop l.next l.changes) l.view l.item l.count;
  later : (u : ℕ) → l.t ≤ u →
      values_by l.values (drop l.k l.changes) u ≡ values_by l.fn.values (drop l.next l.changes) u;
  within : l.t ≤ l.item + l.count;
}

abbrev pub decreases-loop-t : goal.decreases-loop-t
decreases-loop-t l = l.item + l.count - l.t
