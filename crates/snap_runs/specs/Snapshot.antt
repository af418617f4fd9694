-- `IsSnapshotRun`: all that a snapshot listing promises of each of its runs, in one record; and its `Bounds`.
use Rattle.std.specs.Prelude.{ℕ}
use Rattle.snap_runs.specs.Audit.{VerdictsHavePoints}
use Rattle.snap_runs.specs.Linearization.{IsLinearizable}
use Rattle.snap_runs.specs.Promises.{NeverTraps, ChangesOnlyAt, WritesItsUpdate, WritesOnce, HavePoints}
use Rattle.snap_runs.specs.Promises.{CollectsAtMost, StepsAtMost}
use Rattle.snap_runs.specs.Run.{Run}

-- The line at which an update writes its word; and how many double collects a scan has at most, as the algorithm's
-- authors bound them and by the sharp bound, and how many steps it takes at most.
pub record Bounds : Type 0 where
  pub writes : ℕ
  pub collects : ℕ
  pub sharp : ℕ
  pub steps : ℕ

-- A run as a snapshot listing has it.
pub record IsSnapshotRun (b : Bounds) (r : Run) : Type 0 where
  -- no process traps
  pub never_traps : NeverTraps r
  -- the values change where an update writes, once for each update, and as it asks
  pub changes_only_at : ChangesOnlyAt b.writes r
  pub writes_its_update : WritesItsUpdate b.writes r
  pub writes_once : WritesOnce b.writes r
  -- each finished scan's view is the values at one state between its call and its answer,
  -- and an audit finds such a state
  pub have_points : HavePoints r
  pub verdicts_have_points : VerdictsHavePoints r
  -- no scan has more double collects or takes more steps
  pub few_collects : CollectsAtMost b.collects r
  pub sharp_collects : CollectsAtMost b.sharp r
  pub few_steps : StepsAtMost b.steps r
  -- the operations are as if each took place at one moment between its call and its end
  pub linearizable : IsLinearizable r
