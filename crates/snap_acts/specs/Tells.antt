-- What is told of an item that a walk has done (`Tells`).
use Rattle.std.specs.Prelude.{◌≡◌, suc, ◌<◌, length}
use Rattle.snap_runs.specs.Run.{item, state}
use Rattle.snap_walk.specs.Walk.{Way, further}
use Rattle.snap_acts.specs.Trace.{step_of}
use Rattle.snap_acts.specs.declared.act.TraceStep.{TraceStep}

-- the next item of a run was done, and this is what it did
pub record Tells (w : Way) (s : TraceStep) (w' : Way) : Type 0 where
  pub left : w.at < length w.run.items
  pub step : s ≡ step_of w.run.source w.run.shape (state w.run w.at) (suc w.at) (item w.run (suc w.at))
  pub way : w' ≡ further w
