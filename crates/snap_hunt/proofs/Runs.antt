-- What is found over the schedule of a run is found in the run.
use Rattle.std.proofs.Common.{◌≡◌, ℕ, Option}
use Rattle.snap_semantics.specs.Schedule.{Schedule}
use Rattle.snap_semantics.specs.Source.{Source}
use Rattle.snap_runs.specs.Run.{run_over}
use Rattle.snap_chance.specs.Chance.{schedule_of}
use Rattle.snap_chance.specs.Plan.{Plan}
use Rattle.snap_hunt.specs.Finding.{Finds}
use Rattle.snap_hunt.specs.declared.failures.Failure.{Failure}
use Rattle.snap_hunt.specs.declared.failures.Wanted.{Wanted}
use Rattle.snap_hunt.specs.Hunt.{run_of}

pub found_over : (l : Source) (p : Plan) (w : Wanted) (seed k : ℕ) (s : Schedule) (found : Option Failure) →
    s ≡ schedule_of seed k p → Finds w (run_over l s) found → Finds w (run_of l p seed k) found
unfolding run_of
found_over l p w seed k s found is h = rw is at h
