-- `sequel_of`: what the outcome of a turn means for the rest of the script that a worker plays.
use Rattle.snap_semantics.specs.declared.process.Outcome.{Outcome}
use Rattle.snap_semantics.specs.declared.process.Outcome.TheVariants.{Answered, Finished, Trapped, Skipped}
use Rattle.snap_live.specs.declared.worker.Sequel.{Sequel}
use Rattle.snap_live.specs.declared.worker.Sequel.TheVariants as sequel

abbrev pub sequel_of : Outcome → Sequel
sequel_of (Skipped reason) = sequel.Skipped
sequel_of (Answered view) = sequel.Ended
sequel_of Finished = sequel.Ended
sequel_of (Trapped cause) = sequel.Trapped
sequel_of _ = sequel.Goes
