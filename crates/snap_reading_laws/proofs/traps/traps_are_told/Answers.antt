-- `traps_are_told` of snap_reading_laws (src/traps.rt): the proof of what its contract says.
use Rattle.snap_reading_laws.proofs.traps.Traps.{first_told, first_told_after, told_after, told_before}
use Rattle.snap_reading_laws.proofs.traps.traps_are_told.Goals as goal

pub returns : goal.returns
returns c = record {
  before = told_before;
  first_before = first_told;
  after = told_after;
  first_after = first_told_after;
}
