-- `what_is_spelled_is_read` of snap_listing (src/laws.rt): the proof of what its contract says.
use Rattle.snap_listing.proofs.GivenForms.{line_again}
use Rattle.snap_listing.proofs.ReadsAll.{reads_all_spelled_by}
use Rattle.snap_listing.proofs.laws.what_is_spelled_is_read.Goals as goal

pub returns : goal.returns
returns c = reads_all_spelled_by line_again
