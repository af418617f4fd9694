-- `what_is_printed_is_spelled` of snap_listing (src/laws.rt): the proof of what its contract says.
use Rattle.snap_listing.proofs.Printed.{printed_spells}
use Rattle.snap_listing.proofs.laws.what_is_printed_is_spelled.Goals as goal

pub returns : goal.returns
returns c = printed_spells
