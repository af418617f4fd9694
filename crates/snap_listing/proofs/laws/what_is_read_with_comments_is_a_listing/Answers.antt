-- `what_is_read_with_comments_is_a_listing` of snap_listing (src/laws.rt): the proof of what its contract says.
use Rattle.snap_listing.proofs.OnlyCommented.{read_is_commented}
use Rattle.snap_listing.proofs.laws.what_is_read_with_comments_is_a_listing.Goals as goal

pub returns : goal.returns
returns c = read_is_commented
