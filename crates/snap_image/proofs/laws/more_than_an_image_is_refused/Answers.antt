-- `more_than_an_image_is_refused` of snap_image (src/laws.rt): the proof of what its contract says.
use Rattle.snap_image.proofs.AgainListing.{refuses_more}
use Rattle.snap_image.proofs.laws.more_than_an_image_is_refused.Goals as goal

pub returns : goal.returns
returns c = refuses_more
