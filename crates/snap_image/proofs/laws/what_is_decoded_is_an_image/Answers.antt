-- `what_is_decoded_is_an_image` of snap_image (src/laws.rt): the proof of what its contract says.
use Rattle.snap_image.proofs.SaidListing.{decodes_only}
use Rattle.snap_image.proofs.laws.what_is_decoded_is_an_image.Goals as goal

pub returns : goal.returns
returns c = decodes_only
