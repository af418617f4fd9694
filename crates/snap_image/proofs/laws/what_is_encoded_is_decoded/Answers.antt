-- `what_is_encoded_is_decoded` of snap_image (src/laws.rt): the proof of what its contract says.
use Rattle.snap_image.proofs.AgainListing.{decodes_all}
use Rattle.snap_image.proofs.laws.what_is_encoded_is_decoded.Goals as goal

pub returns : goal.returns
returns c = decodes_all
