-- `images_are_bytes` of snap_image (src/laws.rt): the proof of what its contract says.
use Rattle.snap_image.proofs.ImageBytes.{images_are_bytes}
use Rattle.snap_image.proofs.laws.images_are_bytes.Goals as goal

pub returns : goal.returns
returns c = images_are_bytes
