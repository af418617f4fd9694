-- `decode` of snap_image (src/decoder.rt): the proof of what its contract says.
use Rattle.snap_semantics.specs.declared.refusal.ImageRefusal.TheVariants.{NotAnImage, Version}
use Rattle.snap_image.proofs.Exact.{only_images, every_image}
use Rattle.snap_image.proofs.Opened.{unsigned, of_another_version}
use Rattle.snap_image.proofs.decoder.decode.Goals as goal

pub returns-clause-image : goal.returns-clause-image
returns-clause-image c = only_images c.args.image.now c.type_inv.image c.decoded.result c.decoded.ensures.answer

pub returns-clause-every : goal.returns-clause-every
returns-clause-every c = every_image c.args.image.now c.decoded.result c.decoded.ensures.answer

pub returns-clause-not_an_image : goal.returns-clause-not_an_image
returns-clause-not_an_image c h = c.decoded.ensures.opened NotAnImage (unsigned c.args.image.now h)

pub returns-clause-version : goal.returns-clause-version
returns-clause-version c unknown = c.decoded.ensures.opened Version (of_another_version c.args.image.now unknown)
