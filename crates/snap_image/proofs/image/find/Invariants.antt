-- `find` of snap_image (src/image.rt): what holds at the head of each of its loops.
use Rattle.std.proofs.Common.{◌≡◌, drop}
use Rattle.snap_image.specs.ImageCodes.{coded}
use Rattle.snap_image.proofs.image.find.Given as goal

abbrev pub invariant-loop-value : goal.invariant-loop-value
invariant-loop-value g l =
    coded g.T.Coded.table.code (drop l.value-index l.all) l.code ≡ coded g.T.Coded.table.code l.all l.code
