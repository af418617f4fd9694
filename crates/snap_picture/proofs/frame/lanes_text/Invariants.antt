-- `lanes_text` of snap_picture (src/frame.rt): what holds at the head of each of its loops.
use Rattle.snap_text.specs.Drafted.{Adds}
use Rattle.snap_picture.specs.FrameText.{lanes_text}
use Rattle.snap_picture.proofs.frame.lanes_text.Given as goal

abbrev pub invariant-loop-k : goal.invariant-loop-k
invariant-loop-k l = Adds l.fn.out l.out (lanes_text l.k)
