-- `push_escaped` of snap_picture (src/escape.rt): what holds at the head of each of its loops.
use Rattle.std.proofs.Common.{take}
use Rattle.snap_text.specs.Drafted.{Adds}
use Rattle.snap_picture.specs.Escape.{escaped}
use Rattle.snap_picture.proofs.escape.push_escaped.Given as goal

abbrev pub invariant-loop-byte : goal.invariant-loop-byte
invariant-loop-byte l = Adds l.fn.out l.out (escaped (take l.byte-index l.text))
