-- `number_front` of snap_text (src/numbers.rt): what holds at the head of each of its loops.
use Rattle.std.proofs.Common.{◌-◌, length}
use Rattle.snap_text.proofs.Digits.{AreDigits}
use Rattle.snap_text.proofs.numbers.number_front.Given as goal

-- the digits so far spell the value
abbrev pub invariant-loop-len : goal.invariant-loop-len
invariant-loop-len l = AreDigits l.bytes l.len l.value

abbrev pub decreases-loop-len : goal.decreases-loop-len
decreases-loop-len l = length l.bytes - l.len
