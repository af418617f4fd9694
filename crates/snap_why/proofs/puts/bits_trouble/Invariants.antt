-- `bits_trouble` of snap_why (src/puts.rt): what holds at the head of each of its loops.
use Rattle.std.proofs.Common.{◌≡◌, drop}
use Rattle.snap_why.specs.Troubles.{bits_trouble}
use Rattle.snap_why.proofs.puts.bits_trouble.Given as goal

-- the first of all numbers is the first of those that are left
abbrev pub invariant-loop-number : goal.invariant-loop-number
invariant-loop-number l = bits_trouble (drop l.number-index l.numbers) ≡ bits_trouble l.numbers
