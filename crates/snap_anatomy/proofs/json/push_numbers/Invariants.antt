-- `push_numbers` of snap_anatomy (src/json.rt): what holds at the head of each of its loops.
use Rattle.snap_text.specs.Drafted.{Adds}
use Rattle.snap_anatomy.specs.Json.{numbers_to}
use Rattle.snap_anatomy.proofs.json.push_numbers.Given as goal

abbrev pub invariant-loop-k : goal.invariant-loop-k
invariant-loop-k l = Adds l.fn.out l.out (numbers_to l.numbers l.k)
