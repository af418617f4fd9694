-- `is_part_among` of snap_explanation (src/forms.rt): what holds at the head of its loop.
use Rattle.std.proofs.Common.{◌≡◌, length}
use Rattle.snap_explanation.specs.Grammar.{is_part_among}
use Rattle.snap_explanation.proofs.forms.is_part_among.Given as goal

abbrev pub invariant-loop-rest : goal.invariant-loop-rest
invariant-loop-rest l = is_part_among l.part l.rest ≡ is_part_among l.part l.parts

abbrev pub decreases-loop-rest : goal.decreases-loop-rest
decreases-loop-rest l = length l.rest
