-- `is_single` of snap_explanation (src/forms.rt): what holds at the head of its loop.
use Rattle.std.proofs.Common.{◌≡◌, map, drop}
use Rattle.snap_explanation.specs.Grammar.{is_single, view_single}
use Rattle.snap_explanation.proofs.forms.is_single.Given as goal

abbrev pub invariant-loop-single : goal.invariant-loop-single
invariant-loop-single l =
    is_single l.part l.text (map view_single (drop l.single-index l.singles))
    ≡ is_single l.part l.text (map view_single l.singles)
