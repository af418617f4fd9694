-- `form_in` of snap_explanation (src/forms.rt): what holds at the head of its loop.
use Rattle.std.proofs.Common.{◌≡◌, map, drop}
use Rattle.snap_explanation.specs.Grammar.{form_in, view_form}
use Rattle.snap_explanation.proofs.forms.form_in.Given as goal

abbrev pub invariant-loop-form : goal.invariant-loop-form
invariant-loop-form l =
    form_in l.part l.text (map view_form (drop l.form-index l.forms)) ≡ form_in l.part l.text (map view_form l.forms)
