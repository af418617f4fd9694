-- `class_form_in` of snap_explanation (src/forms.rt): what holds at the head of its loop.
use Rattle.std.proofs.Common.{◌≡◌, map, drop}
use Rattle.snap_text.specs.Tokens.{view_token}
use Rattle.snap_explanation.specs.Grammar.{class_form_in, view_class_form}
use Rattle.snap_explanation.proofs.forms.class_form_in.Given as goal

abbrev pub invariant-loop-form : goal.invariant-loop-form
invariant-loop-form l =
    class_form_in l.places l.part (view_token l.token) (map view_class_form (drop l.form-index l.forms))
    ≡ class_form_in l.places l.part (view_token l.token) (map view_class_form l.forms)
