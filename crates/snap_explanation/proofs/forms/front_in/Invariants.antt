-- `front_in` of snap_explanation (src/forms.rt): what holds at the head of its loop.
use Rattle.std.proofs.Common.{◌≡◌, map, drop}
use Rattle.snap_explanation.specs.Grammar.{front_in, view_front}
use Rattle.snap_explanation.proofs.forms.front_in.Given as goal

abbrev pub invariant-loop-front : goal.invariant-loop-front
invariant-loop-front l =
    front_in l.part (map view_front (drop l.front-index l.fronts)) ≡ front_in l.part (map view_front l.fronts)
