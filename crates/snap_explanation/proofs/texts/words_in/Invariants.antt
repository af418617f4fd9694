-- `words_in` of snap_explanation (src/texts.rt): what holds at the head of its loop.
use Rattle.std.proofs.Common.{◌≡◌, map, drop}
use Rattle.snap_explanation.specs.Grammar.{view_single}
use Rattle.snap_explanation.specs.Texts.{words_in}
use Rattle.snap_explanation.proofs.texts.words_in.Given as goal

abbrev pub invariant-loop-row : goal.invariant-loop-row
invariant-loop-row l =
    words_in l.part (map view_single (drop l.row-index l.table)) ≡ words_in l.part (map view_single l.table)
