-- `form_in` of snap_prompt (src/typed.rt): what holds at the head of each of its loops.
use Rattle.std.proofs.Common.{◌≡◌, [], drop, map}
use Rattle.snap_explanation.specs.Said.{view_row, by_word}
use Rattle.snap_prompt.proofs.typed.form_in.Given as goal

abbrev pub invariant-loop-row : goal.invariant-loop-row
invariant-loop-row l =
    by_word (map view_row (drop l.row-index l.table)) [] l.word ≡ by_word (map view_row l.table) [] l.word
