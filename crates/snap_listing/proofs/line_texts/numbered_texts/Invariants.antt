-- `numbered_texts` of snap_listing (src/line_texts.rt): what holds at the head of each of its loops.
use Rattle.std.proofs.Common.{◌≡◌, ◌++◌, drop, map}
use Rattle.snap_listing.specs.LineTexts.{seen_line, texts_from}
use Rattle.snap_listing.proofs.line_texts.numbered_texts.Given as goal

-- the texts so far, and those of the lines that are left
abbrev pub invariant-loop-line : goal.invariant-loop-line
invariant-loop-line l =
    map seen_line l.texts.items ++ texts_from (drop l.line-index l.lines) l.rest ≡ texts_from l.lines l.initial.rest
