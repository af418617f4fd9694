-- `find_text` of snap_listing (src/line_texts.rt): what holds at the head of each of its loops.
use Rattle.std.proofs.Common.{◌≡◌, ◌-◌, drop, length, map}
use Rattle.snap_listing.specs.LineTexts.{seen_line, text_with}
use Rattle.snap_listing.proofs.line_texts.find_text.Given as goal

abbrev pub invariant-loop-k : goal.invariant-loop-k
invariant-loop-k l = text_with (map seen_line (drop l.k l.lines)) l.number ≡ text_with (map seen_line l.lines) l.number

abbrev pub decreases-loop-k : goal.decreases-loop-k
decreases-loop-k l = length l.lines - l.k
