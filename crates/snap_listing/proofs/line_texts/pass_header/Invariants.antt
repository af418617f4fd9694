-- `pass_header` of snap_listing (src/line_texts.rt): what holds at the head of each of its loops.
use Rattle.std.proofs.Common.{◌≡◌, drop}
use Rattle.snap_listing.proofs.line_texts.pass_header.Given as goal

-- the lines that are passed over
abbrev pub invariant-loop-line : goal.invariant-loop-line
invariant-loop-line l = l.lines ≡ drop l._line l.initial.lines
