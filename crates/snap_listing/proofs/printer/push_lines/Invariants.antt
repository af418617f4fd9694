-- `push_lines` of snap_listing (src/printer.rt): what holds at the head of each of its loops.
use Rattle.std.proofs.Common.{◌≡◌, ◌++◌, map, drop, length}
use Rattle.snap_semantics.specs.CanonicalText.{commented_text}
use Rattle.snap_semantics.specs.Spelling.{spelled_line}
use Rattle.snap_listing_core.specs.Fields.{seen_comment}
use Rattle.snap_listing.proofs.printer.push_lines.Given as goal

-- the lines so far, and those that are left
abbrev pub invariant-loop-line : goal.invariant-loop-line
invariant-loop-line l =
    let k = length l.yielded in
    l.out.items ++ commented_text (map seen_comment (drop k l.comments)) (map spelled_line (drop k l.lines))
    ≡ l.fn.out.items ++ commented_text (map seen_comment l.comments) (map spelled_line l.lines)
