-- `lines` of snap_image (src/lines.rt): what holds at the head of each of its loops.
use Rattle.std.proofs.Common.{◌≡◌, ◌+◌, ◌-◌}
use Rattle.snap_image.specs.ImageListing.{lines_in}
use Rattle.snap_listing_core.specs.Fields.{header_source}
use Rattle.snap_image.specs.DecoderSteps.{listed, onto_lines}
use Rattle.snap_image.proofs.lines.lines.Given as goal

-- the lines that are left follow those that were read
abbrev pub invariant-loop-place : goal.invariant-loop-place
invariant-loop-place l =
    onto_lines (listed l.read)
    (lines_in (header_source l.header) l.version (l.count - l.place) (l.place + 1) l.last l.cursor)
    ≡ lines_in (header_source l.header) l.version l.count 1 0 l.fn.cursor
