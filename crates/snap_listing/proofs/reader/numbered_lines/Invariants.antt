-- `numbered_lines` of snap_listing (src/reader.rt): what holds at the head of each of its loops.
use Rattle.std.proofs.Common.{◌≡◌, length}
use Rattle.snap_semantics.specs.Listing.{numbered_lines}
use Rattle.snap_listing_core.specs.Fields.{header_source}
use Rattle.snap_listing.specs.ReaderSteps.{onto}
use Rattle.snap_listing.proofs.reader.numbered_lines.Given as goal

-- the lines that are left follow those that were read
abbrev pub invariant-loop-lines : goal.invariant-loop-lines
invariant-loop-lines l =
    onto l.lines.items (numbered_lines (header_source l.header) l.last (length l.lines.items) l.texts)
    ≡ numbered_lines (header_source l.header) 0 0 l.fn.texts

abbrev pub decreases-loop-lines : goal.decreases-loop-lines
decreases-loop-lines l = length l.texts
