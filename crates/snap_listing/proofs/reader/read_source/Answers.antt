-- `read_source`: the header and the lines that were read from a text make up a listing.
use Rattle.snap_listing.proofs.SpelledLines.{lines_are_listing}
use Rattle.snap_listing.proofs.reader.read_source.Goals as goal

pub of-requires : goal.of-requires
of-requires c = lines_are_listing c.args.text.now _ _ (rw c.new-texts.ensures at c.in_ok-header.ensures)
