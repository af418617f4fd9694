-- `listing_b` of snap_shipped (src/bounded.rt): the proof of what its contract says.
use Rattle.snap_listing.proofs.KnownListings.{is_listing_text, if_read}
use Rattle.snap_runs_of_b.specs.ListingB.{listing_b}
use Rattle.snap_shipped.proofs.TextOfB.{text, text_is_b}
use Rattle.snap_shipped.proofs.bounded.listing_b.Goals as goal

pub read_known-requires : goal.read_known-requires
read_known-requires c = is_listing_text text listing_b text_is_b

pub returns : goal.returns
returns c = if_read text listing_b c.read_known.result text_is_b c.read_known.ensures
