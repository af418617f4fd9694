-- `listing_u` of snap_shipped (src/unbounded.rt): the proof of what its contract says.
use Rattle.snap_listing.proofs.KnownListings.{is_listing_text, if_read}
use Rattle.snap_runs_of_u.specs.ListingU.{listing_u}
use Rattle.snap_shipped.proofs.TextOfU.{text, text_is_u}
use Rattle.snap_shipped.proofs.unbounded.listing_u.Goals as goal

pub read_known-requires : goal.read_known-requires
read_known-requires c = is_listing_text text listing_u text_is_u

pub returns : goal.returns
returns c = if_read text listing_u c.read_known.result text_is_u c.read_known.ensures
