-- `listing_m` of snap_shipped (src/multi_writer.rt): the proof of what its contract says.
use Rattle.snap_listing.proofs.KnownListings.{is_listing_text, if_read}
use Rattle.snap_runs_of_m.specs.ListingM.{listing_m}
use Rattle.snap_shipped.proofs.TextOfM.{text, text_is_m}
use Rattle.snap_shipped.proofs.multi_writer.listing_m.Goals as goal

pub read_known-requires : goal.read_known-requires
read_known-requires c = is_listing_text text listing_m text_is_m

pub returns : goal.returns
returns c = if_read text listing_m c.read_known.result text_is_m c.read_known.ensures
