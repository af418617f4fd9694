-- `what_is_assembled_lists_back` of snap_asm (src/laws.rt): the proof of what its contract says.
use Rattle.snap_asm.proofs.Back.{lists_back}
use Rattle.snap_asm.proofs.laws.what_is_assembled_lists_back.Goals as goal

pub returns : goal.returns
returns c = lists_back c.what_is_read_with_comments_is_a_listing.ensures c.what_is_encoded_is_decoded.ensures
