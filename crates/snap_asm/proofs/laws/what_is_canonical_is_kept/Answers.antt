-- `what_is_canonical_is_kept` of snap_asm (src/laws.rt): the proof of what its contract says.
use Rattle.snap_asm.proofs.Back.{keeps_canonical}
use Rattle.snap_asm.proofs.laws.what_is_canonical_is_kept.Goals as goal

pub returns : goal.returns
returns c = keeps_canonical c.what_is_printed_is_read.ensures c.what_is_encoded_is_decoded.ensures
