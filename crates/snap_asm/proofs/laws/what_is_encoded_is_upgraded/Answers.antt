-- `what_is_encoded_is_upgraded` of snap_asm (src/laws.rt): the proof of what its contract says.
use Rattle.snap_asm.proofs.Back.{upgrades}
use Rattle.snap_asm.proofs.laws.what_is_encoded_is_upgraded.Goals as goal

pub returns : goal.returns
returns c = upgrades c.what_is_encoded_is_decoded.ensures
