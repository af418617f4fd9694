-- `Handshakes::zeros` of snap_words (src/handshakes.rt): the proof of what its contract says.
use Rattle.snap_words.proofs.Masks.{mask_bits-zero}
use Rattle.snap_words.proofs.handshakes.Handshakes.zeros.Goals as goal

pub returns : goal.returns
returns c = mask_bits-zero c.args.count
