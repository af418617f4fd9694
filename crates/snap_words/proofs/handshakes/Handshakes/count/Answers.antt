-- `Handshakes::count` of snap_words (src/handshakes.rt): the proof of what its contract says.
use Rattle.std.proofs.Common.{◌∙◌, ℕ, List, length, ap, sym}
use Rattle.snap_words.proofs.Masks.{length-mask_bits}
use Rattle.snap_words.proofs.handshakes.Handshakes.count.Goals as goal

pub returns : goal.returns
returns c =
    sym (length-mask_bits c.self.inside.count c.self.inside.mask)
    ∙ ap (λ (handshakes : List ℕ). length handshakes) c.self.view_is
