-- `Handshakes::get` of snap_words (src/handshakes.rt): the proof of what its contract says.
use Rattle.std.proofs.Common.{◌∙◌, ℕ, List, ap, arith}
use Rattle.std.specs.List.{slice_get}
use Rattle.snap_words.proofs.Masks.{bit_in_mask, no_bit_past}
use Rattle.snap_words.proofs.handshakes.Handshakes.get.Goals as goal

pub returns-then-place-self : goal.returns-then-place-self
returns-then-place-self c =
    bit_in_mask c.self.inside.count c.self.inside.mask c.args.place (omega arith)
    ∙ ap (λ (handshakes : List ℕ). slice_get handshakes c.args.place) c.self.view_is

pub returns-else-place-self : goal.returns-else-place-self
returns-else-place-self c =
    no_bit_past c.self.inside.count c.self.inside.mask c.args.place (omega arith)
    ∙ ap (λ (handshakes : List ℕ). slice_get handshakes c.args.place) c.self.view_is
