-- The handshake bits of a word, kept as the bits of one number: `mask_bits`, the lowest bit first.
use Rattle.std.specs.Prelude.{ℕ, zero, suc, ◌/◌, ◌%◌, List, [], ◌∷◌}

-- how many bits a mask has
abbrev pub mask_width : ℕ
mask_width = 64

-- the bits of a mask of this width, the lowest one first
abbrev pub mask_bits : ℕ → ℕ → List ℕ
mask_bits zero mask = []
mask_bits (suc count) mask = (mask % 2) ∷ mask_bits count (mask / 2)
