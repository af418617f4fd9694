-- The mask that keeps the handshake bits of a word: which bit `mask_bits`
-- has at each place, and a mask with one more bit below the others.
use Rattle.std.proofs.Common.{◌≡◌, ◌∙◌, ℕ, zero, suc, ◌+◌, ◌*◌, ◌/◌, ◌%◌, ◌<◌, ◌≤◌, ◌∷◌, Some, None, length}
use Rattle.std.proofs.Common.{replicate, refl, sym, ap, arith}
use Rattle.std.proofs.lemmas.Nat.Bits.{bit_at_lowest, bit_at-suc, shr_and_one}
use Rattle.std.specs.Int.{bit_at}
use Rattle.std.specs.List.{slice_get}
use Rattle.std.specs.Prelude.{bit_and, ◌^◌}
use Rattle.snap_words.specs.Handshakes.{mask_bits}

pub length-mask_bits : (count mask : ℕ) → length (mask_bits count mask) ≡ count
length-mask_bits zero mask = refl
length-mask_bits (suc count) mask = ap suc (length-mask_bits count (mask / 2))

pub mask_bits-zero : (count : ℕ) → mask_bits count 0 ≡ replicate count 0
mask_bits-zero zero = refl
mask_bits-zero (suc count) = ap (λ bits. 0 ∷ bits) (mask_bits-zero count)

slice_get-mask_bits : (count mask place : ℕ) → place < count →
    slice_get (mask_bits count mask) place ≡ Some (bit_at mask place)
slice_get-mask_bits zero mask place h = absurd (omega arith)
slice_get-mask_bits (suc count) mask zero h = ap Some (sym (bit_at_lowest mask))
slice_get-mask_bits (suc count) mask (suc place) h =
    slice_get-mask_bits count (mask / 2) place (omega arith) ∙ ap Some (sym (bit_at-suc mask place))

-- the bit that a shift and a mask of 1 give
pub bit_in_mask : (count mask place : ℕ) → place < count →
    Some (bit_and (mask / 2 ^ place) 1) ≡ slice_get (mask_bits count mask) place
bit_in_mask count mask place h = ap Some (shr_and_one mask place) ∙ sym (slice_get-mask_bits count mask place h)

-- past the last of them there is none
pub no_bit_past : (count mask place : ℕ) → count ≤ place → None ≡ slice_get (mask_bits count mask) place
no_bit_past zero mask place h = refl
no_bit_past (suc count) mask zero h = absurd (omega arith)
no_bit_past (suc count) mask (suc place) h = no_bit_past count (mask / 2) place (omega arith)

-- one more bit below the others
pub mask_bits-push : (count mask bit : ℕ) → bit ≤ 1 →
    mask_bits (suc count) (2 * mask + bit) ≡ bit ∷ mask_bits count mask
mask_bits-push count mask bit h =
    let low : (2 * mask + bit) % 2 ≡ bit = omega arith in
    let high : (2 * mask + bit) / 2 ≡ mask = omega arith in
    rw (low, high) refl
