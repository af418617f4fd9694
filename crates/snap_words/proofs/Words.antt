-- The initial word of each kind of registers: its view and its handshake
-- bits have the lengths that `is_sized` asks, and zeros are bits.
use Rattle.std.proofs.Common.{◌≡◌, ◌∙◌, ℕ, Bool, true, ◌&&◌, length, replicate, refl, ap, eq-eqb}
use Rattle.std.proofs.lemmas.List.{length-replicate}
use Rattle.std.specs.Prelude.{zero, suc, nat_eq}
use Rattle.std.specs.List.{list_all}
use Rattle.snap_words.specs.Kind.{initial_word, is_bit, is_sized}
use Rattle.snap_words.specs.Shape.{Counts}
use Rattle.snap_words.specs.declared.kind.KindTag.{KindTag}
use Rattle.snap_words.specs.declared.kind.KindTag.TheVariants.{Seq, Bits, Multi}

-- zeros are bits
pub list_all_bits-replicate : (n : ℕ) → list_all is_bit (replicate n 0) ≡ true
list_all_bits-replicate zero = refl
list_all_bits-replicate (suc n) = list_all_bits-replicate n

same_length : (n : ℕ) → nat_eq (length {A = ℕ} (replicate n 0)) n ≡ true
same_length n = eq-eqb (length {A = ℕ} (replicate n 0)) n (length-replicate {A = ℕ} n 0)

pub is_sized-initial_word : (k : KindTag) (s : Counts) → is_sized k s (initial_word k s) ≡ true
is_sized-initial_word Seq s = same_length s.w
is_sized-initial_word Bits s =
    ap (λ (b : Bool). b && nat_eq (length {A = ℕ} (replicate s.w 0)) s.w) (same_length s.n) ∙ same_length s.w
is_sized-initial_word Multi s = refl
