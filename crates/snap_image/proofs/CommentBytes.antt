-- The decoder's loop over the bytes of a comment of an image:
-- one byte further, a byte that is refused, and no more bytes.
use Rattle.std.proofs.Common.{◌≡◌, ℕ, ◌+◌, ◌-◌, ◌<◌, ◌≤◌, suc, List, [], ◌∷◌, ◌++◌, Ok, Err, sym, ap, ◌∙◌, arith}
use Rattle.std.proofs.lemmas.List.{append-nil}
use Rattle.snap_semantics.specs.declared.refusal.ImageRefusal.{ImageRefusal}
use Rattle.snap_semantics.specs.Answers.{◌>>=◌}
use Rattle.snap_image.specs.ImageForms.{Rest, Read}
use Rattle.snap_image.specs.ImageListing.{comment_byte_in, comment_bytes_in}
use Rattle.snap_image.specs.DecoderSteps.{onto}
use Rattle.snap_image.proofs.Names.{onto_cons}

-- one byte further
byte_more : (xs : List ℕ) (n b : ℕ) (r r' : Rest) → comment_byte_in r ≡ Ok (b, r') →
    onto xs (comment_bytes_in (suc n) r) ≡ onto (xs ++ b ∷ []) (comment_bytes_in n r')
unfolding comment_bytes_in
byte_more xs n b r r' e =
    ap (λ (m : Read ℕ). onto xs (m >>= λ x. comment_bytes_in n x.1 >>= λ ys. Ok (x.0 ∷ ys.0, ys.1))) e
    ∙ onto_cons xs b (comment_bytes_in n r')

byte_stop : (xs : List ℕ) (n : ℕ) (r : Rest) (d : ImageRefusal) → comment_byte_in r ≡ Err d →
    onto xs (comment_bytes_in (suc n) r) ≡ Err d
unfolding comment_bytes_in
byte_stop xs n r d e =
    ap (λ (m : Read ℕ). onto xs (m >>= λ x. comment_bytes_in n x.1 >>= λ ys. Ok (x.0 ∷ ys.0, ys.1))) e

pub bytes_step : (xs : List ℕ) (count k b : ℕ) (r r' : Rest) → k < count → comment_byte_in r ≡ Ok (b, r') →
    onto (xs ++ b ∷ []) (comment_bytes_in (count - (k + 1)) r') ≡ onto xs (comment_bytes_in (count - k) r)
bytes_step xs count k b r r' lt e =
    let n : count - k ≡ suc (count - (k + 1)) = omega arith in
    sym (ap (λ (m : ℕ). onto xs (comment_bytes_in m r)) n ∙ byte_more xs (count - (k + 1)) b r r' e)

-- a byte that is refused
pub bytes_stop : (xs : List ℕ) (count k : ℕ) (r : Rest) (d : ImageRefusal) → k < count → comment_byte_in r ≡ Err d →
    onto xs (comment_bytes_in (count - k) r) ≡ Err d
bytes_stop xs count k r d lt e =
    let n : count - k ≡ suc (count - (k + 1)) = omega arith in
    ap (λ (m : ℕ). onto xs (comment_bytes_in m r)) n ∙ byte_stop xs (count - (k + 1)) r d e

-- no more bytes
pub bytes_end : (xs : List ℕ) (count k : ℕ) (r : Rest) → count ≤ k →
    onto xs (comment_bytes_in (count - k) r) ≡ Ok (xs, r)
unfolding comment_bytes_in
bytes_end xs count k r le =
    let n : count - k ≡ 0 = omega arith in
    ap (λ (m : ℕ). onto xs (comment_bytes_in m r)) n
    ∙ ap (λ (ys : List ℕ). let a : Read (List ℕ) = Ok (ys, r) in a) (append-nil xs)
