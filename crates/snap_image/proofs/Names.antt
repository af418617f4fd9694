-- The decoder's loops over the letters of a name and over the names of
-- a sort in an image: one further, one that is refused, and no more.
use Rattle.std.proofs.Common.{◌≡◌, ℕ, ◌+◌, ◌-◌, ◌<◌, ◌≤◌, suc, List, [], ◌∷◌, ◌++◌, length, Ok, Err, refl, sym, ap, ◌∙◌}
use Rattle.std.proofs.Common.{append_assoc, arith}
use Rattle.std.proofs.lemmas.List.{append-nil, length-append}
use Rattle.snap_semantics.specs.declared.refusal.ImageRefusal.{ImageRefusal}
use Rattle.snap_semantics.specs.Answers.{◌>>=◌}
use Rattle.snap_image.specs.ImageForms.{Rest, Read, byte_in}
use Rattle.snap_image.specs.ImageListing.{letter, letters_in, name_in, names_in}
use Rattle.snap_semantics.specs.Source.{Name}
use Rattle.snap_image.specs.DecoderSteps.{onto}

pub onto_cons : {A : Type 0} (xs : List A) (x : A) (m : Read (List A)) →
    onto xs (m >>= λ ys. (let r : Read (List A) = Ok (x ∷ ys.0, ys.1) in r)) ≡ onto (xs ++ x ∷ []) m
onto_cons {A} xs x (Ok ys) =
    ap (λ (zs : List A). let r : Read (List A) = Ok (zs, ys.1) in r) (sym (append_assoc xs (x ∷ []) ys.0))
onto_cons xs x (Err e) = refl

one_less : (count k : ℕ) → k < count → count - k ≡ suc (count - (k + 1))
one_less count k lt = omega arith

-- one letter further
pub letters_step : (xs : List ℕ) (count k b : ℕ) (r r' : Rest) → k < count → byte_in r ≡ Ok (b, r') → letter b ≡ Ok tt →
    onto xs (letters_in (count - k) r) ≡ onto (xs ++ b ∷ []) (letters_in (count - (k + 1)) r')
unfolding letters_in
letters_step xs count k b r r' lt e f =
    rw (one_less count k lt, e, f) (onto_cons xs b (letters_in (count - (k + 1)) r'))

pub letters_stop : (xs : List ℕ) (count k : ℕ) (r : Rest) (d : ImageRefusal) → k < count → byte_in r ≡ Err d →
    onto xs (letters_in (count - k) r) ≡ Err d
unfolding letters_in
letters_stop xs count k r d lt e = rw (one_less count k lt, e)

pub letters_bad : (xs : List ℕ) (count k b : ℕ) (r r' : Rest) (d : ImageRefusal) → k < count →
    byte_in r ≡ Ok (b, r') → letter b ≡ Err d → onto xs (letters_in (count - k) r) ≡ Err d
unfolding letters_in
letters_bad xs count k b r r' d lt e f = rw (one_less count k lt, e, f)

-- no more letters
pub letters_end : (xs : List ℕ) (count k : ℕ) (r : Rest) → count ≤ k → onto xs (letters_in (count - k) r) ≡ Ok (xs, r)
unfolding letters_in
letters_end xs count k r le =
    let n : count - k ≡ 0 = omega arith in
    ap (λ (m : ℕ). onto xs (letters_in m r)) n
    ∙ ap (λ (ys : List ℕ). let a : Read (List ℕ) = Ok (ys, r) in a) (append-nil xs)

-- one name further
pub names_step : (known xs : List Name) (x : Name) (count : ℕ) (r r' : Rest) →
    length xs < count → name_in (known ++ xs) r ≡ Ok (x, r') →
    onto (xs ++ x ∷ []) (names_in (count - length (xs ++ x ∷ [])) (known ++ (xs ++ x ∷ [])) r')
    ≡ onto xs (names_in (count - length xs) (known ++ xs) r)
unfolding names_in
names_step known xs x count r r' lt e =
    let longer : length (xs ++ x ∷ []) ≡ length xs + 1 = length-append xs (x ∷ []) in
    rw (longer, ← append_assoc known xs (x ∷ []), one_less count (length xs) lt, e)
    (sym (onto_cons xs x (names_in (count - (length xs + 1)) ((known ++ xs) ++ x ∷ []) r')))

pub names_stop : (known xs : List Name) (count : ℕ) (r : Rest) (d : ImageRefusal) → length xs < count →
    name_in (known ++ xs) r ≡ Err d → onto xs (names_in (count - length xs) (known ++ xs) r) ≡ Err d
unfolding names_in
names_stop known xs count r d lt e = rw (one_less count (length xs) lt, e)

pub known_scalars : (xs : List Name) → xs ++ [] ≡ xs
known_scalars xs = append-nil xs

pub known_rows : (xs ys : List Name) → xs ++ (ys ++ []) ≡ xs ++ ys
known_rows xs ys = ap (λ (zs : List Name). xs ++ zs) (append-nil ys)

-- no more names
pub names_end : (known xs : List Name) (count : ℕ) (r : Rest) → count ≤ length xs →
    onto xs (names_in (count - length xs) (known ++ xs) r) ≡ Ok (xs, r)
unfolding names_in
names_end known xs count r le =
    let n : count - length xs ≡ 0 = omega arith in
    ap (λ (m : ℕ). onto xs (names_in m (known ++ xs) r)) n
    ∙ ap (λ (ys : List Name). let a : Read (List Name) = Ok (ys, r) in a) (append-nil xs)
