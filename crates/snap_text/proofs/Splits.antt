-- How a text is split into lines: its first line ends at its first
-- line feed, and the other lines are those of the bytes after it.
use Rattle.std.proofs.Common.{◌≡◌, ℕ, zero, suc, ◌+◌, ◌-◌, ◌<◌, add-one, Bool, true, false, List, [], ◌∷◌, length}
use Rattle.std.proofs.Common.{take, drop, get_or, take_all, ◌≢◌, refl, sym, ◌∙◌, ap, arith, nat_eq, if◌then◌else◌}
use Rattle.std.proofs.lemmas.Bool.{eq-eqb, ne_eqb}
use Rattle.std.proofs.lemmas.List.{length-drop, drop_all}
use Rattle.snap_semantics.specs.Token.{onto_line, lines_of}

-- a text before the first line
abbrev pub onto_text : List ℕ → List (List ℕ) → List (List ℕ)
onto_text [] lines = lines
onto_text (b ∷ bytes) lines = onto_line b (onto_text bytes lines)

goes_on_by : (b : ℕ) (bytes : List ℕ) (v : Bool) → v ≡ false →
    onto_line b (lines_of bytes) ≡ (if v then [] ∷ lines_of bytes else onto_line b (lines_of bytes))
goes_on_by b bytes true e = absurd cc
goes_on_by b bytes false e = refl

-- a byte further on, where it is no line feed
pub goes_on : (bytes : List ℕ) (k d : ℕ) → k < length bytes → nat_eq (get_or bytes k d) 10 ≡ false →
    onto_text (take (suc k) bytes) (lines_of (drop (suc k) bytes)) ≡ onto_text (take k bytes) (lines_of (drop k bytes))
goes_on [] k d h e = absurd (omega arith)
goes_on (b ∷ bytes) zero d h e = goes_on_by b bytes (nat_eq b 10) e
goes_on (b ∷ bytes) (suc k) d h e = ap (onto_line b) (goes_on bytes k d (omega arith) e)

ends_by : (b : ℕ) (bytes : List ℕ) (v : Bool) → v ≡ true →
    (if v then [] ∷ lines_of bytes else onto_line b (lines_of bytes)) ≡ [] ∷ lines_of bytes
ends_by b bytes true e = refl
ends_by b bytes false e = absurd cc

-- the first line feed ends the first line
pub ends : (bytes : List ℕ) (k d : ℕ) → k < length bytes → nat_eq (get_or bytes k d) 10 ≡ true →
    onto_text (take k bytes) (lines_of (drop k bytes)) ≡ take k bytes ∷ lines_of (drop (suc k) bytes)
ends [] k d h e = absurd (omega arith)
ends (b ∷ bytes) zero d h e = ends_by b bytes (nat_eq b 10) e
ends (b ∷ bytes) (suc k) d h e = ap (onto_line b) (ends bytes k d (omega arith) e)

whole_by : (b : ℕ) (bytes : List ℕ) → onto_text (b ∷ bytes) [] ≡ (b ∷ bytes) ∷ []
whole_by b [] = refl
whole_by b (c ∷ bytes) = ap (onto_line b) (whole_by c bytes)

-- with no line feed it is all one line
pub whole : (bytes : List ℕ) → 0 < length bytes → onto_text bytes [] ≡ bytes ∷ []
whole [] some = absurd (omega arith)
whole (b ∷ bytes) some = whole_by b bytes

-- the bytes behind a place
pub behind : (bytes : List ℕ) (k : ℕ) → take (length bytes - k) (drop k bytes) ≡ drop k bytes
behind bytes k =
    take_all (length bytes - k) (drop k bytes)
    (let e : length (drop k bytes) ≡ length bytes - k = length-drop k bytes in omega (arith, e))

pub ends_at : (bytes : List ℕ) (k d : ℕ) → k < length bytes → get_or bytes k d ≡ 10 →
    onto_text (take k bytes) (lines_of (drop k bytes)) ≡ lines_of bytes →
    lines_of bytes ≡ take k bytes ∷ lines_of (take (length bytes - (k + 1)) (drop (k + 1) bytes))
ends_at bytes k d h e so_far =
    let rest : drop (suc k) bytes ≡ take (length bytes - (k + 1)) (drop (k + 1) bytes) =
    rw add-one (sym (behind bytes (suc k))) in
    sym so_far ∙ ends bytes k d h (eq-eqb (get_or bytes k d) 10 e)
    ∙ ap (λ (xs : List ℕ). take k bytes ∷ lines_of xs) rest

pub goes_on_at : (bytes : List ℕ) (k d : ℕ) → k < length bytes → get_or bytes k d ≢ 10 →
    onto_text (take k bytes) (lines_of (drop k bytes)) ≡ lines_of bytes →
    onto_text (take (k + 1) bytes) (lines_of (drop (k + 1) bytes)) ≡ lines_of bytes
goes_on_at bytes k d h e so_far = rw add-one (goes_on bytes k d h (ne_eqb (get_or bytes k d) 10 e) ∙ so_far)

pub whole_at : (bytes : List ℕ) (k : ℕ) → 0 < length bytes → k ≡ length bytes →
    onto_text (take k bytes) (lines_of (drop k bytes)) ≡ lines_of bytes →
    lines_of bytes ≡ bytes ∷ lines_of (take (length bytes - length bytes) (drop (length bytes) bytes))
whole_at bytes k some is so_far =
    let all : take k bytes ≡ bytes = take_all k bytes (omega arith) in
    let none : drop k bytes ≡ [] = drop_all k bytes (omega arith) in
    sym so_far ∙ ap (λ (xs : List ℕ). onto_text xs (lines_of (drop k bytes))) all
    ∙ ap (λ (xs : List ℕ). onto_text bytes (lines_of xs)) none
    ∙ whole bytes some
    ∙ ap (λ (rest : List ℕ). bytes ∷ lines_of rest)
    (sym (behind bytes (length bytes) ∙ drop_all (length bytes) bytes (omega arith)))
