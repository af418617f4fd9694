-- An input without a percent sign has one part, which is all of it. Lines before the first sign end no part.
use Rattle.std.proofs.Common.{◌≡◌, ℕ, zero, suc, ◌<◌, ◌≤◌, nat_eq, Bool, true, false, List, [], ◌∷◌, ◌++◌, length}
use Rattle.std.proofs.Common.{slice_index, take, drop, refl, sym, subst, ◌∙◌, ap, append-nil, arith, cond}
use Rattle.std.proofs.Common.{Some, None}
use Rattle.std.proofs.lemmas.List.{drop_all, length-take-le, take_all, take-append-drop}
use Rattle.memchr.specs.Find.{IsFirstByte, IsLastByte, is_byte}
use Rattle.snap_semantics.specs.Token.{onto_line}
use Rattle.snap_input.specs.Parts.{full_lines, ends_part, onto_part, parts_of_lines, parts_of}
use Rattle.snap_input.proofs.Splits.{onto_again, onto_none}

-- no byte is a percent sign
abbrev LacksSign : List ℕ → Type 0
LacksSign [] = Unit {0}
LacksSign (b ∷ bytes) = (nat_eq b 37 ≡ false) × LacksSign bytes

-- a line that does not begin with one ends no part
begins_otherwise : (b : ℕ) (line : List ℕ) → nat_eq b 37 ≡ false → ends_part (b ∷ line) ≡ false
begins_otherwise b line other = rw other refl

first_begins : (b : ℕ) (first line : List ℕ) (rest more : List (List ℕ)) → nat_eq b 37 ≡ false →
    (b ∷ first) ∷ rest ≡ line ∷ more → ends_part line ≡ false
first_begins b first line rest more other is =
    let same : b ∷ first ≡ line = cc in
    subst (λ (l : List ℕ). ends_part l ≡ false) same (begins_otherwise b first other)

onto_begins : (b : ℕ) (lines : List (List ℕ)) (line : List ℕ) (more : List (List ℕ)) → nat_eq b 37 ≡ false →
    onto_line b lines ≡ line ∷ more → ends_part line ≡ false
onto_begins b [] line more other is = first_begins b [] line [] more other is
onto_begins b (first ∷ lines) line more other is = first_begins b first line lines more other is

-- the first line ends no part
first_otherwise : (b : ℕ) (bytes : List ℕ) → nat_eq b 37 ≡ false → (line : List ℕ) (more : List (List ℕ)) →
    full_lines (b ∷ bytes) ≡ line ∷ more → ends_part line ≡ false
first_otherwise b bytes other line more is =
    (elim (nat_eq b 10) as (λ v.
    cond v ((b ∷ []) ∷ full_lines bytes) (onto_line b (full_lines bytes)) ≡ line ∷ more → ends_part line ≡ false) [
      | true ↦ first_begins b [] line (full_lines bytes) more other
      | false ↦ onto_begins b (full_lines bytes) line more other
    ]) is

-- a byte before lines the first of which ends no part
onto_front : (b : ℕ) (lines : List (List ℕ)) → nat_eq b 37 ≡ false →
    ((line : List ℕ) (more : List (List ℕ)) → lines ≡ line ∷ more → ends_part line ≡ false) →
    parts_of_lines (onto_line b lines) ≡ onto_part (b ∷ []) (parts_of_lines lines)
onto_front b [] other heads = rw (begins_otherwise b [] other) refl
onto_front b (line ∷ lines) other heads =
    rw (begins_otherwise b line other, heads line lines refl)
    (sym (onto_again (b ∷ []) line (parts_of_lines lines)))

-- bytes without a sign, the last of which ends a line
abbrev EndsLine : List ℕ → Type 0
EndsLine [] = Unit {0}
EndsLine (b ∷ []) = nat_eq b 10 ≡ true
EndsLine (b ∷ x ∷ bytes) = EndsLine (x ∷ bytes)

ends_later : (b : ℕ) (bytes : List ℕ) → EndsLine (b ∷ bytes) → EndsLine bytes
ends_later b [] ends = tt
ends_later b (x ∷ bytes) ends = ends

-- the first byte of such lines, and what follows it
front_byte : (b : ℕ) (bytes more : List ℕ) → LacksSign (b ∷ bytes) → EndsLine (b ∷ bytes) →
    parts_of (b ∷ bytes ++ more) ≡ onto_part (b ∷ []) (parts_of (bytes ++ more))
front_byte b [] more lacks ends =
    rw ends (rw (begins_otherwise b [] lacks.0) refl)
front_byte b (x ∷ bytes) more lacks ends =
    elim (nat_eq b 10) as (λ v. parts_of_lines (cond v ((b ∷ []) ∷ full_lines (x ∷ bytes ++ more))
    (onto_line b (full_lines (x ∷ bytes ++ more)))) ≡ onto_part (b ∷ []) (parts_of (x ∷ bytes ++ more))) [
      | true ↦ rw (begins_otherwise b [] lacks.0) refl
      | false ↦ onto_front b (full_lines (x ∷ bytes ++ more)) lacks.0 (first_otherwise x (bytes ++ more) lacks.1.0)
    ]

-- lines without the sign end no part
lines_go_on : (bytes more : List ℕ) → LacksSign bytes → EndsLine bytes →
    parts_of (bytes ++ more) ≡ onto_part bytes (parts_of more)
lines_go_on [] more lacks ends = sym (onto_none (full_lines more))
lines_go_on (b ∷ bytes) more lacks ends =
    front_byte b bytes more lacks ends
    ∙ ap (onto_part (b ∷ [])) (lines_go_on bytes more lacks.1 (ends_later b bytes ends))
    ∙ onto_again (b ∷ []) bytes (parts_of more)

lines_end_none : (bytes : List ℕ) → LacksSign bytes → ends_part bytes ≡ false
lines_end_none [] lacks = refl
lines_end_none (b ∷ bytes) lacks = begins_otherwise b bytes lacks.0

one_part : (bytes : List ℕ) → LacksSign bytes → parts_of bytes ≡ bytes ∷ []
one_part [] lacks = refl
one_part (b ∷ []) lacks =
    elim (nat_eq b 10) as (λ v.
    parts_of_lines (cond v ((b ∷ []) ∷ []) (onto_line b [])) ≡ (b ∷ []) ∷ []) [
      | true ↦ rw (begins_otherwise b [] lacks.0) refl
      | false ↦ rw (begins_otherwise b [] lacks.0) refl
    ]
one_part (b ∷ x ∷ bytes) lacks =
    let behind = one_part (x ∷ bytes) lacks.1 in
    elim (nat_eq b 10) as (λ v. parts_of_lines (cond v ((b ∷ []) ∷ full_lines (x ∷ bytes))
    (onto_line b (full_lines (x ∷ bytes)))) ≡ (b ∷ x ∷ bytes) ∷ []) [
      | true ↦ rw (begins_otherwise b [] lacks.0) (ap (onto_part (b ∷ [])) behind)
      | false ↦
          onto_front b (full_lines (x ∷ bytes)) lacks.0 (first_otherwise x bytes lacks.1.0)
          ∙ ap (onto_part (b ∷ [])) behind
    ]

-- at no place there is one
lacks_sign : (bytes : List ℕ) → ((k : ℕ) → k < length bytes → nat_eq (slice_index bytes k) 37 ≡ false) → LacksSign bytes
lacks_sign [] none = tt
lacks_sign (b ∷ bytes) none =
    (none zero (omega arith), lacks_sign bytes (λ k below. none (suc k) (omega (arith, below))))

other_byte : (v : Bool) → (v ≡ true → ⊥) → v ≡ false
other_byte true other = absurd (other refl)
other_byte false other = refl

-- the bytes up to a place that ends a line, before the first sign
ends_at : (bytes : List ℕ) (k : ℕ) → k < length bytes → nat_eq (slice_index bytes k) 10 ≡ true →
    EndsLine (take (suc k) bytes)
ends_at [] k below is = absurd (omega (arith, below))
ends_at (b ∷ bytes) zero below is = is
ends_at (b ∷ []) (suc k) below is = absurd (omega (arith, below))
ends_at (b ∷ x ∷ bytes) (suc k) below is = ends_at (x ∷ bytes) k (omega (arith, below)) is

lacks_until : (bytes : List ℕ) (n : ℕ) → ((k : ℕ) → k < n → nat_eq (slice_index bytes k) 37 ≡ false) →
    LacksSign (take n bytes)
lacks_until [] zero none = tt
lacks_until [] (suc n) none = tt
lacks_until (b ∷ bytes) zero none = tt
lacks_until (b ∷ bytes) (suc n) none =
    (none zero (omega arith), lacks_until bytes n (λ k below. none (suc k) (omega (arith, below))))

index_in_front : (bytes : List ℕ) (n k : ℕ) → k < n → k < length (take n bytes) →
    slice_index (take n bytes) k ≡ slice_index bytes k
index_in_front bytes zero k below within = absurd (omega (arith, below))
index_in_front [] (suc n) k below within = absurd (omega (arith, within))
index_in_front (b ∷ bytes) (suc n) zero below within = refl
index_in_front (b ∷ bytes) (suc n) (suc k) below within =
    index_in_front bytes n k (omega (arith, below)) (omega (arith, within))

-- what holds of so many bytes at the front that no line of theirs ends a part
pub record IsPlain (bytes : List ℕ) (n : ℕ) : Type 0 where
  pub within : n ≤ length bytes
  pub plain : ends_part (take n bytes) ≡ false
  pub parts : parts_of bytes ≡ onto_part (take n bytes) (parts_of (drop n bytes))

pub all_are_plain : (bytes : List ℕ) → IsFirstByte (is_byte 37) bytes None → IsPlain bytes (length bytes)
all_are_plain bytes none =
    let lacks = lacks_sign bytes (λ k below. other_byte (nat_eq (slice_index bytes k) 37) (none k (omega arith) below)) in
    let all : take (length bytes) bytes ≡ bytes = take_all (length bytes) bytes (omega arith) in
    let left : drop (length bytes) bytes ≡ [] = drop_all (length bytes) bytes (omega arith) in
    record {
      within = omega arith;
      plain = ap ends_part all ∙ lines_end_none bytes lacks;
      parts =
          one_part bytes lacks ∙ sym (ap (λ front. onto_part front (parts_of (drop (length bytes) bytes))) all
          ∙ ap (λ rest. onto_part bytes (parts_of rest)) left ∙ ap (λ b. b ∷ []) (append-nil bytes));
    }

pub lines_are_plain : (bytes : List ℕ) (sign feed : ℕ) → IsFirstByte (is_byte 37) bytes (Some sign) →
    IsLastByte (is_byte 10) (take sign bytes) (Some feed) → IsPlain bytes (suc feed)
lines_are_plain bytes sign feed first last =
    let below : feed < length (take sign bytes) = last.0.high in
    let there : sign < length bytes = first.0.high in
    let cut = length-take-le sign bytes (omega (arith, there)) in
    let before : feed < sign = omega (arith, below, there, cut) in
    let lacks = lacks_until bytes (suc feed) (λ k low.
    other_byte (nat_eq (slice_index bytes k) 37) (first.0.before k (omega arith) (omega (arith, low, before)))) in
    let ends = ends_at bytes feed (omega (arith, before, there))
    (ap (λ b. nat_eq b 10) (sym (index_in_front bytes sign feed before below)) ∙ last.1) in
    record {
      within = omega (arith, before, there);
      plain = lines_end_none (take (suc feed) bytes) lacks;
      parts =
          ap parts_of (sym (take-append-drop (suc feed) bytes))
          ∙ lines_go_on (take (suc feed) bytes) (drop (suc feed) bytes) lacks ends;
    }
