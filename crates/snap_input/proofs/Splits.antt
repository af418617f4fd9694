-- Splitting an input into parts line by line gives `parts_of`: a line `%` ends a part, and another line goes on with
-- it.
use Rattle.std.proofs.Common.{◌≡◌, ℕ, ◌<◌, nat_eq, ◌==◌, Bool, true, false, List, [], ◌∷◌, ◌++◌, length, refl, sym}
use Rattle.std.proofs.Common.{◌∙◌, ap, append_assoc, append-nil, arith, cond}
use Rattle.std.proofs.Common.{◌+◌, ◌-◌, ◌≤◌, take, drop}
use Rattle.std.proofs.lemmas.List.{drop-drop, length-drop}
use Rattle.std.proofs.Math.Seq.{take-add}
use Rattle.std.proofs.lemmas.Bool.{eqb-false}
use Rattle.std.specs.Io.BufRead.{take_through, drop_through}
use Rattle.snap_semantics.specs.Token.{onto_line}
use Rattle.snap_input.specs.Parts.{full_lines, ends_part, onto_part, parts_of_lines, parts_of}

pub onto_again : (front more : List ℕ) (parts : List (List ℕ)) →
    onto_part front (onto_part more parts) ≡ onto_part (front ++ more) parts
onto_again front more [] = refl
onto_again front more (part ∷ parts) = ap (λ p. p ∷ parts) (sym (append_assoc front more part))

pub onto_none : (lines : List (List ℕ)) → onto_part [] (parts_of_lines lines) ≡ parts_of_lines lines
onto_none [] = refl
onto_none (line ∷ lines) =
    elim (ends_part line) as (λ v.
    onto_part [] (cond v ([] ∷ parts_of_lines lines) (onto_part line (parts_of_lines lines)))
    ≡ cond v ([] ∷ parts_of_lines lines) (onto_part line (parts_of_lines lines)))
    [ true ↦ refl | false ↦ onto_again [] line (parts_of_lines lines) ]

-- the first line, and those of what follows it
pub first_of_lines : (b : ℕ) (bytes : List ℕ) →
    full_lines (b ∷ bytes) ≡ take_through 10 (b ∷ bytes) ∷ full_lines (drop_through 10 (b ∷ bytes))
first_of_lines b [] =
    elim (nat_eq b 10)
    as (λ v. cond v ((b ∷ []) ∷ []) ((b ∷ []) ∷ []) ≡ cond v (b ∷ []) (b ∷ []) ∷ full_lines (cond v [] []))
    [ true ↦ refl | false ↦ refl ]
first_of_lines b (x ∷ bytes) =
    elim (nat_eq b 10) as (λ v. cond v ((b ∷ []) ∷ full_lines (x ∷ bytes)) (onto_line b (full_lines (x ∷ bytes)))
    ≡ cond v (b ∷ []) (b ∷ take_through 10 (x ∷ bytes)) ∷ full_lines (cond v (x ∷ bytes) (drop_through 10 (x ∷ bytes))))
    [ true ↦ refl | false ↦ ap (onto_line b) (first_of_lines x bytes) ]

pub first_line_first : (bytes : List ℕ) → 0 < length bytes →
    full_lines bytes ≡ take_through 10 bytes ∷ full_lines (drop_through 10 bytes)
first_line_first [] some = absurd (omega (arith, some))
first_line_first (b ∷ bytes) some = first_of_lines b bytes

pub first_and_rest : (bytes line rest : List ℕ) → 0 < length bytes → line ≡ take_through 10 bytes →
    rest ≡ drop_through 10 bytes → full_lines bytes ≡ line ∷ full_lines rest
first_and_rest bytes line rest some is_line is_rest =
    first_line_first bytes some ∙ ap (λ l. l ∷ full_lines (drop_through 10 bytes)) (sym is_line)
    ∙ ap (λ r. line ∷ full_lines r) (sym is_rest)

-- a first line that ends a part, and one that goes on with it
pub first_ends : (bytes line rest : List ℕ) → line ≡ take_through 10 bytes → rest ≡ drop_through 10 bytes →
    ends_part line ≡ true → parts_of bytes ≡ [] ∷ parts_of rest
first_ends [] line rest is_line is_rest ends =
    let none : ends_part [] ≡ true = sym (ap ends_part is_line) ∙ ends in absurd cc
first_ends (b ∷ bytes) line rest is_line is_rest ends =
    ap parts_of_lines (first_and_rest (b ∷ bytes) line rest (omega arith) is_line is_rest)
    ∙ ap (λ v. cond v ([] ∷ parts_of rest) (onto_part line (parts_of rest))) ends

pub first_goes_on : (bytes line rest : List ℕ) → line ≡ take_through 10 bytes → rest ≡ drop_through 10 bytes →
    ends_part line ≡ false → parts_of bytes ≡ onto_part line (parts_of rest)
first_goes_on [] line rest is_line is_rest ends =
    sym (ap (λ l. onto_part l (parts_of rest)) is_line ∙ ap (λ r. onto_part [] (parts_of r)) is_rest)
first_goes_on (b ∷ bytes) line rest is_line is_rest ends =
    ap parts_of_lines (first_and_rest (b ∷ bytes) line rest (omega arith) is_line is_rest)
    ∙ ap (λ v. cond v ([] ∷ parts_of rest) (onto_part line (parts_of rest))) ends

-- a piece that ends a part, and one that goes on with it
pub part_ends : (before whole : List (List ℕ)) (front bytes rest : List ℕ) →
    parts_of bytes ≡ [] ∷ parts_of rest → before ++ onto_part front (parts_of bytes) ≡ whole →
    (before ++ front ∷ []) ++ onto_part [] (parts_of rest) ≡ whole
part_ends before whole front bytes rest ends so_far =
    append_assoc before (front ∷ []) (onto_part [] (parts_of rest))
    ∙ ap (λ ps. before ++ front ∷ ps) (onto_none (full_lines rest))
    ∙ ap (λ f. before ++ f ∷ parts_of rest) (sym (append-nil front))
    ∙ ap (λ ps. before ++ onto_part front ps) (sym ends)
    ∙ so_far

pub part_goes_on : (before whole : List (List ℕ)) (front bytes piece rest : List ℕ) →
    parts_of bytes ≡ onto_part piece (parts_of rest) → before ++ onto_part front (parts_of bytes) ≡ whole →
    before ++ onto_part (front ++ piece) (parts_of rest) ≡ whole
part_goes_on before whole front bytes piece rest goes_on so_far =
    ap (λ ps. before ++ ps) (sym (onto_again front piece (parts_of rest)) ∙ ap (onto_part front) (sym goes_on))
    ∙ so_far

-- a part that has a front has no more parts
length_onto : (front : List ℕ) (lines : List (List ℕ)) →
    length (onto_part front (parts_of_lines lines)) ≡ length (parts_of_lines lines)
length_onto front [] = refl
length_onto front (line ∷ lines) =
    elim (ends_part line)
    as (λ v. length (onto_part front (cond v ([] ∷ parts_of_lines lines) (onto_part line (parts_of_lines lines))))
    ≡ length (cond v ([] ∷ parts_of_lines lines) (onto_part line (parts_of_lines lines)))) [
      | true ↦ refl
      | false ↦
          ap length (onto_again front line (parts_of_lines lines)) ∙ length_onto (front ++ line) lines
          ∙ sym (length_onto line lines)
    ]

-- a piece that ends a part is one part more
pub one_part_more : (bytes rest : List ℕ) → parts_of bytes ≡ [] ∷ parts_of rest →
    length (parts_of bytes) ≡ length (parts_of rest) + 1
one_part_more bytes rest ends = (let e = ap length ends in omega (arith, e))

-- another one is none
pub no_part_more : (bytes piece rest : List ℕ) → parts_of bytes ≡ onto_part piece (parts_of rest) →
    length (parts_of bytes) ≡ length (parts_of rest)
no_part_more bytes piece rest goes_on = ap length goes_on ∙ length_onto piece (full_lines rest)

pub some_left : (n : ℕ) (b : Bool) → b ≡ (n == 0) → b ≡ false → 0 < n
some_left n b is not_empty =
    let not_none : n ≡ 0 → ⊥ = λ e. eqb-false n 0 (sym is ∙ not_empty) e in
    omega (arith, not_none)

-- how far the part in hand goes, a line further on
pub further_on : (part rest after : List ℕ) (len n : ℕ) → rest ≡ drop len part → len ≤ length part → n ≤ length rest →
    length after + n ≡ length rest → length part - length after ≡ len + n
further_on part rest after len n is_rest within fits is_after =
    let rests : length rest ≡ length part - len = ap length is_rest ∙ length-drop len part in omega (arith, rests)

pub rest_again : (part rest after : List ℕ) (len n k : ℕ) → rest ≡ drop len part → after ≡ drop n rest →
    k ≡ len + n → after ≡ drop k part
rest_again part rest after len n k is_rest is_after is_k =
    is_after ∙ ap (drop n) is_rest ∙ drop-drop n len part ∙ ap (λ m. drop m part) (sym is_k)

pub front_again : (part rest : List ℕ) (len n k : ℕ) → rest ≡ drop len part → k ≡ len + n →
    take k part ≡ take len part ++ take n rest
front_again part rest len n k is_rest is_k =
    ap (λ m. take m part) is_k ∙ take-add len n part ∙ ap (λ r. take len part ++ take n r) (sym is_rest)
