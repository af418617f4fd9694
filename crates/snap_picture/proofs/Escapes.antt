-- Text that is escaped for an SVG picture begins no tag, and is read back as it was.
use Rattle.std.proofs.Common.{◌≡◌, ◌≢◌, ◌+◌, ◌*◌, ◌/◌, ◌%◌, ◌<◌, ℕ, List, [], ◌∷◌, ◌++◌, Bool, true, false}
use Rattle.std.proofs.Common.{not, ◌&&◌, ◌||◌, nat_eq, nat_lt, if◌then◌else◌, codes}
use Rattle.std.proofs.Common.{All, refl, subst, ap, ◌∙◌, arith, inl, inr}
use Rattle.std.specs.List.{AllByRecursion}
use Rattle.std.proofs.lemmas.Bool.{cases_Bool}
use Rattle.std.proofs.lemmas.Bool.Decides.{nat_tests}
use Rattle.std.proofs.lemmas.List.Elements.{All-append, All-from_recursion, recursion_from_All}
use Rattle.snap_picture.specs.Escape.{digit_value, escaped, escaped_byte, hex_digit, is_markup, is_printed, plane}
use Rattle.snap_picture.specs.Escape.{reference, unescaped, unescaped_from}

-- a byte that stands for itself is no `<`
not_less : (b : ℕ) → (is_printed b && not (is_markup b)) ≡ true → b ≢ 60
not_less b h e = let bad : false ≡ true = subst (λ x. (is_printed x && not (is_markup x)) ≡ true) e h in absurd cc

-- nor is a digit
digit_not_less : (d : ℕ) → hex_digit d ≢ 60
digit_not_less d e = grind (arith, nat_tests)

reference_no_tag : (b : ℕ) → AllByRecursion (λ x. x ≢ 60) (reference b)
unfolding reference
reference_no_tag b = by_plane (is_markup b)
  where
    by_plane : (t : Bool) → AllByRecursion (λ x. x ≢ 60)
        (codes "&#x" ++ (if t then codes "00" else codes "E0") ++ hex_digit (b / 16) ∷ hex_digit (b % 16) ∷ 59 ∷ [])
    by_plane true = search (arith, digit_not_less)
    by_plane false = search (arith, digit_not_less)

no_tag_byte : (b : ℕ) → AllByRecursion (λ x. x ≢ 60) (escaped_byte b)
unfolding escaped_byte
no_tag_byte b = elim (cases_Bool (is_printed b && not (is_markup b))) [
  | inl e ↦ rw e (not_less b e, tt)
  | inr e ↦ rw e (reference_no_tag b)
]

pub begins_no_tag : (text : List ℕ) → All (λ b. b ≢ 60) (escaped text)
begins_no_tag [] = All-from_recursion (λ b. b ≢ 60) [] tt
begins_no_tag (b ∷ text) =
    All-append (λ b. b ≢ 60) _ _ (All-from_recursion (λ b. b ≢ 60) _ (no_tag_byte b)) (begins_no_tag text)

-- a digit is read back
digit_back : (d : ℕ) → d < 16 → digit_value (hex_digit d) ≡ d
digit_back d few = grind (arith, nat_tests)

-- a reference is read back
reference_back : (t : Bool) (h l : ℕ) (rest : List ℕ) →
    unescaped_from 0 0 ((codes "&#x" ++ (if t then codes "00" else codes "E0") ++ h ∷ l ∷ 59 ∷ []) ++ rest)
    ≡ (16 * digit_value h + digit_value l) ∷ unescaped_from 0 0 rest
unfolding unescaped_from
reference_back true h l rest = refl
reference_back false h l rest = refl

not_amp : (p t r : Bool) → (p && not (t || r)) ≡ true → t ≡ false
not_amp p t r h = grind arith

plain_back : (b : ℕ) (rest : List ℕ) → nat_eq b 38 ≡ false → unescaped_from 0 0 (b ∷ rest) ≡ b ∷ unescaped_from 0 0 rest
unfolding unescaped_from
plain_back b rest e = rw e refl

digits_back : (b : ℕ) → b < 256 → 16 * digit_value (hex_digit (b / 16)) + digit_value (hex_digit (b % 16)) ≡ b
digits_back b few =
    let high : b / 16 < 16 = omega arith in
    let low : b % 16 < 16 = omega arith in
    rw (digit_back (b / 16) high, digit_back (b % 16) low) (omega arith)

byte_back : (b : ℕ) (rest : List ℕ) → b < 256 →
    unescaped_from 0 0 (escaped_byte b ++ rest) ≡ b ∷ unescaped_from 0 0 rest
unfolding escaped_byte reference
byte_back b rest few = elim (cases_Bool (is_printed b && not (is_markup b))) [
  | inl e ↦ rw e (plain_back b rest (not_amp (is_printed b) (nat_eq b 38) _ e))
  | inr e ↦
      rw e (reference_back (is_markup b) (hex_digit (b / 16)) (hex_digit (b % 16)) rest
      ∙ ap (λ x. x ∷ unescaped_from 0 0 rest) (digits_back b few))
]

text_back : (text : List ℕ) → AllByRecursion (λ b. b < 256) text → unescaped_from 0 0 (escaped text) ≡ text
unfolding unescaped_from
text_back [] h = refl
text_back (b ∷ text) h = byte_back b (escaped text) h.0 ∙ ap (λ xs. b ∷ xs) (text_back text h.1)

pub comes_back : (text : List ℕ) → All (λ b. b < 256) text → unescaped (escaped text) ≡ text
comes_back text h = text_back text (recursion_from_All (λ b. b < 256) text h)
