-- A number that is printed in decimal digits is read as the token of that number.
use Rattle.std.proofs.Common.{◌≡◌, ℕ, ◌+◌, ◌-◌, ◌*◌, ◌/◌, ◌%◌, ◌^◌, ◌<◌, ◌≤◌, Bool, true, false, ◌||◌, List, [], ◌∷◌}
use Rattle.std.proofs.Common.{◌++◌, length, get_or, Option, Some, None, nat_le, nat_lt, decimal, if◌then◌else◌, refl}
use Rattle.std.proofs.Common.{ap, ◌∙◌, arith, ◌⊎◌, inl, inr}
use Rattle.std.proofs.lemmas.Bool.{le-leb, lt-leb, le-ltb, leb-true, ne_eqb, and_from, and_left, and_parts, cases_lt}
use Rattle.std.proofs.lemmas.Fmt.{decimal_by_steps, decimal_digit, first_decimal}
use Rattle.std.proofs.lemmas.List.{length-append}
use Rattle.std.proofs.lemmas.List.Folds.{list_all-append}
use Rattle.std.specs.List.{list_all}
use Rattle.snap_semantics.specs.Rules.{◌>>=◌}
use Rattle.snap_semantics.specs.Token.{Identifier, Number, is_letter, is_digit, is_lexeme_byte, number_of}
use Rattle.snap_semantics.specs.Token.{number_token, has_leading_zero, lexeme_token}

is_digit_of : (d : ℕ) → d < 10 → is_digit (48 + d) ≡ true
is_digit_of d small =
    and_from (nat_le 48 (48 + d)) (nat_le (48 + d) 57) (le-leb 48 (48 + d) (omega arith))
    (le-leb (48 + d) 57 (omega arith))

pub number_by : (x : ℕ) (b c : Bool) → b ≡ true → c ≡ false →
    (if b then (if c then None else Some x) else None) ≡ Some x
number_by x true false e d = refl
number_by x true true e d = absurd cc
number_by x false c e d = absurd cc

-- one digit more
one_digit : (value d : ℕ) → d < 10 → value * 10 + d < 2 ^ 64 → number_of value ((48 + d) ∷ []) ≡ Some (value * 10 + d)
one_digit value d small fits =
    let digit : 48 + d - 48 ≡ d = omega arith in
    let room : value ≤ (2 ^ 64 - 1 - (48 + d - 48)) / 10 = omega (arith, digit) in
    number_by (value * 10 + (48 + d - 48)) (is_digit (48 + d)) (nat_lt ((2 ^ 64 - 1 - (48 + d - 48)) / 10) value)
    (is_digit_of d small) (le-ltb ((2 ^ 64 - 1 - (48 + d - 48)) / 10) value room)
    ∙ ap (λ (k : ℕ). let o : Option ℕ = Some (value * 10 + k) in o) digit

append_by : (b c : Bool) (o : Option ℕ) (f : ℕ → Option ℕ) →
    (if b then (if c then None else (o >>= f)) else None) ≡ ((if b then (if c then None else o) else None) >>= f)
append_by true true o f = refl
append_by true false o f = refl
append_by false c o f = refl

-- digits behind digits
pub number_append : (value : ℕ) (xs ys : List ℕ) →
    number_of value (xs ++ ys) ≡ (number_of value xs >>= λ v. number_of v ys)
number_append value [] ys = refl
number_append value (b ∷ xs) ys =
    ap
    (λ (o : Option ℕ). if is_digit b then (if nat_lt ((2 ^ 64 - 1 - (b - 48)) / 10) value then None else o) else None)
    (number_append (value * 10 + (b - 48)) xs ys)
    ∙ append_by (is_digit b) (nat_lt ((2 ^ 64 - 1 - (b - 48)) / 10) value)
    (number_of (value * 10 + (b - 48)) xs) (λ v. number_of v ys)

record IsNumeral (n : ℕ) (ds : List ℕ) : Type 0 where
  digits : list_all is_digit ds ≡ true
  value : number_of 0 ds ≡ Some n
  some : 0 < length ds

one_numeral : (n : ℕ) → n < 10 → n < 2 ^ 64 → IsNumeral n ((48 + n) ∷ [])
one_numeral n small fits = let is : 0 * 10 + n ≡ n = omega arith in
    record {
      digits = and_from (is_digit (48 + n)) true (is_digit_of n small) refl;
      value = one_digit 0 n small (omega arith) ∙ ap (λ (k : ℕ). let o : Option ℕ = Some k in o) is;
      some = omega arith;
    }

longer_numeral : (n : ℕ) (ds : List ℕ) → 10 ≤ n → (n / 10 < 2 ^ 64 → IsNumeral (n / 10) ds) → n < 2 ^ 64 →
    IsNumeral n (ds ++ (48 + n % 10) ∷ [])
longer_numeral n ds large front fits =
    let less : n / 10 < 2 ^ 64 = omega arith in
    let last : n % 10 < 10 = omega arith in
    let is : n / 10 * 10 + n % 10 ≡ n = omega arith in
    let h = front less in
    record {
      digits =
          list_all-append is_digit ds ((48 + n % 10) ∷ [])
          ∙ and_from (list_all is_digit ds) (list_all is_digit ((48 + n % 10) ∷ [])) h.digits
          (and_from (is_digit (48 + n % 10)) true (is_digit_of (n % 10) last) refl);
      value =
          number_append 0 ds ((48 + n % 10) ∷ [])
          ∙ ap (λ (o : Option ℕ). o >>= λ v. number_of v ((48 + n % 10) ∷ [])) h.value
          ∙ one_digit (n / 10) (n % 10) last (omega (arith, is)) ∙ ap (λ (k : ℕ). let o : Option ℕ = Some k in o) is;
      some = let all = length-append ds ((48 + n % 10) ∷ []) in omega (arith, all);
    }

decimal_numeral : (n : ℕ) → n < 2 ^ 64 → IsNumeral n (decimal n)
decimal_numeral n fits = decimal_by_steps (λ k ds. k < 2 ^ 64 → IsNumeral k ds) one_numeral longer_numeral n fits fits

pub no_zero_first : (ds : List ℕ) → 48 < get_or ds 0 0 → has_leading_zero ds ≡ false
no_zero_first [] h = refl
no_zero_first (b ∷ []) h = refl
no_zero_first (b ∷ c ∷ ds) h = ne_eqb b 48 (λ e. omega (arith, h, e))

no_leading_zero : (n : ℕ) → n < 2 ^ 64 → (n < 10) ⊎ (10 ≤ n) → has_leading_zero (decimal n) ≡ false
no_leading_zero n fits (inl small) = ap has_leading_zero (decimal_digit n small)
no_leading_zero n fits (inr large) = no_zero_first (decimal n) (first_decimal n (omega arith) fits)

pub not_letters : (ds : List ℕ) → 0 < length ds → list_all is_digit ds ≡ true → list_all is_letter ds ≡ false
not_letters [] some h = absurd (omega arith)
not_letters (b ∷ ds) some h =
    let first = (and_parts (is_digit b) (list_all is_digit ds) h).0 in
    let small = leb-true b 57 (and_parts (nat_le 48 b) (nat_le b 57) first).1 in
    and_left (is_letter b) (list_all is_letter ds)
    (and_left (nat_le 97 b) (nat_le b 122) (lt-leb 97 b (omega (arith, small))))

lexeme_digit : (b c : Bool) → c ≡ true → (b || c) ≡ true
lexeme_digit true c e = refl
lexeme_digit false c e = e

pub digits_lexeme : (ds : List ℕ) → list_all is_digit ds ≡ true → list_all is_lexeme_byte ds ≡ true
digits_lexeme [] h = refl
digits_lexeme (b ∷ ds) h =
    let parts = and_parts (is_digit b) (list_all is_digit ds) h in
    and_from (is_lexeme_byte b) (list_all is_lexeme_byte ds)
    (lexeme_digit (is_letter b) (is_digit b) parts.0) (digits_lexeme ds parts.1)

pub lexeme_number_by : (lexeme : List ℕ) (l z : Bool) (o : Option ℕ) → l ≡ false → z ≡ false →
    (if l then Some (Identifier lexeme) else if z then None else number_token o) ≡ number_token o
lexeme_number_by lexeme false false o e d = refl
lexeme_number_by lexeme false true o e d = absurd cc
lexeme_number_by lexeme true z o e d = absurd cc

-- what is printed of a number is read as that number
pub decimal_token : (n : ℕ) → n < 2 ^ 64 → lexeme_token (decimal n) ≡ Some (Number n)
decimal_token n fits =
    let h = decimal_numeral n fits in
    lexeme_number_by (decimal n) (list_all is_letter (decimal n))
    (has_leading_zero (decimal n)) (number_of 0 (decimal n))
    (not_letters (decimal n) h.some h.digits) (no_leading_zero n fits (cases_lt n 10))
    ∙ ap number_token h.value

pub decimal_digits : (n : ℕ) → n < 2 ^ 64 → list_all is_digit (decimal n) ≡ true
decimal_digits n fits = (decimal_numeral n fits).digits

pub decimal_lexeme : (n : ℕ) → n < 2 ^ 64 → list_all is_lexeme_byte (decimal n) ≡ true
decimal_lexeme n fits = digits_lexeme (decimal n) (decimal_digits n fits)

pub decimal_some : (n : ℕ) → n < 2 ^ 64 → 0 < length (decimal n)
decimal_some n fits = (decimal_numeral n fits).some
