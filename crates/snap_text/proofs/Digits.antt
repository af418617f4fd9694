-- The number that the digits at the front of a line spell, `I`
-- or `I*K` as in most lines of a schedule, taken digit by digit.
use Rattle.std.proofs.Common.{◌≡◌, ℕ, suc, ◌+◌, ◌-◌, ◌*◌, ◌/◌, ◌^◌, ◌<◌, ◌≤◌, true, false, List, [], ◌∷◌, ◌++◌}
use Rattle.std.proofs.Common.{length, take, drop, get_or, Option, Some, nat_le, nat_lt, refl, sym, ap, ◌∙◌, arith}
use Rattle.std.proofs.Common.{append-nil, append_assoc, subst}
use Rattle.std.proofs.lemmas.Bool.{leb-true, le-ltb, and_parts, and_from}
use Rattle.std.proofs.lemmas.List.{length-append, length-take, take-append-drop}
use Rattle.std.proofs.lemmas.List.Folds.{list_all-append}
use Rattle.std.proofs.Math.Seq.{take-suc}
use Rattle.std.specs.List.{list_all}
use Rattle.snap_semantics.specs.declared.text.Symbol.TheVariants as symbol
use Rattle.snap_semantics.specs.Rules.{◌>>=◌}
use Rattle.snap_semantics.specs.Token.{Number, Sign, is_letter, is_digit, number_of, number_token}
use Rattle.snap_semantics.specs.Token.{has_leading_zero, tokens_of, lines_of}
use Rattle.snap_text.proofs.Before.{token_before, sign_before, bare_plain, line_before}
use Rattle.snap_text.proofs.Decimals.{number_by, number_append, not_letters}
use Rattle.snap_text.proofs.Decimals.{digits_lexeme, lexeme_number_by, no_zero_first}
use Rattle.snap_text.proofs.Printed.{digits_bare, joined_bare}
use Rattle.snap_text.specs.Numbers.{BeginsWithNumber, BeginsWithLine}

-- the value of a digit
pub digit_within : (b : ℕ) → is_digit b ≡ true → (48 ≤ b) × (b ≤ 57)
digit_within b e = let h = and_parts (nat_le 48 b) (nat_le b 57) e in (leb-true 48 b h.0, leb-true b 57 h.1)

digit_more : (value b : ℕ) → is_digit b ≡ true → value ≤ 99999999 →
    number_of value (b ∷ []) ≡ Some (value * 10 + (b - 48))
digit_more value b e few =
    let w = digit_within b e in
    let low = w.0 in
    let high = w.1 in
    let room : value ≤ (2 ^ 64 - 1 - (b - 48)) / 10 = omega (arith, low, high, few) in
    number_by (value * 10 + (b - 48)) (is_digit b) (nat_lt ((2 ^ 64 - 1 - (b - 48)) / 10) value) e
    (le-ltb ((2 ^ 64 - 1 - (b - 48)) / 10) value room)

-- what the digits before a place are: one digit, or more of which the first is not zero
pub record AreDigits (bytes : List ℕ) (len value : ℕ) : Type 0 where
  pub within : len ≤ length bytes
  pub some : 0 < len
  pub digits : list_all is_digit (take len bytes) ≡ true
  pub spells : number_of 0 (take len bytes) ≡ Some value
  pub few : value ≤ 999999999
  pub leads : has_leading_zero (take len bytes) ≡ false
  pub above_zero : 0 < value → 48 < get_or bytes 0 0

digit_first : (digit : ℕ) (behind : List ℕ) (value : ℕ) → is_digit digit ≡ true → value ≡ digit - 48 →
    AreDigits (digit ∷ behind) 1 value
digit_first digit behind value e is =
    let high = (digit_within digit e).1 in
    let same : 0 * 10 + (digit - 48) ≡ value = omega (arith, is) in
    record {
      within = omega arith;
      some = omega arith;
      digits = and_from (is_digit digit) true e refl;
      spells = digit_more 0 digit e (omega arith) ∙ ap (λ (k : ℕ). let o : Option ℕ = Some k in o) same;
      few = omega (arith, high, is);
      leads = refl;
      above_zero = λ more. let above : 48 < digit = omega (arith, more, is) in above;
    }

-- the first digit
pub first_digit : (bytes behind : List ℕ) (digit value : ℕ) → bytes ≡ digit ∷ behind → is_digit digit ≡ true →
    value ≡ digit - 48 → AreDigits bytes 1 value
first_digit bytes behind digit value is e is_value =
    subst (λ (xs : List ℕ). AreDigits xs 1 value) (sym is) (digit_first digit behind value e is_value)

first_taken : (bytes : List ℕ) (k : ℕ) → get_or (take (suc k) bytes) 0 0 ≡ get_or bytes 0 0
first_taken [] k = refl
first_taken (b ∷ bytes) k = refl

pub one_more : (bytes : List ℕ) (len value d digit : ℕ) → AreDigits bytes len value →
    len < length bytes → is_digit (get_or bytes len d) ≡ true → 0 < value → value ≤ 99999999 →
    digit ≡ get_or bytes len d - 48 → AreDigits bytes (len + 1) (value * 10 + digit)
one_more bytes len value d digit h more e some few is =
    let b = get_or bytes len d in
    let w = digit_within b e in
    let low = w.0 in
    let high = w.1 in
    let next : len + 1 ≡ suc len = omega arith in
    let longer : take (len + 1) bytes ≡ take len bytes ++ b ∷ [] =
    ap (λ (k : ℕ). take k bytes) next ∙ take-suc bytes len d more in
    let above : 48 < get_or bytes 0 0 = h.above_zero some in
    let same = first_taken bytes len in
    record {
      within = omega (arith, more);
      some = omega arith;
      digits =
          ap (list_all is_digit) longer ∙ list_all-append is_digit (take len bytes) (b ∷ [])
          ∙ and_from (list_all is_digit (take len bytes)) (list_all is_digit (b ∷ [])) h.digits
          (and_from (is_digit b) true e refl);
      spells =
          ap (number_of 0) longer ∙ number_append 0 (take len bytes) (b ∷ [])
          ∙ ap (λ (o : Option ℕ). o >>= λ v. number_of v (b ∷ [])) h.spells
          ∙ digit_more value b e few ∙ ap (λ (k : ℕ). let o : Option ℕ = Some (value * 10 + k) in o) (sym is);
      few = omega (arith, low, high, few, is);
      leads =
          ap (λ (k : ℕ). has_leading_zero (take k bytes)) next
          ∙ no_zero_first (take (suc len) bytes) (omega (arith, above, same));
      above_zero = λ _. above;
    }

-- the digits are a number
pub number_begins : (bytes rest : List ℕ) (len value : ℕ) → AreDigits bytes len value → rest ≡ drop len bytes →
    BeginsWithNumber bytes value rest
number_begins bytes rest len value h is_rest =
    let lexeme = take len bytes in
    let size = length-take len bytes in
    let more : 0 < length lexeme = let some = h.some in let within = h.within in omega (arith, size, some, within) in
    record {
      digits = lexeme;
      spelled = sym (take-append-drop len bytes) ∙ ap (λ (xs : List ℕ). lexeme ++ xs) (sym is_rest);
      some = more;
      all = h.digits;
      spells =
          lexeme_number_by lexeme (list_all is_letter lexeme) (has_leading_zero lexeme) (number_of 0 lexeme)
          (not_letters lexeme more h.digits) h.leads ∙ ap number_token h.spells;
    }

-- digits alone
pub digits_alone : (bytes rest : List ℕ) (i : ℕ) (h : BeginsWithNumber bytes i rest) →
    tokens_of h.digits ≡ Some (Number i ∷ [])
digits_alone bytes rest i h =
    ap tokens_of (sym (append-nil h.digits))
    ∙ token_before h.digits [] [] (Number i) h.some (digits_lexeme h.digits h.all) h.spells refl

-- digits before a line feed
pub number_alone : (bytes behind rest : List ℕ) (i : ℕ) → BeginsWithNumber bytes i behind → behind ≡ 10 ∷ rest →
    BeginsWithLine bytes (Number i ∷ []) rest
number_alone bytes behind rest i h is =
    let all : bytes ≡ h.digits ++ 10 ∷ rest = h.spelled ∙ ap (λ (xs : List ℕ). h.digits ++ xs) is in
    let size : length bytes ≡ length h.digits + suc (length rest) =
    ap length all ∙ length-append h.digits (10 ∷ rest) in
    record {
      line = h.digits;
      lines = ap lines_of all ∙ line_before h.digits rest (bare_plain h.digits (digits_bare h.digits h.all));
      tokens = digits_alone bytes behind i h;
      shorter = omega (arith, size);
    }

-- one digit before a line feed
pub digit_alone : (bytes behind rest : List ℕ) (digit end value : ℕ) → bytes ≡ digit ∷ behind → behind ≡ end ∷ rest →
    end ≡ 10 → is_digit digit ≡ true → value ≡ digit - 48 → BeginsWithLine bytes (Number value ∷ []) rest
digit_alone bytes behind rest digit end value is is_end feed e is_value =
    let number =
    number_begins bytes behind 1 value (first_digit bytes behind digit value is e is_value)
    (sym (ap (λ (xs : List ℕ). drop 1 xs) is)) in
    number_alone bytes behind rest value number (is_end ∙ ap (λ (b : ℕ). b ∷ rest) feed)

-- two digits before a line feed, the first of them no zero
two_before : (rest : List ℕ) (tens ones value : ℕ) → is_digit tens ≡ true → is_digit ones ≡ true → 48 < tens →
    value ≡ (tens - 48) * 10 + (ones - 48) →
    BeginsWithLine (tens ∷ ones ∷ 10 ∷ rest) (Number value ∷ []) rest
two_before rest tens ones value e f above is =
    let bytes = tens ∷ ones ∷ 10 ∷ rest in
    let high = (digit_within tens e).1 in
    let first = digit_first tens (ones ∷ 10 ∷ rest) (tens - 48) e refl in
    let both =
    one_more bytes 1 (tens - 48) 0 (ones - 48) first (omega arith) f (omega (arith, above)) (omega (arith, high)) refl in
    let number =
    number_begins bytes (10 ∷ rest) 2 value (subst (λ (k : ℕ). AreDigits bytes 2 k) (sym is) both) refl in
    number_alone bytes (10 ∷ rest) rest value number refl

pub two_alone : (bytes behind after rest : List ℕ) (tens ones end value : ℕ) → bytes ≡ tens ∷ behind →
    behind ≡ ones ∷ after → after ≡ end ∷ rest → end ≡ 10 → is_digit tens ≡ true → is_digit ones ≡ true →
    48 < tens → value ≡ (tens - 48) * 10 + (ones - 48) → BeginsWithLine bytes (Number value ∷ []) rest
two_alone bytes behind after rest tens ones end value is is_behind is_after feed e f above is_value =
    let all : bytes ≡ tens ∷ ones ∷ 10 ∷ rest =
    is ∙ ap (λ (xs : List ℕ). tens ∷ xs) (is_behind ∙ ap (λ (xs : List ℕ). ones ∷ xs)
    (is_after ∙ ap (λ (b : ℕ). b ∷ rest) feed)) in
    subst (λ (xs : List ℕ). BeginsWithLine xs (Number value ∷ []) rest) (sym all)
    (two_before rest tens ones value e f above is_value)

-- digits, a star, and digits before a line feed
pub number_starred : (bytes starred behind after rest : List ℕ) (i k : ℕ) → BeginsWithNumber bytes i starred →
    starred ≡ 42 ∷ behind → BeginsWithNumber behind k after → after ≡ 10 ∷ rest →
    BeginsWithLine bytes (Number i ∷ Sign symbol.Star ∷ Number k ∷ []) rest
number_starred bytes starred behind after rest i k h star g is =
    let line = h.digits ++ 42 ∷ g.digits in
    let inner : behind ≡ g.digits ++ 10 ∷ rest = g.spelled ∙ ap (λ (xs : List ℕ). g.digits ++ xs) is in
    let outer : bytes ≡ h.digits ++ 42 ∷ behind = h.spelled ∙ ap (λ (xs : List ℕ). h.digits ++ xs) star in
    let all : bytes ≡ line ++ 10 ∷ rest =
    outer ∙ ap (λ (xs : List ℕ). h.digits ++ 42 ∷ xs) inner ∙ sym (append_assoc h.digits (42 ∷ g.digits) (10 ∷ rest)) in
    let size : length bytes ≡ length line + suc (length rest) = ap length all ∙ length-append line (10 ∷ rest) in
    let second = digits_alone behind after k g in
    record {
      line = line;
      lines =
          ap lines_of all ∙ line_before line rest (bare_plain line (joined_bare h.digits (42 ∷ g.digits)
          (digits_bare h.digits h.all) (joined_bare (42 ∷ []) g.digits refl (digits_bare g.digits g.all))));
      tokens =
          token_before h.digits (42 ∷ g.digits) (Sign symbol.Star ∷ Number k ∷ []) (Number i) h.some
          (digits_lexeme h.digits h.all) h.spells (sign_before symbol.Star g.digits (Number k ∷ []) second);
      shorter = omega (arith, size);
    }

-- a digit, a star, and a digit before a line feed
starred_before : (rest : List ℕ) (first second i k : ℕ) → is_digit first ≡ true → is_digit second ≡ true →
    i ≡ first - 48 → k ≡ second - 48 →
    BeginsWithLine (first ∷ 42 ∷ second ∷ 10 ∷ rest) (Number i ∷ Sign symbol.Star ∷ Number k ∷ []) rest
starred_before rest first second i k e f is is_k =
    let behind = second ∷ 10 ∷ rest in
    let one = number_begins (first ∷ 42 ∷ behind) (42 ∷ behind) 1 i (digit_first first (42 ∷ behind) i e is) refl in
    let other = number_begins behind (10 ∷ rest) 1 k (digit_first second (10 ∷ rest) k f is_k) refl in
    number_starred (first ∷ 42 ∷ behind) (42 ∷ behind) behind (10 ∷ rest) rest i k one refl other refl

pub starred_alone : (bytes behind after last rest : List ℕ) (first star second end i k : ℕ) → bytes ≡ first ∷ behind →
    behind ≡ star ∷ after → after ≡ second ∷ last → last ≡ end ∷ rest → star ≡ 42 → end ≡ 10 →
    is_digit first ≡ true → is_digit second ≡ true → i ≡ first - 48 → k ≡ second - 48 →
    BeginsWithLine bytes (Number i ∷ Sign symbol.Star ∷ Number k ∷ []) rest
starred_alone bytes behind after last rest first star second end i k is is_behind is_after is_last at feed e f is_i is_k =
    let all : bytes ≡ first ∷ 42 ∷ second ∷ 10 ∷ rest =
    is ∙ ap (λ (xs : List ℕ). first ∷ xs) (is_behind ∙ ap (λ (b : ℕ). b ∷ after) at
    ∙ ap (λ (xs : List ℕ). 42 ∷ xs) (is_after ∙ ap (λ (xs : List ℕ). second ∷ xs)
    (is_last ∙ ap (λ (b : ℕ). b ∷ rest) feed))) in
    subst (λ (xs : List ℕ). BeginsWithLine xs (Number i ∷ Sign symbol.Star ∷ Number k ∷ []) rest) (sym all)
    (starred_before rest first second i k e f is_i is_k)
