-- The tokens of a line that is laid out, token after token, are read as those tokens.
use Rattle.std.proofs.Common.{◌≡◌, ℕ, ◌<◌, Bool, true, false, not, List, [], ◌∷◌, ◌++◌, Some, decimal, nat_eq, nat_le}
use Rattle.std.proofs.Common.{if◌then◌else◌, refl, ap, ◌∙◌, arith}
use Rattle.std.proofs.lemmas.Bool.{and_parts, and_from, ne_eqb, leb-true}
use Rattle.std.proofs.lemmas.List.Folds.{list_all-append}
use Rattle.std.specs.List.{list_all}
use Rattle.snap_semantics.specs.declared.text.Symbol.{Symbol}
use Rattle.snap_semantics.specs.declared.text.Symbol.TheVariants as symbol
use Rattle.snap_semantics.specs.Layout.{symbol_text, token_text}
use Rattle.snap_semantics.specs.Token.{Token, Identifier, Number, Sign, is_letter, is_digit}
use Rattle.snap_semantics.specs.Token.{front_of, front_tokens, tokens_of}
use Rattle.snap_text.specs.Tokens.{IsSound}
use Rattle.snap_text.proofs.Before.{number_before, word_before, space_before, sign_before, is_plain, is_bare}
use Rattle.snap_text.proofs.Decimals.{decimal_digits}

abbrev pub is_sign : Token → Bool
is_sign (Identifier w) = false
is_sign (Number k) = false
is_sign (Sign m) = true

-- What stands behind a token is read as these tokens, and begins with no letter or digit where that would join.
pub record Reads (t : Token) (bs : List ℕ) (ts : List Token) : Type 0 where
  pub tokens : tokens_of bs ≡ Some ts
  pub apart : is_sign t ≡ false → front_of bs ≡ Some ([], ts)

-- a space, or none
abbrev pub space : Bool → List ℕ
space b = if b then 32 ∷ [] else []

pub reads_end : (t : Token) → Reads t [] []
reads_end t = record { tokens = refl; apart = λ e. refl }

-- a token before what is read behind it
pub reads_first : (t : Token) (bs : List ℕ) (ts : List Token) → IsSound t → Reads t bs ts →
    tokens_of (token_text t ++ bs) ≡ Some (t ∷ ts)
reads_first (Identifier w) bs ts h rest = word_before w bs ts h.0 h.1 (rest.apart refl)
reads_first (Number k) bs ts h rest = number_before k bs ts h (rest.apart refl)
reads_first (Sign m) bs ts h rest = ap front_tokens (sign_before m bs ts rest.tokens)

tokens_by : (b : Bool) (bs : List ℕ) (ts : List Token) → tokens_of bs ≡ Some ts → tokens_of (space b ++ bs) ≡ Some ts
tokens_by true bs ts e = ap front_tokens (space_before bs ts e)
tokens_by false bs ts e = e

apart_by : (b c : Bool) (bs : List ℕ) (ts : List Token) → (c ≡ false → b ≡ true) → tokens_of bs ≡ Some ts →
    (c ≡ true → front_of bs ≡ Some ([], ts)) → front_of (space b ++ bs) ≡ Some ([], ts)
apart_by true c bs ts h e f = space_before bs ts e
apart_by false true bs ts h e f = f refl
apart_by false false bs ts h e f = absurd (let no : false ≡ true = h refl in cc)

sign_apart : (t : Token) (bs : List ℕ) (ts : List Token) → Reads t bs ts → is_sign t ≡ true →
    front_of (token_text t ++ bs) ≡ Some ([], t ∷ ts)
sign_apart (Identifier w) bs ts rest e = absurd cc
sign_apart (Number k) bs ts rest e = absurd cc
sign_apart (Sign m) bs ts rest e = sign_before m bs ts rest.tokens

-- a token behind another one, with a space between them where both are identifiers or numbers
pub reads_more : (t u : Token) (b : Bool) (bs : List ℕ) (us : List Token) →
    (is_sign t ≡ false → is_sign u ≡ false → b ≡ true) → IsSound u → Reads u bs us →
    Reads t (space b ++ (token_text u ++ bs)) (u ∷ us)
reads_more t u b bs us parted h rest =
    let first = reads_first u bs us h rest in
    record {
      tokens = tokens_by b (token_text u ++ bs) (u ∷ us) first;
      apart = λ e. apart_by b (is_sign u) (token_text u ++ bs) (u ∷ us) (parted e) first (sign_apart u bs us rest);
    }

-- a byte above `#`
above_bare : (b : ℕ) → 35 < b → is_bare b ≡ true
above_bare b above =
    and_from (is_plain b) (not (nat_eq b 35)) (ap not (ne_eqb b 10 (λ e. omega (arith, above, e))))
    (ap not (ne_eqb b 35 (λ e. omega (arith, above, e))))

pub digits_bare : (ds : List ℕ) → list_all is_digit ds ≡ true → list_all is_bare ds ≡ true
digits_bare [] h = refl
digits_bare (b ∷ ds) h =
    let parts = and_parts (is_digit b) (list_all is_digit ds) h in
    let low = leb-true 48 b (and_parts (nat_le 48 b) (nat_le b 57) parts.0).0 in
    and_from (is_bare b) (list_all is_bare ds) (above_bare b (omega (arith, low))) (digits_bare ds parts.1)

letters_bare : (w : List ℕ) → list_all is_letter w ≡ true → list_all is_bare w ≡ true
letters_bare [] h = refl
letters_bare (b ∷ w) h =
    let parts = and_parts (is_letter b) (list_all is_letter w) h in
    let low = leb-true 97 b (and_parts (nat_le 97 b) (nat_le b 122) parts.0).0 in
    and_from (is_bare b) (list_all is_bare w) (above_bare b (omega (arith, low))) (letters_bare w parts.1)

symbol_bare : (m : Symbol) → list_all is_bare (symbol_text m) ≡ true
symbol_bare symbol.Colon = refl
symbol_bare symbol.Equal = refl
symbol_bare symbol.Different = refl
symbol_bare symbol.Less = refl
symbol_bare symbol.Plus = refl
symbol_bare symbol.Comma = refl
symbol_bare symbol.OpenParenthesis = refl
symbol_bare symbol.CloseParenthesis = refl
symbol_bare symbol.OpenBracket = refl
symbol_bare symbol.CloseBracket = refl
symbol_bare symbol.At = refl
symbol_bare symbol.Star = refl

-- no line feed and no `#` stands in a token, before one, or in what is put together without one
pub token_bare : (t : Token) → IsSound t → list_all is_bare (token_text t) ≡ true
token_bare (Identifier w) h = letters_bare w h.1
token_bare (Number k) h = digits_bare (decimal k) (decimal_digits k h)
token_bare (Sign m) h = symbol_bare m

pub space_bare : (b : Bool) → list_all is_bare (space b) ≡ true
space_bare true = refl
space_bare false = refl

pub joined_bare : (xs ys : List ℕ) → list_all is_bare xs ≡ true → list_all is_bare ys ≡ true →
    list_all is_bare (xs ++ ys) ≡ true
joined_bare xs ys h g = list_all-append is_bare xs ys ∙ and_from (list_all is_bare xs) (list_all is_bare ys) h g
