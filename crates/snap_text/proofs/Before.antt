-- The tokens of a line that is put together from its end: those of a number,
-- an identifier, a space or a symbol before bytes whose tokens are known.
use Rattle.std.proofs.Common.{◌≡◌, ℕ, ◌+◌, ◌<◌, ◌^◌, Bool, true, false, not, ◌&&◌, ◌||◌, List, [], ◌∷◌, ◌++◌, length}
use Rattle.std.proofs.Common.{Option, Some, nat_eq, decimal, if◌then◌else◌, refl, ap, ◌∙◌, arith}
use Rattle.std.proofs.lemmas.Bool.{and_parts, and_from}
use Rattle.std.specs.List.{list_all}
use Rattle.snap_semantics.specs.declared.text.Symbol.{Symbol}
use Rattle.snap_semantics.specs.declared.text.Symbol.TheVariants as symbol
use Rattle.snap_semantics.specs.Layout.{symbol_text}
use Rattle.snap_semantics.specs.Token.{Token, Identifier, Number, Sign, Front, is_letter, is_digit, is_lexeme_byte}
use Rattle.snap_semantics.specs.Token.{lexeme_token, with_token, with_different, longer_lexeme, no_lexeme, front_of}
use Rattle.snap_semantics.specs.Token.{front_tokens, tokens_of, onto_line, lines_of, with_line, numbered}
use Rattle.snap_text.proofs.Decimals.{decimal_token, decimal_lexeme, decimal_some}

lexeme_byte_by : (b : ℕ) (v : Bool) (f g : Front) → v ≡ true → (if v then f else g) ≡ f
lexeme_byte_by b true f g e = refl
lexeme_byte_by b false f g e = absurd cc

-- letters and digits before what begins with none
pub lexeme_before : (lexeme bs : List ℕ) (ts : List Token) → list_all is_lexeme_byte lexeme ≡ true →
    front_of bs ≡ Some ([], ts) → front_of (lexeme ++ bs) ≡ Some (lexeme, ts)
lexeme_before [] bs ts h e = e
lexeme_before (b ∷ lexeme) bs ts h e =
    let parts = and_parts (is_lexeme_byte b) (list_all is_lexeme_byte lexeme) h in
    lexeme_byte_by b (is_lexeme_byte b) (longer_lexeme b (front_of (lexeme ++ bs))) _ parts.0
    ∙ ap (longer_lexeme b) (lexeme_before lexeme bs ts parts.1 e)

front_token : (lexeme : List ℕ) (ts : List Token) (t : Token) → 0 < length lexeme → lexeme_token lexeme ≡ Some t →
    front_tokens (let f : Front = Some (lexeme, ts) in f) ≡ Some (t ∷ ts)
front_token [] ts t some e = absurd (omega arith)
front_token (b ∷ lexeme) ts t some e = ap (λ (o : Option Token). with_token o (Some ts)) e

-- a lexeme before what begins with none is a token
pub token_before : (lexeme bs : List ℕ) (ts : List Token) (t : Token) → 0 < length lexeme →
    list_all is_lexeme_byte lexeme ≡ true → lexeme_token lexeme ≡ Some t → front_of bs ≡ Some ([], ts) →
    tokens_of (lexeme ++ bs) ≡ Some (t ∷ ts)
token_before lexeme bs ts t some h is e =
    ap front_tokens (lexeme_before lexeme bs ts h e) ∙ front_token lexeme ts t some is

pub number_before : (n : ℕ) (bs : List ℕ) (ts : List Token) → n < 2 ^ 64 → front_of bs ≡ Some ([], ts) →
    tokens_of (decimal n ++ bs) ≡ Some (Number n ∷ ts)
number_before n bs ts fits e =
    token_before (decimal n) bs ts (Number n) (decimal_some n fits) (decimal_lexeme n fits) (decimal_token n fits) e

letter_lexeme : (b c : Bool) → b ≡ true → (b || c) ≡ true
letter_lexeme true c e = refl
letter_lexeme false c e = absurd cc

letters_lexeme : (w : List ℕ) → list_all is_letter w ≡ true → list_all is_lexeme_byte w ≡ true
letters_lexeme [] h = refl
letters_lexeme (b ∷ w) h =
    let parts = and_parts (is_letter b) (list_all is_letter w) h in
    and_from (is_lexeme_byte b) (list_all is_lexeme_byte w)
    (letter_lexeme (is_letter b) (is_digit b) parts.0) (letters_lexeme w parts.1)

letters_token_by : (w : List ℕ) (b : Bool) (o : Option Token) → b ≡ true →
    (if b then Some (Identifier w) else o) ≡ Some (Identifier w)
letters_token_by w true o e = refl
letters_token_by w false o e = absurd cc

pub word_before : (w bs : List ℕ) (ts : List Token) → 0 < length w → list_all is_letter w ≡ true →
    front_of bs ≡ Some ([], ts) → tokens_of (w ++ bs) ≡ Some (Identifier w ∷ ts)
word_before w bs ts some h e =
    token_before w bs ts (Identifier w) some (letters_lexeme w h) (letters_token_by w (list_all is_letter w) _ h) e

pub space_before : (bs : List ℕ) (ts : List Token) → tokens_of bs ≡ Some ts → front_of (32 ∷ bs) ≡ Some ([], ts)
space_before bs ts e = ap no_lexeme e

pub sign_before : (m : Symbol) (bs : List ℕ) (ts : List Token) → tokens_of bs ≡ Some ts →
    front_of (symbol_text m ++ bs) ≡ Some ([], Sign m ∷ ts)
sign_before symbol.Colon bs ts e =
    ap (λ (o : Option (List Token)). no_lexeme (with_token (Some (Sign symbol.Colon)) o)) e
sign_before symbol.Equal bs ts e =
    ap (λ (o : Option (List Token)). no_lexeme (with_token (Some (Sign symbol.Equal)) o)) e
sign_before symbol.Different bs ts e =
    ap (λ (o : Option (List Token)).
    no_lexeme (with_different (front_tokens (no_lexeme (with_token (Some (Sign symbol.Equal)) o))))) e
sign_before symbol.Less bs ts e = ap (λ (o : Option (List Token)). no_lexeme (with_token (Some (Sign symbol.Less)) o)) e
sign_before symbol.Plus bs ts e = ap (λ (o : Option (List Token)). no_lexeme (with_token (Some (Sign symbol.Plus)) o)) e
sign_before symbol.Comma bs ts e =
    ap (λ (o : Option (List Token)). no_lexeme (with_token (Some (Sign symbol.Comma)) o)) e
sign_before symbol.OpenParenthesis bs ts e =
    ap (λ (o : Option (List Token)). no_lexeme (with_token (Some (Sign symbol.OpenParenthesis)) o)) e
sign_before symbol.CloseParenthesis bs ts e =
    ap (λ (o : Option (List Token)). no_lexeme (with_token (Some (Sign symbol.CloseParenthesis)) o)) e
sign_before symbol.OpenBracket bs ts e =
    ap (λ (o : Option (List Token)). no_lexeme (with_token (Some (Sign symbol.OpenBracket)) o)) e
sign_before symbol.CloseBracket bs ts e =
    ap (λ (o : Option (List Token)). no_lexeme (with_token (Some (Sign symbol.CloseBracket)) o)) e
sign_before symbol.At bs ts e = ap (λ (o : Option (List Token)). no_lexeme (with_token (Some (Sign symbol.At)) o)) e
sign_before symbol.Star bs ts e = ap (λ (o : Option (List Token)). no_lexeme (with_token (Some (Sign symbol.Star)) o)) e

-- any byte but a line feed
abbrev pub is_plain : ℕ → Bool
is_plain b = not (nat_eq b 10)

-- any byte but a line feed and `#`
abbrev pub is_bare : ℕ → Bool
is_bare b = is_plain b && not (nat_eq b 35)

pub bare_plain : (xs : List ℕ) → list_all is_bare xs ≡ true → list_all is_plain xs ≡ true
bare_plain [] h = refl
bare_plain (b ∷ xs) h =
    let parts = and_parts (is_bare b) (list_all is_bare xs) h in
    and_from (is_plain b) (list_all is_plain xs)
    (and_parts (is_plain b) (not (nat_eq b 35)) parts.0).0 (bare_plain xs parts.1)

feed_by : (b : ℕ) (bytes : List ℕ) (v : Bool) → not v ≡ true →
    (if v then [] ∷ lines_of bytes else onto_line b (lines_of bytes)) ≡ onto_line b (lines_of bytes)
feed_by b bytes true e = absurd cc
feed_by b bytes false e = refl

-- a line before others
pub line_before : (line rest : List ℕ) → list_all is_plain line ≡ true →
    lines_of (line ++ 10 ∷ rest) ≡ line ∷ lines_of rest
line_before [] rest h = refl
line_before (b ∷ line) rest h =
    let parts = and_parts (is_plain b) (list_all is_plain line) h in
    feed_by b (line ++ 10 ∷ rest) (nat_eq b 10) parts.0 ∙ ap (onto_line b) (line_before line rest parts.1)

-- the tokens of a line stand before those of the lines behind it
pub numbered_before : (k : ℕ) (line : List ℕ) (lines : List (List ℕ)) (t : Token) (ts : List Token) →
    tokens_of line ≡ Some (t ∷ ts) →
    numbered k (line ∷ lines) ≡ record { number = k; tokens = Some (t ∷ ts) } ∷ numbered (k + 1) lines
numbered_before k line lines t ts e = ap (λ (o : Option (List Token)). with_line k o (numbered (k + 1) lines)) e
