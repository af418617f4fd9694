-- The tokens that are read from a text can stand in one (`IsSound`):
-- they are identifiers, numbers of 64 bits, and symbols.
use Rattle.std.proofs.Common.{◌≡◌, ℕ, ◌+◌, ◌-◌, ◌*◌, ◌/◌, ◌^◌, ◌<◌, Bool, true, false, List, [], ◌∷◌, length, Option}
use Rattle.std.proofs.Common.{Some, None, nat_eq, nat_le, nat_lt, if◌then◌else◌, refl, arith}
use Rattle.std.proofs.lemmas.Bool.{leb-true, ltb-false, and_parts}
use Rattle.std.specs.List.{AllByRecursion, list_all}
use Rattle.snap_semantics.specs.declared.text.Symbol.{Symbol}
use Rattle.snap_semantics.specs.Token.{Token, Identifier, Front, TextLine, is_letter, is_digit, is_lexeme_byte}
use Rattle.snap_semantics.specs.Token.{is_space, symbol_of, symbol_token, number_of, number_token, has_leading_zero}
use Rattle.snap_semantics.specs.Token.{lexeme_token, with_token, with_different, begins_with, lexeme_front}
use Rattle.snap_semantics.specs.Token.{longer_lexeme, no_lexeme, front_of, front_tokens, tokens_of, lines_of}
use Rattle.snap_semantics.specs.Token.{with_line, numbered, text_lines}
use Rattle.snap_text.specs.Tokens.{IsSound}

abbrev pub AreSound : Option (List Token) → Type 0
AreSound None = Unit {0}
AreSound (Some ts) = AllByRecursion IsSound ts

abbrev IsSoundFront : Front → Type 0
IsSoundFront None = Unit {0}
IsSoundFront (Some r) = AllByRecursion IsSound r.1

abbrev FitsNumber : Option ℕ → Type 0
FitsNumber None = Unit {0}
FitsNumber (Some k) = k < 2 ^ 64

abbrev IsSoundOne : Option Token → Type 0
IsSoundOne None = Unit {0}
IsSoundOne (Some t) = IsSound t

digit_fits : (value b : ℕ) → is_digit b ≡ true → nat_lt ((2 ^ 64 - 1 - (b - 48)) / 10) value ≡ false →
    value * 10 + (b - 48) < 2 ^ 64
digit_fits value b digit room =
    let small = leb-true b 57 (and_parts (nat_le 48 b) (nat_le b 57) digit).1 in
    let within = ltb-false ((2 ^ 64 - 1 - (b - 48)) / 10) value room in
    omega (arith, small, within)

number_by : (value b : ℕ) (d c : Bool) (o : Option ℕ) → is_digit b ≡ d →
    nat_lt ((2 ^ 64 - 1 - (b - 48)) / 10) value ≡ c → (value * 10 + (b - 48) < 2 ^ 64 → FitsNumber o) →
    FitsNumber (if d then (if c then None else o) else None)
number_by value b true true o digit room rest = tt
number_by value b true false o digit room rest = rest (digit_fits value b digit room)
number_by value b false c o digit room rest = tt

number_fits : (value : ℕ) (ds : List ℕ) → value < 2 ^ 64 → FitsNumber (number_of value ds)
number_fits value [] fits = fits
number_fits value (b ∷ ds) fits =
    number_by value b (is_digit b) (nat_lt ((2 ^ 64 - 1 - (b - 48)) / 10) value)
    (number_of (value * 10 + (b - 48)) ds) refl refl (λ h. number_fits (value * 10 + (b - 48)) ds h)

number_token_sound : (o : Option ℕ) → FitsNumber o → IsSoundOne (number_token o)
number_token_sound None h = tt
number_token_sound (Some k) h = h

lexeme_by : (lexeme : List ℕ) (l z : Bool) (o : Option Token) → 0 < length lexeme → list_all is_letter lexeme ≡ l →
    IsSoundOne o → IsSoundOne (if l then Some (Identifier lexeme) else if z then None else o)
lexeme_by lexeme true z o some letters h = (some, letters)
lexeme_by lexeme false true o some letters h = tt
lexeme_by lexeme false false o some letters h = h

lexeme_sound : (lexeme : List ℕ) → 0 < length lexeme → IsSoundOne (lexeme_token lexeme)
lexeme_sound lexeme some =
    lexeme_by lexeme (list_all is_letter lexeme) (has_leading_zero lexeme) (number_token (number_of 0 lexeme)) some refl
    (number_token_sound (number_of 0 lexeme) (number_fits 0 lexeme (omega arith)))

with_sound : (o : Option Token) (ts : Option (List Token)) → IsSoundOne o → AreSound ts → AreSound (with_token o ts)
with_sound None ts h g = tt
with_sound (Some t) None h g = tt
with_sound (Some t) (Some ts) h g = (h, g)

lexeme_front_sound : (lexeme : List ℕ) (ts : List Token) → AllByRecursion IsSound ts → AreSound (lexeme_front lexeme ts)
lexeme_front_sound [] ts h = h
lexeme_front_sound (b ∷ lexeme) ts h =
    with_sound (lexeme_token (b ∷ lexeme)) (Some ts) (lexeme_sound (b ∷ lexeme) (omega arith)) h

front_tokens_sound : (f : Front) → IsSoundFront f → AreSound (front_tokens f)
front_tokens_sound None h = tt
front_tokens_sound (Some r) h = lexeme_front_sound r.0 r.1 h

longer_sound : (b : ℕ) (f : Front) → IsSoundFront f → IsSoundFront (longer_lexeme b f)
longer_sound b None h = tt
longer_sound b (Some r) h = h

no_lexeme_sound : (o : Option (List Token)) → AreSound o → IsSoundFront (no_lexeme o)
no_lexeme_sound None h = tt
no_lexeme_sound (Some ts) h = h

different_sound : (o : Option (List Token)) → AreSound o → AreSound (with_different o)
different_sound None h = tt
different_sound (Some []) h = tt
different_sound (Some (t ∷ ts)) h = (tt, h.1)

symbol_sound : (o : Option Symbol) → IsSoundOne (symbol_token o)
symbol_sound None = tt
symbol_sound (Some m) = tt

front_by : (r s c d e : Bool) (x y z w : Front) → IsSoundFront x → IsSoundFront y → IsSoundFront z → IsSoundFront w →
    IsSoundFront (if r then x else if s then y else if c then Some ([], [])
    else if d then (if e then z else None) else w)
front_by true s c d e x y z w hx hy hz hw = hx
front_by false true c d e x y z w hx hy hz hw = hy
front_by false false true d e x y z w hx hy hz hw = tt
front_by false false false true true x y z w hx hy hz hw = hz
front_by false false false true false x y z w hx hy hz hw = tt
front_by false false false false e x y z w hx hy hz hw = hw

front_sound : (bs : List ℕ) → IsSoundFront (front_of bs)
front_sound [] = tt
front_sound (b ∷ bs) =
    let rest = front_sound bs in
    let tokens = front_tokens_sound (front_of bs) rest in
    front_by (is_lexeme_byte b) (is_space b) (nat_eq b 35) (nat_eq b 33) (begins_with 61 bs)
    (longer_lexeme b (front_of bs)) (no_lexeme (tokens_of bs)) (no_lexeme (with_different (tokens_of bs)))
    (no_lexeme (with_token (symbol_token (symbol_of b)) (tokens_of bs)))
    (longer_sound b (front_of bs) rest) (no_lexeme_sound (tokens_of bs) tokens)
    (no_lexeme_sound (with_different (tokens_of bs)) (different_sound (tokens_of bs) tokens))
    (no_lexeme_sound (with_token (symbol_token (symbol_of b)) (tokens_of bs))
    (with_sound (symbol_token (symbol_of b)) (tokens_of bs) (symbol_sound (symbol_of b)) tokens))

-- the tokens of a line are sound
pub tokens_sound : (bs : List ℕ) → AreSound (tokens_of bs)
tokens_sound bs = front_tokens_sound (front_of bs) (front_sound bs)

line_sound : (k : ℕ) (o : Option (List Token)) (lines : List TextLine) → AreSound o →
    AllByRecursion (λ line. AreSound line.tokens) lines →
    AllByRecursion (λ line. AreSound line.tokens) (with_line k o lines)
line_sound k None lines h g = (tt, g)
line_sound k (Some []) lines h g = g
line_sound k (Some (t ∷ ts)) lines h g = (h, g)

numbered_sound : (k : ℕ) (lines : List (List ℕ)) → AllByRecursion (λ line. AreSound line.tokens) (numbered k lines)
numbered_sound k [] = tt
numbered_sound k (line ∷ lines) =
    line_sound k (tokens_of line) (numbered (k + 1) lines) (tokens_sound line) (numbered_sound (k + 1) lines)

-- the tokens of a text are sound
pub lines_sound : (text : List ℕ) → AllByRecursion (λ line. AreSound line.tokens) (text_lines text)
lines_sound text = numbered_sound 1 (lines_of text)
