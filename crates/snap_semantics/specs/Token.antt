-- The tokens of a line of text: identifiers, numbers and symbols. Spaces may stand between any two tokens; an
-- identifier and a number, or two of one sort, have one between them. `#` begins a comment, which runs to the end of
-- the line.
use Rattle.std.specs.Prelude.{◌≡◌, ℕ, ◌+◌, ◌-◌, ◌*◌, ◌/◌, ◌^◌, ◌<◌, Bool, true, false, ◌&&◌, ◌||◌, List, [], ◌∷◌}
use Rattle.std.specs.Prelude.{length, Option, Some, None, nat_eq, nat_lt, nat_le, if◌then◌else◌}
use Rattle.std.specs.List.{list_all}
use Rattle.snap_semantics.specs.declared.text.Symbol.{Symbol}
use Rattle.snap_semantics.specs.declared.text.Symbol.TheVariants as symbol

pub data Token : Type 0 where
  Identifier : (letters : List ℕ) → Token
  Number : (value : ℕ) → Token
  Sign : (symbol : Symbol) → Token

abbrev pub is_letter : ℕ → Bool
is_letter b = nat_le 97 b && nat_le b 122

-- one or more letters
abbrev pub IsIdentifier : List ℕ → Type 0
IsIdentifier w = (0 < length w) × (list_all is_letter w ≡ true)

abbrev pub is_digit : ℕ → Bool
is_digit b = nat_le 48 b && nat_le b 57

-- a byte of an identifier or of a number
abbrev pub is_lexeme_byte : ℕ → Bool
is_lexeme_byte b = is_letter b || is_digit b

-- space, tab and carriage return
abbrev pub is_space : ℕ → Bool
is_space b = nat_eq b 32 || nat_eq b 9 || nat_eq b 13

-- the symbol that a byte alone is, where it is one
abbrev pub symbol_of : ℕ → Option Symbol
symbol_of b =
    if nat_eq b 58 then Some symbol.Colon else
    if nat_eq b 61 then Some symbol.Equal else
    if nat_eq b 60 then Some symbol.Less else
    if nat_eq b 43 then Some symbol.Plus else
    if nat_eq b 44 then Some symbol.Comma else
    if nat_eq b 40 then Some symbol.OpenParenthesis else
    if nat_eq b 41 then Some symbol.CloseParenthesis else
    if nat_eq b 91 then Some symbol.OpenBracket else
    if nat_eq b 93 then Some symbol.CloseBracket else
    if nat_eq b 64 then Some symbol.At else
    if nat_eq b 42 then Some symbol.Star else None

-- the number that digits spell behind a value, where it is one of 64 bits
abbrev pub number_of : ℕ → List ℕ → Option ℕ
number_of value [] = Some value
number_of value (b ∷ bs) =
    if is_digit b
    then (if nat_lt ((2 ^ 64 - 1 - (b - 48)) / 10) value then None else number_of (value * 10 + (b - 48)) bs)
    else None

-- zero before other digits
abbrev pub has_leading_zero : List ℕ → Bool
has_leading_zero [] = false
has_leading_zero (b ∷ []) = false
has_leading_zero (b ∷ c ∷ bs) = nat_eq b 48

abbrev pub number_token : Option ℕ → Option Token
number_token None = None
number_token (Some value) = Some (Number value)

-- a lexeme of letters is an identifier, and one of digits a number; one of both is no token
abbrev pub lexeme_token : List ℕ → Option Token
lexeme_token lexeme =
    if list_all is_letter lexeme then Some (Identifier lexeme) else
    if has_leading_zero lexeme then None else number_token (number_of 0 lexeme)

abbrev pub with_token : Option Token → Option (List Token) → Option (List Token)
with_token None ts = None
with_token (Some t) None = None
with_token (Some t) (Some ts) = Some (t ∷ ts)

-- What a front of a line is: the lexeme at its front, letters and digits side by side, which may be empty, and the
-- tokens behind it.
abbrev pub Front : Type 0
Front = Option (List ℕ × List Token)

abbrev pub lexeme_front : List ℕ → List Token → Option (List Token)
lexeme_front [] ts = Some ts
lexeme_front (b ∷ lexeme) ts = with_token (lexeme_token (b ∷ lexeme)) (Some ts)

-- the tokens of a front
abbrev pub front_tokens : Front → Option (List Token)
front_tokens None = None
front_tokens (Some r) = lexeme_front r.0 r.1

-- one byte more in the lexeme
abbrev pub longer_lexeme : ℕ → Front → Front
longer_lexeme b None = None
longer_lexeme b (Some r) = Some (b ∷ r.0, r.1)

-- the front of tokens before which there is no lexeme
abbrev pub no_lexeme : Option (List Token) → Front
no_lexeme None = None
no_lexeme (Some ts) = Some ([], ts)

-- whether the first byte is this one
abbrev pub begins_with : ℕ → List ℕ → Bool
begins_with b [] = false
begins_with b (c ∷ bs) = nat_eq b c

-- `!=` for the `=` at the front
abbrev pub with_different : Option (List Token) → Option (List Token)
with_different None = None
with_different (Some []) = None
with_different (Some (t ∷ ts)) = Some (Sign symbol.Different ∷ ts)

abbrev pub symbol_token : Option Symbol → Option Token
symbol_token None = None
symbol_token (Some m) = Some (Sign m)

-- a line from its end: each byte before what stands behind it
abbrev pub front_of : List ℕ → Front
front_of [] = Some ([], [])
front_of (b ∷ bs) =
    if is_lexeme_byte b then longer_lexeme b (front_of bs) else
    if is_space b then no_lexeme (front_tokens (front_of bs)) else
    if nat_eq b 35 then Some ([], []) else
    if nat_eq b 33
    then (if begins_with 61 bs then no_lexeme (with_different (front_tokens (front_of bs))) else None) else
    no_lexeme (with_token (symbol_token (symbol_of b)) (front_tokens (front_of bs)))

-- the tokens of a line, or none where a byte begins no token
abbrev pub tokens_of : List ℕ → Option (List Token)
tokens_of line = front_tokens (front_of line)

-- a symbol by its first byte, which no other symbol has
abbrev pub symbol_byte : Symbol → ℕ
symbol_byte symbol.Colon = 58
symbol_byte symbol.Equal = 61
symbol_byte symbol.Different = 33
symbol_byte symbol.Less = 60
symbol_byte symbol.Plus = 43
symbol_byte symbol.Comma = 44
symbol_byte symbol.OpenParenthesis = 40
symbol_byte symbol.CloseParenthesis = 41
symbol_byte symbol.OpenBracket = 91
symbol_byte symbol.CloseBracket = 93
symbol_byte symbol.At = 64
symbol_byte symbol.Star = 42

abbrev pub same_symbol : Symbol → Symbol → Bool
same_symbol a b = nat_eq (symbol_byte a) (symbol_byte b)

-- A text line with tokens: its number, from 1, and its tokens, or none where a byte begins no token.
pub record TextLine : Type 0 where
  pub number : ℕ
  pub tokens : Option (List Token)

-- a byte before the first line
abbrev pub onto_line : ℕ → List (List ℕ) → List (List ℕ)
onto_line b [] = (b ∷ []) ∷ []
onto_line b (line ∷ lines) = (b ∷ line) ∷ lines

-- the lines of a text, without their line feeds; the last line feed may be missing
abbrev pub lines_of : List ℕ → List (List ℕ)
lines_of [] = []
lines_of (b ∷ bytes) = if nat_eq b 10 then [] ∷ lines_of bytes else onto_line b (lines_of bytes)

-- a line without tokens is passed over
abbrev pub with_line : ℕ → Option (List Token) → List TextLine → List TextLine
with_line k (Some []) lines = lines
with_line k (Some (t ∷ ts)) lines = record { number = k; tokens = Some (t ∷ ts) } ∷ lines
with_line k None lines = record { number = k; tokens = None } ∷ lines

-- the lines with tokens, where the first is line k
abbrev pub numbered : ℕ → List (List ℕ) → List TextLine
numbered k [] = []
numbered k (line ∷ lines) = with_line k (tokens_of line) (numbered (k + 1) lines)

abbrev pub text_lines : List ℕ → List TextLine
text_lines text = numbered 1 (lines_of text)
