-- `BeginsWithNumbers`: a text whose first line is a number, or a number, `*`
-- and a number; and the code's `NumberLine` as a line of the definitions.
use Rattle.std.specs.Prelude.{◌≡◌, ℕ, ◌<◌, true, List, [], ◌∷◌, ◌++◌, length, Option, Some, None}
use Rattle.std.specs.List.{list_all}
use Rattle.snap_semantics.specs.declared.text.Symbol.TheVariants as symbol
use Rattle.snap_semantics.specs.Token.{Token, Number, Sign, TextLine, is_digit, lexeme_token, tokens_of, lines_of}
use Rattle.snap_text.specs.declared.lines.NumberLine.{NumberLine}

-- digits at the front spell a number, and the rest stands behind them
pub record BeginsWithNumber (bytes : List ℕ) (value : ℕ) (rest : List ℕ) : Type 0 where
  pub digits : List ℕ
  pub spelled : bytes ≡ digits ++ rest
  pub some : 0 < length digits
  pub all : list_all is_digit digits ≡ true
  pub spells : lexeme_token digits ≡ Some (Number value)

-- a number, and where there is a second one, `*` and that
abbrev pub number_tokens : ℕ → Option ℕ → List Token
number_tokens i None = Number i ∷ []
number_tokens i (Some k) = Number i ∷ Sign symbol.Star ∷ Number k ∷ []

-- the first line has these tokens, and the rest are the bytes of the lines behind it
pub record BeginsWithLine (bytes : List ℕ) (ts : List Token) (rest : List ℕ) : Type 0 where
  pub line : List ℕ
  pub lines : lines_of bytes ≡ line ∷ lines_of rest
  pub tokens : tokens_of line ≡ Some ts
  pub shorter : length rest < length bytes

abbrev pub view_numbers : NumberLine → TextLine
view_numbers line = record { number = line.number; tokens = Some (number_tokens line.first line.second) }

-- the next of the lines, where it was taken, and those behind it; else all of them are left
abbrev pub IsNextNumbers : Option NumberLine → List TextLine → List TextLine → Type 0
IsNextNumbers None old new = new ≡ old
IsNextNumbers (Some line) old new = old ≡ view_numbers line ∷ new
