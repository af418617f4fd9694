-- The tokens of a line with their columns, from 1, which count bytes; and the first column at which no token begins.
use Rattle.std.specs.Prelude.{ℕ, ◌+◌, Bool, false, ◌&&◌, ◌||◌, nat_eq, List, [], ◌∷◌, ◌++◌}
use Rattle.std.specs.Prelude.{length, Option, Some, None, if◌then◌else◌}
use Rattle.snap_text.specs.Tokens.{lexeme_len}
use Rattle.snap_semantics.specs.Token.{Token, begins_with, is_lexeme_byte, tokens_of}

-- whether the first byte is a letter or a digit
abbrev pub begins_lexeme : List ℕ → Bool
begins_lexeme [] = false
begins_lexeme (b ∷ bs) = is_lexeme_byte b

-- whether a byte and a piece behind it are one piece: a lexeme, or `!=`
abbrev pub is_joined : ℕ → List ℕ → Bool
is_joined b piece = (is_lexeme_byte b && begins_lexeme piece) || (nat_eq b 33 && begins_with 61 piece)

abbrev pub onto_piece : ℕ → List (List ℕ) → List (List ℕ)
onto_piece b [] = (b ∷ []) ∷ []
onto_piece b (piece ∷ pieces) = if is_joined b piece then (b ∷ piece) ∷ pieces else (b ∷ []) ∷ piece ∷ pieces

-- the pieces of a line before its comment: letters and digits side by side, `!=`, and each other byte alone
abbrev pub pieces_of : List ℕ → List (List ℕ)
pieces_of [] = []
pieces_of (b ∷ bs) = if nat_eq b 35 then [] else onto_piece b (pieces_of bs)

-- the length of the first piece of a line that no comment begins
abbrev pub piece_len : List ℕ → ℕ
piece_len [] = 0
piece_len (b ∷ bs) = if is_lexeme_byte b then lexeme_len bs + 1 else if nat_eq b 33 && begins_with 61 bs then 2 else 1

-- a token, and the column of its first byte
pub record PlacedToken : Type 0 where
  pub column : ℕ
  pub token : Token

-- the tokens of a line before the first byte that begins none, and the column of that byte, where there is one
pub record PlacedTokens : Type 0 where
  pub tokens : List PlacedToken
  pub stray : Option ℕ

-- the first token of a piece, which has no more, in its column
abbrev pub first_placed : (column : ℕ) → List Token → List PlacedToken
first_placed column [] = []
first_placed column (t ∷ ts) = record { column = column; token = t } ∷ []

-- the token of a piece before others; a piece that is no token ends them
abbrev pub onto_placed : (column : ℕ) → Option (List Token) → PlacedTokens → PlacedTokens
onto_placed column None placed = record { tokens = []; stray = Some column }
onto_placed column (Some ts) placed = record { tokens = first_placed column ts ++ placed.tokens; stray = placed.stray }

-- the tokens of pieces, the first of which stands in this column
abbrev pub placed_from : (column : ℕ) → List (List ℕ) → PlacedTokens
placed_from column [] = record { tokens = []; stray = None }
placed_from column (piece ∷ pieces) = onto_placed column (tokens_of piece) (placed_from (column + length piece) pieces)

abbrev pub placed_of : List ℕ → PlacedTokens
placed_of line = placed_from 1 (pieces_of line)
