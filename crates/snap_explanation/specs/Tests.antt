-- Tests of a token: whether it is a word, a symbol, a name or the number of a line.
use Rattle.std.specs.Prelude.{ℕ, Bool, true, false, not, List, bytes_eq}
use Rattle.snap_semantics.specs.declared.text.Symbol.{Symbol}
use Rattle.snap_semantics.specs.ListingForms.{is_reserved, is_line_number}
use Rattle.snap_semantics.specs.Token.{Token, Identifier, Number, Sign, same_symbol}

-- whether a token is this word
abbrev pub is_word : List ℕ → Token → Bool
is_word x (Identifier w) = bytes_eq w x
is_word x (Number k) = false
is_word x (Sign m) = false

-- whether a token is this symbol
abbrev pub is_symbol : Symbol → Token → Bool
is_symbol x (Identifier w) = false
is_symbol x (Number k) = false
is_symbol x (Sign m) = same_symbol m x

abbrev pub is_identifier : Token → Bool
is_identifier (Identifier w) = true
is_identifier (Number k) = false
is_identifier (Sign m) = false

-- an identifier that is not reserved
abbrev pub is_name : Token → Bool
is_name (Identifier w) = not (is_reserved w)
is_name (Number k) = false
is_name (Sign m) = false

-- the number of a line
abbrev pub is_line : Token → Bool
is_line (Identifier w) = false
is_line (Number k) = is_line_number k
is_line (Sign m) = false
