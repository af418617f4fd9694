-- The canonical text of tokens: how a line is laid out. A space stands between two tokens, but for these places: none
-- before a closing bracket, a comma, a colon or a star, none behind an opening bracket or a star, and none between an
-- identifier and an opening bracket. Behind a comma stands a space only where it parts the elements of a tuple, whose
-- bracket stands behind `=`.
use Rattle.std.specs.Prelude.{ℕ, zero, suc, Bool, true, false, List, [], ◌∷◌, ◌++◌}
use Rattle.std.specs.Prelude.{nat_eq, codes, decimal, if◌then◌else◌}
use Rattle.snap_semantics.specs.declared.text.Symbol.{Symbol}
use Rattle.snap_semantics.specs.declared.text.Symbol.TheVariants as symbol
use Rattle.snap_semantics.specs.Token.{Token, Identifier, Number, Sign}

abbrev pub symbol_text : Symbol → List ℕ
symbol_text symbol.Colon = codes ":"
symbol_text symbol.Equal = codes "="
symbol_text symbol.Different = codes "!="
symbol_text symbol.Less = codes "<"
symbol_text symbol.Plus = codes "+"
symbol_text symbol.Comma = codes ","
symbol_text symbol.OpenParenthesis = codes "("
symbol_text symbol.CloseParenthesis = codes ")"
symbol_text symbol.OpenBracket = codes "["
symbol_text symbol.CloseBracket = codes "]"
symbol_text symbol.At = codes "@"
symbol_text symbol.Star = codes "*"

-- how a token is spelled
abbrev pub token_text : Token → List ℕ
token_text (Identifier w) = w
token_text (Number k) = decimal k
token_text (Sign m) = symbol_text m

-- how deep in the brackets of a tuple the place behind a token is: 0 outside of it, and 1 between its elements
abbrev pub opened : ℕ → Token → ℕ
opened zero (Sign symbol.Equal) = 1
opened zero t = 0
opened (suc depth) t = suc (suc depth)

abbrev pub closed : ℕ → ℕ
closed zero = 0
closed (suc depth) = depth

abbrev pub depth_behind : ℕ → Token → Token → ℕ
depth_behind depth before (Sign symbol.OpenParenthesis) = opened depth before
depth_behind depth before (Sign symbol.CloseParenthesis) = closed depth
depth_behind depth before t = depth

-- whether a space may stand behind a token at this depth
abbrev pub parts_behind : ℕ → Token → Bool
parts_behind depth (Identifier w) = true
parts_behind depth (Number k) = true
parts_behind depth (Sign symbol.OpenParenthesis) = false
parts_behind depth (Sign symbol.OpenBracket) = false
parts_behind depth (Sign symbol.Star) = false
parts_behind depth (Sign symbol.Comma) = nat_eq depth 1
parts_behind depth (Sign m) = true

-- whether a space may stand before a token, behind the one before it
abbrev pub parts_before : Token → Token → Bool
parts_before (Identifier w) (Sign symbol.OpenParenthesis) = false
parts_before (Identifier w) (Sign symbol.OpenBracket) = false
parts_before t (Sign symbol.CloseParenthesis) = false
parts_before t (Sign symbol.CloseBracket) = false
parts_before t (Sign symbol.Comma) = false
parts_before t (Sign symbol.Colon) = false
parts_before t (Sign symbol.Star) = false
parts_before t u = true

abbrev pub gap : ℕ → Token → Token → List ℕ
gap depth t u = if parts_behind depth t then (if parts_before t u then codes " " else []) else []

-- the tokens behind one, at this depth, and the end of the line
abbrev pub layout : List ℕ → ℕ → Token → List Token → List ℕ
layout end depth t [] = end
layout end depth t (u ∷ us) = gap depth t u ++ (token_text u ++ layout end (depth_behind depth t u) u us)

-- a line that ends so
abbrev pub line_to : List ℕ → List Token → List ℕ
line_to end [] = end
line_to end (t ∷ ts) = token_text t ++ layout end 0 t ts

-- a line
abbrev pub line_text : List Token → List ℕ
line_text ts = line_to (codes "\n") ts

abbrev pub lines_text : List (List Token) → List ℕ
lines_text [] = []
lines_text (ts ∷ lines) = line_text ts ++ lines_text lines
