-- The code's `Token` as a token of the definitions, which tokens
-- can stand in a text, and what a rule of the code finds (`Finds`).
use Rattle.std.specs.Prelude.{◌≡◌, ℕ, ◌+◌, ◌^◌, ◌<◌, Bool, true, false, List, [], ◌∷◌, map}
use Rattle.std.specs.Prelude.{Option, Some, None, nat_eq, if◌then◌else◌}
use Rattle.snap_semantics.specs.declared.text.Symbol.{Symbol}
use Rattle.snap_semantics.specs.declared.text.Symbol.TheVariants as symbol
use Rattle.snap_semantics.specs.Token.{Token, Identifier, Number, Sign, IsIdentifier, is_lexeme_byte, symbol_of}
use Rattle.snap_text.specs.declared.lexer.Token as code
use Rattle.snap_text.specs.declared.lexer.Token.TheVariants as given

abbrev pub view_token : code.Token → Token
view_token (given.Identifier w) = Identifier w.now
view_token (given.Number k) = Number k
view_token (given.Sign m) = Sign m

abbrev pub view_tokens : List code.Token → List Token
view_tokens ts = map view_token ts

-- a token that can stand in a text: an identifier of one or more letters, a number of 64 bits, or a symbol
abbrev pub IsSound : Token → Type 0
IsSound (Identifier w) = IsIdentifier w
IsSound (Number k) = k < 2 ^ 64
IsSound (Sign m) = Unit {0}

-- What a rule found, seen by `view`, is what the definition finds. It goes by cases on what was found, so that a rule
-- that is made of others by `?` follows from theirs once it is unfolded: no proof file is needed.
abbrev pub Finds : {X Y : Type 0} → (X → Y) → Option X → Option Y → Type 0
Finds view None found = found ≡ None
Finds view (Some x) found = found ≡ Some (view x)

-- how many letters and digits stand at the front
abbrev pub lexeme_len : List ℕ → ℕ
lexeme_len [] = 0
lexeme_len (b ∷ bs) = if is_lexeme_byte b then lexeme_len bs + 1 else 0

abbrev pub marked : List ℕ → Option Symbol → Option (Symbol × List ℕ)
marked bs None = None
marked bs (Some m) = Some (m, bs)

abbrev pub different : List ℕ → Option (Symbol × List ℕ)
different [] = None
different (b ∷ bs) = if nat_eq b 61 then Some (symbol.Different, bs) else None

-- the symbol at the front, and what stands behind it
abbrev pub front_symbol : List ℕ → Option (Symbol × List ℕ)
front_symbol [] = None
front_symbol (b ∷ bs) = if nat_eq b 33 then different bs else marked bs (symbol_of b)

abbrev pub is_some_token : List Token → Bool
is_some_token [] = false
is_some_token (t ∷ ts) = true

-- whether a line is more than space
abbrev pub has_tokens : Option (List Token) → Bool
has_tokens None = true
has_tokens (Some ts) = is_some_token ts
