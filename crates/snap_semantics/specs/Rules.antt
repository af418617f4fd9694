-- How the rules of the grammars of listings and schedules are built: a rule finds
-- a value at the front of the tokens of a line, or nothing where it does not fit.
use Rattle.std.specs.Prelude.{ℕ, List, [], ◌∷◌, Option, Some, None, Result, Ok, Err, bytes_eq, if◌then◌else◌}
use Rattle.snap_semantics.specs.declared.text.Symbol.{Symbol}
use Rattle.snap_semantics.specs.Token.{Token, Identifier, Number, Sign, same_symbol}

-- the next rule behind the first one
infixl 10 ◌>>=◌
abbrev pub ◌>>=◌ : {A B : Type 0} → Option A → (A → Option B) → Option B
None >>= f = None
(Some x) >>= f = f x

-- the first of two rules that fits
abbrev pub or_else : {A : Type 0} → Option A → Option A → Option A
or_else None o = o
or_else (Some x) o = Some x

-- a value, and the tokens behind what spells it
abbrev pub Found : Type 0 → Type 0
Found A = Option (A × List Token)

-- what a rule finds in a line, or why it does not fit
abbrev pub found_or : {A E : Type 0} → E → Option A → Result A E
found_or e None = Err e
found_or e (Some x) = Ok x

-- the form of a line; a byte that begins no token fits none
abbrev pub form_or : {A E : Type 0} → E → (List Token → Option A) → Option (List Token) → Result A E
form_or e rule None = Err e
form_or e rule (Some ts) = found_or e (rule ts)

-- any number
abbrev pub number_at : List Token → Found ℕ
number_at [] = None
number_at (Number k ∷ ts) = Some (k, ts)
number_at (Identifier w ∷ ts) = None
number_at (Sign m ∷ ts) = None

-- any identifier
abbrev pub identifier_at : List Token → Found (List ℕ)
identifier_at [] = None
identifier_at (Number k ∷ ts) = None
identifier_at (Identifier w ∷ ts) = Some (w, ts)
identifier_at (Sign m ∷ ts) = None

-- the tokens behind a keyword, if they begin with it
abbrev pub keyword_at : List ℕ → List Token → Option (List Token)
keyword_at x [] = None
keyword_at x (Number k ∷ ts) = None
keyword_at x (Identifier w ∷ ts) = if bytes_eq w x then Some ts else None
keyword_at x (Sign m ∷ ts) = None

-- the tokens behind a symbol, if they begin with it
abbrev pub symbol_at : Symbol → List Token → Option (List Token)
symbol_at x [] = None
symbol_at x (Number k ∷ ts) = None
symbol_at x (Identifier w ∷ ts) = None
symbol_at x (Sign m ∷ ts) = if same_symbol m x then Some ts else None

-- nothing more
abbrev pub end_at : List Token → Option (Unit {0})
end_at [] = Some tt
end_at (t ∷ ts) = None
