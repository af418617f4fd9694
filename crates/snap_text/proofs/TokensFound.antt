-- What the rules of tokens find is what stands there: a number, a keyword, the end of a line.
use Rattle.std.proofs.Common.{◌≡◌, ℕ, Bool, true, false, List, [], ◌∷◌, Option, Some, None, bytes_eq, if◌then◌else◌}
use Rattle.std.proofs.Common.{refl, sym, ap}
use Rattle.std.specs.Cmp.Lexicographic.{same_text}
use Rattle.snap_semantics.specs.Rules.{◌>>=◌, Found, number_at, keyword_at, end_at}
use Rattle.snap_semantics.specs.Token.{Token, Identifier, Number, Sign}

-- what was found first, and what was found behind it
pub bind_found : {A B : Type 0} (o : Option A) (f : A → Option B) (y : B) → (o >>= f) ≡ Some y →
    (x : A) × (o ≡ Some x) × (f x ≡ Some y)
bind_found (Some x) f y e = (x, refl, e)
bind_found None f y e = absurd cc

-- what is spelled behind a number
abbrev number_back : Found ℕ → List Token
number_back (Some x) = Number x.0 ∷ x.1
number_back None = []

pub number_found : (ts : List Token) (x : ℕ × List Token) → number_at ts ≡ Some x → ts ≡ Number x.0 ∷ x.1
number_found [] x e = absurd cc
number_found (Number k ∷ ts) x e = ap number_back e
number_found (Identifier w ∷ ts) x e = absurd cc
number_found (Sign m ∷ ts) x e = absurd cc

pub end_found : (ts : List Token) (x : Unit {0}) → end_at ts ≡ Some x → ts ≡ []
end_found [] x e = refl
end_found (t ∷ ts) x e = absurd cc

keyword_by : (w x : List ℕ) (ts us : List Token) (b : Bool) → bytes_eq w x ≡ b →
    (let r : Option (List Token) = if b then Some ts else None in r) ≡ Some us → Identifier w ∷ ts ≡ Identifier x ∷ us
keyword_by w x ts us true s e = let p : w ≡ x = same_text w x (sym s) in let q : ts ≡ us = cc in cc
keyword_by w x ts us false s e = absurd cc

pub keyword_found : (x : List ℕ) (ts us : List Token) → keyword_at x ts ≡ Some us → ts ≡ Identifier x ∷ us
keyword_found x [] us e = absurd cc
keyword_found x (Number k ∷ ts) us e = absurd cc
keyword_found x (Identifier w ∷ ts) us e = keyword_by w x ts us (bytes_eq w x) refl e
keyword_found x (Sign m ∷ ts) us e = absurd cc
