-- `stays`: a line that is lost at a token is lost there, whatever follows the token.
use Rattle.std.proofs.Common.{◌≡◌, ℕ, ◌+◌, ◌≤◌, List, [], ◌∷◌, ◌++◌, length, Option, Some}
use Rattle.std.proofs.Common.{arith}
use Rattle.snap_semantics.specs.Token.{Token}
use Rattle.snap_explanation.specs.Lost.{Place, Wanted, lost, lost_at, step}

-- a place is not before the first token
lost_above : (ts : List Token) (k : ℕ) (ws : Wanted) (p : Place) → lost k ws ts ≡ Some p → k ≤ p.before
lost_above [] k ws p e = grind arith
lost_above (t ∷ ts) k ws p e = grind (arith, lost_above ts (k + 1))

here : (k : ℕ) (ws : Wanted) (rest more : List Token) (p : Place) (o : Option Wanted) → p.before ≡ k →
    lost_at k ws (λ next. lost (k + 1) next rest) o ≡ Some p → lost_at k ws (λ next. lost (k + 1) next more) o ≡ Some p
here k ws rest more p o f e = grind (arith, lost_above rest (k + 1))

later : (k n : ℕ) (ws : Wanted) (rest more : List Token) (p : Place) (o : Option Wanted) → p.before
    ≡ k + (n + 1) → ((next : Wanted) → lost (k + 1) next rest ≡ Some p → lost (k + 1) next more ≡ Some p) →
    lost_at k ws (λ next. lost (k + 1) next rest) o ≡ Some p →
    lost_at k ws (λ next. lost (k + 1) next more) o ≡ Some p
later k n ws rest more p o f ih e = grind arith

pub stays : (front : List Token) (t : Token) (rest more : List Token) (k : ℕ) (ws : Wanted) (p : Place) →
    lost k ws (front ++ t ∷ rest) ≡ Some p → p.before ≡ k + length front → lost k ws (front ++ t ∷ more) ≡ Some p
stays [] t rest more k ws p e f = here k ws rest more p (step ws.places t ws.parts) (omega (arith, f)) e
stays (x ∷ front) t rest more k ws p e f =
    later k (length front) ws (front ++ t ∷ rest) (front ++ t ∷ more) p (step ws.places x ws.parts) (omega (arith, f))
    (λ next g. stays front t rest more (k + 1) next p g (omega (arith, f))) e
