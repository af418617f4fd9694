-- `StaysLost`: where a line of an input is lost at a token, so is each line that begins with the tokens up to that
-- one.
use Rattle.std.specs.Prelude.{◌≡◌, List, ◌∷◌, ◌++◌, length, Some}
use Rattle.snap_semantics.specs.Token.{Token}
use Rattle.snap_explanation.specs.declared.line_sorts.LineSort.{LineSort}
use Rattle.snap_explanation.specs.Lost.{Place, lost_in}

-- where a line is lost at a token, so is each line that begins with the tokens up to it, at the same place
abbrev pub StaysLost : Type 0
StaysLost = (sort : LineSort) (front : List Token) (t : Token) (rest more : List Token) (p : Place) →
    lost_in sort (front ++ t ∷ rest) ≡ Some p → p.before ≡ length front → lost_in sort (front ++ t ∷ more) ≡ Some p
