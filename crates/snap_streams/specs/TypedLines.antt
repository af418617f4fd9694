-- `typed_lines`: the lines of an input at a console, as a dialog reads and keeps them one by one.
use Rattle.std.specs.Prelude.{◌≡◌, ℕ, suc, List, [], ◌∷◌, ◌++◌, length, take, map, Option}
use Rattle.std.specs.Prelude.{None, Some, ◌==◌, nat_le, if◌then◌else◌, ⊤}

-- a byte at the front of the first line
abbrev pub onto_first : ℕ → List (List ℕ) → List (List ℕ)
onto_first b [] = (b ∷ []) ∷ []
onto_first b (line ∷ lines) = (b ∷ line) ∷ lines

-- the lines of an input, each with the line feed that ends it, which only the last one may lack
abbrev pub whole_lines : List ℕ → List (List ℕ)
whole_lines [] = []
whole_lines (b ∷ bs) = if b == 10 then (b ∷ []) ∷ whole_lines bs else onto_first b (whole_lines bs)

-- the most bytes of a line
abbrev pub max_line : ℕ
max_line = 1048576

-- what is kept of a line: one byte more than a line may have, so that a line that is too long is seen to be so
abbrev pub kept : List ℕ → List ℕ
kept line = take (suc max_line) line

-- the lines of an input, as they are kept
abbrev pub typed_lines : List ℕ → List (List ℕ)
typed_lines input = map kept (whole_lines input)

-- what is kept of a line with one byte more
abbrev pub with_byte : List ℕ → ℕ → List ℕ
with_byte line b = if nat_le (length line) max_line then line ++ b ∷ [] else line

-- the next byte was taken, or there was none; where the bytes are known
abbrev pub GivesNext : Option ℕ → Option (List ℕ) → Option (List ℕ) → Type 0
GivesNext next None new = ⊤
GivesNext None (Some xs) new = (xs ≡ []) × (new ≡ Some [])
GivesNext (Some b) (Some xs) new = (rest : List ℕ) × (xs ≡ b ∷ rest) × (new ≡ Some rest)
