-- `rows_of`: the rows of bit registers, which are stored in one list, row after row.
use Rattle.std.specs.Prelude.{◌≡◌, ℕ, zero, suc, ◌*◌, ◌≤◌, Bool, true, false, List, [], ◌∷◌, length, map, take, drop}
use Rattle.snap_words.specs.Shape.{max_count}

abbrev pub bit_number : Bool → ℕ
bit_number true = 1
bit_number false = 0

-- there are as many bits as there are places, and few of them
pub record HasBits (rows columns : ℕ) (bits : List Bool) : Type 0 where
  pub all : length bits ≡ rows * columns
  pub few_rows : rows ≤ max_count
  pub few_columns : columns ≤ max_count

-- a number of rows of this many columns
abbrev pub rows_of : ℕ → ℕ → List Bool → List (List ℕ)
rows_of zero columns bits = []
rows_of (suc rows) columns bits = map bit_number (take columns bits) ∷ rows_of rows columns (drop columns bits)
