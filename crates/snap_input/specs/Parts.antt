-- `parts_of`: the parts of an input, split at the lines that are `%` alone.
use Rattle.std.specs.Prelude.{ℕ, ◌||◌, Bool, nat_eq, List, [], ◌∷◌, ◌++◌, bytes_eq}
use Rattle.std.specs.Prelude.{codes, slice_index_or, if◌then◌else◌}
use Rattle.snap_semantics.specs.Token.{onto_line}

-- the most bytes of an input
abbrev pub max_input : ℕ
max_input = 16777216

-- the lines of an input, each with its line feed, which the last may lack
abbrev pub full_lines : List ℕ → List (List ℕ)
full_lines [] = []
full_lines (b ∷ bytes) = if nat_eq b 10 then (b ∷ []) ∷ full_lines bytes else onto_line b (full_lines bytes)

-- `%` alone; one carriage return may stand behind it, and the line feed may be missing
abbrev pub ends_part : List ℕ → Bool
ends_part line =
    bytes_eq line (codes "%\n")
    || (bytes_eq line (codes "%\r\n") || (bytes_eq line (codes "%") || bytes_eq line (codes "%\r")))

-- bytes before the first part
abbrev pub onto_part : List ℕ → List (List ℕ) → List (List ℕ)
onto_part bytes [] = bytes ∷ []
onto_part bytes (part ∷ parts) = (bytes ++ part) ∷ parts

abbrev pub parts_of_lines : List (List ℕ) → List (List ℕ)
parts_of_lines [] = [] ∷ []
parts_of_lines (line ∷ lines) =
    if ends_part line then [] ∷ parts_of_lines lines else onto_part line (parts_of_lines lines)

-- the parts of an input: one more than it has lines that end a part
abbrev pub parts_of : List ℕ → List (List ℕ)
parts_of input = parts_of_lines (full_lines input)

-- part k, from 0
abbrev pub part : ℕ → List (List ℕ) → List ℕ
part k parts = slice_index_or parts k []
