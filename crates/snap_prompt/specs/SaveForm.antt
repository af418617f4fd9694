-- `saving_of`: the file that a line at the debugger's prompt names behind `save` or `save!`.
use Rattle.std.specs.Prelude.{ℕ, List, [], ◌∷◌, Bool, true, false, not, ◌&&◌, ◌||◌, Option, Some, None, codes, bytes_eq}
use Rattle.std.specs.Prelude.{drop, length, nat_eq, nat_le, take, if◌then◌else◌}
use Rattle.std.specs.List.{list_any}
use Rattle.std.specs.Io.BufRead.{strip_last}
use Rattle.snap_semantics.specs.Rules.{◌>>=◌}

-- what stands behind a word, where a line begins with it
abbrev pub behind : (word line : List ℕ) → Option (List ℕ)
behind word line =
    if nat_le (length word) (length line) && bytes_eq (take (length word) line) word then Some (drop (length word) line)
    else None

-- a byte stands in no name of a file: a space and what is below it, and the `#` of a comment
abbrev pub ends_name : ℕ → Bool
ends_name b = nat_le b 32 || nat_eq b 35

abbrev pub is_file_name : List ℕ → Bool
is_file_name [] = false
is_file_name (b ∷ bs) = not (list_any ends_name (b ∷ bs))

-- the file that a line names behind a word
abbrev pub file_named : (word line : List ℕ) → Option (List ℕ)
file_named word line = behind word line >>= λ name. if is_file_name name then Some name else None

abbrev pub saved_or_replaced : Option (List ℕ) → Option (List ℕ) → Option (List ℕ × Bool)
saved_or_replaced (Some name) replaced = Some (name, false)
saved_or_replaced None (Some name) = Some (name, true)
saved_or_replaced None None = None

-- The file that a line names behind `save` or `save!`, and whether what is there under that name is replaced, as behind
-- `save!`.
abbrev pub saving_of : List ℕ → Option (List ℕ × Bool)
saving_of line =
    saved_or_replaced (file_named (codes "save ") (strip_last 10 line)) (file_named (codes "save! ") (strip_last 10 line))
