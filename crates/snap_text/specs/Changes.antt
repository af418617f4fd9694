-- What changed from one text to another, line by line: a line is told from others by its place.
use Rattle.std.specs.Prelude.{ℕ, ◌+◌, List, [], ◌∷◌, ◌++◌, take, drop, codes, bytes_eq, if◌then◌else◌}

-- what happened at a place, counted from 0: another line stands there, a line stands there now, or none does any more
pub data Change : Type 0 where
  Replaced : (place : ℕ) (before after : List ℕ) → Change
  Added : (place : ℕ) (after : List ℕ) → Change
  Removed : (place : ℕ) (before : List ℕ) → Change

-- lines that stand behind all others, the first of them at place k
abbrev pub added_from : ℕ → List (List ℕ) → List Change
added_from k [] = []
added_from k (y ∷ ys) = Added k y ∷ added_from (k + 1) ys

-- lines that stood behind all others
abbrev pub removed_from : ℕ → List (List ℕ) → List Change
removed_from k [] = []
removed_from k (x ∷ xs) = Removed k x ∷ removed_from (k + 1) xs

-- the lines behind the first one
abbrev pub behind_first : List (List ℕ) → List (List ℕ)
behind_first [] = []
behind_first (x ∷ xs) = xs

-- what changed from the first lines to the second ones, which begin at place k
abbrev pub changes_from : ℕ → List (List ℕ) → List (List ℕ) → List Change
changes_from k [] ys = added_from k ys
changes_from k (x ∷ xs) [] = removed_from k (x ∷ xs)
changes_from k (x ∷ xs) (y ∷ ys) =
    if bytes_eq x y then changes_from (k + 1) xs ys else Replaced k x y ∷ changes_from (k + 1) xs ys

abbrev pub changes_between : List (List ℕ) → List (List ℕ) → List Change
changes_between xs ys = changes_from 0 xs ys

-- the lines after a change
abbrev pub put : Change → List (List ℕ) → List (List ℕ)
put (Replaced k x y) lines = take k lines ++ y ∷ drop (k + 1) lines
put (Added k y) lines = lines ++ y ∷ []
put (Removed k x) lines = take k lines

-- what several changes make, one after the other
abbrev pub put_all : List Change → List (List ℕ) → List (List ℕ)
put_all [] lines = lines
put_all (c ∷ cs) lines = put_all cs (put c lines)

-- a line behind a mark
abbrev pub line_with : List ℕ → List ℕ → List ℕ
line_with mark line = mark ++ line ++ codes "\n"

-- the line that went, and the line that came
abbrev pub change_text : Change → List ℕ
change_text (Replaced k x y) = line_with (codes "- ") x ++ line_with (codes "+ ") y
change_text (Added k y) = line_with (codes "+ ") y
change_text (Removed k x) = line_with (codes "- ") x

abbrev pub changes_text : List Change → List ℕ
changes_text [] = []
changes_text (c ∷ cs) = change_text c ++ changes_text cs

-- the text of what changed between these lines
abbrev pub text_between : List (List ℕ) → List (List ℕ) → List ℕ
text_between xs ys = changes_text (changes_between xs ys)

-- the text of one place, where nothing is said of a line that stayed
abbrev pub replaced_text : List ℕ → List ℕ → List ℕ
replaced_text x y = if bytes_eq x y then [] else line_with (codes "- ") x ++ line_with (codes "+ ") y
