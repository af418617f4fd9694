-- Bytes of an input as an explanation shows them; and `rows`: a table of its wording.
use Rattle.std.specs.Prelude.{ℕ, ◌&&◌, ◌||◌, List, [], ◌∷◌, ◌++◌, map, nat_eq, nat_le, bytes_eq}
use Rattle.std.specs.Prelude.{nat_lt, length, take, if◌then◌else◌}
use Rattle.std.specs.Borrow.{Bor}
use Rattle.snap_explanation.specs.declared.wording.TheConstants.{CUT}

-- a byte as it is shown: a character of ASCII, a space for a tab or a carriage return, else `?`
abbrev pub shown_byte : ℕ → ℕ
shown_byte b = if nat_le 32 b && nat_le b 126 then b else if nat_eq b 9 || nat_eq b 13 then 32 else 63

abbrev pub shown : List ℕ → List ℕ
shown bytes = map shown_byte bytes

-- a piece of a line as it is shown: its first 40 bytes, and a sign where there are more
abbrev pub said_cut : List ℕ → List ℕ
said_cut x = shown (take 40 x) ++ (if nat_lt 40 (length x) then CUT.now else [])

-- a table of pieces of a line, and what is said at each
abbrev pub rows : List (record { now : List ℕ } × record { now : List ℕ }) → List (List ℕ × List ℕ)
rows table = map (λ r. (r.0.now, r.1.now)) table

-- a table of ranges of bytes, by their ends, and what is said of a byte in each
abbrev pub ranges : List (ℕ × ℕ × record { now : List ℕ }) → List (ℕ × ℕ × List ℕ)
ranges table = map (λ r. (r.0, r.1, r.2.now)) table

abbrev pub view_row : Bor (List ℕ) × Bor (List ℕ) → List ℕ × List ℕ
view_row r = (r.0.now, r.1.now)

abbrev pub view_range : ℕ × ℕ × Bor (List ℕ) → ℕ × ℕ × List ℕ
view_range r = (r.0, r.1, r.2.now)

-- what is said in the first row of a piece, or else this
abbrev pub by_word : List (List ℕ × List ℕ) → (otherwise : List ℕ) → List ℕ → List ℕ
by_word [] otherwise x = otherwise
by_word (r ∷ rs) otherwise x = if bytes_eq r.0 x then r.1 else by_word rs otherwise x

-- what is said in the first range with a byte
abbrev pub by_byte : List (ℕ × ℕ × List ℕ) → ℕ → List ℕ
by_byte [] b = []
by_byte (r ∷ rs) b = if nat_le r.0 b && nat_le b r.1 then r.2 else by_byte rs b
