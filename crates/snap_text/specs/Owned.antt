-- `owned_text`: the lines of a text, as of a report, each indented one with its owner, the first two words of the last
-- line above it that is not indented.
use Rattle.std.specs.Prelude.{ℕ, ◌+◌, List, [], ◌∷◌, ◌++◌, take, drop, codes, if◌then◌else◌, ◌==◌}

-- how many bytes stand before the first space
abbrev pub word_len : List ℕ → ℕ
word_len [] = 0
word_len (b ∷ bs) = if b == 32 then 0 else word_len bs + 1

-- the first two words of a line
abbrev pub two_words : List ℕ → List ℕ
two_words line = take (word_len line + 1 + word_len (drop (word_len line + 1) line)) line

-- the owner of the indented lines that follow a line: the line itself, or its owner where it is indented too
abbrev pub next_owner : List ℕ → List ℕ → List ℕ
next_owner owner [] = []
next_owner owner (b ∷ bs) = if b == 32 then owner else two_words (b ∷ bs)

-- a line, with its owner in place of its first space where it is indented
abbrev pub owned_line : List ℕ → List ℕ → List ℕ
owned_line owner [] = []
owned_line owner (b ∷ bs) = if b == 32 then owner ++ bs else b ∷ bs

-- the text of these lines, where the first indented ones speak of this owner
abbrev pub owned_text : List ℕ → List (List ℕ) → List ℕ
owned_text owner [] = []
owned_text owner (line ∷ lines) = owned_line owner line ++ codes "\n" ++ owned_text (next_owner owner line) lines
