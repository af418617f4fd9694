-- `escaped`: any text, put into an SVG element as bytes that are no markup, which are read back as it was.
use Rattle.std.specs.Prelude.{◌≡◌, ℕ, ◌+◌, ◌-◌, ◌*◌, ◌/◌, ◌%◌, ◌<◌, ◌≢◌, Bool, not, ◌&&◌, ◌||◌, List, [], ◌∷◌, ◌++◌}
use Rattle.std.specs.Prelude.{All, nat_eq, nat_le, nat_lt, if◌then◌else◌, codes, flat_map}

-- & < > " '
abbrev pub is_markup : ℕ → Bool
is_markup b = nat_eq b 38 || (nat_eq b 60 || (nat_eq b 62 || (nat_eq b 34 || nat_eq b 39)))

-- a tab, a line feed, or a printed character of ASCII
abbrev pub is_printed : ℕ → Bool
is_printed b = nat_eq b 9 || (nat_eq b 10 || (nat_le 32 b && nat_le b 126))

-- a digit to base 16
abbrev pub hex_digit : ℕ → ℕ
hex_digit d = if nat_lt d 10 then 48 + d else 55 + d

-- the first two of the four digits of a reference: a character that no text of XML may have
-- is named by one for private use
abbrev pub plane : ℕ → List ℕ
plane b = if is_markup b then codes "00" else codes "E0"

-- the reference that stands for a byte, of eight bytes
unfoldable pub reference : ℕ → List ℕ
reference b = codes "&#x" ++ plane b ++ hex_digit (b / 16) ∷ hex_digit (b % 16) ∷ 59 ∷ []

-- what stands for a byte
unfoldable pub escaped_byte : ℕ → List ℕ
escaped_byte b = if is_printed b && not (is_markup b) then b ∷ [] else reference b

-- what stands for a text
abbrev pub escaped : List ℕ → List ℕ
escaped = flat_map escaped_byte

-- what a digit to base 16 is
abbrev pub digit_value : ℕ → ℕ
digit_value d = if nat_lt d 58 then d - 48 else d - 55

-- the text, where so many bytes of a reference are left, and the first of its last two digits was this
unfoldable pub unescaped_from : ℕ → ℕ → List ℕ → List ℕ
unescaped_from left high [] = []
unescaped_from left high (b ∷ bs) =
    if nat_eq left 0 then (if nat_eq b 38 then unescaped_from 7 0 bs else b ∷ unescaped_from 0 0 bs) else
    if nat_eq left 3 then unescaped_from 2 (digit_value b) bs else
    if nat_eq left 2 then (16 * high + digit_value b) ∷ unescaped_from 1 0 bs else unescaped_from (left - 1) high bs

-- the text for which these bytes stand
abbrev pub unescaped : List ℕ → List ℕ
unescaped text = unescaped_from 0 0 text

-- what is escaped begins no tag
abbrev pub BeginsNoTag : Type 0
BeginsNoTag = (text : List ℕ) → All (λ b. b ≢ 60) (escaped text)

-- what is escaped comes back
abbrev pub ComesBack : Type 0
ComesBack = (text : List ℕ) → All (λ b. b < 256) text → unescaped (escaped text) ≡ text
