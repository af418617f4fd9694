-- The token of a line that a refusal is about: a name that is unknown or declared twice, the nearest known name, or a
-- target that is no line.
use Rattle.std.specs.Prelude.{ℕ, ◌+◌, ◌-◌, Bool, false, ◌&&◌, ◌||◌, List, [], ◌∷◌, ◌++◌, drop, Option, Some}
use Rattle.std.specs.Prelude.{None, nat_eq, nat_lt, bytes_eq, codes, map, if◌then◌else◌}
use Rattle.std.specs.List.{list_any}
use Rattle.snap_semantics.specs.Listing.{is_bad_name}
use Rattle.snap_semantics.specs.ListingForms.{is_reserved}
use Rattle.snap_semantics.specs.Token.{Token, Identifier, Number, Sign, TextLine}
use Rattle.snap_explanation.specs.Pieces.{PlacedToken}
use Rattle.snap_semantics.specs.Rules.{or_else}
use Rattle.snap_explanation.specs.Tests.{is_identifier, is_word}
use Rattle.snap_explanation.specs.declared.names.Numbered.{Numbered}

-- tokens without their columns
abbrev pub tokens_of_placed : List PlacedToken → List Token
tokens_of_placed ts = map (λ (t : PlacedToken). t.token) ts

abbrev pub letters_of : Token → List ℕ
letters_of (Identifier w) = w
letters_of (Number k) = []
letters_of (Sign m) = []

-- the identifiers among tokens
abbrev pub words_of : List Token → List (List ℕ)
words_of [] = []
words_of (Identifier w ∷ ts) = w ∷ words_of ts
words_of (Number k ∷ ts) = words_of ts
words_of (Sign m ∷ ts) = words_of ts

abbrev pub words_of_line : Option (List Token) → List (List ℕ)
words_of_line None = []
words_of_line (Some ts) = words_of ts

-- the identifiers of the lines before this one, of so many lines at most
abbrev pub words_before : (line most : ℕ) → List TextLine → List (List ℕ)
words_before line most [] = []
words_before line most (l ∷ ls) =
    if nat_lt 0 most && nat_lt l.number line then words_of_line l.tokens ++ words_before line (most - 1) ls else []

-- how many header lines there are
abbrev pub header_count : ℕ
header_count = 7

-- whether a word is one of these
abbrev pub is_among : List ℕ → List (List ℕ) → Bool
is_among w ws = list_any (bytes_eq w) ws

-- token k, from 0
abbrev pub nth_token : (k : ℕ) → List PlacedToken → Option PlacedToken
nth_token k [] = None
nth_token k (t ∷ ts) = if nat_eq k 0 then Some t else nth_token (k - 1) ts

-- the first token that passes a test
abbrev pub first_such : (Token → Bool) → List PlacedToken → Option PlacedToken
first_such test [] = None
first_such test (t ∷ ts) = if test t.token then Some t else first_such test ts

-- a token that may not be declared
abbrev pub is_bad : Token → Bool
is_bad (Identifier w) = is_bad_name w
is_bad (Number k) = false
is_bad (Sign m) = false

-- a token that is one of these; else what is found behind it, where its word is known too
abbrev pub again_at : List (List ℕ) → (List (List ℕ) → Option PlacedToken) → PlacedToken → Token → Option PlacedToken
again_at known later t (Identifier w) = if is_among w known then Some t else later (known ++ (w ∷ []))
again_at known later t (Number k) = later known
again_at known later t (Sign m) = later known

-- the first name that one of these or a name before it is
abbrev pub first_again : List (List ℕ) → List PlacedToken → Option PlacedToken
first_again known [] = None
first_again known (t ∷ ts) = again_at known (λ more. first_again more ts) t t.token

-- how many of the words of header lines are names
abbrev pub name_count : List (List ℕ) → ℕ
name_count [] = 0
name_count (w ∷ ws) = if is_reserved w then name_count ws else name_count ws + 1

-- the first name too many of a header line, with so many names before the line; the number of another line
abbrev pub one_too_many : (count : ℕ) → List PlacedToken → Option PlacedToken
one_too_many count [] = None
one_too_many count (t ∷ ts) = if is_identifier t.token then nth_token (33 - count) (t ∷ ts) else Some t

-- a line with a name, and the word that begins the line
pub record Declared : Type 0 where
  pub line : ℕ
  pub keyword : List ℕ

-- whether one of these is a word
abbrev pub has_word : List ℕ → List Token → Bool
has_word x ts = list_any (is_word x) ts

abbrev pub declared_by : (line : ℕ) → List ℕ → Option (List Token) → Option Declared
declared_by line x None = None
declared_by line x (Some []) = None
declared_by line x (Some (t ∷ ts)) =
    if has_word x ts then Some (record { line = line; keyword = letters_of t }) else None

-- a line that has a name behind the first word
abbrev pub declared_in : List ℕ → TextLine → Option Declared
declared_in x l = declared_by l.number x l.tokens

-- the first line that has a name behind another word
abbrev pub declared_at : List ℕ → List TextLine → Option Declared
declared_at x [] = None
declared_at x (l ∷ ls) = or_else (declared_in x l) (declared_at x ls)

abbrev pub number_of : Token → ℕ
number_of (Identifier w) = 0
number_of (Number k) = k
number_of (Sign m) = 0

abbrev pub front_number : Option (List Token) → ℕ
front_number None = 0
front_number (Some []) = 0
front_number (Some (t ∷ ts)) = number_of t

-- the last of these lines before a line, where this one stands before them
abbrev pub last_before : (line : ℕ) → Numbered → List TextLine → Numbered
last_before line last [] = last
last_before line last (l ∷ ls) =
    if nat_lt l.number line
    then last_before line (record { line = l.number; number = front_number l.tokens }) ls else last

-- how many letters at the front of two words are the same
abbrev pub common_len : List ℕ → List ℕ → ℕ
common_len [] bs = 0
common_len (a ∷ more) [] = 0
common_len (a ∷ more) (b ∷ bs) = if nat_eq a b then common_len more bs + 1 else 0

-- two words are the same but for the first letter: put in, left out, or another one
abbrev pub is_same_later : List ℕ → List ℕ → Bool
is_same_later xs ys = bytes_eq (drop 1 xs) (drop 1 ys) || (bytes_eq (drop 1 xs) ys || bytes_eq xs (drop 1 ys))

-- one letter away
abbrev pub is_near : List ℕ → List ℕ → Bool
is_near xs ys = is_same_later (drop (common_len xs ys) xs) (drop (common_len xs ys) ys)

-- the first of these that is one letter away
abbrev pub nearest : List ℕ → List (List ℕ) → Option (List ℕ)
nearest w [] = None
nearest w (x ∷ xs) = if is_near w x then Some x else nearest w xs

-- whether a word leads to a line
abbrev pub is_leading : Token → Bool
is_leading t =
    is_word (codes "goto") t || (is_word (codes "call") t || (is_word (codes "scan") t || is_word (codes "update") t))

abbrev pub is_number : ℕ → Token → Bool
is_number k (Identifier w) = false
is_number k (Number l) = nat_eq k l
is_number k (Sign m) = false

-- the first token, where it is this number
abbrev pub number_there : ℕ → List PlacedToken → Option PlacedToken
number_there k [] = None
number_there k (t ∷ ts) = if is_number k t.token then Some t else None

-- the number of a line to which the word before it leads, where it is k
abbrev pub first_led : ℕ → List PlacedToken → Option PlacedToken
first_led k [] = None
first_led k (t ∷ ts) = or_else (if is_leading t.token then number_there k ts else None) (first_led k ts)

-- whether the first token is this number
abbrev pub begins_with_number : ℕ → List Token → Bool
begins_with_number k [] = false
begins_with_number k (t ∷ ts) = is_number k t

-- whether tokens lead to line k
abbrev pub leads_to : ℕ → List Token → Bool
leads_to k [] = false
leads_to k (t ∷ ts) = (is_leading t && begins_with_number k ts) || leads_to k ts

abbrev pub line_leads_to : ℕ → Option (List Token) → Bool
line_leads_to k None = false
line_leads_to k (Some ts) = leads_to k ts

-- the number of the first text line that leads to line k; 0 where there is none
abbrev pub leading_line : ℕ → List TextLine → ℕ
leading_line k [] = 0
leading_line k (l ∷ ls) = if line_leads_to k l.tokens then l.number else leading_line k ls
