-- The grammar of the header lines of a listing: its kind, the names of a sort of locals, and the line of an entry.
use Rattle.std.specs.Prelude.{ℕ, List, [], ◌∷◌, Option, Some, None, codes, if◌then◌else◌, bytes_eq}
use Rattle.snap_words.specs.declared.kind.KindTag.{KindTag}
use Rattle.snap_words.specs.declared.kind.KindTag.TheVariants as kind
use Rattle.snap_semantics.specs.Rules.{◌>>=◌, number_at, identifier_at, keyword_at, end_at}
use Rattle.snap_semantics.specs.ListingForms.{is_line_number}
use Rattle.snap_semantics.specs.Token.{Token, Identifier, Number, Sign}

abbrev pub kind_of_keyword : List ℕ → Option KindTag
kind_of_keyword w =
    if bytes_eq w (codes "seq") then Some kind.Seq else
    if bytes_eq w (codes "bit") then Some kind.Bits else
    if bytes_eq w (codes "multi") then Some kind.Multi else None

-- `kind seq`, and so `bit` and `multi`
unfoldable pub kind_form : List Token → Option KindTag
kind_form ts = do
  a ← keyword_at (codes "kind") ts
  w ← identifier_at a
  k ← kind_of_keyword w.0
  end ← end_at w.1
  Some k

-- identifiers alone
abbrev pub words_form : List Token → Option (List (List ℕ))
words_form [] = Some []
words_form (Identifier w ∷ ts) = words_form ts >>= λ ws. Some (w ∷ ws)
words_form (Number k ∷ ts) = None
words_form (Sign m ∷ ts) = None

-- a keyword and the names of a sort
unfoldable pub names_form : List ℕ → List Token → Option (List (List ℕ))
names_form keyword ts = do
  a ← keyword_at keyword ts
  words_form a

-- a keyword and a line number
unfoldable pub entry_form : List ℕ → List Token → Option ℕ
entry_form keyword ts = do
  a ← keyword_at keyword ts
  k ← number_at a
  end ← end_at k.1
  if is_line_number k.0 then Some k.0 else None
