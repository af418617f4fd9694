-- `check_of`: what the task `check` writes of a text, the kind and the number of lines of the listing that it is, or
-- why it is none.
use Rattle.std.specs.Prelude.{ℕ, List, ◌++◌, length, Result, Ok, codes, decimal}
use Rattle.snap_semantics.specs.declared.refusal.Refusal.{Refusal}
use Rattle.snap_semantics.specs.declared.refusal.Refusal.TheVariants as refusal
use Rattle.snap_semantics.specs.Answers.{◌>>=◌, refused_as}
use Rattle.snap_semantics.specs.Listing.{listing_of}
use Rattle.snap_semantics.specs.Source.{Source}
use Rattle.snap_semantics.specs.Spelling.{kind_keyword}

-- `ok: KIND, K lines`
abbrev pub check_line : Source → List ℕ
check_line l = codes "ok: " ++ kind_keyword l.kind ++ codes ", " ++ decimal (length l.lines) ++ codes " lines\n"

-- what is said of a text that is a listing; the whole input is the text
unfoldable pub check_of : List ℕ → Result (List ℕ) Refusal
check_of input = do
  l ← refused_as refusal.Listing (listing_of input)
  Ok (check_line l)
