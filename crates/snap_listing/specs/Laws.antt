-- The laws of reading and printing listings: what is read is spelled by
-- the text, what spells a listing is read, and so is what is printed.
use Rattle.std.specs.Prelude.{◌≡◌, ℕ, ◌<◌, ◌≤◌, List, length, Ok}
use Rattle.std.specs.List.{AllByRecursion}
use Rattle.snap_semantics.specs.CanonicalText.{canonical_text}
use Rattle.snap_semantics.specs.Comments.{Commented, IsCommented, commented_of}
use Rattle.snap_semantics.specs.IsListing.{IsListing}
use Rattle.snap_semantics.specs.Listing.{listing_of, max_text}
use Rattle.snap_semantics.specs.Source.{Source}
use Rattle.snap_semantics.specs.Spelling.{spelled_source}
use Rattle.snap_semantics.specs.Token.{text_lines}
use Rattle.snap_text.specs.Lines.{line_tokens, found_lines}

-- the lines with tokens are the spelling of the listing
abbrev pub Spells : List ℕ → Source → Type 0
Spells text s = line_tokens (text_lines text) ≡ found_lines (spelled_source s)

-- what is read is a listing, and the text spells it
abbrev pub ReadsOnlySpelled : Type 0
ReadsOnlySpelled = (text : List ℕ) (s : Source) → listing_of text ≡ Ok s → IsListing s × Spells text s

-- every listing is read from every text that spells it
abbrev pub ReadsAllSpelled : Type 0
ReadsAllSpelled =
    (text : List ℕ) (s : Source) → length text ≤ max_text → IsListing s → Spells text s → listing_of text ≡ Ok s

-- what is printed of a listing spells it
abbrev pub PrintsSpelling : Type 0
PrintsSpelling = (c : Commented) → IsCommented c → Spells (canonical_text c) c.source

-- what is read with its comments is a listing with comments
abbrev pub ReadsOnlyCommented : Type 0
ReadsOnlyCommented =
    (text : List ℕ) (c : Commented) → commented_of text ≡ Ok c → IsCommented c × (listing_of text ≡ Ok c.source)

-- what is printed of a listing is read as that listing with its comments, where it is within the size of a text
abbrev pub ReadsPrinted : Type 0
ReadsPrinted =
    (c : Commented) → IsCommented c → length (canonical_text c) ≤ max_text → commented_of (canonical_text c) ≡ Ok c
