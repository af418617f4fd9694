-- Comments on the lines of a listing. No definition of what a listing does looks at them.
use Rattle.std.specs.Prelude.{◌≡◌, ℕ, ◌≤◌, false, List, [], ◌∷◌, length, drop, map, Option}
use Rattle.std.specs.Prelude.{Some, None, Result, Ok, nat_eq, if◌then◌else◌}
use Rattle.std.specs.List.{AllByRecursion}
use Rattle.snap_semantics.specs.declared.instr.Line.{Line}
use Rattle.snap_semantics.specs.declared.refusal.ListingRefusal.{ListingRefusal}
use Rattle.snap_semantics.specs.Answers.{◌>>=◌}
use Rattle.snap_semantics.specs.IsListing.{IsListing}
use Rattle.snap_semantics.specs.Listing.{listing_of}
use Rattle.snap_semantics.specs.Source.{Source}
use Rattle.snap_semantics.specs.Token.{Token, tokens_of, lines_of}

-- what stands behind the `#` of a line, where it has one
abbrev pub Comment : Type 0
Comment = Option (List ℕ)

-- a listing, and for each of its lines, in their order, its comment
pub record Commented : Type 0 where
  pub source : Source
  pub comments : List Comment

-- a byte of a comment: any but the line feed
abbrev pub IsCommentByte : ℕ → Type 0
IsCommentByte b = nat_eq b 10 ≡ false

-- a comment that can stand in a text and in an image
abbrev pub IsComment : Comment → Type 0
IsComment None = Unit {0}
IsComment (Some bytes) = (length bytes ≤ 65535) × AllByRecursion IsCommentByte bytes

pub record IsCommented (c : Commented) : Type 0 where
  pub listing : IsListing c.source
  pub each_line : length c.comments ≡ length c.source.lines
  pub comments : AllByRecursion IsComment c.comments

abbrev pub no_comment : Line → Comment
no_comment line = None

-- a listing without comments
abbrev pub uncommented : Source → Commented
uncommented s = record { source = s; comments = map no_comment s.lines }

-- the first of these comments, and those behind it; where they are used up, there is none
abbrev pub first_comment : List Comment → Comment
first_comment [] = None
first_comment (c ∷ cs) = c

abbrev pub other_comments : List Comment → List Comment
other_comments [] = []
other_comments (c ∷ cs) = cs

-- the comment of a line of text: what stands behind its first `#`
abbrev pub comment_of : List ℕ → Comment
comment_of [] = None
comment_of (b ∷ bytes) = if nat_eq b 35 then Some bytes else comment_of bytes

-- a line without tokens is passed over, with its comment
abbrev pub with_comment : Option (List Token) → Comment → List Comment → List Comment
with_comment (Some []) c cs = cs
with_comment (Some (t ∷ ts)) c cs = c ∷ cs
with_comment None c cs = c ∷ cs

-- the comments of the lines with tokens
abbrev pub line_comments : List (List ℕ) → List Comment
line_comments [] = []
line_comments (line ∷ lines) = with_comment (tokens_of line) (comment_of line) (line_comments lines)

-- how many lines the header of a listing has
abbrev pub header_lines : ℕ
header_lines = 7

-- the listing that a text is, with the comments of its numbered lines, or the first reason why it is none
unfoldable pub commented_of : List ℕ → Result Commented ListingRefusal
commented_of text = do
  s ← listing_of text
  Ok (record { source = s; comments = drop header_lines (line_comments (lines_of text)) })
