-- The canonical text of a listing: its spelling, laid out, with the comments of its lines.
use Rattle.std.specs.Prelude.{ℕ, List, [], ◌∷◌, ◌++◌, Some, None, codes, replicate}
use Rattle.snap_semantics.specs.Comments.{Comment, Commented, first_comment, other_comments, header_lines}
use Rattle.snap_semantics.specs.Layout.{line_to}
use Rattle.snap_semantics.specs.Spelling.{spelled_source}
use Rattle.snap_semantics.specs.Token.{Token}

-- the end of a line with this comment: a space, `#`, and the comment's own bytes before the line feed
abbrev pub comment_end : Comment → List ℕ
comment_end None = codes "\n"
comment_end (Some bytes) = codes " #" ++ (bytes ++ codes "\n")

abbrev pub commented_text : List Comment → List (List Token) → List ℕ
commented_text cs [] = []
commented_text cs (ts ∷ lines) = line_to (comment_end (first_comment cs)) ts ++ commented_text (other_comments cs) lines

-- the lines of the header have no comments
abbrev pub canonical_text : Commented → List ℕ
canonical_text c = commented_text (replicate header_lines None ++ c.comments) (spelled_source c.source)
