-- A listing without comments keeps the rules of comments.
use Rattle.std.proofs.Common.{◌≡◌, List, [], ◌∷◌, map, sym, subst}
use Rattle.std.specs.List.{AllByRecursion}
use Rattle.std.proofs.lemmas.List.{length-map}
use Rattle.snap_semantics.specs.declared.instr.Line.{Line}
use Rattle.snap_semantics.specs.Comments.{Comment, IsComment, IsCommented, no_comment, uncommented}
use Rattle.snap_semantics.specs.IsListing.{IsListing}
use Rattle.snap_semantics.specs.Source.{Source}

no_comments_good : (lines : List Line) → AllByRecursion IsComment (map no_comment lines)
no_comments_good [] = tt
no_comments_good (line ∷ lines) = (tt, no_comments_good lines)

pub uncommented_is : (s : Source) → IsListing s → IsCommented (uncommented s)
uncommented_is s h =
    record { listing = h; each_line = length-map s.lines no_comment; comments = no_comments_good s.lines }

-- with comments of which there are none
pub commented_is : (s : Source) (comments : List Comment) → IsListing s → comments ≡ map no_comment s.lines →
    IsCommented (record { source = s; comments = comments })
commented_is s comments h e =
    subst (λ cs. IsCommented (record { source = s; comments = cs })) (sym e) (uncommented_is s h)
