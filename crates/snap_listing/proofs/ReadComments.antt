-- A listing that is read from a text, and the text's comments
-- without those of its header, are what `commented_of` gives.
use Rattle.std.proofs.Common.{◌≡◌, ℕ, List, Vec, Option, Ok, map, drop, refl, sym, ap, ◌∙◌}
use Rattle.std.proofs.lemmas.List.{drop-map}
use Rattle.std.specs.Global.{Global}
use Rattle.snap_semantics.specs.Comments.{IsCommented, line_comments, header_lines, commented_of}
use Rattle.snap_semantics.specs.Listing.{listing_of}
use Rattle.snap_semantics.specs.Source.{Source}
use Rattle.snap_semantics.specs.Token.{lines_of}
use Rattle.snap_listing_core.specs.Fields.{seen_comment, commented}
use Rattle.snap_listing.proofs.OnlyCommented.{read_is_commented}

-- the comments behind those of the header, and the listing
pub with_comments : (text : List ℕ) (s : Source) (found comments : List (Option (Vec ℕ Global))) →
    listing_of text ≡ Ok s → map seen_comment found ≡ line_comments (lines_of text) →
    comments ≡ drop header_lines found → commented_of text ≡ Ok (commented s comments)
unfolding commented_of
with_comments text s found comments e f g =
    let behind : drop header_lines (line_comments (lines_of text)) ≡ map seen_comment comments =
    ap (drop header_lines) (sym f) ∙ drop-map seen_comment header_lines found ∙ ap (map seen_comment) (sym g) in
    rw (e, behind) refl

pub read_commented : (text : List ℕ) (s : Source) (comments : List (Option (Vec ℕ Global))) →
    commented_of text ≡ Ok (commented s comments) → IsCommented (commented s comments)
read_commented text s comments e = (read_is_commented text (commented s comments) e).0
