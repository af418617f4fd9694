-- The canonical text of a listing spells it and has its comments, and so is read as that listing.
use Rattle.std.proofs.Common.{◌≡◌, List, ◌++◌, length, map, replicate, None, Ok, Result, drop, sym, ap, ◌∙◌, arith}
use Rattle.std.proofs.lemmas.List.{length-map}
use Rattle.std.specs.List.{AllByRecursion}
use Rattle.snap_semantics.specs.declared.refusal.ListingRefusal.{ListingRefusal}
use Rattle.snap_semantics.specs.CanonicalText.{canonical_text}
use Rattle.snap_semantics.specs.Comments.{Comment, Commented, IsComment, IsCommented}
use Rattle.snap_semantics.specs.Comments.{line_comments, header_lines, commented_of}
use Rattle.snap_semantics.specs.Listing.{listing_of}
use Rattle.snap_semantics.specs.Spelling.{spelled_line, spelled_source}
use Rattle.snap_semantics.specs.Token.{lines_of}
use Rattle.snap_text.proofs.Laid.{commented_read}
use Rattle.snap_listing.specs.Laws.{Spells, ReadsAllSpelled, PrintsSpelling, ReadsPrinted}
use Rattle.snap_listing.proofs.AgainHeader.{bind_by}
use Rattle.snap_listing.proofs.SoundListing.{listing_sound}

-- the comments of the header's lines and of the numbered ones
abbrev all_comments : Commented → List Comment
all_comments c = replicate header_lines None ++ c.comments

comments_each : (c : Commented) → IsCommented c → length (all_comments c) ≡ length (spelled_source c.source)
comments_each c h =
    let each : length c.comments ≡ length (map spelled_line c.source.lines) =
    h.each_line ∙ sym (length-map c.source.lines spelled_line) in
    omega (arith, each)

comments_good : (c : Commented) → IsCommented c → AllByRecursion IsComment (all_comments c)
comments_good c h = (tt, (tt, (tt, (tt, (tt, (tt, (tt, h.comments)))))))

printed_is : (c : Commented) → IsCommented c →
    Spells (canonical_text c) c.source × (line_comments (lines_of (canonical_text c)) ≡ all_comments c)
printed_is c h =
    commented_read (all_comments c) (spelled_source c.source) (comments_each c h) (comments_good c h)
    (listing_sound c.source h.listing)

pub printed_spells : PrintsSpelling
printed_spells c h = (printed_is c h).0

-- what is printed is read
pub printed_read : ReadsAllSpelled → ReadsPrinted
unfolding commented_of
printed_read read c h short =
    let text = canonical_text c in
    bind_by (listing_of text) c.source _ (Ok c) (read text c.source short h.listing (printed_spells c h))
    (ap (λ (cs : List Comment). let r : Result Commented ListingRefusal =
    Ok (record { source = c.source; comments = drop header_lines cs }) in r) (printed_is c h).1)
