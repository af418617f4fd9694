-- `read`: what was read from a text with its comments
-- is a listing with comments, the one of the definitions.
use Rattle.std.proofs.Common.{Ok, sym, ap, ◌∙◌}
use Rattle.snap_listing.proofs.ReadComments.{with_comments, read_commented}
use Rattle.snap_listing.proofs.reader.read.Goals as goal

pub of-requires : goal.of-requires
of-requires c =
    read_commented c.args.text.now c.in_ok-listing.listing c.in_ok-comments.comments.items
    (with_comments c.args.text.now c.in_ok-listing.listing c.in_ok-found.found.items c.in_ok-comments.comments.items
    c.in_ok-listing.ensures.listing c.in_ok-found.ensures c.in_ok-comments.ensures)

pub returns-clause-listing : goal.returns-clause-listing
returns-clause-listing c =
    with_comments c.args.text.now c.in_ok-listing.listing c.in_ok-found.found.items c.in_ok-comments.comments.items
    c.in_ok-listing.ensures.listing
    c.in_ok-found.ensures c.in_ok-comments.ensures
    ∙ ap Ok (sym c.of.ensures)
