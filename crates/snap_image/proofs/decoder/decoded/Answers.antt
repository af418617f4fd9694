-- `decoded` of snap_image (src/decoder.rt): the proof of what its contract says.
use Rattle.std.proofs.Common.{sym, map, subst}
use Rattle.snap_semantics.specs.Comments.{IsCommented}
use Rattle.snap_semantics.specs.Source.{Source}
use Rattle.snap_listing_core.specs.Fields.{commented, header_source, seen_comment}
use Rattle.snap_image.proofs.Exact.{read_is_listing}
use Rattle.snap_image.proofs.decoder.decoded.Goals as goal

pub of-listing-requires : goal.of-listing-requires
of-listing-requires c =
    let rules = read_is_listing c.args.image.now c.type_inv.image c.in_ok-version.version
    (header_source c.in_ok-version.header) c.in_ok-version.count
    c.in_ok-version.cursor c.lines.new.cursor c.in_ok-read.read.lines.items c.as_slice.result.now
    (map seen_comment c.in_ok-read.read.comments.items)
    c.in_ok-version.ensures.answer c.in_ok-read.ensures c.in_ok-ended.ensures
    c.as_slice.ensures.value c.in-Ok.ensures in
    rules.listing

pub of-requires : goal.of-requires
of-requires c =
    let rules = read_is_listing c.args.image.now c.type_inv.image c.in_ok-version.version
    (header_source c.in_ok-version.header) c.in_ok-version.count
    c.in_ok-version.cursor c.lines.new.cursor c.in_ok-read.read.lines.items c.as_slice.result.now
    (map seen_comment c.in_ok-read.read.comments.items)
    c.in_ok-version.ensures.answer c.in_ok-read.ensures c.in_ok-ended.ensures
    c.as_slice.ensures.value c.in-Ok.ensures in
    subst (λ (s : Source). IsCommented (commented s c.in_ok-read.read.comments.items)) (sym c.of-listing.ensures) rules
