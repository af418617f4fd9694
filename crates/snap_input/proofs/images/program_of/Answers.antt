-- `program_of` of snap_input (src/images.rt): the proof of what its contract says.
use Rattle.std.proofs.Common.{Ok, sym, ◌∙◌, ap, arith}
use Rattle.std.proofs.lemmas.Grind.{common_steps}
use Rattle.snap_semantics.specs.Answers.{IsRefusal, refused_as}
use Rattle.snap_semantics.specs.Listing.{listing_of}
use Rattle.snap_semantics.specs.declared.refusal.Refusal.TheVariants as refusal
use Rattle.snap_input.proofs.Loads.{loaded, never_refused, not_assembled}
use Rattle.snap_input.proofs.images.program_of.Goals as goal

pub returns-in-Ok : goal.returns-in-Ok
returns-in-Ok c =
    loaded c.what_is_read_with_comments_is_a_listing.ensures c.what_is_encoded_is_decoded.ensures c.args.text.now
    c.as_slice.result.now c.in-Ok.program
    (c.in_ok-image.ensures.image ∙ ap Ok (sym c.as_slice.ensures.value)) c.in-Ok.ensures.answer

pub unreachable-requires : goal.unreachable-requires
unreachable-requires c =
    never_refused c.what_is_read_with_comments_is_a_listing.ensures c.what_is_encoded_is_decoded.ensures
    c.args.text.now c.as_slice.result.now
    c.in-Err-Refused.field-0 c.in-Err-Refused.field-0-0
    (c.in_ok-image.ensures.image ∙ ap Ok (sym c.as_slice.ensures.value)) c.in-Err-Refused.field-0-is
    c.in-Err-Refused.ensures.answer

pub returns-in_err-image : goal.returns-in_err-image
returns-in_err-image c =
    let stop : IsRefusal c.in_err-image.field-0.0 (refused_as refusal.Listing (listing_of c.args.text.now)) =
    not_assembled c.args.text.now c.in_err-image.field-0.0 c.in_err-image.ensures.image in
    grind (arith, common_steps, stop)
