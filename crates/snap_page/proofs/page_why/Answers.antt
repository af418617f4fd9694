-- `page_why` of snap_page (src/lib.rt): the proof of what its contract says.
use Rattle.snap_semantics.specs.declared.refusal.Refusal.TheVariants.{InputTooLong}
use Rattle.snap_faults.specs.RefusalText.{refusal_line}
use Rattle.snap_page.specs.Why.{IsWhyAsked}
use Rattle.snap_page.proofs.Answered.{handed_one}
use Rattle.snap_page.proofs.page_why.Goals as goal

-- what was said that was handed
pub returns : goal.returns
returns c =
    handed_one (IsWhyAsked c.args.listing.now c.args.schedule.now c.args.item) refusal_line InputTooLong _ _ _
    c.why_asked-answer.result c.why_asked-answer.ensures c.handed_answer.ensures.answer
