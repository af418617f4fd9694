-- `page_output` of snap_page (src/lib.rt): the proof of what its contract says.
use Rattle.std.proofs.Common.{◌≡◌}
use Rattle.snap_semantics.specs.declared.refusal.Refusal.TheVariants.{InputTooLong}
use Rattle.snap_faults.specs.RefusalText.{refusal_line}
use Rattle.snap_page.specs.Answer.{IsAnswerFor}
use Rattle.snap_page.proofs.Answered.{handed_one}
use Rattle.snap_page.proofs.Short.{needs_none}
use Rattle.snap_page.proofs.page_output.Goals as goal

pub returns-clause-at_once : goal.returns-clause-at_once
returns-clause-at_once c a r named found =
    let told = c.asked_of.ensures in
    let same : a ≡ c.in-Some.asked = cc in
    let there = rw same at found in
    c.handed_answer.ensures.at_once r (c.answer_to-answer.ensures.at_once r there)
    (needs_none a c.args.input.now r found)

-- the answer that was handed
pub returns-clause-answer : goal.returns-clause-answer
returns-clause-answer c a named =
    let asked = c.asked_of.ensures in
    let same : a ≡ c.in-Some.asked = cc in
    rw same (handed_one (IsAnswerFor c.in-Some.asked c.args.input.now) refusal_line InputTooLong _ _ _
    c.answer_to-answer.result c.answer_to-answer.ensures.output c.handed_answer.ensures.answer)
