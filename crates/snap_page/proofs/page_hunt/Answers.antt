-- `page_hunt` of snap_page (src/lib.rt): the proof of what its contract says.
use Rattle.snap_page.specs.Hunt.{hunt_asked}
use Rattle.snap_page.proofs.Answered.{hunted}
use Rattle.snap_page.proofs.page_hunt.Goals as goal

-- the answer of the hunt that was made
pub returns-clause-answer : goal.returns-clause-answer
returns-clause-answer c some = (
  c.hunt_alone-answer.result,
  hunted c.args.listing.now c.in-Some.asked (hunt_asked c.args.n c.args.w c.args.seed c.args.runs)
      c.hunt_alone-answer.result c.in-Some.ensures.asked.0 c.hunt_alone-answer.ensures.hunted
      c.hunt_alone-answer.ensures.refused,
  c.handed_hunt.ensures.answer,
)
