-- `publish` of snap_live (src/steps.rt): what holds at the head of each of its loops.
use Rattle.snap_live.proofs.steps.publish.Given as goal

abbrev pub ghosts-publish_as : goal.ghosts-publish_as
ghosts-publish_as g a = record { item = a.item; outcome = a.outcome.now }
