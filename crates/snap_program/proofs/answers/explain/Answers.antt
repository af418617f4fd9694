-- `explain` of snap_program (src/answers.rt): the proof of what its contract says.
use Rattle.snap_program.proofs.answers.explain.Goals as goal

-- a fault is told with what explains it
pub returns-clause-says : goal.returns-clause-says
returns-clause-says g c = rw (← c.names.ensures) (c.tell.ensures.says _ c.explained-more.ensures)
