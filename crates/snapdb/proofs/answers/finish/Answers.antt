-- `finish` of snapdb (src/answers.rt): the proof of what its contract says.
use Rattle.snapdb.proofs.answers.finish.Goals as goal

-- a fault is told with what explains it
pub returns-in-Err-clause-says : goal.returns-in-Err-clause-says
returns-in-Err-clause-says g c =
    rw (c.in-Err.is, ← c.names_of-names.ensures) (c.tell.ensures.says _ c.explained-more.ensures)
