-- `keep_in` of snapdb (src/saved_files.rt): the proof of what its contract says.
use Rattle.std.proofs.Common.{[]}
use Rattle.snapdb.proofs.saved_files.keep_in.Goals as goal

pub returns-in-Ok-written : goal.returns-in-Ok-written
returns-in-Ok-written g c =
    c.close.ensures c.args.name.now c.args.text.now
    (g.met.O.Opens.grows c.in-Ok.file c.in-Ok-written.file c.args.name.now [] c.args.text.now c.in-Ok.ensures
    c.in-Ok-written.ensures)
