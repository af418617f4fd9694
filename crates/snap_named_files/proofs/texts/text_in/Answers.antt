-- `text_in` of snap_named_files (src/texts.rt): the proof of what its contract says.
use Rattle.std.proofs.Common.{Ok, Err}
use Rattle.snap_named_files.proofs.Read.{has_text}
use Rattle.snap_named_files.proofs.texts.text_in.Goals as goal

pub returns-in-Ok : goal.returns-in-Ok
returns-in-Ok g c =
    has_text c.args.which (g.F.FileSource.found c.args.files.now c.args.name.now) (Ok c.in-Ok.text) c.in-Ok.ensures

pub returns-in-Err : goal.returns-in-Err
returns-in-Err g c =
    rw c.of_file.ensures
    (has_text c.args.which (g.F.FileSource.found c.args.files.now c.args.name.now) (Err c.in-Err.fault) c.in-Err.ensures)
