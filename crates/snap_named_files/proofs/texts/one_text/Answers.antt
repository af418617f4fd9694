-- `one_text` of snap_named_files (src/texts.rt): the proof of what its contract says.
use Rattle.snap_named_files.specs.Named.{Shipped}
use Rattle.snap_named_files.specs.Texts.{AreTexts}
use Rattle.snap_named_files.proofs.Read.{items_read, no_items, passed}
use Rattle.snap_named_files.proofs.texts.one_text.Goals as goal

pub returns-in_err-schedule : goal.returns-in_err-schedule
returns-in_err-schedule g c =
    let found = g.F.FileSource.found c.args.files.now in
    let e = c.in_err-schedule.field-0.0 in
    let read = c.in_err-schedule.ensures in
    passed (AreTexts found (Shipped c.args.kind c.args.schedule.now)) c.from_residual.result e c.from_residual.ensures
    (no_items found c.args.kind c.args.schedule.now e read.0 read.1 read.2)

pub returns : goal.returns
returns g c =
    let read = c.in_ok-schedule.ensures in
    items_read (g.F.FileSource.found c.args.files.now) c.args.kind c.args.schedule.now c.in_ok-schedule.schedule read.0
    read.1 read.2
