-- `both_texts` of snap_named_files (src/texts.rt): the proof of what its contract says.
use Rattle.snap_named_files.specs.Named.{Files}
use Rattle.snap_named_files.specs.Texts.{AreTexts}
use Rattle.snap_named_files.proofs.Read.{both_read, no_listing, no_schedule, passed}
use Rattle.snap_named_files.proofs.texts.both_texts.Goals as goal

pub returns-in_err-listing : goal.returns-in_err-listing
returns-in_err-listing g c =
    let found = g.F.FileSource.found c.args.files.now in
    let e = c.in_err-listing.field-0.0 in
    let read = c.in_err-listing.ensures in
    passed (AreTexts found (Files c.args.listing.now c.args.schedule.now)) c.from_residual.result e
    c.from_residual.ensures (no_listing found c.args.listing.now c.args.schedule.now e read.0 read.1 read.2)

pub returns-in_err-schedule : goal.returns-in_err-schedule
returns-in_err-schedule g c =
    let found = g.F.FileSource.found c.args.files.now in
    let e = c.in_err-schedule.field-0.0 in
    let text = c.in_ok-listing.ensures in
    let read = c.in_err-schedule.ensures in
    passed (AreTexts found (Files c.args.listing.now c.args.schedule.now)) c.from_residual-in_err-schedule.result e
    c.from_residual-in_err-schedule.ensures
    (no_schedule found c.args.listing.now c.args.schedule.now c.in_ok-listing.listing.items e text.0 read.0 text.1
    text.2 read.1 read.2)

pub returns : goal.returns
returns g c =
    let text = c.in_ok-listing.ensures in
    let read = c.in_ok-schedule.ensures in
    both_read (g.F.FileSource.found c.args.files.now) c.args.listing.now c.args.schedule.now c.in_ok-listing.listing
    c.in_ok-schedule.schedule text.0 read.0 text.1 text.2 read.1 read.2
