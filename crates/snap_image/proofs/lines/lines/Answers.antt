-- `lines` of snap_image (src/lines.rt): the proof of what its contract says.
use Rattle.std.proofs.Common.{sym, ◌∙◌, arith}
use Rattle.std.proofs.lemmas.Grind.{common_steps}
use Rattle.snap_semantics.specs.Answers.{IsRefusal}
use Rattle.snap_image.specs.ImageListing.{lines_in}
use Rattle.snap_listing_core.specs.Fields.{header_source}
use Rattle.snap_image.specs.DecoderSteps.{listed}
use Rattle.snap_image.proofs.LineSteps.{lines_step, fault_stops, lines_end}
use Rattle.snap_image.proofs.lines.lines.Goals as goal

pub returns-in_err-last : goal.returns-in_err-last
returns-in_err-last c =
    let stop : IsRefusal c.in_err-last.field-0.0
    (lines_in (header_source c.args.header.now) c.args.version c.args.count 1 0 c.args.cursor.now) =
    fault_stops (header_source c.args.header.now) c.args.version c.args.count c.loop-place.place c.loop-place.last
    (listed c.loop-place.read) c.loop-place.cursor _
    c.in_err-last.field-0.0 c.loop-place-test.true c.loop-place.invariant c.in_err-last.ensures in
    grind (arith, common_steps, stop)

pub loop-place-preserved : goal.loop-place-preserved
loop-place-preserved c =
    lines_step (header_source c.args.header.now) c.args.version c.args.count c.loop-place.place c.loop-place.last
    c.in_ok-last.last (listed c.loop-place.read)
    (listed c.add_line.new.read) c.loop-place.cursor c.add_line.new.cursor c.loop-place-test.true c.in_ok-last.ensures
    ∙ c.loop-place.invariant

pub returns : goal.returns
returns c =
    sym c.loop-place.invariant
    ∙ lines_end (header_source c.args.header.now) c.args.version c.args.count c.loop-place.place c.loop-place.last
    (listed c.loop-place.read) c.loop-place.cursor (omega arith)
