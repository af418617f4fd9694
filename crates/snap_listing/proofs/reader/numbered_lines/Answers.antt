-- `numbered_lines` of snap_listing (src/reader.rt): the proof of what its contract says.
use Rattle.std.proofs.Common.{arith}
use Rattle.std.proofs.lemmas.Grind.{common_steps}
use Rattle.snap_semantics.specs.Answers.{IsRefusal}
use Rattle.snap_semantics.specs.Listing.{numbered_lines}
use Rattle.snap_listing_core.specs.Fields.{header_source}
use Rattle.snap_text.specs.Lines.{view_line}
use Rattle.snap_listing.proofs.Lines.{next_is, fault_stops, line_step}
use Rattle.snap_listing.proofs.reader.numbered_lines.Goals as goal

pub returns-in_err-last : goal.returns-in_err-last
returns-in_err-last c =
    let next =
    next_is c.in_ok-text.field-0 c.in-Some.text c.loop-lines.texts c.next_line.new.self
    c.in-Some.is c.in_ok-text.ensures.next in
    let stop : IsRefusal c.in_err-last.field-0.0
    (numbered_lines (header_source c.args.header.now) 0 0 c.args.texts.now) =
    fault_stops (header_source c.args.header.now) c.loop-lines.last c.loop-lines.lines.items
    (view_line c.in-Some.text) c.next_line.new.self c.loop-lines.texts _
    c.in_err-last.field-0.0 next c.loop-lines.invariant c.in_err-last.ensures in
    grind (arith, common_steps, stop)

pub loop-lines-preserved-in_ok-last : goal.loop-lines-preserved-in_ok-last
loop-lines-preserved-in_ok-last c =
    let next =
    next_is c.in_ok-text.field-0 c.in-Some.text c.loop-lines.texts c.next_line.new.self
    c.in-Some.is c.in_ok-text.ensures.next in
    line_step (header_source c.args.header.now) c.loop-lines.last c.in_ok-last.last c.loop-lines.lines.items
    c.add_line.new.lines.items (view_line c.in-Some.text)
    c.next_line.new.self c.loop-lines.texts _ next c.loop-lines.invariant c.in_ok-last.ensures
