-- `push_item` of snap_output (src/item.rt): the proof of what its contract says.
use Rattle.std.proofs.Common.{◌≡◌, ◌-◌, ◌<◌, [], arith, ap, get_or, length, sym, ◌∙◌}
use Rattle.snap_words.specs.Shape.{Counts}
use Rattle.snap_semantics.specs.IsListing.{IsListing}
use Rattle.snap_semantics.specs.Report.{head_line}
use Rattle.snap_semantics.specs.State.{process_at}
use Rattle.snap_semantics.specs.Table.{who}
use Rattle.snap_machine.specs.WritePlace.{write_place_of}
use Rattle.snap_report.specs.OutcomeLine.{outcome_line}
use Rattle.snap_output.proofs.HeadTexts.{head_count, head_of, heads_after}
use Rattle.snap_output.proofs.Kept.{skipped_stays}
use Rattle.snap_output.proofs.Said.{item_told, pieces_told, skipped_told}
use Rattle.snap_output.proofs.item.push_item.Goals as goal

pub push_changed-requires-clause-count : goal.push_changed-requires-clause-count
push_changed-requires-clause-count g c κs within =
    ap length c.requires.heads ∙ head_count 1 c.args.machine.now.state.processes ∙ c.shape-shape.ensures.processes
    ∙ sym (ap (λ (n : Counts). n.n) c.in_ok-outcome.ensures.shape)

pub returns-then-is_skipped-clause-text : goal.returns-then-is_skipped-clause-text
returns-then-is_skipped-clause-text g c =
    let m = c.args.machine.now in
    let why = c.is_skipped.ensures c.if-is_skipped.true in
    let told = (c.outcome_line.ensures c.in_ok-_skipped.ensures.0).1 in
    skipped_told c.args.texts.now m.source m.shape m.state c.apply.new.self.state c.args.number c.args.item why.0
    c.args.sheet.now.out.text c.outcome_line.new.out.text (rw why.1 at c.in_ok-outcome.ensures.done)
    (rw (c.line_run-run.ensures, c.status.ensures, c.who-i.ensures, why.1) at told)

pub returns-then-is_skipped-clause-heads : goal.returns-then-is_skipped-clause-heads
returns-then-is_skipped-clause-heads g c =
    let m = c.args.machine.now in
    let why = c.is_skipped.ensures c.if-is_skipped.true in
    rw (skipped_stays m.source m.shape m.state c.apply.new.self.state c.args.item why.0
    (rw why.1 at c.in_ok-outcome.ensures.done)) c.requires.heads

pub returns-clause-text : goal.returns-clause-text
returns-clause-text g c =
    let s = c.args.machine.now.source in
    let S = c.args.machine.now.state in
    let S' = c.apply.new.self.state in
    let x = c.args.item in
    let i = c.who-i.result in
    let u = c.in_ok-overwritten.field-0 in
    let out = c.args.sheet.now.out.text in
    let did = c.outcome_line.new.out.text in
    let came = c.push_came.ensures c.in_ok-_well.ensures.0 in
    let changed = c.in_ok-push_changed.ensures.text came.0 in
    let well = c.in_ok-push_changed.ensures.well in
    let told = (c.outcome_line.ensures changed.0).1 in
    let one = c.requires.process.0 in
    let there : who x - 1 < length S.processes =
    omega (arith, c.requires.process, c.shape-shape.ensures.processes) in
    let kind : c.apply.new.self.source ≡ s = c.in_ok-outcome.ensures.source in
    let rules : IsListing s = rw (c.listing.ensures, c.program.ensures.value) at c.lines-lines.ensures.rules in
    let head : get_or c.args.sheet.now.heads (i - 1) [] ≡ head_line i (process_at S i).status =
    rw (c.requires.heads, c.who-i.ensures) (head_of S (who x) one there) in
    item_told c.args.texts.now s c.args.machine.now.shape S S' c.args.number x c.in_ok-outcome.outcome u out did
    c.push_came.new.out.text c.in_ok-outcome.ensures.done
    (rw (c.line_run-run.ensures, c.status.ensures, c.who-i.ensures) at told)
    (pieces_told s.kind (who x) i (write_place_of u.place) c.write_place-place.result S S' _ _
    c.renew.new.self.shared.text c.renew-2.new.self.shared.text c.renew.new.self.local.text
    c.renew-2.new.self.local.text (get_or c.args.sheet.now.heads (i - 1) []) did c.push_changed.new.self.out.text
    c.push_came.new.out.text c.who-i.ensures c.write_place-place.ensures c.event_of.ensures
    (c.renew.ensures.shared well.0) (rw kind at (c.renew-2.ensures.shared well.1))
    (c.renew.ensures.local well.2) (rw kind at (c.renew-2.ensures.local well.3)) head changed.1 came.1)
    rules there c.in_ok-overwritten.ensures.locals c.in_ok-overwritten.ensures.process
    c.in_ok-overwritten.ensures.fits c.in_ok-overwritten.ensures.back

pub returns-clause-heads : goal.returns-clause-heads
returns-clause-heads g c =
    let m = c.args.machine.now in
    let there : who c.args.item - 1 < length m.state.processes =
    omega (arith, c.requires.process, c.shape-shape.ensures.processes) in
    rw (c.in_ok-push_changed.ensures.heads, c.requires.heads, c.who-i.ensures)
    (sym (heads_after m.source m.shape m.state c.apply.new.self.state c.args.item c.in_ok-outcome.outcome
    c.in_ok-outcome.ensures.done c.requires.process.0 there))
