-- `sweep` of snap_audit (src/sweep.rt): the proof of what its contract says.
use Rattle.std.proofs.Common.{◌+◌, drop, replicate, get_or, ap, ◌∙◌, arith}
use Rattle.snap_words.specs.Shape.{Counts}
use Rattle.snap_record.proofs.Events.{next_left}
use Rattle.snap_audit.specs.Sweep.{fresh}
use Rattle.snap_audit.proofs.Sweeping.{collects_left, its_collects, its_item, started}
use Rattle.snap_audit.proofs.sweep.sweep.Goals as goal

pub loop-k-init : goal.loop-k-init
loop-k-init c = λ r told.
    rw c.new-verdicts.ensures.items (started r c.args.changes.now c.in_ok-callers.callers.items c.args.events.now
    told.fits told.leads (c.in_ok-callers.ensures ∙ ap (λ (s : Counts). replicate s.n (fresh s.w)) told.shape)
    told.events)

pub note_event-requires-clause-few : goal.note_event-requires-clause-few
note_event-requires-clause-few c =
    let r = c.requires.0 in
    let told = c.requires.1 in
    let e = c.index-events-k.result in
    let next = next_left c.args.events.now c.loop-k.k e c.loop-k-test.true c.index-events-k.is in
    let last =
    its_item r c.args.changes.now c.loop-k.callers.items c.loop-k.verdicts.items e
    (drop (c.loop-k.k + 1) c.args.events.now) (rw next at (c.loop-k.invariant r told)) in
    let few = told.few in
    omega (arith, last, few)

pub note_event-requires-clause-collects : goal.note_event-requires-clause-collects
note_event-requires-clause-collects c = λ d.
    let r = c.requires.0 in
    let told = c.requires.1 in
    let es = c.args.events.now in
    let e = c.index-events-k.result in
    let k = c.loop-k.k in
    let next = next_left es k e c.loop-k-test.true c.index-events-k.is in
    its_collects r c.args.changes.now c.loop-k.callers.items c.loop-k.verdicts.items e (drop (k + 1) es)
    (rw next at (c.loop-k.invariant r told)) (get_or c.args.collects.now k 0)
    (collects_left r es c.args.collects.now k 0 e told.collects c.loop-k-test.true c.index-events-k.is) d
