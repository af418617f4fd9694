-- `Record::collects_of` of snap_record (src/record.rt): the proof of what its contract says.
use Rattle.std.proofs.Common.{◌+◌, List, drop, get_or, sym, ap, ◌∙◌, arith}
use Rattle.std.proofs.lemmas.Bool.{eq-eqb}
use Rattle.snap_semantics.specs.declared.event.Event.{Event}
use Rattle.snap_record.specs.Searches.{scan_collects}
use Rattle.snap_record.proofs.Searches.{found, none_there, that_item}
use Rattle.snap_record.proofs.record.Record.collects_of.Goals as goal

pub returns-then-events-k : goal.returns-then-events-k
returns-then-events-k g c =
    let r = c.args.self.now in
    let es = c.events-events.result.now in
    let k = c.loop-k.k in
    let e = c.index-events-k.result in
    c.scan_collects.ensures e
    ∙ ap (λ (l : List Event). scan_collects r (get_or l k e) (drop (k + 1) l)) (sym c.events-events.ensures)
    ∙ ap (λ (x : Event). scan_collects r x (drop (k + 1) es)) (sym c.index-events-k.is)
    ∙ that_item r es k e c.loop-k-test.true c.index-events-k.is c.args.call
    (eq-eqb e.item c.args.call (ap (λ (x : Event). x.item) c.index-events-k.is ∙ c.if-events-k.true))
    ∙ c.loop-k.invariant
    ∙ found r c.items-items.ensures.fits c.args.call es c.events-events.ensures

pub returns : goal.returns
returns g c =
    let r = c.args.self.now in
    let es = c.events-events.result.now in
    let past = c.loop-k-test.false in
    none_there r c.args.call es c.loop-k.k (omega (arith, past)) ∙ c.loop-k.invariant
    ∙ found r c.items-items.ensures.fits c.args.call es c.events-events.ensures
