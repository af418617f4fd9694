-- `Record::scan_collects` of snap_record (src/record.rt): the proof of what its contract says.
use Rattle.std.proofs.Common.{◌<◌, ◌≤◌, ◌+◌, ◌-◌, List, length, drop, get_or, map, sym, ap, subst, ◌∙◌, arith}
use Rattle.std.proofs.lemmas.Grind.{get_or_default_zero}
use Rattle.std.proofs.lemmas.List.{get_or_default}
use Rattle.snap_semantics.specs.declared.event.Event.{Event}
use Rattle.snap_runs.specs.Run.{Run, events_of}
use Rattle.snap_record.specs.History.{collects_at}
use Rattle.snap_record.specs.Searches.{collects_until, scan_collects}
use Rattle.snap_record.proofs.Searches.{count_there, scan_process, scan_told}
use Rattle.snap_record.proofs.record.Record.scan_collects.Goals as goal

pub overflow_sub-i : goal.overflow_sub-i
overflow_sub-i g c =
    let i = c.self.inside in
    let r : Run = record { source = i.machine.source; shape = i.machine.shape; items = i.items.items } in
    let all = c.self.invariant.0.tells.events_are in
    let lt : c.args.k < length i.events.items = subst (λ (l : List Event). c.args.k < length l)
    (sym (all ∙ ap (λ (y : Run). events_of y (length y.items)) c.self.view_is)) c.requires in
    let one =
    scan_process r c.self.invariant.0.fits i.events.items c.args.k c.in_ok-i.i c.index-event.result.now all lt
    c.index-event.ensures c.in_ok-i.ensures in
    let low : 0 < c.in_ok-i.i = one.0 in
    omega (arith, low)

pub index-all-requires : goal.index-all-requires
index-all-requires g c =
    let i = c.self.inside in
    let r : Run = record { source = i.machine.source; shape = i.machine.shape; items = i.items.items } in
    let all = c.self.invariant.0.tells.events_are in
    let lt : c.args.k < length i.events.items = subst (λ (l : List Event). c.args.k < length l)
    (sym (all ∙ ap (λ (y : Run). events_of y (length y.items)) c.self.view_is)) c.requires in
    let one =
    scan_process r c.self.invariant.0.fits i.events.items c.args.k c.in_ok-i.i c.index-event.result.now all lt
    c.index-event.ensures c.in_ok-i.ensures in
    let low : 0 < c.in_ok-i.i = one.0 in
    let high : c.in_ok-i.i ≤ i.machine.shape.n = one.1 in
    let count = c.self.invariant.0.tells.process_count in
    omega (arith, low, high, count, i.collects.ok)

pub returns : goal.returns
returns g c = λ d.
    let i = c.self.inside in
    let r : Run = record { source = i.machine.source; shape = i.machine.shape; items = i.items.items } in
    let k = c.args.k in
    let es = i.events.items in
    let e = c.index-event.result.now in
    let inv = c.self.invariant.0 in
    let all = inv.tells.events_are in
    let lt : k < length es = subst (λ (l : List Event). k < length l)
    (sym (all ∙ ap (λ (y : Run). events_of y (length y.items)) c.self.view_is)) c.requires in
    let one = scan_process r inv.fits es k c.in_ok-i.i e all lt c.index-event.ensures c.in_ok-i.ensures in
    let low : 0 < c.in_ok-i.i = one.0 in
    let high : c.in_ok-i.i ≤ i.machine.shape.n = one.1 in
    let count = inv.tells.process_count in
    let total =
    c.index-all.ensures ∙ get_or_default_zero i.collects.items (c.in_ok-i.i - 1) c.index-all.result.now
    (omega (arith, low, high, count)) ∙ inv.tells.collects_are c.in_ok-i.i one in
    let events_same = ap (map (collects_at r)) (sym c.as_slice.ensures.value) in
    let until =
    c.collects_until-until.ensures r (c.as_slice-2.ensures.value ∙ inv.tells.at_events_are ∙ events_same) total
    ∙ ap (λ (l : List Event). collects_until r c.in_ok-i.i (drop (k + 1) l)) c.as_slice.ensures.value in
    let before =
    count_there r es i.at_events.items k c.index.result.now e inv.tells.at_events_are lt
    c.index-event.ensures c.index.ensures in
    let told =
    scan_told r (drop (k + 1) es) c.in_ok-i.i c.collects_until-until.result c.index.result.now c.saturating_sub.result
    e c.in_ok-i.ensures until before c.saturating_sub.ensures in
    told
    ∙ ap (λ (x : Event). scan_collects r x (drop (k + 1) es)) (c.index-event.ensures ∙ get_or_default es k e d lt)
    ∙ ap (λ (l : List Event). scan_collects r (get_or l k d) (drop (k + 1) l)) all
    ∙ ap (λ (y : Run). scan_collects y (get_or (events_of y (length y.items)) k d)
    (drop (k + 1) (events_of y (length y.items)))) c.self.view_is
