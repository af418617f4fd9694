-- `start_all` of snap_live (src/live_run.rt): the proof of what its contract says.
use Rattle.std.proofs.Common.{◌≡◌, ◌+◌, ◌-◌, ◌∙◌, ap, length, rules}
use Rattle.snap_words.specs.Shape.{IsOneOf}
use Rattle.snap_live.specs.Shown.{SeatView, seat_of}
use Rattle.snap_live.specs.Script.{script_at}
use Rattle.snap_live.proofs.Handles.{grows_as, maps_more, all_more}
use Rattle.snap_live.proofs.live_run.start_all.Goals as goal

pub loop-seat-preserved : goal.loop-seat-preserved
loop-seat-preserved g c =
    let i = c.loop-seat.invariant in
    let s = c.in_ok-start.ensures in
    let e = c.in_ok-push.ensures.items in
    let old = c.loop-seat.handles.items in
    let new = c.push.new.self.items in
    let h = c.in_ok-start.field-0 in
    let seat = c.in-Some.seat in
    let one : (seat ≡ seat_of c.args.table.now.desk.now seat.process)
    × IsOneOf (length c.args.scripts.now.scripts) seat.process =
    let r = i.rest 0 seat in grind rules in
    let b = one.1 in
    let same : c.process.result - 1 ≡ seat.process - 1 = ap (λ n. n - 1) c.process.ensures in
    let script = s.script ∙ c.script_of-script.ensures ∙ ap (λ n. script_at c.args.scripts.now.scripts n) same in
    record {
      seats = grows_as (λ h. h.promise.seat.value) old new h c.loop-seat.yielded seat e i.seats s.seat;
      scripts =
          maps_more (λ h. h.promise.script.value)
          (λ (v : SeatView). script_at c.args.scripts.now.scripts (v.process - 1)) old new h
          c.loop-seat.yielded seat e i.scripts script;
      gate = all_more (λ h. h.promise.gate.value ≡ c.args.table.now.gate.now) old new h e i.gate s.gate;
      limit = all_more (λ h. h.promise.limit ≡ c.args.table.now.limit) old new h e i.limit s.limit;
      rest = λ k d below. let r = i.rest (k + 1) d in grind rules;
    }
