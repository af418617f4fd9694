-- `joined` of snap_live (src/live_run.rt): the proof of what its contract says.
use Rattle.std.proofs.Common.{◌≡◌, ℕ, ◌+◌, length, get_or, arith, rules, subst, vec_len}
use Rattle.std.specs.Vec.Iter.{into_iter_items}
use Rattle.snap_live.specs.Worker.{IsWorked, WorkedView}
use Rattle.snap_live.proofs.Handles.{each_more}
use Rattle.snap_live.proofs.live_run.joined.Goals as goal

-- the handle that is joined stands at the next place
pub loop-handle-preserved : goal.loop-handle-preserved
loop-handle-preserved g c =
    let i = c.loop-handle.invariant in
    let step = c.in-Some.ensures.steps in
    let handle = c.in-Some.handle in
    let done = length c.loop-handle.worked.items in
    let first = into_iter_items c.into_iter-handle-iterator.result in
    let next : handle ≡ get_or first done handle = let h = i.rest 0 handle in grind rules in
    record {
      count = search rules;
      room = search rules;
      rest = λ k d below. let h = i.rest (k + 1) d in grind rules;
      kept = each_more
          (λ (k : ℕ) (v : WorkedView). (h : _) × (h ≡ get_or first k h)
          × IsWorked (g.G.Gate.may_answer h.promise.gate.value) h.promise.seat.value.desk h.promise.seat.value.process
          h.promise.script.value h.promise.limit v)
          c.loop-handle.worked.items c.push_reserved.new.self.items c.join.result c.push_reserved.ensures.items i.kept
          (handle, next, c.join.ensures);
    }

pub returns-clause-each : goal.returns-clause-each
returns-clause-each g c = λ k w below.
    let i = c.loop-handle.invariant in
    let began = c.into_iter-handle-iterator.ensures.into_iter_gives in
    let many : length c.args.handles.items ≡ vec_len c.args.handles = search rules in
    let whole : length c.loop-handle.worked.items ≡ vec_len c.args.handles =
    omega (arith, i.count, c.in-None.ensures.steps.0, began.1) in
    subst
    (λ hs. (h : _) × (h ≡ get_or hs k h)
    × IsWorked (g.G.Gate.may_answer h.promise.gate.value) h.promise.seat.value.desk h.promise.seat.value.process
    h.promise.script.value h.promise.limit (get_or c.loop-handle.worked.items k w))
    began.0 (i.kept k w (omega arith))
