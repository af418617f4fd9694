-- `joined` of snap_live (src/live_run.rt): what holds at the head of each of its loops.
use Rattle.std.proofs.Common.{◌≡◌, ℕ, ◌+◌, ◌<◌, ◌≤◌, length, get_or}
use Rattle.std.specs.Prelude.{vec_capacity}
use Rattle.std.specs.Vec.Iter.{into_iter_items, into_iter_len}
use Rattle.snap_live.specs.Worker.{IsWorked, WorkedView}
use Rattle.snap_live.proofs.live_run.joined.Given as goal

abbrev pub invariant-loop-handle : goal.invariant-loop-handle
invariant-loop-handle g l =
    let done = length l.worked.items in
    let rest = l.handle-iterator in
    let first = l.initial.handle-iterator in
    record {
      count : done + into_iter_len rest ≡ into_iter_len first;
      room : into_iter_len first ≤ vec_capacity l.worked;
      rest : (k : ℕ) (d : _) → k < into_iter_len rest →
          get_or (into_iter_items rest) k d ≡ get_or (into_iter_items first) (done + k) d;
      kept : (k : ℕ) (w : WorkedView) → k < done → (h : _) × (h ≡ get_or (into_iter_items first) k h)
          × IsWorked (g.G.Gate.may_answer h.promise.gate.value) h.promise.seat.value.desk h.promise.seat.value.process
          h.promise.script.value h.promise.limit (get_or l.worked.items k w);
    }
