-- `start_all` of snap_live (src/live_run.rt): what holds at the head of each of its loops.
use Rattle.std.proofs.Common.{◌≡◌, ◌-◌, length, map}
use Rattle.std.specs.Prelude.{All}
use Rattle.std.specs.Vec.Iter.{into_iter_items}
use Rattle.snap_words.specs.Shape.{IsOneOf}
use Rattle.snap_live.specs.Shown.{seat_of}
use Rattle.snap_live.specs.Script.{script_at}
use Rattle.snap_live.proofs.live_run.start_all.Given as goal

abbrev pub invariant-loop-seat : goal.invariant-loop-seat
invariant-loop-seat g l = record {
  seats : map (λ h. h.promise.seat.value) l.handles.items ≡ l.yielded;
  scripts : map (λ h. h.promise.script.value) l.handles.items
      ≡ map (λ s. script_at l.scripts.scripts (s.process - 1)) l.yielded;
  gate : All (λ h. h.promise.gate.value ≡ l.table.gate.now) l.handles.items;
  limit : All (λ h. h.promise.limit ≡ l.table.limit) l.handles.items;
  rest : All (λ s. (s ≡ seat_of l.table.desk.now s.process) × IsOneOf (length l.scripts.scripts) s.process)
      (into_iter_items l.seat-iterator);
}
