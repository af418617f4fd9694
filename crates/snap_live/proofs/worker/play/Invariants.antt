-- `play` of snap_live (src/worker.rt): what holds at the head of each of its loops.
use Rattle.std.proofs.Common.{◌≡◌, length, drop}
use Rattle.snap_live.specs.Play.{Leaves, rest}
use Rattle.snap_live.specs.Worker.{Kept}
use Rattle.snap_live.proofs.worker.play.Given as goal

abbrev pub invariant-loop-at : goal.invariant-loop-at
invariant-loop-at g l = record {
  kept : Kept (g.G.Gate.may_answer l.table.gate.now) l.table.desk.now l.initial.seat.process l.table.limit
      l.seat l.turns.items;
  plays : Leaves l.script l.seat.own (rest (drop l.at l.script.operations));
  asked : l.seat.asked ≡ length l.seat.own;
}
