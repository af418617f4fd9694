-- `play_steps` of snap_live (src/worker.rt): what holds at the head of each of its loops.
use Rattle.std.proofs.Common.{◌≡◌, ◌+◌, length, drop}
use Rattle.snap_semantics.specs.declared.process.Item.TheVariants.{Step}
use Rattle.snap_live.specs.Play.{Leaves, busy}
use Rattle.snap_live.specs.Worker.{Kept}
use Rattle.snap_live.proofs.worker.play_steps.Given as goal

abbrev pub invariant-loop-turn : goal.invariant-loop-turn
invariant-loop-turn g l = record {
  kept : Kept (g.G.Gate.may_answer l.table.gate.now) l.table.desk.now l.initial.seat.process l.table.limit
      l.seat l.turns.items;
  plays : Leaves l.script l.seat.own (busy (drop (l.at + 1) l.script.operations));
  asked : l.seat.asked ≡ length l.seat.own;
  turn : l._turn ≡ l.seat.asked;
  step : l.step ≡ Step l.initial.seat.process;
}
