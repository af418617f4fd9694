-- `moves_of` of snap_chance (src/moves.rt): the proof of what its contract says.
use Rattle.std.proofs.Common.{◌≡◌, ◌+◌, ◌*◌, ◌<◌, ◌≤◌, length, sym, ap, ◌∙◌, arith}
use Rattle.snap_chance.specs.Priorities.{lowered_at, move_items, passed}
use Rattle.snap_chance.proofs.Turning.{longer, still_there}
use Rattle.snap_chance.proofs.Moving.{are_move, one_more_move, there_after}
use Rattle.snap_chance.proofs.moves.moves_of.Goals as goal

pub loop-turn-preserved : goal.loop-turn-preserved
loop-turn-preserved g c =
    let p = c.args.plan.now in
    let t = c.loop-turn.turn in
    let now = c.as_slice.result.now in
    let after = c.pass.new.order.items in
    let sliced = c.as_slice.ensures.value in
    let lowered : now ≡ lowered_at (t + 1) c.args.changes.now c.loop-turn.order.items = sliced ∙ c.lower_at.ensures in
    let is : after ≡ passed now = c.pass.ensures ∙ ap passed (sym sliced) in
    let xs = move_items p c.args.run (t + 1) now c.draw-draws.result in
    let some = c.turns-turn-end.ensures.plan.shape.0.0 in
    let movers = there_after p.shape.n
    (t + 1) c.args.changes.now c.loop-turn.order.items now after lowered is c.loop-turn.invariant.movers in
    let turn = are_move p c.args.run (t + 1) now c.draw-draws.result some movers.0 in
    let below : t < p.turns = omega (arith, c.turns-turn-end.ensures.turns) in
    let added = c.in_ok-push_move.ensures.added in
    let few : length c.push_move.new.items ≤ t * 129 + 129 =
    longer p.shape.n (t * 129) xs c.loop-turn.items c.push_move.new.items turn added c.loop-turn.invariant.few in
    record {
      so_far =
          one_more_move p c.args.run p.turns t _ _ c.draw-draws.result c.args.changes.now _ now after _ _ _ below
          c.draw-draws.ensures lowered is added c.loop-turn.invariant.so_far;
      movers = movers.1;
      few = omega (arith, few);
      there = still_there p.shape.n xs _ _ turn added c.loop-turn.invariant.there;
      fits = c.in_ok-push_move.ensures.fits;
    }
