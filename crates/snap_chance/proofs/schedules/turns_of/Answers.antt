-- `turns_of` of snap_chance (src/schedules.rt): the proof of what its contract says.
use Rattle.std.proofs.Common.{◌+◌, ◌*◌, ◌<◌, ◌≤◌, length, arith}
use Rattle.snap_chance.proofs.Turning.{are_turn, longer, still_there, one_more}
use Rattle.snap_chance.specs.Paces.{turn_items}
use Rattle.snap_chance.proofs.schedules.turns_of.Goals as goal

pub loop-turn-preserved : goal.loop-turn-preserved
loop-turn-preserved g c =
    let p = c.args.plan.now in
    let t = c.loop-turn.turn in
    let xs = turn_items p c.args.run (t + 1) c.draw-draws.result in
    let turn = are_turn p c.args.run (t + 1) c.draw-draws.result c.turns-turn-end.ensures.plan.shape.0.0 in
    let below : t < p.turns = omega (arith, c.turns-turn-end.ensures.turns) in
    let added = c.in_ok-push_turn.ensures.added in
    let few : length c.push_turn.new.items ≤ t * 129 + 129 =
    longer p.shape.n (t * 129) xs c.loop-turn.items c.push_turn.new.items turn added c.loop-turn.invariant.few in
    record {
      so_far =
          one_more p c.args.run p.turns t _ _ c.draw-draws.result _ _ _ below c.draw-draws.ensures
          added c.loop-turn.invariant.so_far;
      few = omega (arith, few);
      there = still_there p.shape.n xs _ _ turn added c.loop-turn.invariant.there;
      fits = c.in_ok-push_turn.ensures.fits;
    }
