-- `play_steps` of snap_live (src/worker.rt): the proof of what its contract says.
use Rattle.std.proofs.Common.{◌≡◌, ◌+◌, ◌∙◌, length, drop, sym, ap, false, rules}
use Rattle.snap_live.specs.Play.{Leaves, busy}
use Rattle.snap_live.specs.Script.{crashes_behind}
use Rattle.snap_live.proofs.Plays.{steps_on, kept_of}
use Rattle.snap_live.proofs.worker.play_steps.Goals as goal
use Rattle.snap_live.proofs.worker.play_steps.Goals.{in-Goes, in-Skipped}

pub returns-in-Ended-clause-played : goal.returns-in-Ended-clause-played
returns-in-Ended-clause-played g c =
    let i = c.loop-turn.invariant in
    let quiet : crashes_behind c.args.script.now.crash c.loop-turn.seat.asked ≡ false = search rules in
    steps_on _ _ _ _ _ _ _ c.in_ok-play_turn.ensures.made c.in-Ended.is i.asked quiet i.plays

pub returns-in-Trapped-clause-played : goal.returns-in-Trapped-clause-played
returns-in-Trapped-clause-played g c =
    let i = c.loop-turn.invariant in
    let quiet : crashes_behind c.args.script.now.crash c.loop-turn.seat.asked ≡ false = search rules in
    steps_on _ _ _ _ _ _ _ c.in_ok-play_turn.ensures.made c.in-Trapped.is i.asked quiet i.plays

pub loop-turn-preserved : goal.loop-turn-preserved
loop-turn-preserved g c =
    let i = c.loop-turn.invariant in
    let quiet : crashes_behind c.args.script.now.crash c.loop-turn.seat.asked ≡ false = search rules in
    let m = c.in_ok-play_turn.ensures.made in
    let on : (c.play_turn.new.seat.asked ≡ length c.play_turn.new.seat.own)
    × Leaves c.args.script.now c.play_turn.new.seat.own (busy (drop (c.args.at + 1) c.args.script.now.operations)) =
    elim c.match-branch-3.branch [
      | in-Goes w ↦ steps_on _ _ _ _ _ _ _ m w.in-Goes.is i.asked quiet i.plays
      | in-Skipped w ↦ steps_on _ _ _ _ _ _ _ m w.in-Skipped.is i.asked quiet i.plays
    ] in record {
      kept = kept_of _ _ _ _ _ _ _ i.kept.of_process c.play_turn.ensures.kept;
      plays = on.1;
      asked = on.0;
      turn = ap (λ k. k + 1) i.turn ∙ sym m.asked;
      step = i.step;
    }
