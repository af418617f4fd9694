-- `play_operation` of snap_live (src/worker.rt): the proof of what its contract says.
use Rattle.std.proofs.Common.{◌≡◌, arith, inl, true, false, rules}
use Rattle.snap_live.specs.Script.{crashes_behind}
use Rattle.snap_live.proofs.Plays.{calls_at, call_goes, call_passes, begun_left}
use Rattle.snap_live.proofs.worker.play_operation.Goals as goal

pub returns-then-asked-table-clause-stopped : goal.returns-then-asked-table-clause-stopped
returns-then-asked-table-clause-stopped g c =
    let few = c.requires.kept.few in let r = c.requires.room in let t = c.if-asked-table.true in
    record { begun = begun_left _ _ _ c.requires.plays.0 c.requires.plays.1; why = inl (omega arith) }

pub play_crash-requires-clause-plays : goal.play_crash-requires-clause-plays
play_crash-requires-clause-plays g c κs within =
    let comes : crashes_behind c.args.script.now.crash c.args.seat.now.asked ≡ true = search rules in
    (begun_left _ _ _ c.requires.plays.0 c.requires.plays.1, comes)

pub play_steps-requires-clause-plays : goal.play_steps-requires-clause-plays
play_steps-requires-clause-plays g c κs within =
    let p = c.requires.plays in
    let quiet : crashes_behind c.args.script.now.crash c.args.seat.now.asked ≡ false = search rules in
    call_goes _ _ _ _ c.in_default.not-Skipped
    (calls_at _ _ _ _ _ _ _ _ c.operations.ensures p.0 c.in_ok-play_turn.ensures.made c.requires.room.0 quiet p.1).1

pub returns-in-Skipped-clause-played : goal.returns-in-Skipped-clause-played
returns-in-Skipped-clause-played g c =
    let p = c.requires.plays in
    let quiet : crashes_behind c.args.script.now.crash c.args.seat.now.asked ≡ false = search rules in
    let on =
    calls_at _ _ _ _ _ _ _ _ c.operations.ensures p.0 c.in_ok-play_turn.ensures.made c.requires.room.0 quiet p.1 in
    (on.0, call_passes _ _ _ _ c.in-Skipped.is on.1)
