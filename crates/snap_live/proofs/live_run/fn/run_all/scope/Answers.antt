-- `fn::run_all::scope` of snap_live (src/live_run.rt): the proof of what its contract says.
use Rattle.std.proofs.Common.{◌≡◌, ◌-◌, ◌∙◌, List, ap, arith, length, map, rules, sym, vec_len}
use Rattle.std.proofs.lemmas.List.{length-map}
use Rattle.std.specs.Prelude.{All}
use Rattle.snap_live.specs.Shown.{SeatView}
use Rattle.snap_live.specs.Script.{script_at}
use Rattle.snap_live.proofs.Workers.{new_seats, seats_length, workers_of}
use Rattle.snap_live.proofs.live_run.fn.run_all.scope.Goals as goal

pub start_all-started-requires-after_bounds : goal.start_all-started-requires-after_bounds
start_all-started-requires-after_bounds g c κs within = (new_seats _ _ _ c.requires.seats, c.requires.limit)

pub joined-all-requires-after_bounds : goal.joined-all-requires-after_bounds
joined-all-requires-after_bounds g c κs within =
    let a = c.captures in let w = c.in_ok-handles in
    let seats : map (λ h. h.promise.seat.value) w.handles.items ≡ a.seats.items = search rules in
    let same : vec_len w.handles ≡ length w.handles.items = search rules in
    let many : length w.handles.items ≡ length a.scripts.now.scripts =
    sym (length-map w.handles.items (λ h. h.promise.seat.value))
    ∙ ap (λ (l : List SeatView). length l) (seats ∙ c.requires.seats)
    ∙ seats_length a.workers.now.desk.now (length a.scripts.now.scripts) in
    let room = c.requires.worked.1 in
    (c.requires.worked.0, omega arith)

pub returns : goal.returns
returns g c =
    let a = c.captures in let w = c.in_ok-handles in let j = c.joined-all in
    let seats : map (λ h. h.promise.seat.value) w.handles.items ≡ a.seats.items = search rules in
    let scripts : map (λ h. h.promise.script.value) w.handles.items
    ≡ map (λ s. script_at a.scripts.now.scripts (s.process - 1)) a.seats.items = search rules in
    let gates : All (λ h. h.promise.gate.value ≡ a.workers.now.gate.now) w.handles.items = search rules in
    let limits : All (λ h. h.promise.limit ≡ a.workers.now.limit) w.handles.items = search rules in
    workers_of (λ h. h.promise.seat.value) (λ h. h.promise.script.value)
    (λ h. h.promise.gate.value) (λ h. h.promise.limit)
    (λ start. g.G.Gate.may_answer start.gate.now) a.workers.now.desk.now a.scripts.now.scripts
    a.workers.now.limit a.workers.now.gate.now a.seats.items w.handles.items j.result.items
    c.requires.seats seats scripts gates limits j.ensures.len j.ensures.each
