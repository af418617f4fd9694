-- `Watch::note` of snap_audit (src/watch.rt): the proof of what its contract says.
use Rattle.std.proofs.Common.{refl, ap, ◌∙◌}
use Rattle.snap_runs.specs.Run.{state}
use Rattle.snap_semantics.specs.State.{values}
use Rattle.snap_record.proofs.Recording.{few_collects}
use Rattle.snap_audit.specs.Watch.{so_far}
use Rattle.snap_audit.proofs.Watches.{noted, told_process, told_stay, told_step, told_test, watched_before}
use Rattle.snap_audit.proofs.watch.Watch.note.Goals as goal

pub note_changes-requires-clause-stay : goal.note_changes-requires-clause-stay
note_changes-requires-clause-stay g c κs within = λ dry.
    ap values c.machine.ensures.state
    ∙ told_stay c.requires.passed.0 c.args.walk.now c.args.self.now c.args.passed c.requires.passed.1
    c.told_role-role.result (rw c.as_slice.ensures.value at c.told_role-role.ensures) dry

pub note_test-requires-clause-few : goal.note_test-requires-clause-few
note_test-requires-clause-few g c =
    let x = c.args.self.now in
    let on = c.requires.passed.1 in
    let v = on.tells.between in
    let h = watched_before c.requires.passed.0 c.args.walk.now x c.args.passed on in
    rw c.who-i.ensures (few_collects (so_far v) v.run.source.kind (state v.run v.at) x.values x.changes.items
    x.events.items x.collects.items x.at_events.items _ h.notes on.tells.passes.process)

pub note_event-requires : goal.note_event-requires
note_event-requires g c =
    let w = c.requires.passed.0 in
    let on = c.requires.passed.1 in
    let x = c.args.self.now in
    let p = c.args.passed in
    let step = told_step w c.args.walk.now x p on in
    let test =
    told_test w c.args.walk.now x p on c.told_role-role.result
    (rw c.as_slice.ensures.value at c.told_role-role.ensures) in
    rw (c.as_slice-2.ensures.value, c.note_test.ensures step test, c.who-i.ensures)
    (told_process w c.args.walk.now x p on)

pub returns-clause-watches : goal.returns-clause-watches
returns-clause-watches g c =
    let w = c.requires.passed.0 in
    let on = c.requires.passed.1 in
    let x = c.args.self.now in
    let p = c.args.passed in
    let step = told_step w c.args.walk.now x p on in
    let test =
    told_test w c.args.walk.now x p on c.told_role-role.result
    (rw c.as_slice.ensures.value at c.told_role-role.ensures) in
    let changed = c.in_ok-note_changes.ensures in
    let seen = c.in_ok-note_event.ensures in
    noted on.tells.between c.args.walk.now p x (watched_before w c.args.walk.now x p on) on.tells.passes (record {
      shape = x.shape;
      roles = x.roles;
      silent = x.silent;
      values = c.note_changes.new.now;
      changes = c.note_changes.new.changes;
      events = c.note_event.new.events;
      collects = c.note_test.new.collects;
      at_events = c.note_event.new.at_events;
    }) refl refl refl (rw c.machine.ensures.state at changed.now)
    (rw (c.machine.ensures.shape, on.tells.passes.way) at changed.count)
    (rw c.machine.ensures.state at changed.changes) (rw c.event_of-event.ensures at seen.events)
    (rw c.who-i.ensures at (c.note_test.ensures step test))
    (rw (c.event_of-event.ensures, c.as_slice-2.ensures.value, c.who-i.ensures) at seen.at_events)
