-- `notice` of snap_certify (src/pass.rt): the proof of what its contract says.
use Rattle.std.proofs.Common.{ap}
use Rattle.snap_semantics.specs.State.{values}
use Rattle.snap_certify.proofs.Passing.{found_before, note_rest, note_seen, told_dry, told_stepping}
use Rattle.snap_certify.proofs.Worth.{on_both}
use Rattle.snap_certify.proofs.pass.notice.Goals as goal

pub returns-in-Some-clause-finds : goal.returns-in-Some-clause-finds
returns-in-Some-clause-finds g c =
    let on = c.requires.passed.1 in
    let v = on.tells.between in
    let f = c.args.finder.now in
    let p = c.args.passed.now in
    let d = on.tells.passes in
    on_both c.note_write.result
    (λ notes now. note_seen v c.args.walk.now p d f c.note_write.new.self
    (found_before c.requires.passed.0 c.args.walk.now f p on) c.who-process.result c.in-Some.activity
    (values c.machine.result.now.state) c.who-process.ensures
    (told_stepping v c.args.walk.now p d on.quiet c.in-Some.activity on.tells.activity c.in-Some.ensures.some)
    (ap values c.machine.ensures.state) notes now)
    c.note_write.ensures.notes c.note_write.ensures.values

pub returns-in-None-clause-finds : goal.returns-in-None-clause-finds
returns-in-None-clause-finds g c =
    let on = c.requires.passed.1 in
    let v = on.tells.between in
    let f = c.args.finder.now in
    let p = c.args.passed.now in
    let d = on.tells.passes in
    let h = found_before c.requires.passed.0 c.args.walk.now f p on in
    note_rest v c.args.walk.now p d f c.note_other.new.self h c.who-process.result c.who-process.ensures
    (told_dry v c.args.walk.now p d on.quiet f.roles.items h.roles on.silent on.tells.activity
    (rw c.as_slice.ensures.value at (c.writing.ensures.none c.in-None.is)))
    c.note_other.ensures.notes c.note_other.ensures.values
