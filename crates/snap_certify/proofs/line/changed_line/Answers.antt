-- `changed_line` of snap_certify (src/line.rt): the proof of what its contract says.
use Rattle.std.proofs.Common.{[], suc}
use Rattle.snap_certify.specs.Certification.{seen_item}
use Rattle.snap_certify.proofs.Passing.{passed_still, told_dry, unchanged}
use Rattle.snap_audit.proofs.Watches.{none_silent}
use Rattle.snap_certify.proofs.line.changed_line.Goals as goal

pub returns-in_default : goal.returns-in_default
returns-in_default g c = λ w d told are was.
    let p = c.args.passed.now in
    let roles = c.args.roles.now in
    unchanged (seen_item w.run (suc w.at)) (passed_still w c.args.walk.now p d
    (told_dry w c.args.walk.now p d [] roles are (none_silent roles) told (c.writing.ensures.none c.in_default.is)))
