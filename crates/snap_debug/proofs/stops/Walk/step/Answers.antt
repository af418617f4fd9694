-- `Walk::step` of snap_debug (src/stops.rt): the proof of what its contract says.
use Rattle.std.proofs.Common.{◌∙◌}
use Rattle.snap_debug.proofs.Walks.{stop_between}
use Rattle.snap_debug.proofs.stops.Walk.step.Goals as goal

pub returns-clause-stop : goal.returns-clause-stop
returns-clause-stop g c =
    let old = c.args.self.now in
    let did = c.in_ok-process.ensures in
    c.stops_between-stop.ensures
    ∙ stop_between c.args.recording.now.run c.args.marks.now old.before old.after c.pass_item.new.current
    c.in_ok-process.process c.requires.walk.before did.stands did.position c.requires.walk.same did.process.0
