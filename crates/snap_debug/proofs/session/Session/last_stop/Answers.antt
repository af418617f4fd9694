-- `Session::last_stop` of snap_debug (src/session.rt): the proof of what its contract says.
use Rattle.std.proofs.Common.{◌≤◌, length, subst, sym}
use Rattle.std.specs.Prelude.{IfOk}
use Rattle.snap_debug.specs.Session.{Session}
use Rattle.snap_debug.proofs.Bounds.{last_found}
use Rattle.snap_debug.proofs.session.Session.last_stop.Goals as goal

pub returns-clause-within : goal.returns-clause-within
returns-clause-within g c =
    let within =
    subst (λ (s : Session). c.position.result ≤ length s.run.items) (sym c.self.view_is) c.position.ensures.within in
    subst (λ (s : Session). IfOk c.last_stop.result (λ t. t ≤ length s.run.items)) c.self.view_is
    (last_found c.self.inside.recording.run c.self.inside.marks c.position.result
    c.last_stop.result within c.last_stop.ensures)
