-- `apply_idle` of snap_walk (src/walk.rt): the proof of what its contract says.
use Rattle.std.proofs.Common.{◌≡◌, false, sym, ap, subst, ◌∙◌}
use Rattle.snap_semantics.specs.State.{State, process_at}
use Rattle.snap_semantics.specs.Table.{done, who}
use Rattle.snap_semantics.specs.declared.process.Item.{Item}
use Rattle.snap_semantics.specs.declared.process.Outcome.{Outcome}
use Rattle.snap_semantics.specs.declared.process.Outcome.TheVariants.{Skipped}
use Rattle.snap_semantics.specs.declared.process.Reason.{Reason}
use Rattle.snap_walk.specs.Walking.{is_busy, runs_line}
use Rattle.snap_walk.proofs.Walks.{step_idle}
use Rattle.snap_walk.proofs.walk.apply_idle.Goals as goal

pub returns-in-Step-clause-done : goal.returns-in-Step-clause-done
returns-in-Step-clause-done g c =
    let m = c.args.machine.now in
    let idle =
    ap is_busy c.status.ensures
    ∙ subst (λ (x : Item). runs_line x (process_at m.state (who x)).status ≡ false) c.in-Step.is c.requires.idle in
    ap (λ (x : Item). done m.source m.shape m.state x) c.in-Step.is
    ∙ step_idle m.source m.shape m.state c.in-Step.i c.status.result (sym c.status.ensures) idle
    ∙ ap (λ (r : Reason). let z : State × Outcome = (m.state, Skipped r) in z) (sym c.skip_reason.ensures)
