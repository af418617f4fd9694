-- `tell` of snap_faults (src/told.rt): the proof of what its contract says.
use Rattle.std.proofs.Common.{◌≡◌, ℕ, List, Vec, Result, IfOk, inr, ◌∙◌, subst}
use Rattle.std.specs.Global.{Global}
use Rattle.std.specs.declared.alloc.AllocError.{AllocError}
use Rattle.snap_faults.specs.Names.{view_names}
use Rattle.snap_faults.specs.Told.{TellsMore}
use Rattle.snap_faults.proofs.told.tell.Goals as goal
use Rattle.snap_faults.proofs.told.tell.Goals.{in-Ok, in-Err}

-- a fault is told with what explains it, or alone
pub returns-clause-says : goal.returns-clause-says
returns-clause-says g c text has = elim c.match-more.branch [
  | in-Ok w ↦
      let is : w.as_slice.result.now ≡ text = w.as_slice.ensures.value
      ∙ subst (λ (r : Result (Vec ℕ Global) AllocError). IfOk r (λ m. m.items ≡ text)) w.in-Ok.is has in
      rw w.errors-is (subst (λ (t : List ℕ). TellsMore (view_names c.args.names.now) c.args.fault.now t
      (g.E.ByteSink.state c.args.errors.now) (g.E.ByteSink.state w.say_more.new.errors)) is w.say_more.ensures)
  | in-Err w ↦ rw w.errors-is (inr w.complain.ensures)
]
