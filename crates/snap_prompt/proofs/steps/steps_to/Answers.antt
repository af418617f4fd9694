-- `steps_to` of snap_prompt (src/steps.rt): the proof of what its contract says.
use Rattle.std.proofs.Common.{rules, ◌≡◌, sym, subst}
use Rattle.snap_prompt.specs.Reach.{IsRightOf, steps_to}
use Rattle.snap_prompt.proofs.Fewest.{right}
use Rattle.snap_prompt.proofs.steps.steps_to.Goals as goal

pub returns-clause-right : goal.returns-clause-right
unfolding steps_to
returns-clause-right g c =
    let s = c.args.session.now in
    let e : c.ok_or.result ≡ steps_to s c.args.process c.args.goal = search rules in
    subst (IsRightOf s c.args.process c.args.goal) (sym e) (right s c.args.process c.args.goal)
