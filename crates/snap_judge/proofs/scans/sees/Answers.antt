-- `sees` of snap_judge (src/scans.rt).
use Rattle.std.proofs.Common.{rules, ◌≡◌, ap, sym, ◌∙◌}
use Rattle.snap_runs.specs.Operation.{Sees}
use Rattle.snap_judge.specs.Kept.{called_at}
use Rattle.snap_judge.proofs.scans.sees.Goals as goal

pub returns-in-Sees : goal.returns-in-Sees
returns-in-Sees c =
    let is : (called_at c.args.steps.now c.args.call).action ≡ Sees c.in-Sees.view.now = search rules in (
      λ t. is ∙ ap Sees (search rules),
      λ e.
          let both : Sees c.in-Sees.view.now ≡ Sees c.args.values.now = sym is ∙ e in
          let same : c.in-Sees.view.now ≡ c.args.values.now = cc in
          search rules,
    )
