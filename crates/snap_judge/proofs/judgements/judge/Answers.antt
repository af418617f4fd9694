-- `judge` of snap_judge (src/judgements.rt).
use Rattle.std.proofs.Common.{rules, ◌≤◌, ℕ, List, ap, length, map, subst, sym, ◌∙◌}
use Rattle.snap_judge.specs.declared.config.Found.TheVariants as found
use Rattle.snap_judge.specs.declared.config.Step.{Step as KeptStep}
use Rattle.snap_judge.specs.History.{History}
use Rattle.snap_judge.specs.Nodes.{HasFound}
use Rattle.snap_judge.specs.Kept.{called_at}
use Rattle.snap_judge.specs.Linearizable.{IsLinearizationOf, up_to}
use Rattle.snap_judge.proofs.Judging.{explained_decides, unexplained_decides, up_to_whole}
use Rattle.snap_judge.proofs.judgements.judge.Goals as goal

pub returns-in-Explained : goal.returns-in-Explained
returns-in-Explained c =
    let h = c.args.history.now in
    let steps = c.in_ok-steps.steps.items in
    let order = c.in-Explained.order in
    let few : length h.events ≤ c.len-count.result = search rules in
    let whole = up_to_whole c.len-count.result h few in
    let f = subst (HasFound c.args.most (up_to c.len-count.result h) steps) c.in-Explained.is c.in_ok-steps.ensures in
    subst (IsLinearizationOf h)
    (sym (c.in_ok-ordered-in-Explained.ensures
    ∙ ap (λ (xs : List KeptStep). map (called_at xs) c.deref-in-Explained.result.now) c.deref.ensures.value
    ∙ ap (λ (xs : List ℕ). map (called_at steps) xs) c.deref-in-Explained.ensures.value))
    (explained_decides c.args.most h steps order c.requires
    (subst (λ (x : History). HasFound c.args.most x steps (found.Explained order)) whole f))

pub failure-requires-clause-fails : goal.failure-requires-clause-fails
failure-requires-clause-fails c =
    let h = c.args.history.now in
    let steps = c.in_ok-steps.steps.items in
    let few : length h.events ≤ c.len-count.result = search rules in
    let whole = up_to_whole c.len-count.result h few in
    let f = subst (HasFound c.args.most (up_to c.len-count.result h) steps) c.in-Unexplained.is c.in_ok-steps.ensures in
    unexplained_decides c.args.most c.in-Unexplained.passed h steps c.requires
    (subst (λ (x : History). HasFound c.args.most x steps (found.Unexplained c.in-Unexplained.passed)) whole f)
