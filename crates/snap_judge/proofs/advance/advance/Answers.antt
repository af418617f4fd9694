-- `advance` of snap_judge (src/advance.rt).
use Rattle.std.proofs.Common.{◌∙◌, arith, rules}
use Rattle.snap_judge.specs.Kept.{KeepsCounts}
use Rattle.snap_judge.specs.declared.config.Config.{Config}
use Rattle.snap_judge.proofs.Goes.{goes_on}
use Rattle.snap_judge.proofs.advance.advance.Goals as goal

pub returns-then-not-branch-clause-goes_on : goal.returns-then-not-branch-clause-goes_on
returns-then-not-branch-clause-goes_on c =
    goes_on c.args.steps.now _ _ _ _ _ _ c.loop.invariant.goes c.in_ok-pass_step.ensures.goes_on

both_kept : (c c' c'' : Config) → KeepsCounts c c' → KeepsCounts c' c'' → KeepsCounts c c''
both_kept c c' c'' g h = record { slots = h.slots ∙ g.slots; values = h.values ∙ g.values }

pub loop-preserved : goal.loop-preserved
loop-preserved c =
    let goes = c.in_ok-pass_step.ensures.goes_on in
    record {
      goes = goes_on c.args.steps.now _ _ _ _ _ _ c.loop.invariant.goes goes;
      settled = c.in_ok-pass_step.ensures.settled;
      kept = both_kept _ _ _ c.loop.invariant.kept c.in_ok-pass_step.ensures.kept;
      config = goes.config c.loop.invariant.config;
      there = (let passed = c.in_ok-pass_step.ensures.passed in let is = c.if-not-branch.false in
          let before = c.loop.invariant.there in let now = passed (search rules) in omega (arith, before, now));
      end = c.loop.invariant.end;
    }
