-- `first_within` of snap_acts (src/searches.rt): the proof of what its contract says.
use Rattle.std.proofs.Common.{◌≡◌, ◌+◌, ◌-◌, ◌<◌, ◌∙◌, ℕ, zero, suc, List, false, get_or, length, arith}
use Rattle.std.proofs.lemmas.List.{get_or_read}
use Rattle.snap_acts.specs.declared.act.TraceStep.{TraceStep}
use Rattle.snap_acts.specs.declared.searches.StepPattern.{StepPattern}
use Rattle.snap_acts.specs.Searches.{first_within, meets, no_step}
use Rattle.snap_acts.proofs.searches.first_within.Goals as goal

-- A search for the first place goes on from a place where there is not what is wanted.
goes_on : (w : StepPattern) (ss : List TraceStep) (k left : ℕ) → 0 < left → meets w (get_or ss k no_step) ≡ false →
    first_within w ss (k + 1) (left - 1) ≡ first_within w ss k left
goes_on w ss k zero more away = absurd (omega arith)
goes_on w ss k (suc left) more away = let one : suc left - 1 ≡ left = omega arith in cc

pub loop-left-preserved : goal.loop-left-preserved
loop-left-preserved c =
    let inside : c.loop-left.k < length c.args.steps.now =
    omega (arith, c.loop-left-test.true, c.loop-left.invariant.1, c.requires) in
    let there = get_or_read c.args.steps.now c.loop-left.k c.index-steps-k.result inside c.index-steps-k.is no_step in (
      goes_on c.args.wanted c.args.steps.now c.loop-left.k c.loop-left.left (omega (arith, c.loop-left-test.true))
          (cc (there, c.meets.ensures, c.if-meets.false))
          ∙ c.loop-left.invariant.0,
      omega (arith, c.loop-left-test.true, c.loop-left.invariant.1),
    )
