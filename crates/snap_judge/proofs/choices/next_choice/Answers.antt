-- `next_choice` of snap_judge (src/choices.rt).
use Rattle.std.proofs.Common.{◌<◌, ◌≤◌, inl, inr, ◌+◌, ℕ, List, length, arith, subst, sym}
use Rattle.std.proofs.lemmas.Bool.{cases_lt, cases_eq}
use Rattle.snap_judge.specs.declared.config.Config.{Config}
use Rattle.snap_judge.specs.declared.config.Step.{Step as KeptStep}
use Rattle.snap_judge.specs.Choices.{NotNowAt}
use Rattle.snap_judge.proofs.Choosing.{past_waits}
use Rattle.snap_judge.proofs.choices.next_choice.Goals as goal

one_more : (steps : List KeptStep) (c : Config) (ending from n : ℕ) →
    ((q : ℕ) → from ≤ q → q < n → NotNowAt steps c ending q) → NotNowAt steps c ending n →
    (q : ℕ) → from ≤ q → q < n + 1 → NotNowAt steps c ending q
one_more steps c ending from n before now q le lt = elim (cases_eq q n) [
  | inl same ↦ subst (NotNowAt steps c ending) (sym same) now
  | inr differ ↦ before q le (omega (arith, lt, differ))
]

all_places : (steps : List KeptStep) (c : Config) (ending from n : ℕ) → length c.slots.items ≤ n →
    ((q : ℕ) → from ≤ q → q < n → NotNowAt steps c ending q) → (q : ℕ) → from ≤ q → NotNowAt steps c ending q
all_places steps c ending from n all before q le = elim (cases_lt q n) [
  | inl lt ↦ before q le lt
  | inr past ↦ past_waits steps c ending q (omega (arith, all, past))
]

pub loop-place-preserved : goal.loop-place-preserved
loop-place-preserved c = record {
  end = c.loop-place.invariant.end;
  from = (let le = c.loop-place.invariant.from in omega (arith, le));
  waiting = one_more c.args.steps.now c.args.config.now c.args.ending c.args.from c.loop-place.place
      c.loop-place.invariant.waiting c.in_default.ensures.none;
}

pub returns-clause-none : goal.returns-clause-none
returns-clause-none c =
    all_places c.args.steps.now c.args.config.now c.args.ending c.args.from c.loop-place.place
    (let end = c.loop-place.invariant.end in let past = c.loop-place-test.false in omega (arith, end, past))
    c.loop-place.invariant.waiting

pub returns-in-Some-clause-some : goal.returns-in-Some-clause-some
returns-in-Some-clause-some c =
    let found = c.in-Some.ensures.some in (
      found.0,
      (let le = c.loop-place.invariant.from in let same = found.1 in omega (arith, le, same)),
      λ q le lt. c.loop-place.invariant.waiting q le (let same = found.1 in omega (arith, lt, same)),
    )
