-- `StepCounter::pass` of snap_hunt (src/step_counter.rt).
use Rattle.std.proofs.Common.{◌≡◌, sym, subst, ◌∙◌, arith}
use Rattle.snap_hunt.specs.Counting.{HasCounted}
use Rattle.snap_hunt.proofs.step_counter.StepCounter.pass.Goals as goal

pub pass_next-requires : goal.pass_next-requires
pass_next-requires c =
    let inv = c.loop-self.invariant in (
      c.requires.0,
      c.requires.1,
      inv.counted c.requires.0 c.requires.1 c.requires.2 c.requires.3,
      c.requires.3 c.loop-self.self.done inv.begun c.loop-self-test.true,
    )

pub loop-self-smaller : goal.loop-self-smaller
loop-self-smaller c =
    let inv = c.loop-self.invariant in
    let so =
    c.pass_next.ensures.counted c.requires.0 c.requires.1
    (inv.counted c.requires.0 c.requires.1 c.requires.2 c.requires.3)
    (c.requires.3 c.loop-self.self.done inv.begun c.loop-self-test.true) in
    omega (arith, c.loop-self-test.true, so.done)

pub loop-self-preserved : goal.loop-self-preserved
loop-self-preserved c =
    let l = c.loop-self.self in
    let next = c.pass_next.new.self in
    let inv = c.loop-self.invariant in
    let so =
    c.pass_next.ensures.counted c.requires.0 c.requires.1
    (inv.counted c.requires.0 c.requires.1 c.requires.2 c.requires.3)
    (c.requires.3 l.done inv.begun c.loop-self-test.true) in
    record {
      begun = omega (arith, inv.begun, so.done);
      order = omega (arith, c.loop-self-test.true, so.done);
      most = c.pass_next.ensures.most ∙ inv.most;
      counted = λ r quiet h untold. subst (λ m. HasCounted r m next.done next) (sym c.pass_next.ensures.most)
          (subst (λ k. HasCounted r l.most k next) (sym so.done) (c.pass_next.ensures.counted r quiet
          (inv.counted r quiet h untold) (untold l.done inv.begun c.loop-self-test.true)));
    }

pub returns-clause-counted : goal.returns-clause-counted
returns-clause-counted c = λ r quiet h untold order.
    let l = c.loop-self.self in
    let inv = c.loop-self.invariant in
    let end : l.done ≡ c.args.until = omega (arith, inv.order, c.loop-self-test.false) in
    subst (λ k. HasCounted r c.args.self.now.most k l) end
    (subst (λ m. HasCounted r m l.done l) inv.most (inv.counted r quiet h untold))
