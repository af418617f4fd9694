-- `pass_end` of snap_judge (src/advance.rt).
use Rattle.std.proofs.Common.{◌≡◌, suc, ◌+◌, refl, sym, ◌∙◌, arith}
use Rattle.snap_judge.proofs.Goes.{there, kept_taken_not_free}
use Rattle.snap_judge.proofs.Passing.{end_passes, end_stuck}
use Rattle.snap_judge.proofs.advance.pass_end.Goals as goal

pub returns-in-Taken-clause-goes_on : goal.returns-in-Taken-clause-goes_on
returns-in-Taken-clause-goes_on c =
    end_passes c.args.steps.now c.args.order.now.items c.args.config.now _ c.args.place c.in-Taken.field-0
    c.requires.next c.requires.config c.requires.is (let e : c.args.config.now.position + 1 ≡ suc c.args.config.now.position = omega arith in e)
    refl refl
    (there _ _ _ _ c.requires.place c.index.ensures c.in-Taken.is)

pub returns-in-Free-clause-stuck : goal.returns-in-Free-clause-stuck
returns-in-Free-clause-stuck c now = (
  refl,
  end_stuck c.args.steps.now c.args.config.now c.args.place c.requires.next c.requires.is
      (λ j held. kept_taken_not_free j
      (sym held ∙ there _ _ _ _ c.requires.place c.index.ensures c.in-Free.is)),
)
