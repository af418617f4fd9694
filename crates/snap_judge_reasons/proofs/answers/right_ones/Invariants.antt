-- `right_ones` of snap_judge_reasons (src/answers.rt): what its loop keeps.
use Rattle.std.proofs.Common.{◌≡◌}
use Rattle.snap_judge_reasons.specs.RightAnswers.{AreRightNext}
use Rattle.snap_judge_reasons.proofs.answers.right_ones.Given as goal

abbrev pub invariant-loop-values : goal.invariant-loop-values
invariant-loop-values l = record {
  front : l.front ≡ l.fn.front;
  right : AreRightNext l.fn.front l.event.process l.event.item l.views.items;
}
