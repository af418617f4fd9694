-- `talk` of snap_streams (src/turns.rt): what holds at the head of each of its loops.
use Rattle.std.specs.Prelude.{◌≡◌, None}
use Rattle.snap_streams.specs.Talks.{HasPassed, HasShown, HasTaken}
use Rattle.snap_streams.proofs.turns.talk.Given as goal

-- what has passed, and what was shown, so far
abbrev pub invariant-loop-count : goal.invariant-loop-count
invariant-loop-count g l = record {
  well : g.C.Console.failure l.console ≡ None;
  passed : HasPassed g.P.Respondent.prompt_of g.P.Respondent.says g.P.Respondent.next_of l.fn.partner l.partner
      (g.C.Console.passed l.fn.console) (g.C.Console.passed l.console);
  shown : HasShown g.P.Respondent.prompt_of g.P.Respondent.says g.P.Respondent.next_of l.fn.partner l.partner
      (g.C.Console.left l.fn.console) (g.C.Console.left l.console) (g.C.Console.shown l.fn.console)
      (g.C.Console.shown l.console);
  taken : HasTaken l._count (g.C.Console.left l.fn.console) (g.C.Console.left l.console);
}
