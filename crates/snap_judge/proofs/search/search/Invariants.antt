-- `search` of snap_judge (src/search.rt): what its loop keeps.
use Rattle.std.proofs.Common.{◌≡◌}
use Rattle.snap_judge.specs.Nodes.{IsAt, IsTrail, kept_by}
use Rattle.snap_judge.proofs.search.search.Given as goal

abbrev pub invariant-loop : goal.invariant-loop
invariant-loop l = record {
  trail : IsTrail l.steps l.trail;
  at : IsAt l.steps l.trail l.entered;
  processes : l.trail.processes ≡ l.processes;
  words : l.trail.words ≡ l.words;
  count : kept_by l.trail ≡ l.counter;
}
