-- `leads_to` of snap_explanation (src/names.rt): what holds at the head of each of its loops.
use Rattle.std.proofs.Common.{◌≡◌, length}
use Rattle.snap_explanation.specs.Names.{leads_to}
use Rattle.snap_text.specs.Tokens.{view_tokens}
use Rattle.snap_explanation.proofs.names.leads_to.Given as goal

abbrev pub invariant-loop-rest : goal.invariant-loop-rest
invariant-loop-rest l = leads_to l.number (view_tokens l.rest) ≡ leads_to l.number (view_tokens l.tokens)

abbrev pub decreases-loop-rest : goal.decreases-loop-rest
decreases-loop-rest l = length l.rest
