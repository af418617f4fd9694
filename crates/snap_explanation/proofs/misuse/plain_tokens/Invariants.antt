-- `plain_tokens` of snap_explanation (src/misuse.rt): what holds at the head of each of its loops.
use Rattle.std.proofs.Common.{◌≡◌, ◌++◌, map, drop}
use Rattle.snap_text.specs.Tokens.{view_token}
use Rattle.snap_explanation.specs.Steps.{view_placed_token}
use Rattle.snap_explanation.specs.Names.{tokens_of_placed}
use Rattle.snap_explanation.proofs.misuse.plain_tokens.Given as goal

abbrev pub invariant-loop-token : goal.invariant-loop-token
invariant-loop-token l =
    map view_token l.plain.items ++ tokens_of_placed (map view_placed_token (drop l.token-index l.tokens))
    ≡ tokens_of_placed (map view_placed_token l.tokens)
