-- `push_behind` of snap_text (src/layout.rt): what holds at the head of each of its loops.
use Rattle.std.proofs.Common.{◌≡◌, ◌≤◌, [], ◌++◌, drop}
use Rattle.snap_semantics.specs.Layout.{layout}
use Rattle.snap_text.specs.Tokens.{view_token, view_tokens}
use Rattle.snap_text.proofs.layout.push_behind.Given as goal

abbrev pub invariant-loop-token : goal.invariant-loop-token
invariant-loop-token l =
    (l.out.items ++ layout [] l.depth (view_token l.before) (view_tokens (drop l.token-index l.tokens))
    ≡ l.fn.out.items ++ layout [] 0 (view_token l.first) (view_tokens l.tokens))
    × (l.depth ≤ l.token-index)
