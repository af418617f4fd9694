-- `push_answer` of snap_history_text (src/canonical_text.rt): what holds at the head of each of its loops.
use Rattle.std.proofs.Common.{◌≡◌, ◌∷◌, ◌++◌, codes, drop, map}
use Rattle.snap_semantics.specs.Token.{Identifier, Number}
use Rattle.snap_text.specs.Tokens.{view_tokens}
use Rattle.snap_history_text.proofs.canonical_text.push_answer.Given as goal

-- the tokens so far, and the values that are left
abbrev pub invariant-loop-value : goal.invariant-loop-value
invariant-loop-value l =
    view_tokens l.tokens.items ++ map (λ x. Number x) (drop l.value-index l.values)
    ≡ Identifier (codes "event") ∷ Number l.item ∷ Number l.process ∷ Identifier (codes "answer")
    ∷ map (λ x. Number x) l.values
