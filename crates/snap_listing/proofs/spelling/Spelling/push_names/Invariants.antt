-- `Spelling::push_names` of snap_listing (src/spelling.rt): what holds at the head of each of its loops.
use Rattle.std.proofs.Common.{◌≡◌, ◌∷◌, ◌++◌, map, drop}
use Rattle.std.specs.Prelude.{false}
use Rattle.snap_semantics.specs.Token.{Identifier}
use Rattle.snap_text.specs.Tokens.{view_tokens}
use Rattle.snap_listing.proofs.spelling.Spelling.push_names.Given as goal

abbrev pub invariant-loop-name : goal.invariant-loop-name
invariant-loop-name l =
    l.self.failed ≡ false →
    (l.fn.self.failed ≡ false)
    × (view_tokens l.self.tokens.items ++ map (λ x. Identifier x) (drop l.name-index l.names)
    ≡ view_tokens l.fn.self.tokens.items ++ Identifier l.keyword ∷ map (λ x. Identifier x) l.names)
