-- Numbers are added to the tokens of a line.
use Rattle.std.proofs.Common.{◌≡◌, ℕ, List, [], ◌∷◌, ◌++◌, map, ap, ◌∙◌, append_assoc}
use Rattle.std.proofs.lemmas.List.{map-append}
use Rattle.snap_semantics.specs.Token.{Token, Number}
use Rattle.snap_text.specs.Tokens.{view_token, view_tokens}
use Rattle.snap_text.specs.declared.lexer.Token as code
use Rattle.snap_text.specs.declared.lexer.Token.TheVariants as given

pub one_number : (ts : List code.Token) (x : ℕ) (rest : List ℕ) →
    view_tokens (ts ++ given.Number x ∷ []) ++ map (λ y. Number y) rest
    ≡ view_tokens ts ++ (Number x ∷ map (λ y. Number y) rest)
one_number ts x rest =
    ap (λ (us : List Token). us ++ map (λ y. Number y) rest) (map-append view_token ts (given.Number x ∷ []))
    ∙ append_assoc (view_tokens ts) (Number x ∷ []) (map (λ y. Number y) rest)
