-- `placed_tokens` of snap_explanation (src/pieces.rt): the proof of what its contract says.
use Rattle.std.proofs.Common.{◌≡◌, ◌<◌, List, Option, Some, None, length, map}
use Rattle.std.proofs.Common.{get_or, nat_eq, false, sym, ap, ◌∙◌, arith}
use Rattle.std.proofs.lemmas.Bool.{ne_eqb}
use Rattle.std.proofs.lemmas.Grind.{common_steps}
use Rattle.snap_semantics.specs.Token.{Token, tokens_of}
use Rattle.snap_text.specs.declared.lexer.Token as code
use Rattle.snap_text.specs.Tokens.{view_tokens}
use Rattle.snap_explanation.specs.Pieces.{placed_of}
use Rattle.snap_explanation.specs.Steps.{view_placed_token}
use Rattle.snap_explanation.proofs.Fronts.{ends_here, goes_on}
use Rattle.snap_explanation.proofs.pieces.placed_tokens.Goals as goal

pub returns-in-None : goal.returns-in-None
returns-in-None c =
    let rest = c.loop-rest.rest.now in
    let some : 0 < length rest = grind (arith, common_steps) in
    let plain : nat_eq (get_or rest 0 0) 35 ≡ false = ne_eqb (get_or rest 0 0) 35 c.if-rest-ne35.true in
    let none : tokens_of c.split_at.result.0.now ≡ None = sym (rw c.in-None.is at c.in_ok-tokens.ensures) in
    ends_here rest c.split_at.result.0.now c.piece_len.result c.loop-rest.column 0
    (map view_placed_token c.loop-rest.out.items) (placed_of c.args.line.now) some plain
    c.piece_len.ensures.value c.split_at.ensures.front none c.loop-rest.invariant.1

pub loop-rest-preserved : goal.loop-rest-preserved
loop-rest-preserved c =
    let rest = c.loop-rest.rest.now in
    let some : 0 < length rest = grind (arith, common_steps) in
    let plain : nat_eq (get_or rest 0 0) 35 ≡ false = ne_eqb (get_or rest 0 0) 35 c.if-rest-ne35.true in
    let found : tokens_of c.split_at.result.0.now ≡ Some (view_tokens c.as_slice.result.now) =
    sym (rw c.in-Some.is at c.in_ok-tokens.ensures)
    ∙ ap (λ (x : List code.Token). let o : Option (List Token) = Some (view_tokens x) in o)
    (sym c.as_slice.ensures.value) in (
      omega (arith, c.split_at.ensures.front_len, c.split_at.ensures.back_len, c.loop-rest.invariant.0),
      goes_on rest c.split_at.result.0.now c.split_at.result.1.now c.piece_len.result c.loop-rest.column 0
          (map view_placed_token c.loop-rest.out.items)
          (map view_placed_token c.push_first.new.out.items) (view_tokens c.as_slice.result.now)
          (placed_of c.args.line.now) some plain c.piece_len.ensures.value
          c.split_at.ensures.front c.split_at.ensures.back found
          c.in_ok-push_first-in-Some.ensures c.loop-rest.invariant.1,
    )
