-- `tokens` of snap_text (src/lexer.rt): the proof of what its contract says.
use Rattle.std.proofs.Common.{◌<◌, length, sym, ◌∙◌, arith}
use Rattle.std.proofs.lemmas.Grind.{common_steps}
use Rattle.snap_text.proofs.Lexemes.{turn, stop, lexeme_first, lexeme_stops, space_turn, sign_is_first}
use Rattle.snap_text.proofs.lexer.tokens.Goals as goal

pub returns-in-None : goal.returns-in-None
returns-in-None c =
    let rest = c.loop-rest.rest.now in
    let some : 0 < length rest = grind (arith, common_steps) in
    stop c.args.line.now rest c.loop-rest.out.items c.loop-rest.invariant
    (lexeme_stops rest c.split_at.result.0.now c.lexeme_len.result 0 c.lexeme_token.result some
    (sym c.is_lexeme_byte.ensures ∙ c.if-is_lexeme_byte.true)
    c.split_at.ensures.front c.lexeme_len.ensures.value c.lexeme_token.ensures c.in-None.is)

pub loop-rest-preserved-then-is_lexeme_byte : goal.loop-rest-preserved-then-is_lexeme_byte
loop-rest-preserved-then-is_lexeme_byte c =
    let rest = c.loop-rest.rest.now in
    let some : 0 < length rest = grind (arith, common_steps) in
    turn c.args.line.now rest c.split_at.result.1.now c.loop-rest.out.items c.push.new.self.items
    c.in-Some.token c.loop-rest.invariant
    (lexeme_first rest c.split_at.result.0.now c.split_at.result.1.now c.lexeme_len.result 0
    c.lexeme_token.result c.in-Some.token some
    (sym c.is_lexeme_byte.ensures ∙ c.if-is_lexeme_byte.true) c.split_at.ensures.front
    c.split_at.ensures.back c.lexeme_len.ensures.value
    c.lexeme_token.ensures c.in-Some.is)
    c.in_ok-push-in-Some.ensures.items

pub loop-rest-preserved-then-is_space : goal.loop-rest-preserved-then-is_space
loop-rest-preserved-then-is_space c =
    let rest = c.loop-rest.rest.now in
    let some : 0 < length rest = grind (arith, common_steps) in
    space_turn c.args.line.now rest c.loop-rest.out.items 0 c.loop-rest.invariant some
    (sym c.is_lexeme_byte.ensures ∙ c.if-is_lexeme_byte.false) (sym c.is_space.ensures ∙ c.if-is_space.true)

pub loop-rest-preserved : goal.loop-rest-preserved
loop-rest-preserved c =
    let rest = c.loop-rest.rest.now in
    let some : 0 < length rest = grind (arith, common_steps) in
    turn c.args.line.now rest c.in-Some-front_symbol.after.now c.loop-rest.out.items
    c.push-in-Some-front_symbol.new.self.items _ c.loop-rest.invariant
    (sign_is_first (λ x. (x.0, x.1.now)) c.front_symbol.result _ rest 0 c.front_symbol.ensures
    c.in-Some-front_symbol.is some
    (sym c.is_lexeme_byte.ensures ∙ c.if-is_lexeme_byte.false)
    (sym c.is_space.ensures ∙ c.if-is_space.false) c.if-b-eq35.false)
    c.in_ok-push-in-Some-front_symbol.ensures.items
