-- `is_more_than_space` of snap_text (src/comments.rt): the proof of what its contract says.
use Rattle.std.proofs.Common.{sym, ap, ◌∙◌, arith}
use Rattle.snap_text.specs.Tokens.{has_tokens}
use Rattle.snap_text.proofs.Space.{not_space, space_more}
use Rattle.snap_text.proofs.comments.is_more_than_space.Goals as goal

pub returns-then-not-is_space : goal.returns-then-not-is_space
returns-then-not-is_space c =
    sym (not_space c.args.line.now c.loop-b.b-index (omega arith) (sym c.is_space.ensures ∙ c.if-not-is_space.true))
    ∙ c.loop-b.invariant

pub loop-b-preserved : goal.loop-b-preserved
loop-b-preserved c =
    ap has_tokens
    (space_more c.args.line.now c.loop-b.b-index (omega arith) (sym c.is_space.ensures ∙ c.if-not-is_space.false))
    ∙ c.loop-b.invariant
