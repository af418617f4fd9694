-- `count_separators` of snap_input (src/parts.rt): the proof of what its contract says.
use Rattle.std.proofs.Common.{[], ◌∷◌, length, take, sym, ◌∙◌, ap, arith}
use Rattle.snap_input.specs.Parts.{ends_part, onto_part, parts_of}
use Rattle.snap_input.proofs.Splits.{some_left, one_part_more, no_part_more}
use Rattle.snap_input.proofs.parts.count_separators.Goals as goal

pub loop-rest-preserved-then-is_separator : goal.loop-rest-preserved-then-is_separator
loop-rest-preserved-then-is_separator c =
    let some = some_left (length c.loop-rest.rest.now) c.is_empty.result c.is_empty.ensures c.loop-rest-test.true in
    let at = c.first_piece_len.ensures in
    let cut = c.split_at.ensures in
    let ends = at.ends (sym (c.is_separator.ensures ∙ ap ends_part cut.front) ∙ c.if-is_separator.true) in
    let more =
    one_part_more c.loop-rest.rest.now c.split_at.result.1.now
    (ends ∙ ap (λ rest. [] ∷ parts_of rest) (sym cut.back)) in
    let moved = at.some some in
    let size = cut.back_len in
    let h = c.loop-rest.invariant.0 in
    let few = c.loop-rest.invariant.1 in
    (omega (arith, more, h), omega (arith, moved, size, few))

pub loop-rest-preserved : goal.loop-rest-preserved
loop-rest-preserved c =
    let at = c.first_piece_len.ensures in
    let cut = c.split_at.ensures in
    let goes_on = at.goes_on (sym (c.is_separator.ensures ∙ ap ends_part cut.front) ∙ c.if-is_separator.false) in
    let same =
    no_part_more c.loop-rest.rest.now (take c.first_piece_len.result c.loop-rest.rest.now) c.split_at.result.1.now
    (goes_on ∙ ap (λ rest. onto_part (take c.first_piece_len.result c.loop-rest.rest.now) (parts_of rest))
    (sym cut.back)) in
    let size = cut.back_len in
    let h = c.loop-rest.invariant.0 in
    let few = c.loop-rest.invariant.1 in
    (omega (arith, same, h), omega (arith, size, few))
