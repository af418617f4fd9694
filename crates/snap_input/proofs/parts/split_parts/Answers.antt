-- `split_parts` of snap_input (src/parts.rt): the proof of what its contract says.
use Rattle.std.proofs.Common.{map, length, take, [], ◌∷◌, ◌++◌, refl, sym, ◌∙◌, ap, arith}
use Rattle.std.proofs.lemmas.List.{map-append}
use Rattle.snap_input.specs.Parts.{ends_part, parts_of, onto_part, full_lines}
use Rattle.snap_input.proofs.Splits.{onto_none, part_ends, part_goes_on, some_left, further_on, rest_again, front_again}
use Rattle.snap_input.proofs.parts.split_parts.Goals as goal

pub loop-rest-init : goal.loop-rest-init
loop-rest-init c = (refl, omega arith, rw c.new-parts.ensures.items (onto_none (full_lines c.args.input.now)))

pub loop-rest-preserved-in_ok-push : goal.loop-rest-preserved-in_ok-push
loop-rest-preserved-in_ok-push c =
    let at = c.first_piece_len.ensures in
    let cut = c.split_at.ensures in
    let ends = at.ends (sym (c.is_separator.ensures ∙ ap ends_part cut.front) ∙ c.if-is_separator.true) in
    let parts =
    part_ends (map (λ part. part.now) c.loop-rest.parts.items) (parts_of c.args.input.now)
    (take c.loop-rest.len c.loop-rest.part.now) c.loop-rest.rest.now c.split_at.result.1.now
    (ends ∙ ap (λ rest. [] ∷ parts_of rest) (sym cut.back)) c.loop-rest.invariant.2 in (
      refl,
      omega arith,
      ap (λ items. map (λ part. part.now) items ++ onto_part [] (parts_of c.split_at.result.1.now))
          c.in_ok-push.ensures.items
          ∙ ap (λ parts. parts ++ onto_part [] (parts_of c.split_at.result.1.now))
          (map-append (λ part. part.now) c.loop-rest.parts.items _)
          ∙ parts,
    )

pub loop-rest-smaller : goal.loop-rest-smaller
loop-rest-smaller c =
    let some = some_left (length c.loop-rest.rest.now) c.is_empty.result c.is_empty.ensures c.loop-rest-test.true in
    let moved = c.first_piece_len.ensures.some some in
    let cut = c.split_at.ensures.back_len in
    omega (arith, moved, cut)

pub loop-rest-preserved : goal.loop-rest-preserved
loop-rest-preserved c =
    let at = c.first_piece_len.ensures in
    let cut = c.split_at.ensures in
    let h = c.loop-rest.invariant in
    let far =
    further_on c.loop-rest.part.now c.loop-rest.rest.now c.split_at.result.1.now c.loop-rest.len
    c.first_piece_len.result h.0 h.1 at.within cut.back_len in
    let goes_on = at.goes_on (sym (c.is_separator.ensures ∙ ap ends_part cut.front) ∙ c.if-is_separator.false) in
    let piece = take c.first_piece_len.result c.loop-rest.rest.now in
    let parts =
    part_goes_on (map (λ part. part.now) c.loop-rest.parts.items) (parts_of c.args.input.now)
    (take c.loop-rest.len c.loop-rest.part.now) c.loop-rest.rest.now piece c.split_at.result.1.now
    (goes_on ∙ ap (λ rest. onto_part piece (parts_of rest)) (sym cut.back)) h.2 in (
      rest_again c.loop-rest.part.now c.loop-rest.rest.now c.split_at.result.1.now c.loop-rest.len
          c.first_piece_len.result _ h.0 cut.back far,
      omega arith,
      ap (λ front. map (λ part. part.now) c.loop-rest.parts.items ++ onto_part front (parts_of c.split_at.result.1.now))
          (front_again c.loop-rest.part.now c.loop-rest.rest.now c.loop-rest.len c.first_piece_len.result _ h.0 far)
          ∙ parts,
    )
