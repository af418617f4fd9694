-- `push_steps` of snap_picture (src/steps.rt): the proof of what its contract says.
use Rattle.std.proofs.Common.{◌≡◌, suc, ◌+◌, ◌<◌, ◌++◌, length, sym, ap, ◌∙◌, append_assoc, append-nil, arith}
use Rattle.std.proofs.lemmas.List.{get_or_read}
use Rattle.snap_acts.specs.Searches.{no_step}
use Rattle.snap_picture.specs.Shapes.{shapes_at, shapes_to}
use Rattle.snap_picture.proofs.steps.push_steps.Goals as goal

pub loop-k-init : goal.loop-k-init
loop-k-init c = (sym (append-nil c.args.shapes.now.items), c.new-writes.ensures c.args.steps.now)

pub loop-k-preserved : goal.loop-k-preserved
loop-k-preserved c =
    let ss = c.args.steps.now in
    let k = c.loop-k.k in
    let e : suc k ≡ k + 1 = omega arith in
    let inside : k < length ss = omega arith in (
      c.in_ok-push_shapes_at.ensures ∙ ap (λ t. t ++ shapes_at ss k) c.loop-k.invariant.0
          ∙ append_assoc c.args.shapes.now.items (shapes_to ss k) (shapes_at ss k)
          ∙ ap (λ n. c.args.shapes.now.items ++ shapes_to ss n) e,
      c.note.ensures ss (get_or_read ss k c.index-steps-k.result inside c.index-steps-k.is no_step)
          c.loop-k.invariant.1,
    )
