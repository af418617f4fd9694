-- `Ahead::pass` of snap_walk (src/ahead.rt): the proof of what its contract says.
use Rattle.std.proofs.Common.{◌≡◌, ◌<◌, ◌∷◌, List, length, sym, ap, subst, ◌∙◌, arith}
use Rattle.snap_semantics.specs.declared.process.Item.{Item}
use Rattle.snap_sched.specs.Segments.{items_of_segments}
use Rattle.snap_walk.proofs.Left.{comes, last_one, refilled}
use Rattle.snap_walk.proofs.ahead.Ahead.pass.Goals as goal

pub returns-else-self-gt1 : goal.returns-else-self-gt1
returns-else-self-gt1 c =
    let here = c.self.inside in
    let behind =
    (refilled here.rest c.next.new.self c.next.result c.repeated-item.result.0 c.repeated-item.result.1
    c.self.invariant.some c.next.ensures.steps c.repeated-item.ensures).0 in
    let some =
    comes here.item here.count here.rest c.self.invariant
    (subst (λ (xs : List Item). 0 < length xs) (sym c.self.view_is) c.requires) in
    let once = c.if-self-gt1.false in
    let one : here.count ≡ 1 = omega (arith, some, once) in (
      here.item,
      sym c.self.view_is ∙ last_one here.item here.count (items_of_segments here.rest) one
          ∙ ap (λ (xs : List Item). here.item ∷ xs) (sym behind),
    )
