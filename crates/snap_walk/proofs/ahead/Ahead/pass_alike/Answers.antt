-- `Ahead::pass_alike` of snap_walk (src/ahead.rt): the proof of what its contract says.
use Rattle.std.proofs.Common.{◌++◌, List, replicate, sym, ap, ◌∙◌}
use Rattle.snap_semantics.specs.declared.process.Item.{Item}
use Rattle.snap_walk.proofs.Left.{refilled}
use Rattle.snap_walk.proofs.ahead.Ahead.pass_alike.Goals as goal

pub returns-clause-alike : goal.returns-clause-alike
returns-clause-alike c =
    let here = c.self.inside in
    let behind =
    (refilled here.rest c.next.new.self c.next.result c.repeated-item.result.0 c.repeated-item.result.1
    c.self.invariant.some c.next.ensures.steps c.repeated-item.ensures).0 in (
      here.item,
      sym c.self.view_is ∙ ap (λ (xs : List Item). replicate here.count here.item ++ xs) (sym behind),
    )
