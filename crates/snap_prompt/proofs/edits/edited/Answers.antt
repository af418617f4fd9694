-- `edited` of snap_prompt (src/edits.rt): the proof of what its contract says.
use Rattle.std.proofs.Common.{List, ◌++◌, take, ap, ◌∙◌}
use Rattle.snap_semantics.specs.Schedule.{form_items}
use Rattle.snap_semantics.specs.declared.process.Item.{Item}
use Rattle.snap_prompt.specs.Edits.{form_of}
use Rattle.snap_prompt.proofs.AddedItems.{is_schedule}
use Rattle.snap_prompt.proofs.edits.edited.Goals as goal

pub new-requires : goal.new-requires
new-requires c =
    let added = c.in_ok-push_addition.ensures in
    is_schedule c.args.schedule.now c.shape-shape.result c.n.result c.args.count c.args.line (form_of c.args.addition)
    (form_of c.in_ok-addition.addition)
    c.push_addition.new.items c.shape-shape.ensures.shape c.n.ensures c.shape-shape.ensures.schedule
    c.requires c.in_ok-addition.ensures
    (added.added ∙ ap (λ (xs : List Item). xs ++ form_items (form_of c.in_ok-addition.addition))
    (c.in_ok-items.ensures ∙ ap (take c.args.count) c.items.ensures.items))
    added.fits
