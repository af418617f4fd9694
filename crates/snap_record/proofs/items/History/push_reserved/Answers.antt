-- `History::push_reserved` of snap_record (src/items.rt): the proof of what its contract says.
use Rattle.std.proofs.Common.{[], ◌∷◌, ◌++◌, sym, ap, ◌∙◌}
use Rattle.snap_semantics.specs.declared.process.Item.{Item}
use Rattle.snap_record.specs.Items.{HistoryView, kept_items}
use Rattle.snap_record.proofs.Kept.{call_kept}
use Rattle.snap_record.proofs.items.History.push_reserved.Goals as goal

pub returns-in-Call : goal.returns-in-Call
returns-in-Call c =
    let i = c.self.inside in
    let calls' = c.push_reserved-in-Call.new.self.items in
    let xs' = c.push_reserved-in-Call-2.new.self.items in
    let kept =
    call_kept i.calls.items calls' _ c.len-place.result i.items.items xs' c.push_reserved-in-Call.ensures.items
    (c.len-place.ensures ∙ i.calls.ok.0) c.push_reserved-in-Call-2.ensures.items c.self.invariant in
    record {
      items =
          kept ∙ ap (λ (x : Item). kept_items i.calls.items i.items.items ++ x ∷ []) (sym c.in-Call.is)
          ∙ ap (λ (s : HistoryView). s.items ++ c.args.item ∷ []) c.self.view_is;
    }
