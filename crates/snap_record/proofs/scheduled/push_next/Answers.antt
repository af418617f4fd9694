-- `push_next` of snap_record (src/scheduled.rt): the proof of what its contract says.
use Rattle.std.proofs.Common.{List, [], ◌∷◌, ◌++◌, ◌∙◌, ap, sym}
use Rattle.snap_semantics.specs.declared.process.Item.{Item}
use Rattle.snap_record.proofs.FirstItems.{one_more}
use Rattle.snap_record.proofs.scheduled.push_next.Goals as goal

pub returns : goal.returns
returns c =
    one_more c.args.history.now.items c.push.new.self c.args.t c.in-Some.item c.requires.there
    (sym c.item.ensures ∙ c.in-Some.is)
    (c.in_ok-push.ensures.added ∙ ap (λ (xs : List Item). xs ++ c.in-Some.item ∷ []) c.requires.first)
