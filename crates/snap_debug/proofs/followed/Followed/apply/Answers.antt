-- `Followed::apply` of snap_debug (src/followed.rt): the proof of what its contract says.
use Rattle.std.proofs.Common.{◌≡◌, suc, ◌<◌, ◌∷◌, [], ◌++◌, length, refl, sym, ◌∙◌, ap, subst}
use Rattle.snap_words.specs.Shape.{IsOneOf, max_items}
use Rattle.snap_semantics.specs.Table.{who}
use Rattle.snap_runs.specs.Run.{Run}
use Rattle.snap_record.proofs.Longer.{longer, same_run}
use Rattle.snap_debug.specs.Followed.{IsFollowed}
use Rattle.snap_debug.proofs.Following.{followed_on}
use Rattle.snap_debug.proofs.followed.Followed.apply.Goals as goal

pub invariant_of-self-2 : goal.invariant_of-self-2
invariant_of-self-2 g c =
    let i = c.self.inside in
    let m = i.machine in
    let x = c.args.item in
    let o = c.in_ok-outcome.outcome in
    let t = c.len.result in
    let r : Run = record { source = m.source; shape = m.shape; items = i.items.items } in
    let one : IsOneOf m.shape.n (who x) =
    subst (λ (y : Run). IsOneOf y.shape.n (who x)) (sym c.self.view_is) c.requires.process in
    let few : length i.items.items < max_items =
    subst (λ (y : Run). length y.items < max_items) (sym c.self.view_is) c.requires.few in
    let more : c.push_reserved.new.self.items ≡ i.items.items ++ x ∷ [] =
    c.push_reserved.ensures.items ∙ ap (λ l. l ++ x ∷ []) c.in_ok-reserve.ensures.items in
    let number : t ≡ suc (length i.items.items) = c.len.ensures ∙ ap length more ∙ longer r x in
    subst (λ (y : Run). IsFollowed y g.K.Kind.TAG c.apply.new.self.state c.note_event.new.events.items)
    (sym (same_run r r x c.apply.new.self.source c.apply.new.self.shape c.push_reserved.new.self.items refl
    c.in_ok-outcome.ensures.source c.in_ok-outcome.ensures.shape more))
    (followed_on r g.K.Kind.TAG m.state c.apply.new.self.state x o i.events.items c.reserve-2.new.self.items
    c.note_event.new.events.items t
    c.self.invariant one few number c.in_ok-outcome.ensures.done c.in_ok-reserve-2.ensures.items c.note_event.ensures)

pub returns-clause-done : goal.returns-clause-done
returns-clause-done g c =
    let i = c.self.inside in
    let m = i.machine in
    let x = c.args.item in
    let r : Run = record { source = m.source; shape = m.shape; items = i.items.items } in
    same_run r c.args.self.now x c.apply.new.self.source c.apply.new.self.shape c.push_reserved.new.self.items
    c.self.view_is c.in_ok-outcome.ensures.source c.in_ok-outcome.ensures.shape
    (c.push_reserved.ensures.items ∙ ap (λ l. l ++ x ∷ []) c.in_ok-reserve.ensures.items)
