-- `put_back` of snap_machine (src/reversal.rt): the proof of what its contract says.
use Rattle.std.proofs.Common.{◌≡◌, List, Vec, Global, length, sym, ap, ◌∙◌}
use Rattle.std.proofs.lemmas.List.{with_items_is}
use Rattle.std.specs.Vec.{with_items}
use Rattle.snap_machine.proofs.reversal.put_back.Goals as goal

-- what a slice of a `Vec` was written to is what the `Vec` has
kept : {X : Type 0} {old : List X} (v : Vec X Global) (new : List X) → length new ≡ length old → old ≡ v.items →
    (with_items v new).items ≡ new
kept v new e is = with_items_is v new (e ∙ ap length is ∙ sym v.ok.0)

pub returns-in-Scalar-clause-locals : goal.returns-in-Scalar-clause-locals
returns-in-Scalar-clause-locals g c =
    let was = c.as_mut_slice-scalars.ensures.value in
    let is = kept c.args.process.now.scalars c.set_scalar.new.values c.set_scalar.auto.values was in
    rw (c.in-Scalar.is, is, rw (c.scalars.ensures.scalars, was) at c.set_scalar.ensures)

pub returns-in-Number-clause-locals : goal.returns-in-Number-clause-locals
returns-in-Number-clause-locals g c =
    let was = c.as_mut_slice-rows.ensures.value in
    let is = kept c.args.process.now.rows c.set_number.new.rows c.set_number.auto.rows was in
    rw (c.in-Number.is, is, rw (c.rows.ensures.rows, was) at c.set_number.ensures)

pub returns-in-Row-clause-locals : goal.returns-in-Row-clause-locals
returns-in-Row-clause-locals g c =
    let was = c.as_mut_slice.ensures.value in
    let is = kept c.args.process.now.rows c.set_row.new.rows c.set_row.auto.rows was in
    rw (c.in-Row.is, is, rw (c.rows-in-Row.ensures.rows, was) at c.set_row.ensures)

pub returns-in-LocalWord-clause-locals : goal.returns-in-LocalWord-clause-locals
returns-in-LocalWord-clause-locals g c =
    let was = c.as_mut_slice-words.ensures.value in
    let is = kept c.args.process.now.words c.set_word.new.values c.set_word.auto.values was in
    rw (c.in-LocalWord.is, is, rw (c.words.ensures.words, was) at c.set_word.ensures)

pub returns-in-LocalView-clause-locals : goal.returns-in-LocalView-clause-locals
returns-in-LocalView-clause-locals g c =
    let was = c.as_mut_slice-in-LocalView.ensures.value in
    let is = kept c.args.process.now.views c.set_view.new.views c.set_view.auto.views was in
    rw (c.in-LocalView.is, is, rw (c.views.ensures.views, was) at c.set_view.ensures)
