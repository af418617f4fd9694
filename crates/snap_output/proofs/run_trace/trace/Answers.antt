-- `trace` of snap_output (src/run_trace.rt): the proof of what its contract says.
use Rattle.std.proofs.Common.{◌≡◌, List, Result, Ok, Err, ap, arith, map, refl, sym, ◌∙◌, ℕ}
use Rattle.std.specs.Prelude.{IfOk}
use Rattle.snap_semantics.specs.Source.{Source}
use Rattle.snap_listing.specs.LineTexts.{seen_line, written}
use Rattle.snap_output.proofs.Walks.{all_told, begun, next_fits, one_more}
use Rattle.snap_output.proofs.run_trace.trace.Goals as goal

pub loop-item-init : goal.loop-item-init
loop-item-init g c =
    let texts_are : map seen_line c.texts.inside.lines.items ≡ map written c.args.program.now.lines =
    c.texts.view_is ∙ c.in_ok-texts.ensures ∙ ap (λ (s : Source). map written s.lines) c.listing.ensures in
    let machine = c.in_ok-machine.ensures in
    let shape = c.shape-shape.ensures.shape in (
      begun texts_are (rw machine refl) (rw (machine, shape) refl) (rw (machine, shape) refl)
          (c.iter-left.ensures ∙ c.items.ensures.items) c.shape-shape.ensures.schedule.few
          c.shape-shape.ensures.schedule.processes c.in_ok-sheet.ensures.text,
      c.in_ok-sheet.ensures.heads,
      tt,
      tt,
    )

pub overflow_add-number : goal.overflow_add-number
overflow_add-number g c = omega arith

pub push_item-requires-clause-heads : goal.push_item-requires-clause-heads
push_item-requires-clause-heads g c κs bounds = c.loop-item.invariant.1

pub push_item-requires-clause-process : goal.push_item-requires-clause-process
push_item-requires-clause-process g c κs bounds = next_fits c.loop-item.invariant.0 c.in-Some.ensures.steps

pub loop-item-preserved : goal.loop-item-preserved
loop-item-preserved g c =
    let did = c.in_ok-push_item.ensures in (
      one_more c.loop-item.invariant.0 c.in-Some.ensures.steps did.source did.shape did.state
          (rw (sym c.texts.view_is) at did.text),
      did.heads,
      tt,
      tt,
    )

-- what was answered is another text, where this one is the other
other_text : {A E : Type 0} (r : Result A E) (text : A → List ℕ) (x y : List ℕ) → IfOk r (λ a. text a ≡ x) → x ≡ y →
    IfOk r (λ a. text a ≡ y)
other_text (Ok a) text x y e is = e ∙ is
other_text (Err f) text x y e is = tt

pub returns : goal.returns
returns g c =
    other_text c.into_text.result (λ t. t.items) _ _ c.into_text.ensures
    (all_told c.loop-item.invariant.0 c.in_default.ensures.steps.0)
