-- `new_row` of snap_machine (src/rows.rt): the proof of what its contract says.
use Rattle.std.proofs.Common.{◌≡◌, refl, ℕ, ◌+◌, List, [], ◌∷◌, ◌++◌, drop, Ok, Err, sym, ap, ◌∙◌, arith, append_assoc}
use Rattle.std.proofs.lemmas.Result.{err_from_is_err_and}
use Rattle.snap_asm_program.specs.NamedLines.{name_at, named_expr, named_where}
use Rattle.snap_semantics.specs.Table.{each_value}
use Rattle.snap_semantics.specs.State.{value_at}
use Rattle.snap_semantics.specs.Value.{Context, at_place}
use Rattle.snap_machine.specs.declared.step_context.StepContext.{StepContext}
use Rattle.snap_machine.specs.SeenProcesses.{seen_context}
use Rattle.snap_machine.proofs.PlacesLeft.{all_places, next_place, trap_place}
use Rattle.snap_machine.proofs.rows.new_row.Goals as goal

pub returns-in_err-value : goal.returns-in_err-value
returns-in_err-value g c =
    let s = c.args.context.now.program.now in
    let p = c.args.process.now in
    let x = name_at c.args.context.now.program.now.rows c.args.slot in
    let v = named_expr s c.args.expr.now in
    let k = named_where s c.args.condition.now in
    let passed = c.loop-passed.passed in
    let context : Context = seen_context g.K.Kind.as_word c.args.context.now p in
    let rest : List ℕ = drop c.args.count c.row-old.result.now in
    let whole : List ℕ → List ℕ = λ vs. c.loop-passed.values.items ++ (vs ++ rest) in
    let is : each_value (at_place context (passed + 1)) x v k ≡ Err c.in_err-value.field-0.0 =
    ap (λ (t : StepContext). each_value (seen_context g.K.Kind.as_word (record t { place = passed + 1 }) p)
    (name_at t.program.now.rows c.args.slot) (named_expr t.program.now c.args.expr.now)
    (named_where t.program.now c.args.condition.now))
    (sym c.loop-passed.invariant.1) ∙ sym c.row_value.ensures ∙ c.in_err-value.was in
    let e = err_from_is_err_and c.from_residual-in_err-value.result c.from_residual-in_err-value.ensures.1 in
    rw (e.1, e.2) (sym (trap_place (λ q. each_value (at_place context q) x v k) whole passed c.args.count
    c.in_err-value.field-0.0 (omega arith) is) ∙ c.loop-passed.invariant.0)

pub loop-passed-preserved : goal.loop-passed-preserved
loop-passed-preserved g c =
    let s = c.args.context.now.program.now in
    let p = c.args.process.now in
    let x = name_at c.args.context.now.program.now.rows c.args.slot in
    let v = named_expr s c.args.expr.now in
    let k = named_where s c.args.condition.now in
    let passed = c.loop-passed.passed in
    let context : Context = seen_context g.K.Kind.as_word c.args.context.now p in
    let rest : List ℕ = drop c.args.count c.row-old.result.now in
    let before = c.loop-passed.values.items in
    let after = c.push.new.row.items in
    let whole : List ℕ → List ℕ = λ vs. before ++ (vs ++ rest) in
    let whole' : List ℕ → List ℕ = λ vs. after ++ (vs ++ rest) in
    let y = c.in_ok-value.value in
    let is : each_value (at_place context (passed + 1)) x v k ≡ Ok y =
    ap (λ (t : StepContext). each_value (seen_context g.K.Kind.as_word (record t { place = passed + 1 }) p)
    (name_at t.program.now.rows c.args.slot) (named_expr t.program.now c.args.expr.now)
    (named_where t.program.now c.args.condition.now))
    (sym c.loop-passed.invariant.1) ∙ sym c.row_value.ensures ∙ c.in_ok-value.was in
    let pushed : after ≡ before ++ y ∷ [] = c.in_ok-push.ensures in (
      sym (next_place (λ q. each_value (at_place context q) x v k) whole whole' passed c.args.count y (omega arith) is
          (λ vs.
          sym (append_assoc before (y ∷ []) (vs ++ rest)) ∙ ap (λ (ys : List ℕ). ys ++ (vs ++ rest)) (sym pushed)))
          ∙ c.loop-passed.invariant.0,
      c.loop-passed.invariant.1,
    )

pub loop-passed-init : goal.loop-passed-init
loop-passed-init g c =
    let x = name_at c.args.context.now.program.now.rows c.args.slot in
    let count = c.args.count in
    let context : Context = seen_context g.K.Kind.as_word c.args.context.now c.args.process.now in
    let old_is : c.row-old.result.now ≡ value_at x context.locals.rows [] =
    c.row-old.ensures ∙ cc (c.rows.ensures.rows, c.as_slice.ensures.value) in (
      all_places (λ p. each_value (at_place context p) x (named_expr c.args.context.now.program.now c.args.expr.now)
          (named_where c.args.context.now.program.now c.args.condition.now))
          (λ vs. c.in_ok-values.values.items ++ (vs ++ drop count c.row-old.result.now))
          (λ vs. vs ++ drop count (value_at x context.locals.rows [])) count
          (λ vs. ap (λ (ys : List ℕ). ys ++ (vs ++ drop count c.row-old.result.now)) c.in_ok-values.ensures
          ∙ ap (λ (ys : List ℕ). vs ++ drop count ys) old_is),
      refl,
    )
