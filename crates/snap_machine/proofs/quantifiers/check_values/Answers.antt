-- `check_values` of snap_machine (src/quantifiers.rt): the proof of what its contract says.
use Rattle.std.proofs.Common.{◌≡◌, ℕ, ◌+◌, List, Ok, Err, refl, sym, ap, ◌∙◌, arith}
use Rattle.std.proofs.lemmas.Result.{err_from_is_err_and}
use Rattle.snap_asm_program.specs.NamedLines.{name_at, named_expr, named_where}
use Rattle.snap_semantics.specs.Table.{each_value}
use Rattle.snap_semantics.specs.Value.{Context, at_place}
use Rattle.snap_machine.specs.declared.step_context.StepContext.{StepContext}
use Rattle.snap_machine.specs.SeenProcesses.{seen_context}
use Rattle.snap_machine.proofs.PlacesLeft.{next_place, trap_place}
use Rattle.snap_machine.proofs.quantifiers.check_values.Goals as goal

abbrev nothing : List ℕ → Unit {0}
nothing vs = tt

pub returns-in_err-row_value : goal.returns-in_err-row_value
returns-in_err-row_value g c =
    let s = c.args.context.now.program.now in
    let p = c.args.process.now in
    let x = name_at s.rows c.args.slot in
    let v = named_expr s c.args.expr.now in
    let k = named_where s c.args.condition.now in
    let passed = c.loop-passed.passed in
    let context : Context = seen_context g.K.Kind.as_word c.args.context.now p in
    let is : each_value (at_place context (passed + 1)) x v k ≡ Err c.in_err-row_value.field-0.0 =
    ap (λ (t : StepContext). each_value (seen_context g.K.Kind.as_word (record t { place = passed + 1 }) p)
    (name_at t.program.now.rows c.args.slot) (named_expr t.program.now c.args.expr.now)
    (named_where t.program.now c.args.condition.now))
    (sym c.loop-passed.invariant.1) ∙ sym c.row_value.ensures ∙ c.in_err-row_value.was in
    let e = err_from_is_err_and c.from_residual.result c.from_residual.ensures.1 in
    rw (e.1, e.2) (sym (trap_place (λ q. each_value (at_place context q) x v k) nothing passed c.args.count
    c.in_err-row_value.field-0.0 (omega arith) is) ∙ c.loop-passed.invariant.0)

pub loop-passed-preserved : goal.loop-passed-preserved
loop-passed-preserved g c =
    let s = c.args.context.now.program.now in
    let p = c.args.process.now in
    let x = name_at s.rows c.args.slot in
    let v = named_expr s c.args.expr.now in
    let k = named_where s c.args.condition.now in
    let passed = c.loop-passed.passed in
    let context : Context = seen_context g.K.Kind.as_word c.args.context.now p in
    let is : each_value (at_place context (passed + 1)) x v k ≡ Ok c.in_ok-row_value.field-0 =
    ap (λ (t : StepContext). each_value (seen_context g.K.Kind.as_word (record t { place = passed + 1 }) p)
    (name_at t.program.now.rows c.args.slot) (named_expr t.program.now c.args.expr.now)
    (named_where t.program.now c.args.condition.now))
    (sym c.loop-passed.invariant.1) ∙ sym c.row_value.ensures ∙ c.in_ok-row_value.was in (
      sym (next_place (λ q. each_value (at_place context q) x v k) nothing nothing passed c.args.count
          c.in_ok-row_value.field-0 (omega arith) is (λ vs. refl))
          ∙ c.loop-passed.invariant.0,
      c.loop-passed.invariant.1,
    )
