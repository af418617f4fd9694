-- `first_place` of snap_machine (src/quantifiers.rt): the proof of what its contract says.
use Rattle.std.proofs.Common.{◌≡◌, ℕ, ◌+◌, Bool, List, Option, Ok, Err, sym, ap, ◌∙◌, arith}
use Rattle.snap_asm_program.specs.NamedLines.{named_condition}
use Rattle.snap_semantics.specs.Rules.{or_else}
use Rattle.snap_semantics.specs.Table.{first_true}
use Rattle.snap_semantics.specs.Value.{Context, at_place, condition_holds}
use Rattle.snap_machine.specs.declared.step_context.StepContext.{StepContext}
use Rattle.snap_machine.specs.SeenProcesses.{seen_context}
use Rattle.snap_machine.proofs.PlacesLeft.{more_found, next_place, trap_place}
use Rattle.std.proofs.lemmas.Result.{err_from_is_err_and}
use Rattle.snap_machine.proofs.quantifiers.first_place.Goals as goal

pub returns-in_err-holds : goal.returns-in_err-holds
returns-in_err-holds g c =
    let s = c.args.context.now.program.now in
    let p = c.args.process.now in
    let k = named_condition s c.args.condition.now in
    let passed = c.loop-passed.passed in
    let context : Context = seen_context g.K.Kind.as_word c.args.context.now p in
    let is : condition_holds (at_place context (passed + 1)) k ≡ Err c.in_err-holds.field-0.0 =
    ap (λ (t : StepContext). condition_holds (seen_context g.K.Kind.as_word (record t { place = passed + 1 }) p)
    (named_condition t.program.now c.args.condition.now))
    (sym c.loop-passed.invariant.1) ∙ sym c.condition_holds.ensures ∙ c.in_err-holds.was in
    let left : List Bool → Option ℕ = λ bs. or_else c.loop-passed.found (first_true (passed + 1) bs) in
    let e = err_from_is_err_and c.from_residual.result c.from_residual.ensures.1 in
    rw (e.1, e.2) (sym (trap_place (λ q. condition_holds (at_place context q) k) left passed c.args.count
    c.in_err-holds.field-0.0 (omega arith) is) ∙ c.loop-passed.invariant.0)

pub loop-passed-preserved : goal.loop-passed-preserved
loop-passed-preserved g c =
    let s = c.args.context.now.program.now in
    let p = c.args.process.now in
    let k = named_condition s c.args.condition.now in
    let passed = c.loop-passed.passed in
    let context : Context = seen_context g.K.Kind.as_word c.args.context.now p in
    let is : condition_holds (at_place context (passed + 1)) k ≡ Ok c.in_ok-holds.holds =
    ap (λ (t : StepContext). condition_holds (seen_context g.K.Kind.as_word (record t { place = passed + 1 }) p)
    (named_condition t.program.now c.args.condition.now))
    (sym c.loop-passed.invariant.1) ∙ sym c.condition_holds.ensures ∙ c.in_ok-holds.was in
    let found : Option ℕ = c.first_of-found.result in
    let left : List Bool → Option ℕ = λ bs. or_else c.loop-passed.found (first_true (passed + 1) bs) in
    let left' : List Bool → Option ℕ = λ bs. or_else found (first_true (passed + 1 + 1) bs) in
    let b = c.in_ok-holds.holds in (
      sym (next_place (λ q. condition_holds (at_place context q) k) left left' passed c.args.count b (omega arith) is
          (λ bs. more_found c.loop-passed.found b (passed + 1) (first_true (passed + 1 + 1) bs)
          ∙ ap (λ (o : Option ℕ). or_else o (first_true (passed + 1 + 1) bs)) (sym c.first_of-found.ensures)))
          ∙ c.loop-passed.invariant.0,
      c.loop-passed.invariant.1,
    )
