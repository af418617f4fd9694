-- `holds_at_all` of snap_machine (src/quantifiers.rt): the proof of what its contract says.
use Rattle.std.proofs.Common.{◌≡◌, ◌+◌, Bool, List, ◌&&◌, Ok, Err, sym, ap, ◌∙◌, arith}
use Rattle.snap_asm_program.specs.NamedLines.{named_condition}
use Rattle.snap_semantics.specs.Table.{all_true}
use Rattle.snap_semantics.specs.Value.{Context, at_place, condition_holds}
use Rattle.snap_machine.specs.declared.step_context.StepContext.{StepContext}
use Rattle.snap_machine.specs.SeenProcesses.{seen_context}
use Rattle.snap_machine.proofs.PlacesLeft.{more_all, next_place, trap_place}
use Rattle.std.proofs.lemmas.Result.{err_from_is_err_and}
use Rattle.snap_machine.proofs.quantifiers.holds_at_all.Goals as goal

pub returns-in_err-holds : goal.returns-in_err-holds
returns-in_err-holds g c =
    let s = c.args.context.now.program.now in
    let p = c.args.process.now in
    let k = named_condition s c.args.condition.now in
    let passed = c.loop-passed.passed in
    let context : Context = seen_context g.K.Kind.as_word c.args.context.now p in
    let is : condition_holds (at_place context (passed + 1)) k ≡ Err c.in_err-holds.field-0.0 =
    ap (λ (t : StepContext). condition_holds (seen_context g.K.Kind.as_word (record t { place = passed + 1 }) p)
    (named_condition t.program.now c.args.condition.now))
    (sym c.loop-passed.invariant.1) ∙ sym c.condition_holds.ensures ∙ c.in_err-holds.was in
    let left : List Bool → Bool = λ bs. c.loop-passed.all && all_true bs in
    let e = err_from_is_err_and c.from_residual.result c.from_residual.ensures.1 in
    rw (e.1, e.2) (sym (trap_place (λ q. condition_holds (at_place context q) k) left passed c.args.count
    c.in_err-holds.field-0.0 (omega arith) is) ∙ c.loop-passed.invariant.0)

pub loop-passed-preserved : goal.loop-passed-preserved
loop-passed-preserved g c =
    let s = c.args.context.now.program.now in
    let p = c.args.process.now in
    let k = named_condition s c.args.condition.now in
    let passed = c.loop-passed.passed in
    let context : Context = seen_context g.K.Kind.as_word c.args.context.now p in
    let is : condition_holds (at_place context (passed + 1)) k ≡ Ok c.in_ok-holds.holds =
    ap (λ (t : StepContext). condition_holds (seen_context g.K.Kind.as_word (record t { place = passed + 1 }) p)
    (named_condition t.program.now c.args.condition.now))
    (sym c.loop-passed.invariant.1) ∙ sym c.condition_holds.ensures ∙ c.in_ok-holds.was in
    let left : List Bool → Bool = λ bs. c.loop-passed.all && all_true bs in
    let left' : List Bool → Bool = λ bs. c.joined-all.result && all_true bs in
    let b = c.in_ok-holds.holds in (
      sym (next_place (λ q. condition_holds (at_place context q) k) left left' passed c.args.count b (omega arith) is
          (λ bs. more_all c.loop-passed.all b (all_true bs)
          ∙ ap (λ (x : Bool). x && all_true bs) (sym c.joined-all.ensures)))
          ∙ c.loop-passed.invariant.0,
      c.loop-passed.invariant.1,
    )
