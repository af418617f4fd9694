-- `current_place` of snap_machine (src/overwrites.rt): the proof of what its contract says.
use Rattle.std.proofs.Common.{Option, sym, subst}
use Rattle.snap_words.specs.declared.kind.KindTag.{KindTag}
use Rattle.snap_semantics.specs.declared.instr.Instr.{Instr}
use Rattle.snap_semantics.specs.Source.{instr_at}
use Rattle.snap_semantics.specs.Table.{effect_at}
use Rattle.snap_regs.specs.Store.{IsOfShape}
use Rattle.snap_machine.specs.Undo.{FitsPlace, Place}
use Rattle.snap_machine.specs.Written.{PutsBack, written}
use Rattle.snap_machine.specs.SeenProcesses.{seen_context}
use Rattle.snap_machine.proofs.LineLaws.{written_fits, puts_back}
use Rattle.snap_machine.proofs.Values.{when_ok}
use Rattle.snap_machine.proofs.overwrites.current_place.Goals as goal

pub returns-in-Some-clause-back : goal.returns-in-Some-clause-back
returns-in-Some-clause-back g c =
    let as_word = g.K.Kind.as_word in
    let s = c.args.context.now.program.now in
    let m = c.args.registers.now.memory in
    let a = c.args.context.now.activity.now in
    let here = seen_context as_word c.args.context.now c.args.process.now in
    let instr = c.in-Some.line.now.instr in
    let run =
    subst (λ (o : Option Instr). PutsBack s here m (written s here m instr) (effect_at s here m a o))
    (sym c.in-Some.ensures.line.0) (puts_back s here m a instr c.in-Some.ensures.right) in
    when_ok c.place_before.result
    (λ p is. subst (λ (q : Place). PutsBack s here m q (effect_at s here m a (instr_at s.lines a.line))) (sym is) run)
    c.place_before.ensures

pub returns-in-Some-clause-fits : goal.returns-in-Some-clause-fits
returns-in-Some-clause-fits g c =
    let as_word = g.K.Kind.as_word in
    let s = c.args.context.now.program.now in
    let m = c.args.registers.now.memory in
    let here = seen_context as_word c.args.context.now c.args.process.now in
    let instr = c.in-Some.line.now.instr in
    let of = subst (λ (k : KindTag). IsOfShape k c.args.context.now.shape m) (sym c.requires.kind) c.requires.memory in
    let fits = written_fits s here m instr c.in-Some.ensures.right c.requires.locals of in
    when_ok c.place_before.result
    (λ p is. subst (FitsPlace s c.args.context.now.shape) (sym is) fits) c.place_before.ensures
