-- `check_values` of snap_machine (src/quantifiers.rt): what holds at the head of each of its loops.
use Rattle.std.proofs.Common.{◌≡◌, Ok}
use Rattle.snap_asm_program.specs.NamedLines.{name_at, named_expr, named_where}
use Rattle.snap_semantics.specs.Answers.{◌>>=◌}
use Rattle.snap_semantics.specs.Table.{each_value}
use Rattle.snap_semantics.specs.Value.{at_place}
use Rattle.snap_machine.specs.Quantifiers.{checked_values}
use Rattle.snap_machine.specs.SeenProcesses.{seen_context}
use Rattle.snap_machine.proofs.PlacesLeft.{left_of}
use Rattle.snap_machine.proofs.quantifiers.check_values.Given as goal

abbrev pub invariant-loop-passed : goal.invariant-loop-passed
invariant-loop-passed g l =
    ((left_of (λ p. each_value (at_place (seen_context g.K.Kind.as_word l.context l.process) p)
    (name_at l.context.program.now.rows l.slot) (named_expr l.context.program.now l.expr)
    (named_where l.context.program.now l.condition))
    l.passed l.count >>= λ vs. Ok tt)
    ≡ checked_values (seen_context g.K.Kind.as_word l.context l.process) l.count
    (name_at l.context.program.now.rows l.slot) (named_expr l.context.program.now l.expr)
    (named_where l.context.program.now l.condition))
    × (record l.there { place = 0 } ≡ record l.context { place = 0 })
