-- `new_row` of snap_machine (src/rows.rt): what holds at the head of each of its loops.
use Rattle.std.proofs.Common.{◌≡◌, Ok, ◌++◌, drop}
use Rattle.snap_asm_program.specs.NamedLines.{name_at, named_expr, named_where}
use Rattle.snap_semantics.specs.Answers.{◌>>=◌}
use Rattle.snap_semantics.specs.Table.{each_value}
use Rattle.snap_semantics.specs.Value.{at_place}
use Rattle.snap_machine.specs.Rows.{new_row}
use Rattle.snap_machine.specs.SeenProcesses.{seen_context}
use Rattle.snap_machine.proofs.PlacesLeft.{left_of}
use Rattle.snap_machine.proofs.rows.new_row.Given as goal

abbrev pub invariant-loop-passed : goal.invariant-loop-passed
invariant-loop-passed g l =
    ((left_of (λ p. each_value (at_place (seen_context g.K.Kind.as_word l.context l.process) p)
    (name_at l.context.program.now.rows l.slot) (named_expr l.context.program.now l.expr)
    (named_where l.context.program.now l.condition))
    l.passed l.count >>= λ vs. Ok (l.values.items ++ (vs ++ drop l.count l.old)))
    ≡ new_row (seen_context g.K.Kind.as_word l.context l.process) l.count (name_at l.context.program.now.rows l.slot)
    (named_expr l.context.program.now l.expr) (named_where l.context.program.now l.condition))
    × (record l.there { place = 0 } ≡ record l.context { place = 0 })
