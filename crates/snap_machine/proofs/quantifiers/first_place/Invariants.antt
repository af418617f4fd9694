-- `first_place` of snap_machine (src/quantifiers.rt): what holds at the head of each of its loops.
use Rattle.std.proofs.Common.{◌≡◌, ◌+◌, Ok}
use Rattle.snap_asm_program.specs.NamedLines.{named_condition}
use Rattle.snap_semantics.specs.Answers.{◌>>=◌}
use Rattle.snap_semantics.specs.Rules.{or_else}
use Rattle.snap_semantics.specs.Table.{first_true}
use Rattle.snap_semantics.specs.Value.{at_place, condition_holds}
use Rattle.snap_machine.specs.Quantifiers.{first_place}
use Rattle.snap_machine.specs.SeenProcesses.{seen_context}
use Rattle.snap_machine.proofs.PlacesLeft.{left_of}
use Rattle.snap_machine.proofs.quantifiers.first_place.Given as goal

abbrev pub invariant-loop-passed : goal.invariant-loop-passed
invariant-loop-passed g l =
    ((left_of (λ p. condition_holds (at_place (seen_context g.K.Kind.as_word l.context l.process) p)
    (named_condition l.context.program.now l.condition)) l.passed l.count
    >>= λ bs. Ok (or_else l.found (first_true (l.passed + 1) bs)))
    ≡ first_place (seen_context g.K.Kind.as_word l.context l.process) l.count
    (named_condition l.context.program.now l.condition))
    × (record l.there { place = 0 } ≡ record l.context { place = 0 })
