-- `refused_schedule` of snap_explanation (src/part.rt): what holds at the head of each of its loops.
use Rattle.std.proofs.Common.{◌≡◌, map, drop}
use Rattle.snap_explanation.specs.Part.{refused_schedule}
use Rattle.snap_explanation.proofs.part.refused_schedule.Given as goal

abbrev pub invariant-loop-text : goal.invariant-loop-text
invariant-loop-text l =
    (l.index ≡ l.text-index) × (refused_schedule l.shapes l.index (map (λ t. t.now) (drop l.text-index l.texts))
    ≡ refused_schedule l.shapes 0 (map (λ t. t.now) l.texts))
