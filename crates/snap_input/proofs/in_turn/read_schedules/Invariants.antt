-- `read_schedules` of snap_input (src/in_turn.rt): what holds at the head of each of its loops.
use Rattle.std.proofs.Common.{◌≡◌, List, ◌++◌, drop, map, Result, Ok}
use Rattle.snap_semantics.specs.Answers.{◌>>=◌}
use Rattle.snap_semantics.specs.Schedule.{Schedule}
use Rattle.snap_semantics.specs.declared.refusal.Refusal.{Refusal}
use Rattle.snap_input.specs.ManySchedules.{schedules_for}
use Rattle.snap_input.proofs.in_turn.read_schedules.Given as goal

-- schedules before those that are to come
abbrev pub with_front : List Schedule → Result (List Schedule) Refusal → Result (List Schedule) Refusal
with_front front later = later >>= λ schedules. Ok (front ++ schedules)

-- the schedules so far, and those of the texts that are left
abbrev pub invariant-loop-text : goal.invariant-loop-text
invariant-loop-text l =
    with_front l.schedules.items (schedules_for l.program (map (λ text. text.now) (drop l.text-index l.texts)))
    ≡ schedules_for l.program (map (λ text. text.now) l.texts)
