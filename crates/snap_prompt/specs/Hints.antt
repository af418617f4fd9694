-- What is said where a line at the prompt is refused: why, and what would have been right.
use Rattle.std.specs.Prelude.{ℕ, List, [], ◌∷◌, ◌++◌, codes, decimal}
use Rattle.snap_words.specs.declared.kind.KindTag.{KindTag}
use Rattle.snap_words.specs.declared.kind.KindTag.TheVariants as kind
use Rattle.snap_semantics.specs.declared.instr.Line.{Line}
use Rattle.snap_semantics.specs.declared.refusal.CommandRefusal.{CommandRefusal}
use Rattle.snap_semantics.specs.declared.refusal.CommandRefusal.TheVariants as refusal
use Rattle.snap_semantics.specs.declared.refusal.Refusal.TheVariants as input
use Rattle.snap_semantics.specs.declared.refusal.ScheduleRefusal.{ScheduleRefusal}
use Rattle.snap_semantics.specs.declared.refusal.ScheduleRefusal.TheVariants as schedule
use Rattle.snap_faults.specs.RefusalText.{refused_text}
use Rattle.snap_debug_commands.specs.FaultText.{refusal_text}
use Rattle.snap_debug.specs.Session.{Session, total}
use Rattle.snap_prompt.specs.declared.words.TheConstants.{REGISTERS, BIT_REGISTERS, MULTI_REGISTERS, LINES, PROCESSES}
use Rattle.snap_prompt.specs.declared.words.TheConstants.{POSITIONS, SEE_HELP, MARKS_FULL, LINE_LIMIT, ITEM_LIMIT}
use Rattle.snap_prompt.specs.declared.words.TheConstants.{IDLE, TRAPPED, CRASHED}
use Rattle.snap_prompt.specs.declared.goal.NoSteps.{NoSteps}
use Rattle.snap_prompt.specs.declared.goal.NoSteps.TheVariants as none

-- the numbers of the first and of the last of some lines, and 0 where there is none
abbrev pub first_number : List Line → ℕ
first_number [] = 0
first_number (line ∷ lines) = line.number

abbrev pub last_number : ℕ → List Line → ℕ
last_number number [] = number
last_number number (line ∷ lines) = last_number line.number lines

abbrev pub range_text : List ℕ → ℕ → ℕ → List ℕ
range_text what from to = codes ": " ++ what ++ codes " " ++ decimal from ++ codes " to " ++ decimal to

-- the registers of a kind, as they stand before the numbers of its words
abbrev pub register_words : KindTag → List ℕ
register_words kind.Seq = REGISTERS.now
register_words kind.Bits = BIT_REGISTERS.now
register_words kind.Multi = MULTI_REGISTERS.now

-- what would have been right
unfoldable pub hint_text : Session → CommandRefusal → List ℕ
hint_text s (refusal.BadCommand line) = SEE_HELP.now
hint_text s refusal.NoSuchLine =
    range_text LINES.now (first_number s.run.source.lines) (last_number 0 s.run.source.lines)
hint_text s refusal.NoSuchProcess = range_text PROCESSES.now 1 s.run.shape.n
hint_text s refusal.NoSuchRegister = range_text (register_words s.run.source.kind) 1 s.run.shape.w
hint_text s refusal.NoSuchPosition = range_text POSITIONS.now 0 (total s)
hint_text s refusal.TooManyMarks = MARKS_FULL.now
hint_text s refusal.TooLong = LINE_LIMIT.now

-- the line of a refused command
unfoldable pub refused_line : Session → CommandRefusal → List ℕ
refused_line s r = codes "refused: " ++ refusal_text r ++ hint_text s r ++ codes "\n"

-- what would have been right to add
abbrev pub added_hint : Session → ScheduleRefusal → List ℕ
added_hint s (schedule.NoSuchProcess line) = range_text PROCESSES.now 1 s.run.shape.n
added_hint s _ = ITEM_LIMIT.now

-- the line of an addition that is refused
unfoldable pub refused_addition : Session → ScheduleRefusal → List ℕ
refused_addition s r = refused_text (input.Schedule r) ++ added_hint s r ++ codes "\n"

-- the line of a process that takes no steps, for the way it stands
abbrev pub standing_line : ℕ → List ℕ → List ℕ
standing_line i how = codes "refused: process " ++ decimal i ++ codes " " ++ how ++ codes "\n"

-- what is said at line `number` of a process that takes no steps to a goal
unfoldable pub refused_steps : Session → (number i : ℕ) → NoSteps → List ℕ
refused_steps s number i none.NoSuchProcess = refused_line s refusal.NoSuchProcess
refused_steps s number i none.NoSuchLine = refused_line s refusal.NoSuchLine
refused_steps s number i none.Idle = standing_line i IDLE.now
refused_steps s number i none.Trapped = standing_line i TRAPPED.now
refused_steps s number i none.Crashed = standing_line i CRASHED.now
refused_steps s number i none.Full = refused_addition s (schedule.TooManyItems number)
