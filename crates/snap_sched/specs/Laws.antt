-- The laws of reading and printing schedules.
use Rattle.std.specs.Prelude.{◌≡◌, ℕ, ◌≤◌, List, length, Ok}
use Rattle.snap_semantics.specs.Schedule.{Schedule, max_schedule, schedule_of}
use Rattle.snap_semantics.specs.ScheduleText.{IsSchedule, schedule_text}
use Rattle.snap_semantics.specs.Token.{text_lines}
use Rattle.snap_text.specs.Lines.{line_tokens}
use Rattle.snap_sched.specs.Spelling.{IsSpelled}

-- what is read is a schedule, and the text spells it
abbrev pub ReadsOnlySpelled : Type 0
ReadsOnlySpelled = (text : List ℕ) (s : Schedule) → schedule_of text ≡ Ok s →
    (length text ≤ max_schedule) × IsSchedule s × IsSpelled s (line_tokens (text_lines text))

-- every schedule is read from every text that spells it
abbrev pub ReadsAllSpelled : Type 0
ReadsAllSpelled =
    (text : List ℕ) (s : Schedule) → length text ≤ max_schedule → IsSchedule s →
    IsSpelled s (line_tokens (text_lines text)) → schedule_of text ≡ Ok s

-- what is printed of a schedule is read as that schedule
abbrev pub PrintsAgain : Type 0
PrintsAgain = (s : Schedule) → IsSchedule s → length (schedule_text s) ≤ max_schedule →
    schedule_of (schedule_text s) ≡ Ok s
