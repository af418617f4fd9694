-- A debugger's session: the marks and the position to which commands lead, and what they are answered.
use Rattle.std.specs.Prelude.{◌≡◌, ℕ, zero, suc, ◌+◌, ◌-◌, Bool, true, false, not, ◌&&◌, List, [], ◌∷◌, ◌++◌, length}
use Rattle.std.specs.Prelude.{min, Option, Some, None, Result, Ok, Err, codes, decimal, nat_le, nat_lt, if◌then◌else◌}
use Rattle.std.specs.List.{list_any, filter}
use Rattle.snap_words.specs.declared.address.Address.{Address}
use Rattle.snap_semantics.specs.declared.event.Event.{Event}
use Rattle.snap_semantics.specs.declared.fault.Fault.{Fault}
use Rattle.snap_semantics.specs.declared.fault.Fault.TheVariants as fault
use Rattle.snap_semantics.specs.declared.refusal.CommandRefusal.{CommandRefusal}
use Rattle.snap_semantics.specs.declared.refusal.CommandRefusal.TheVariants as refusal
use Rattle.snap_semantics.specs.Answers.{◌>>=◌}
use Rattle.snap_semantics.specs.Layout.{line_text}
use Rattle.snap_semantics.specs.Listing.{has_line}
use Rattle.snap_semantics.specs.Report.{position_line, values_line, process_lines, event_lines}
use Rattle.snap_semantics.specs.State.{State, process_at, values}
use Rattle.snap_semantics.specs.Table.{who}
use Rattle.snap_runs.specs.Run.{Run, state, item, outcome, events_of}
use Rattle.snap_report.specs.OutcomeText.{head_lines, outcome_text}
use Rattle.snap_report.specs.ReportLines.{register_line}
use Rattle.snap_report.specs.RunReport.{report_at}
use Rattle.snap_debug_commands.specs.CommandForms.{spelled_command}
use Rattle.snap_debug.specs.Marks.{Marks, no_marks, mark_count, same_breakpoint}
use Rattle.snap_debug.specs.Marks.{same_address, contents_at, next_stop, last_stop}
use Rattle.snap_debug_commands.specs.FaultText.{refusal_line}
use Rattle.snap_debug_commands.specs.declared.command.Breakpoint.{Breakpoint}
use Rattle.snap_debug_commands.specs.declared.command.Command.{Command}
use Rattle.snap_debug_commands.specs.declared.command.Command.TheVariants as command

-- a run, the marks that are set, and how many of its items lie before
pub record Session : Type 0 where
  pub run : Run
  pub marks : Marks
  pub position : ℕ

-- a run at its beginning, with no marks
abbrev pub opened : Run → Session
opened r = record { run = r; marks = no_marks; position = 0 }

-- another run at its beginning, with the marks of a session
abbrev pub reopened : Run → Session → Session
reopened r s = record { run = r; marks = s.marks; position = 0 }

-- how many items there are
abbrev pub total : Session → ℕ
total s = length s.run.items

-- the state at the position
abbrev pub state_of : Session → State
state_of s = state s.run s.position

abbrev pub at_position : ℕ → Session → Session
at_position t s = record { run = s.run; marks = s.marks; position = t }

abbrev pub with_marks : Marks → Session → Session
with_marks m s = record { run = s.run; marks = m; position = s.position }

-- whether there is this process
abbrev pub has_process : Session → ℕ → Bool
has_process s i = nat_lt 0 i && nat_le i s.run.shape.n

-- whether there is something
abbrev pub is_there : {A : Type 0} → Option A → Bool
is_there None = false
is_there (Some x) = true

-- whether there is this register
abbrev pub has_register : Session → Address → Bool
has_register s a = is_there (contents_at (state_of s) a)

-- one of the processes, with one of the lines
abbrev pub checked_breakpoint : Session → Breakpoint → Result (Unit {0}) CommandRefusal
checked_breakpoint s b =
    if not (has_process s b.process) then Err refusal.NoSuchProcess else
    if has_line s.run.source.lines b.line then Ok tt else Err refusal.NoSuchLine

-- one of the registers
abbrev pub checked_register : Session → Address → Result (Unit {0}) CommandRefusal
checked_register s a = if has_register s a then Ok tt else Err refusal.NoSuchRegister

-- room for one more mark
abbrev pub checked_room : Marks → Result (Unit {0}) CommandRefusal
checked_room m = if nat_lt (mark_count m) 64 then Ok tt else Err refusal.TooManyMarks

abbrev pub has_break : Marks → Breakpoint → Bool
has_break m b = list_any (same_breakpoint b) m.breaks

abbrev pub has_watch : Marks → Address → Bool
has_watch m a = list_any (same_address a) m.watches

-- the marks with one more, where it is not set yet
abbrev pub with_break : Marks → Breakpoint → Result Marks CommandRefusal
with_break m b =
    if has_break m b then Ok m
    else checked_room m >>= λ room. Ok (record { breaks = m.breaks ++ b ∷ []; watches = m.watches })

abbrev pub with_watch : Marks → Address → Result Marks CommandRefusal
with_watch m a =
    if has_watch m a then Ok m
    else checked_room m >>= λ room. Ok (record { breaks = m.breaks; watches = m.watches ++ a ∷ [] })

-- the marks without one
abbrev pub without_break : Marks → Breakpoint → Marks
without_break m b = record { breaks = filter (λ c. not (same_breakpoint b c)) m.breaks; watches = m.watches }

abbrev pub without_watch : Marks → Address → Marks
without_watch m a = record { breaks = m.breaks; watches = filter (λ c. not (same_address a c)) m.watches }

-- what a command leaves of a session, or why it is refused
abbrev pub commanded : Session → Command → Result Session CommandRefusal
commanded s (command.Step k) = Ok (at_position (min (s.position + k) (total s)) s)
commanded s (command.Back k) = Ok (at_position (s.position - k) s)
commanded s (command.Goto t) = if nat_le t (total s) then Ok (at_position t s) else Err refusal.NoSuchPosition
commanded s command.Run = Ok (at_position (next_stop s.run s.marks s.position (total s - s.position)) s)
commanded s command.ReverseRun = Ok (at_position (last_stop s.run s.marks s.position) s)
commanded s (command.Break b) = checked_breakpoint s b >>= λ there. with_break s.marks b >>= λ m. Ok (with_marks m s)
commanded s (command.Clear b) = checked_breakpoint s b >>= λ there. Ok (with_marks (without_break s.marks b) s)
commanded s (command.Watch a) = checked_register s a >>= λ there. with_watch s.marks a >>= λ m. Ok (with_marks m s)
commanded s (command.Unwatch a) = checked_register s a >>= λ there. Ok (with_marks (without_watch s.marks a) s)
commanded s (command.ShowRegister a) = checked_register s a >>= λ there. Ok s
commanded s (command.ShowProcess i) = if has_process s i then Ok s else Err refusal.NoSuchProcess
commanded s command.Values = Ok s
commanded s command.Events = Ok s
commanded s command.Where = Ok s

-- the line of the position
abbrev pub position_text : Session → List ℕ
position_text s = position_line s.position (total s)

-- `marks M`
abbrev pub marks_line : Marks → List ℕ
marks_line m = codes "marks " ++ decimal (mark_count m) ++ codes "\n"

-- the last item and what came of it
abbrev pub last_line : Run → ℕ → List ℕ
last_line r zero = codes "last none\n"
last_line r (suc t) =
    codes "last " ++ decimal (who (item r (suc t))) ++ codes " " ++ outcome_text (outcome r (suc t)) ++ codes "\n"

-- `events M` and the lines of events
abbrev pub events_text : List Event → List ℕ
events_text es = codes "events " ++ decimal (length es) ++ codes "\n" ++ event_lines es

-- what a command that left this session is answered
abbrev pub reply_text : Session → Command → List ℕ
reply_text s (command.Step k) = position_text s
reply_text s (command.Back k) = position_text s
reply_text s (command.Goto t) = position_text s
reply_text s command.Run = position_text s
reply_text s command.ReverseRun = position_text s
reply_text s (command.Break b) = marks_line s.marks
reply_text s (command.Clear b) = marks_line s.marks
reply_text s (command.Watch a) = marks_line s.marks
reply_text s (command.Unwatch a) = marks_line s.marks
reply_text s (command.ShowRegister a) = register_line s.run.source.kind a.bank a.i a.j (contents_at (state_of s) a)
reply_text s (command.ShowProcess i) = process_lines s.run.source.kind i (process_at (state_of s) i)
reply_text s command.Values = values_line (values (state_of s))
reply_text s command.Events = events_text (events_of s.run s.position)
reply_text s command.Where = position_text s ++ last_line s.run s.position ++ head_lines 1 (state_of s).processes

-- a command's reply, and the session from there on; a refused command leaves it as it was
abbrev pub answered : Session → Command → Result Session CommandRefusal → Session × List ℕ
answered s c (Ok s') = (s', reply_text s' c)
answered s c (Err e) = (s, refusal_line e)

abbrev pub answer : Session → Command → Session × List ℕ
answer s c = answered s c (commanded s c)

-- the session after some commands
abbrev pub after_commands : Session → List Command → Session
after_commands s [] = s
after_commands s (c ∷ cs) = after_commands (answer s c).0 cs

-- each command behind `> `, and its reply
abbrev pub replies_text : Session → List Command → List ℕ
replies_text s [] = []
replies_text s (c ∷ cs) =
    codes "> " ++ line_text (spelled_command c) ++ (answer s c).1 ++ replies_text (answer s c).0 cs

-- the report of a session's position
abbrev pub session_report : Session → List ℕ
session_report s = report_at s.run s.position

-- what commands are answered over a run, and the report of the position that they reach
abbrev pub performance : Run → List Command → List ℕ
performance r cs = replies_text (opened r) cs ++ session_report (after_commands (opened r) cs)

-- What a session answered to a command, and how it left itself: as defined, or unchanged if the
-- command was refused or memory ran out.
abbrev pub Obeys : {X : Type 0} → (X → List ℕ) → Result X (Fault CommandRefusal) → Session → Command → Session → Type 0
Obeys view (Ok reply) s c s' = (commanded s c ≡ Ok s') × (view reply ≡ reply_text s' c)
Obeys view (Err fault.Memory) s c s' = s' ≡ s
Obeys view (Err (fault.Refused r)) s c s' = (commanded s c ≡ Err r) × (s' ≡ s)

-- A command that is refused is refused before memory is wanted.
abbrev pub RefusesFirst : {X : Type 0} → Result X (Fault CommandRefusal) → Session → Command → Type 0
RefusesFirst answer s c = (r : CommandRefusal) → commanded s c ≡ Err r → answer ≡ Err (fault.Refused r)
