-- A prompt over a debugger's session: what is shown before a line, and what is answered to it.
use Rattle.std.specs.Prelude.{◌≡◌, ℕ, ◌+◌, ◌-◌, ◌^◌, List, [], ◌++◌, length, min, Bool, ◌&&◌, true, false, Option, Some}
use Rattle.std.specs.Prelude.{None, Result, Ok, Err, codes, decimal, nat_eq, if◌then◌else◌, option_map}
use Rattle.snap_streams.specs.Dialog.{Next}
use Rattle.snap_text.specs.Drafted.{Adds, Drafted}
use Rattle.snap_streams.specs.Folder.{Kept, with_kept}
use Rattle.snap_semantics.specs.Report.{position_line}
use Rattle.snap_semantics.specs.Schedule.{Schedule}
use Rattle.snap_semantics.specs.ScheduleText.{schedule_text}
use Rattle.snap_semantics.specs.declared.refusal.CommandRefusal.{CommandRefusal}
use Rattle.snap_semantics.specs.declared.refusal.ScheduleRefusal.{ScheduleRefusal}
use Rattle.snap_runs.specs.Run.{Run, run_over}
use Rattle.snap_report.specs.OutcomeText.{head_lines}
use Rattle.snap_debug.specs.Replies.{last_of}
use Rattle.snap_debug.specs.Session.{Session, answer, at_position, commanded, opened, reopened}
use Rattle.snap_debug.specs.Session.{reply_text, session_report, state_of, total}
use Rattle.snap_debug_commands.specs.declared.command.Command.{Command}
use Rattle.snap_debug_commands.specs.declared.command.Command.TheVariants as command
use Rattle.snap_prompt.specs.Edits.{edited, form_of}
use Rattle.snap_prompt.specs.declared.addition.Addition.{Addition}
use Rattle.snap_prompt.specs.declared.addition.Addition.TheVariants as addition
use Rattle.snap_prompt.specs.Reach.{steps_to}
use Rattle.snap_prompt.specs.declared.goal.Goal.{Goal}
use Rattle.snap_prompt.specs.declared.goal.Goal.TheVariants as goal
use Rattle.snap_prompt.specs.declared.goal.NoSteps.{NoSteps}
use Rattle.snap_prompt.specs.Ask.{ask_of, is_yes}
use Rattle.snap_prompt.specs.SaveForm.{saving_of}
use Rattle.snap_prompt.specs.declared.ask.Ask.{Ask}
use Rattle.snap_prompt.specs.declared.ask.Ask.TheVariants as ask
use Rattle.snap_prompt.specs.Changed.{moved_text}
use Rattle.snap_prompt.specs.Explained.{explained, item_or_position}
use Rattle.snap_prompt.specs.Greeting.{greeting_text}
use Rattle.snap_prompt.specs.Help.{help_text}
use Rattle.snap_prompt.specs.Hints.{refused_addition, refused_line, refused_steps}
use Rattle.snap_prompt.specs.Listed.{list_text, process_of}
use Rattle.snap_prompt.specs.Said.{IsSaid, Said, saved, text}
use Rattle.snap_prompt.specs.Saved.{IsSavedLine, tells_saved}
use Rattle.snap_prompt.specs.Shows.{greets, places}
use Rattle.snap_prompt.specs.Typed.{typed_text}
use Rattle.snap_prompt.specs.declared.question.Question.{Question}
use Rattle.snap_prompt.specs.declared.question.Question.TheVariants as question
use Rattle.snap_prompt.specs.declared.shows.Shows.{Shows}

-- A session, what was asked for last, what the next line answers where something was asked, how many lines were read,
-- whether items were added since the schedule was last saved as a file, what was kept in files so far, where that is
-- known, and what is shown beside the answers.
pub record Prompt : Type 0 where
  pub session : Session
  pub last : Option Ask
  pub question : Option Question
  pub lines : ℕ
  pub has_unsaved : Bool
  pub kept : Option (List Kept)
  pub shows : Shows

-- a run at its beginning, with no marks and no line read, where this was kept in files before
abbrev pub opened_prompt : Run → Shows → Option (List Kept) → Prompt
opened_prompt r shows kept = record {
  session = opened r;
  last = None;
  question = None;
  lines = 0;
  has_unsaved = false;
  kept = kept;
  shows = shows;
}

-- what stands before the first line
unfoldable pub greeting_or_none : Prompt → List ℕ
greeting_or_none p = if greets p.shows && nat_eq p.lines 0 then greeting_text p.session else []

-- `9/64> `
unfoldable pub position_or_none : Prompt → List ℕ
position_or_none p =
    if places p.shows then decimal p.session.position ++ codes "/" ++ decimal (total p.session) ++ codes "> " else []

-- what stands before a line
abbrev pub prompt_text : Prompt → List ℕ
prompt_text p = greeting_or_none p ++ position_or_none p

-- with one line more; they are counted up to 2^64 - 1
abbrev pub counted : Prompt → Prompt
counted p = record p { lines = min (p.lines + 1) (2 ^ 64 - 1) }

abbrev pub with_session : Session → Prompt → Prompt
with_session s p = record p { session = s }

abbrev pub with_question : Option Question → Prompt → Prompt
with_question q p = record p { question = q }

abbrev pub with_last : Ask → Prompt → Prompt
with_last a p = record p { last = Some a }

-- with a longer schedule, over which there is this session
abbrev pub with_addition : Session → Prompt → Prompt
with_addition s p = record p { session = s; has_unsaved = true }

-- what the prompt is after a line, what is answered, and whether the dialog goes on
pub record Answer (T : Type 0) : Type 0 where
  pub state : Prompt
  pub said : T
  pub goes_on : Bool

-- nothing changes, and this is said
abbrev pub says : {T : Type 0} → Prompt → T → Answer T
says p it = record { state = p; said = it; goes_on = true }

-- a text is said
abbrev pub in_words : Answer (List ℕ) → Answer Said
in_words a = record { state = a.state; said = text a.said; goes_on = a.goes_on }

-- whether a command moves
abbrev pub moves : Command → Bool
moves (command.Step k) = true
moves (command.Back k) = true
moves (command.Goto t) = true
moves command.Run = true
moves command.ReverseRun = true
moves _ = false

-- what is said of a command that does not move: the session's reply, or why it is refused
abbrev pub reply_or_refusal : Session → Command → Result Session CommandRefusal → List ℕ
reply_or_refusal s c (Err r) = refused_line s r
reply_or_refusal s c (Ok s') = reply_text s' c

-- what is said of a command that moves: also the item, and what changed
abbrev pub move_or_refusal : Session → Command → Result Session CommandRefusal → List ℕ
move_or_refusal s c (Err r) = refused_line s r
move_or_refusal s c (Ok s') = reply_text s' c ++ moved_text s s'

unfoldable pub did_text : Session → Command → List ℕ
did_text s c = if moves c then move_or_refusal s c (commanded s c) else reply_or_refusal s c (commanded s c)

abbrev pub did : Prompt → Command → Answer (List ℕ)
did p c = record { state = with_session (answer p.session c).0 p; said = did_text p.session c; goes_on = true }

-- the schedule that a run goes over
abbrev pub schedule_of_run : Run → Schedule
schedule_of_run r = record { shape = r.shape; items = r.items }

-- a session over another schedule at its end, with the same marks
abbrev pub at_end_of : Schedule → Session → Session
at_end_of d s = at_position (length d.items) (reopened (run_over s.run.source d) s)

-- what comes of an addition
abbrev pub added_to : Prompt → Result Schedule ScheduleRefusal → Answer (List ℕ)
added_to p (Err r) = says p (refused_addition p.session r)
added_to p (Ok d) = record {
  state = with_addition (at_end_of d p.session) p;
  said = position_line (length d.items) (length d.items) ++ moved_text p.session (at_end_of d p.session);
  goes_on = true;
}

-- Items are added behind the position, where the schedule is cut.
unfoldable pub added : Prompt → Addition → Answer (List ℕ)
added p a = added_to p (edited p.lines p.session.position (form_of a) (schedule_of_run p.session.run))

-- what is asked before items go
abbrev pub question_text : Session → List ℕ
question_text s = codes "cut here? " ++ decimal (total s - s.position) ++ codes " items go (y)\n"

-- what is asked before the dialog ends
abbrev pub end_question : List ℕ
end_question = codes "quit? what was added is lost unless it was saved (y)\n"

-- at the end of the schedule items are added at once, and before it the next line has to say yes
unfoldable pub wanted : Prompt → Addition → Answer (List ℕ)
wanted p a =
    if nat_eq p.session.position (total p.session) then added p a
    else record { state = with_question (Some (question.Cut a)) p; said = question_text p.session; goes_on = true }

-- what comes of the steps that lead a process to a goal, or why there are none
abbrev pub led_by : Prompt → ℕ → Result ℕ NoSteps → Answer (List ℕ)
led_by p i (Err why) = says p (refused_steps p.session p.lines i why)
led_by p i (Ok count) = wanted p (addition.Steps i count)

-- As many steps of process i are added as lead it from the position to a goal. That they don't is said at once, and
-- nothing is asked.
unfoldable pub led : Prompt → ℕ → Goal → Answer (List ℕ)
led p i g = led_by p i (steps_to p.session i g)

-- the dialog ends, and nothing is said
abbrev pub ended : Prompt → Answer (List ℕ)
ended p = record { state = p; said = []; goes_on = false }

-- where a person has added items that no file has, the next line has to say yes before the dialog ends
abbrev pub quitted : Prompt → Answer (List ℕ)
quitted p =
    if greets p.shows && p.has_unsaved
    then record { state = with_question (Some question.End) p; said = end_question; goes_on = true } else ended p

-- what is done, where that is no last thing again
unfoldable pub done : Prompt → Ask → Answer Said
done p ask.Nothing = says p (text [])
done p ask.Again = says p (text [])
done p ask.Quit = in_words (quitted p)
done p ask.Help = says p (text help_text)
done p ask.All = says p (text (head_lines 1 (state_of p.session).processes))
done p ask.Report = says p (text (session_report p.session))
done p ask.Save = says p (text (schedule_text (schedule_of_run p.session.run)))
done p ask.ListLast = says p (text (list_text p.session (process_of (last_of p.session.run p.session.position))))
done p (ask.List i) = says p (text (list_text p.session i))
done p (ask.Why item) = says p (explained p.session (item_or_position p.session item))
done p (ask.Add a) = in_words (wanted p a)
done p (ask.Until i line) = in_words (led p i (goal.Line line))
done p (ask.End i) = in_words (led p i goal.End)
done p (ask.Do c) = in_words (did p c)

-- what is meant by what a line asks for: the last thing again, or the thing itself
abbrev pub meant : Option Ask → Ask → Option Ask
meant last ask.Nothing = None
meant last ask.Again = last
meant last a = Some a

-- what is meant is the last thing from there on
abbrev pub done_meant : Prompt → Option Ask → Answer Said
done_meant p None = says p (text [])
done_meant p (Some a) = done (with_last a p) a

-- what comes of what a line asks for, or why it is refused
unfoldable pub asked : Prompt → (line : List ℕ) → Result Ask CommandRefusal → Answer Said
asked p line (Err r) = says p (text (refused_line p.session r ++ typed_text line r))
asked p line (Ok a) = done_meant p (meant p.last a)

-- what is done where a line says yes to a question
abbrev pub agreed_to : Prompt → Question → Answer (List ℕ)
agreed_to p (question.Cut a) = added p a
agreed_to p question.End = ended p

-- what is said where it does not
abbrev pub denied_text : Question → List ℕ
denied_text (question.Cut a) = codes "nothing is cut\n"
denied_text question.End = codes "the dialog goes on\n"

-- the answer to a question
abbrev pub decided : Prompt → Question → Bool → Answer (List ℕ)
decided p q agreed = if agreed then agreed_to (with_question None p) q else says (with_question None p) (denied_text q)

-- what comes of a line that names a file in which the schedule is to be saved, or of another one
abbrev pub saved_or_asked : Prompt → Option (List ℕ × Bool) → List ℕ → Answer Said
saved_or_asked p None line = asked p line (ask_of p.lines line)
saved_or_asked p (Some file) line = says p (saved file.0)

abbrev pub answered_to : Prompt → Option Question → List ℕ → Answer Said
answered_to p None line = saved_or_asked p (saving_of line) line
answered_to p (Some q) line = in_words (decided p q (is_yes line))

-- what is answered to a line
unfoldable pub answer_line : Prompt → List ℕ → Answer Said
answer_line p line = answered_to (counted p) p.question line

-- a text may be answered to a line
abbrev pub Says : Prompt → List ℕ → List ℕ → Type 0
Says p line it = IsSaid (answer_line p line).said it

-- the name under which a line saves the schedule, where it answers no question
abbrev pub saves_under : Option Question → List ℕ → Option (List ℕ)
saves_under None line = option_map (λ f. f.0) (saving_of line)
saves_under (Some q) line = None

-- The prompt after its schedule was to be saved under a name: where it was, the file has the text that `save` prints,
-- and nothing is unsaved.
abbrev pub after_saving : Prompt → (name : List ℕ) → (is_saved : Bool) → Prompt
after_saving p name true =
    record p { has_unsaved = false; kept = with_kept name (schedule_text (schedule_of_run p.session.run)) p.kept }
after_saving p name false = p

-- what is said of a schedule that was to be saved under a name was added, and the prompt is as it is after that
abbrev pub SavesPrompt : Prompt → (name : List ℕ) → (old new : Drafted) → Prompt → Type 0
SavesPrompt p name old new after = (it : List ℕ) × IsSavedLine name it × Adds old new it
    × (after ≡ after_saving p name (tells_saved it))

-- and what comes of a line to which this was answered
abbrev pub next_where : Prompt → (saved_under : Option (List ℕ)) → (line it : List ℕ) → Next Prompt
next_where p None line it = record { state = (answer_line p line).state; goes_on = (answer_line p line).goes_on }
next_where p (Some name) line it = record { state = after_saving (counted p) name (tells_saved it); goes_on = true }

abbrev pub next_line : Prompt → (line it : List ℕ) → Next Prompt
next_line p line it = next_where p (saves_under p.question line) line it

-- an answer to a line was added to a draft, and this is what comes of it
abbrev pub AddsReply : Prompt → (line : List ℕ) → (old new : Drafted) → Prompt → Bool → Type 0
AddsReply p line old new after more = (it : List ℕ) × Says p line it × Adds old new it
    × (after ≡ (next_line p line it).state) × (more ≡ (next_line p line it).goes_on)
