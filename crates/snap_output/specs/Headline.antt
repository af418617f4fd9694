-- What the program is for, in one place: what is printed is what the table of lines gives, what is refused is refused
-- for the first reason, what is assembled lists back, and what is printed of listing U, B or M is of a run that is a
-- snapshot.
use Rattle.std.specs.Prelude.{◌≡◌, ℕ, ◌<◌, ◌≤◌, true, List, [], ◌∷◌, length, map, Ok}
use Rattle.snap_input.specs.ManySchedules.{max_schedules}
use Rattle.snap_words.specs.Kind.{fits}
use Rattle.snap_words.specs.declared.kind.KindTag.{KindTag}
use Rattle.snap_image.specs.Assembly.{assembled, listed}
use Rattle.snap_semantics.specs.CanonicalText.{canonical_text}
use Rattle.snap_semantics.specs.Comments.{Commented, IsCommented, commented_of}
use Rattle.snap_semantics.specs.Listing.{listing_of, max_text}
use Rattle.snap_semantics.specs.Schedule.{Schedule, schedule_of}
use Rattle.snap_semantics.specs.Source.{Source}
use Rattle.snap_runs.specs.Run.{IsValidRun, run_over}
use Rattle.snap_audit.specs.VerdictText.{audit_text}
use Rattle.snap_batch.specs.End.{end_report}
use Rattle.snap_batch.specs.Reports.{reports_text}
use Rattle.snap_debug_commands.specs.Commands.{commands_of}
use Rattle.snap_debug.specs.Session.{performance}
use Rattle.snap_debug_commands.specs.declared.command.Command.{Command}
use Rattle.snap_debug_commands.specs.declared.command.Command.TheVariants as command
use Rattle.snap_shipped.specs.Kept.{KeepsPromises}
use Rattle.snap_shipped.specs.Shipped.{shipped}
use Rattle.snap_input.specs.Input.{listing_for}
use Rattle.snap_input.specs.Parts.{part, parts_of, max_input}
use Rattle.snap_output.specs.Output.{output_of}
use Rattle.snap_output.specs.Perform.{perform_of}
use Rattle.snap_output.specs.Stages.{AreSchedulesFor, IsOverSchedule, IsScheduleFor, RefusesBatches, RefusesInputs}
use Rattle.snap_output.specs.Stages.{RefusesTexts, texts_in}
use Rattle.snap_tasks.specs.declared.subject.Subject.{Subject}
use Rattle.snap_tasks.specs.declared.task.Task.{Task}
use Rattle.snap_tasks.specs.declared.task.Task.TheVariants as task

-- For every listing, schedule and debugger commands: the bytes of `perform` are the replies to the commands over the
-- run that the table of lines gives, and the report of the position that they reach.
abbrev pub PrintsTheRun : Type 0
PrintsTheRun = (x y z : List ℕ) (l : Source) (s : Schedule) (cs : List Command) →
    listing_of x ≡ Ok l → schedule_of y ≡ Ok s → fits l.kind s.shape ≡ true → commands_of z ≡ Ok cs →
    perform_of x y z ≡ Ok (performance (run_over l s) cs)

-- The assembled image lists back as its source, in canonical text.
abbrev pub ListsBackAsSource : Type 0
ListsBackAsSource = (x image : List ℕ) → assembled x ≡ Ok image →
    (l : Commented) × (commented_of x ≡ Ok l) × (listed image ≡ Ok (canonical_text l))

-- The canonical text of a listing with comments, if it is no longer than a text may be, gives itself back: it is
-- assembled, and its image lists back as this text.
abbrev pub GivesItselfBack : Type 0
GivesItselfBack = (l : Commented) → IsCommented l → length (canonical_text l) ≤ max_text →
    (image : List ℕ) × (assembled (canonical_text l) ≡ Ok image) × (listed image ≡ Ok (canonical_text l))

-- An input names a listing, in its first part or as a shipped one, and its next part is a schedule for that listing.
pub record AsksFor (subject : Subject) (input : List ℕ) (l : Source) (s : Schedule) : Type 0 where
  pub listing : listing_for subject (parts_of input) ≡ Ok l
  pub schedule : IsScheduleFor l (part 0 (texts_in subject input)) s

-- The program runs what an input asks for, if the input is not too long and has as many texts as the task takes.
pub record RunsWhatIsAsked (subject : Subject) (input : List ℕ) (l : Source) (s : Schedule) : Type 0 where
  pub runs : length (texts_in subject input) ≡ 1 →
      output_of [] (task.Run subject) input ≡ Ok (performance (run_over l s) (command.Run ∷ []))
  pub debugs : (cs : List Command) → length (texts_in subject input) ≡ 2 →
      commands_of (part 1 (texts_in subject input)) ≡ Ok cs →
      output_of [] (task.Debug subject) input ≡ Ok (performance (run_over l s) cs)
  pub audits : length (texts_in subject input) ≡ 1 →
      output_of [] (task.Audit subject) input ≡ Ok (audit_text (run_over l s))

-- An input names a listing, and each of its 1 to 4,096 next parts is a schedule for that listing.
pub record AsksForBatch (subject : Subject) (input : List ℕ) (l : Source) (ss : List Schedule) : Type 0 where
  pub listing : listing_for subject (parts_of input) ≡ Ok l
  pub schedules : AreSchedulesFor l (texts_in subject input) ss
  pub some : 0 < length (texts_in subject input)
  pub few : length (texts_in subject input) ≤ max_schedules

-- The program runs such a batch, if the input is not too long.
abbrev pub RunsBatches : Type 0
RunsBatches = (subject : Subject) (input : List ℕ) (l : Source) (ss : List Schedule) → length input ≤ max_input →
    AsksForBatch subject input l ss →
    output_of [] (task.Batch subject) input ≡ Ok (reports_text 1 (map (end_report l) ss))

-- What is written for an input is of the run of the listing over the schedule that the input names, and of no other.
pub record WritesTheRun (subject : Subject) (input text : List ℕ) : Type 0 where
  pub runs : output_of [] (task.Run subject) input ≡ Ok text →
      (l : Source) × (s : Schedule) × AsksFor subject input l s × (text ≡ performance (run_over l s) (command.Run ∷ []))
  pub debugs : output_of [] (task.Debug subject) input ≡ Ok text →
      (l : Source) × (s : Schedule) × (cs : List Command) × AsksFor subject input l s
      × (commands_of (part 1 (texts_in subject input)) ≡ Ok cs) × (text ≡ performance (run_over l s) cs)
  pub audits : output_of [] (task.Audit subject) input ≡ Ok text →
      (l : Source) × (s : Schedule) × AsksFor subject input l s × (text ≡ audit_text (run_over l s))
  pub batches : output_of [] (task.Batch subject) input ≡ Ok text →
      (l : Source) × (ss : List Schedule) × (listing_for subject (parts_of input) ≡ Ok l)
      × AreSchedulesFor l (texts_in subject input) ss × (text ≡ reports_text 1 (map (end_report l) ss))

-- The run of U, B or M over a schedule keeps all that is promised of its listing. It does not matter how the listing
-- was spelled: a text that is read as U is U.
pub record IsSnapshotOver (g : KindTag) (s : Schedule) : Type 0 where
  pub valid : IsValidRun (run_over (shipped g) s)
  pub promises : KeepsPromises g (run_over (shipped g) s)

abbrev pub SnapshotListingsAreSnapshots : Type 0
SnapshotListingsAreSnapshots =
    (g : KindTag) (text : List ℕ) (s : Schedule) → IsScheduleFor (shipped g) text s → IsSnapshotOver g s

pub record Headline : Type 0 where
  pub prints_the_run : PrintsTheRun
  pub lists_back : ListsBackAsSource
  pub gives_itself_back : GivesItselfBack
  pub refuses_texts : (x y z : List ℕ) → RefusesTexts x y z
  pub refuses_inputs : (subject : Subject) (t : Task) (count : ℕ) (input : List ℕ) → IsOverSchedule subject t count →
      RefusesInputs subject t count input
  pub refuses_batches : (subject : Subject) (input : List ℕ) → RefusesBatches subject input
  pub runs_what_is_asked : (subject : Subject) (input : List ℕ) (l : Source) (s : Schedule) →
      length input ≤ max_input → AsksFor subject input l s → RunsWhatIsAsked subject input l s
  pub runs_batches : RunsBatches
  pub writes_the_run : (subject : Subject) (input text : List ℕ) → WritesTheRun subject input text
  pub snapshots : SnapshotListingsAreSnapshots
