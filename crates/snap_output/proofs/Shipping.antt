-- `prints_the_run`, `writes_the_run` and `snapshots`: what the program writes for an input is of the run that the
-- input names; of U, B or M it is a snapshot's.
use Rattle.std.proofs.Common.{◌≡◌, ℕ, true, false, List, [], ◌∷◌, Ok, length, nat_eq, nat_lt, ◌≤◌, refl, ap, ◌∙◌, arith}
use Rattle.std.proofs.lemmas.Bool.{eq-eqb, le-ltb}
use Rattle.std.specs.Prelude.{Result, codes, map}
use Rattle.snap_words.specs.Kind.{fits}
use Rattle.snap_words.specs.declared.shape.WordFault.TheVariants.{BadShape}
use Rattle.snap_words.specs.declared.kind.KindTag.{KindTag}
use Rattle.snap_words.specs.declared.kind.KindTag.TheVariants as kind
use Rattle.snap_semantics.specs.Answers.{refused_as}
use Rattle.snap_image.specs.Assembly.{assembled}
use Rattle.snap_semantics.specs.Comments.{commented_of}
use Rattle.snap_image.specs.Image.{image_of}
use Rattle.snap_semantics.specs.Schedule.{Schedule, schedule_of}
use Rattle.snap_semantics.specs.Source.{Source}
use Rattle.snap_semantics.specs.declared.process.Item.{Item}
use Rattle.snap_semantics.specs.declared.refusal.Refusal.{Refusal}
use Rattle.snap_semantics.specs.declared.refusal.Refusal.TheVariants as refusal
use Rattle.snap_asm.specs.Laws.{KeepsCanonical, ListsBack}
use Rattle.snap_sched.specs.Laws.{ReadsOnlySpelled}
use Rattle.snap_runs.specs.Run.{run_over}
use Rattle.snap_shipped.specs.Kept.{NumbersSuffice, RunsKeepPromises}
use Rattle.snap_record.proofs.Within.{run_fits}
use Rattle.snap_audit.specs.VerdictText.{audit_text}
use Rattle.snap_batch.specs.Reports.{reports_text}
use Rattle.snap_batch.specs.End.{end_report}
use Rattle.snap_debug_commands.specs.Commands.{commands_of}
use Rattle.snap_debug.specs.Session.{performance}
use Rattle.snap_debug_commands.specs.declared.command.Command.{Command}
use Rattle.snap_debug_commands.specs.declared.command.Command.TheVariants as command
use Rattle.snap_input.proofs.Answered.{both, not_refused, passed, within}
use Rattle.snap_output.specs.Headline.{AsksFor, GivesItselfBack, ListsBackAsSource, PrintsTheRun, RunsWhatIsAsked}
use Rattle.snap_output.specs.Headline.{SnapshotListingsAreSnapshots, WritesTheRun}
use Rattle.snap_output.specs.Stages.{AreSchedulesFor, IsScheduleFor, texts_in}
use Rattle.snap_shipped.specs.Shipped.{shipped}
use Rattle.snap_input.specs.Input.{checked_parts, listing_for, parted, texts_for}
use Rattle.snap_output.specs.Output.{of_task, output_of, run_text}
use Rattle.snap_output.specs.ScheduleOutput.{audit_listing, batch_text, batched, audit_of_first_text}
use Rattle.snap_input.specs.ManySchedules.{checked_schedules, schedules_for}
use Rattle.snap_input.specs.Parts.{part, parts_of, max_input}
use Rattle.snap_output.proofs.ToTheEnd.{is_run}
use Rattle.snap_input.specs.Schedules.{fitting, schedule_for}
use Rattle.snap_output.specs.Perform.{debug_text, perform_listing, perform_of}
use Rattle.snap_tasks.specs.declared.subject.Subject.{Subject}
use Rattle.snap_tasks.specs.declared.task.Task.{Task}
use Rattle.snap_tasks.specs.declared.task.Task.TheVariants as task

pub prints_the_run : PrintsTheRun
unfolding perform_of perform_listing schedule_for
prints_the_run x y z l s cs is_listing is_schedule fit are_commands =
    rw (is_listing, is_schedule, fit, are_commands) refl

pub lists_back : ListsBack → ListsBackAsSource
unfolding assembled
lists_back law x image e =
    let from = both (commented_of x) (λ l. Ok (image_of l)) image e in (from.0, from.1, (law x image from.0 from.1 e).0)

pub gives_itself_back : KeepsCanonical → GivesItselfBack
gives_itself_back law l is short = (let back = law l is short in (image_of l, back.0, back.1))

-- the schedule that a text is, of a shape that fits
schedule_from : (l : Source) (y : List ℕ) (s : Schedule) → schedule_for l y ≡ Ok s → IsScheduleFor l y s
unfolding schedule_for
schedule_from l y s e =
    let read = both (refused_as refusal.Schedule (schedule_of y)) (fitting l) s e in
    let fit = passed (fits l.kind read.0.shape) (refusal.Words BadShape) read.0 s read.2 in
    rw (← fit.1) (not_refused refusal.Schedule (schedule_of y) read.0 read.1, fit.0)

-- the schedules of texts, one for one
schedules_from : (l : Source) (texts : List (List ℕ)) (ss : List Schedule) →
    schedules_for l texts ≡ Ok ss → AreSchedulesFor l texts ss
schedules_from l [] ss e = let none : ss ≡ [] = cc in rw none tt
schedules_from l (text ∷ texts) ss e =
    let first = both (schedule_for l text) _ ss e in
    let rest = both (schedules_for l texts) _ ss first.2 in
    let all : ss ≡ first.0 ∷ rest.0 = cc rest.2 in
    rw all (schedule_from l text first.0 first.1, schedules_from l texts rest.0 rest.1)

-- what is performed
performed : (l : Source) (y z text : List ℕ) → perform_listing l y z ≡ Ok text →
    (s : Schedule) × (cs : List Command) × IsScheduleFor l y s × (commands_of z ≡ Ok cs)
    × (text ≡ performance (run_over l s) cs)
unfolding perform_listing
performed l y z text e =
    let read = both (schedule_for l y) _ text e in
    let asked = both (refused_as refusal.Commands (commands_of z)) _ text read.2 in (
      read.0,
      asked.0,
      schedule_from l y read.0 read.1,
      not_refused refusal.Commands (commands_of z) asked.0 asked.1,
      cc asked.2,
    )

-- by the one command `run`
only_run : (l : Source) (s : Schedule) (cs : List Command) (text : List ℕ) → commands_of (codes "run\n") ≡ Ok cs →
    text ≡ performance (run_over l s) cs → text ≡ performance (run_over l s) (command.Run ∷ [])
only_run l s cs text read e =
    let one : cs ≡ command.Run ∷ [] = cc (read, is_run) in e ∙ ap (performance (run_over l s)) one

audited : (l : Source) (y text : List ℕ) → audit_listing l y ≡ Ok text →
    (s : Schedule) × IsScheduleFor l y s × (text ≡ audit_text (run_over l s))
unfolding audit_listing
audited l y text e =
    let read = both (schedule_for l y) _ text e in (read.0, schedule_from l y read.0 read.1, cc read.2)

reported : (l : Source) (texts : List (List ℕ)) (text : List ℕ) → batch_text l texts ≡ Ok text →
    (ss : List Schedule) × AreSchedulesFor l texts ss × (text ≡ reports_text 1 (map (end_report l) ss))
unfolding batch_text
reported l texts text e =
    let read = both (schedules_for l texts) _ text e in (read.0, schedules_from l texts read.0 read.1, cc read.2)

-- the output is that of the parts
of_parts : (t : Task) (input text : List ℕ) → output_of [] t input ≡ Ok text → of_task [] t input ≡ Ok text
unfolding output_of
of_parts t input text e = within (nat_lt max_input (length input)) refusal.InputTooLong (of_task [] t input) text e

-- what is found of parts is found of the listing and the texts after it
of_listing : (s : Subject) (count : ℕ) (parts : List (List ℕ)) (f : Source → List (List ℕ) → Result (List ℕ) Refusal)
    (text : List ℕ) → parted s count parts f ≡ Ok text →
    (l : Source) × (listing_for s parts ≡ Ok l) × (f l (texts_for s parts) ≡ Ok text)
unfolding parted
of_listing s count parts f text e =
    let counted = both (checked_parts s count parts) _ text e in both (listing_for s parts) _ text counted.2

of_batch : (s : Subject) (parts : List (List ℕ)) (text : List ℕ) → batched s parts ≡ Ok text →
    (l : Source) × (listing_for s parts ≡ Ok l) × (batch_text l (texts_for s parts) ≡ Ok text)
unfolding batched
of_batch s parts text e =
    let counted = both (checked_schedules s parts) _ text e in both (listing_for s parts) _ text counted.2

pub writes_the_run : (subject : Subject) (input text : List ℕ) → WritesTheRun subject input text
writes_the_run s input text = record {
  runs = λ e.
      let of = of_listing s 1 (parts_of input) run_text text (of_parts (task.Run s) input text e) in
      let found = performed of.0 (part 0 (texts_in s input)) (codes "run\n") text of.2 in (
        of.0,
        found.0,
        record { listing = of.1; schedule = found.2 },
        only_run of.0 found.0 found.1 text found.3 found.4,
      );
  debugs = λ e.
      let of = of_listing s 2 (parts_of input) debug_text text (of_parts (task.Debug s) input text e) in
      let found = performed of.0 (part 0 (texts_in s input)) (part 1 (texts_in s input)) text of.2 in
      (of.0, found.0, found.1, record { listing = of.1; schedule = found.2 }, found.3, found.4);
  audits = λ e.
      let of = of_listing s 1 (parts_of input) audit_of_first_text text (of_parts (task.Audit s) input text e) in
      let found = audited of.0 (part 0 (texts_in s input)) text of.2 in
      (of.0, found.0, record { listing = of.1; schedule = found.1 }, found.2);
  batches = λ e.
      let of = of_batch s (parts_of input) text (of_parts (task.Batch s) input text e) in
      let found = reported of.0 (texts_in s input) text of.2 in
      (of.0, found.0, of.1, found.1, found.2);
}

-- what is asked for is run
pub runs_what_is_asked : (subject : Subject) (input : List ℕ) (l : Source) (s : Schedule) →
    length input ≤ max_input → AsksFor subject input l s → RunsWhatIsAsked subject input l s
unfolding output_of parted schedule_for perform_listing audit_listing
runs_what_is_asked subject input l s short asks = record {
  runs = λ one. rw (enough, has 1 one, asks.listing, asks.schedule.0, asks.schedule.1, is_run) refl;
  debugs = λ cs two are. rw (enough, has 2 two, asks.listing, asks.schedule.0, asks.schedule.1, are) refl;
  audits = λ one. rw (enough, has 1 one, asks.listing, asks.schedule.0, asks.schedule.1) refl;
} where
  enough : nat_lt max_input (length input) ≡ false
  enough = le-ltb max_input (length input) short

  has : (count : ℕ) → length (texts_in subject input) ≡ count → nat_eq (length (texts_in subject input)) count ≡ true
  has count counted = eq-eqb (length (texts_in subject input)) count counted

-- a schedule has fewer items than there are sequence numbers
suffices : (g : KindTag) (items : List Item) → length items ≤ 1000000 → NumbersSuffice g items
suffices kind.Seq items few = omega (arith, few)
suffices kind.Bits items few = tt
suffices kind.Multi items few = tt

pub snapshots : ((g : KindTag) → RunsKeepPromises g) → ReadsOnlySpelled → SnapshotListingsAreSnapshots
snapshots kept reads g text s is =
    let h = (reads text s is.0).1 in record {
      valid = run_fits (shipped g) s h;
      promises = kept g s.shape s.items h.shape is.1 (suffices g s.items h.few);
    }
