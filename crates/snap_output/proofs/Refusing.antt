-- At which stage an input is refused, and why: `RefusesTexts`, `RefusesInputs`, `RefusesBatches`; and batches are run.
use Rattle.std.proofs.Common.{◌≡◌, ℕ, ◌≤◌, inl, inr, true, List, [], ◌∷◌, ◌++◌, Ok, Err, length, nat_eq, refl, eq-eqb}
use Rattle.std.proofs.lemmas.Bool.{le-leb, le-ltb, lt-ltb, ne_eqb}
use Rattle.std.specs.Prelude.{Result}
use Rattle.snap_words.specs.declared.shape.WordFault.TheVariants.{BadShape}
use Rattle.snap_image.specs.Assembly.{assembled}
use Rattle.snap_semantics.specs.Comments.{commented_of}
use Rattle.snap_semantics.specs.Schedule.{Schedule}
use Rattle.snap_semantics.specs.Source.{Source}
use Rattle.snap_semantics.specs.declared.refusal.CommandRefusal.{CommandRefusal}
use Rattle.snap_semantics.specs.declared.refusal.Refusal.{Refusal}
use Rattle.snap_semantics.specs.declared.refusal.Refusal.TheVariants as refusal
use Rattle.snap_debug_commands.specs.Commands.{commands_of}
use Rattle.snap_input.specs.Input.{parted}
use Rattle.snap_input.specs.ManySchedules.{schedules_for}
use Rattle.snap_input.specs.Parts.{part, parts_of, max_input}
use Rattle.snap_input.specs.Schedules.{schedule_for}
use Rattle.snap_output.specs.ScheduleOutput.{audit_listing, batch_text, batched, audit_of_first_text}
use Rattle.snap_output.specs.Headline.{RunsBatches}
use Rattle.snap_output.specs.Output.{of_task, output_of, run_text}
use Rattle.snap_output.specs.Perform.{debug_text, perform_listing, perform_of}
use Rattle.snap_output.specs.Stages.{AreSchedulesFor, IsOverSchedule, IsScheduleFor}
use Rattle.snap_output.specs.Stages.{RefusesBatches, RefusesInputs, RefusesTexts, texts_in}
use Rattle.snap_tasks.specs.declared.subject.Subject.{Subject}
use Rattle.snap_tasks.specs.declared.task.Task.{Task}
use Rattle.snap_tasks.specs.declared.task.Task.TheVariants as task

pub refuses_texts : (x y z : List ℕ) → RefusesTexts x y z
unfolding perform_of perform_listing schedule_for assembled commented_of
refuses_texts x y z = record {
  listing = λ r is. rw is refl;
  schedule = λ l r is none. rw (is, none) refl;
  shape = λ l s is unfit. rw (is, unfit.0, unfit.1) refl;
  commands = λ l s r is fit none. rw (is, fit.0, fit.1, none) refl;
  assembles = λ r is. rw is refl;
}

-- the stages of a task on one schedule
module _ (subject : Subject) (t : Task) (input : List ℕ) (count : ℕ)
    (f : Source → List (List ℕ) → Result (List ℕ) Refusal)
    (is : of_task [] t input ≡ parted subject count (parts_of input) f) where
  -- nothing is said of a listing and a text that is no schedule for it
  abbrev NeedsSchedule : Type 0
  NeedsSchedule =
      (l : Source) (texts : List (List ℕ)) (r : Refusal) → schedule_for l (part 0 texts) ≡ Err r → f l texts ≡ Err r

  of_parts : length input ≤ max_input → output_of [] t input ≡ parted subject count (parts_of input) f
  unfolding output_of
  of_parts short = rw (le-ltb max_input (length input) short, is) refl

  refuses : NeedsSchedule → ((l : Source) (s : Schedule) (r : CommandRefusal) → t ≡ task.Debug subject →
      IsScheduleFor l (part 0 (texts_in subject input)) s → commands_of (part 1 (texts_in subject input)) ≡ Err r →
      f l (texts_in subject input) ≡ Err (refusal.Commands r)) → RefusesInputs subject t count input
  unfolding output_of parted schedule_for
  refuses needs commanded = record {
    too_long = λ long. rw (lt-ltb max_input (length input) long) refl;
    parts = λ short other. rw (of_parts short, ne_eqb (length (texts_in subject input)) count other) refl;
    listing = λ r counted none. rw (of_parts counted.0, has counted.1, none) refl;
    schedule = λ l r counted there none. rw (of_parts counted.0, has counted.1, there)
        (needs l (texts_in subject input) (refusal.Schedule r) (rw none refl));
    shape = λ l s counted there unfit. rw (of_parts counted.0, has counted.1, there)
        (needs l (texts_in subject input) (refusal.Words BadShape) (rw (unfit.0, unfit.1) refl));
    commands = λ l s r debugs counted there fit none. rw (of_parts counted.0, has counted.1, there)
        (commanded l s r debugs fit none);
  } where
    has : length (texts_in subject input) ≡ count → nat_eq (length (texts_in subject input)) count ≡ true
    has counted = eq-eqb (length (texts_in subject input)) count counted

pub refuses_inputs : (subject : Subject) (t : Task) (count : ℕ) (input : List ℕ) → IsOverSchedule subject t count →
    RefusesInputs subject t count input
unfolding perform_listing audit_listing schedule_for
refuses_inputs subject t count input (inl is) =
    rw (is.0, is.1) (refuses subject (task.Run subject) input 1 run_text refl (λ l texts r none. rw none refl)
    (λ l s r debugs fit none. absurd cc))
refuses_inputs subject t count input (inr (inl is)) =
    rw (is.0, is.1) (refuses subject (task.Audit subject) input 1 audit_of_first_text refl
    (λ l texts r none. rw none refl) (λ l s r debugs fit none. absurd cc))
refuses_inputs subject t count input (inr (inr is)) =
    rw (is.0, is.1) (refuses subject (task.Debug subject) input 2 debug_text refl (λ l texts r none. rw none refl)
    (λ l s r debugs fit none. rw (fit.0, fit.1, none) refl))

pub one_schedule : (l : Source) (text : List ℕ) (s : Schedule) → IsScheduleFor l text s → schedule_for l text ≡ Ok s
unfolding schedule_for
one_schedule l text s is = rw (is.0, is.1) refl

-- the first text that is no schedule
first_refused : (l : Source) (before behind : List (List ℕ)) (text : List ℕ) (ss : List Schedule) (r : Refusal) →
    AreSchedulesFor l before ss → schedule_for l text ≡ Err r → schedules_for l (before ++ text ∷ behind) ≡ Err r
first_refused l [] behind text ss r are none = rw none refl
first_refused l (t ∷ before) behind text [] r are none = absurd are
first_refused l (t ∷ before) behind text (s ∷ ss) r are none =
    rw (one_schedule l t s are.0, first_refused l before behind text ss r are.1 none) refl

all_read : (l : Source) (texts : List (List ℕ)) (ss : List Schedule) → AreSchedulesFor l texts ss →
    schedules_for l texts ≡ Ok ss
all_read l [] [] are = refl
all_read l (t ∷ texts) (s ∷ ss) are = rw (one_schedule l t s are.0, all_read l texts ss are.1) refl
all_read l _ _ are = absurd are

pub refuses_batches : (subject : Subject) (input : List ℕ) → RefusesBatches subject input
unfolding output_of batched batch_text
refuses_batches subject input = record {
  too_long = λ long. rw (lt-ltb max_input (length input) long) refl;
  parts = λ r short none. rw (le-ltb max_input (length input) short, none) refl;
  listing = λ r short counted none. rw (le-ltb max_input (length input) short, counted, none) refl;
  schedule = λ l before behind text ss r short counted there texts are none.
      rw (
        le-ltb max_input (length input) short,
        counted,
        there,
        texts,
        first_refused l before behind text ss r are none,
      ) refl;
}

pub runs_batches : RunsBatches
unfolding output_of batched batch_text
runs_batches subject input l ss short asks =
    let count = length (texts_in subject input) in
    rw (
      le-ltb max_input (length input) short,
      lt-ltb 0 count asks.some,
      le-leb count 4096 asks.few,
      asks.listing,
      all_read l (texts_in subject input) ss asks.schedules,
    ) refl
