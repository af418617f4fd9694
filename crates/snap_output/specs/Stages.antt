-- `RefusesTexts`, `RefusesInputs` and `RefusesBatches`: at which stage an input is refused, and for which reason: its
-- length, the number of its parts, its listing, its schedule and the shape of that, its commands, in this order.
use Rattle.std.specs.Prelude.{◌≡◌, ℕ, ◌<◌, ◌≤◌, ◌⊎◌, true, false, List, [], ◌∷◌, ◌++◌, length, Ok, Err}
use Rattle.snap_words.specs.Kind.{fits}
use Rattle.snap_words.specs.declared.shape.WordFault.TheVariants.{BadShape}
use Rattle.snap_image.specs.Assembly.{assembled}
use Rattle.snap_semantics.specs.Listing.{listing_of}
use Rattle.snap_semantics.specs.Schedule.{Schedule, schedule_of}
use Rattle.snap_semantics.specs.Source.{Source}
use Rattle.snap_semantics.specs.declared.refusal.CommandRefusal.{CommandRefusal}
use Rattle.snap_semantics.specs.declared.refusal.ListingRefusal.{ListingRefusal}
use Rattle.snap_semantics.specs.declared.refusal.Refusal.{Refusal}
use Rattle.snap_semantics.specs.declared.refusal.Refusal.TheVariants as refusal
use Rattle.snap_semantics.specs.declared.refusal.ScheduleRefusal.{ScheduleRefusal}
use Rattle.snap_debug_commands.specs.Commands.{commands_of}
use Rattle.snap_input.specs.Input.{listing_for, texts_for}
use Rattle.snap_input.specs.ManySchedules.{checked_schedules}
use Rattle.snap_input.specs.Parts.{part, parts_of, max_input}
use Rattle.snap_input.specs.Schedules.{schedule_for}
use Rattle.snap_output.specs.Output.{output_of}
use Rattle.snap_output.specs.Perform.{perform_of}
use Rattle.snap_tasks.specs.declared.subject.Subject.{Subject}
use Rattle.snap_tasks.specs.declared.task.Task.{Task}
use Rattle.snap_tasks.specs.declared.task.Task.TheVariants as task

-- the texts of an input that follow the listing
abbrev pub texts_in : Subject → List ℕ → List (List ℕ)
texts_in s input = texts_for s (parts_of input)

-- A text is this schedule, and its shape fits the kind of the listing.
abbrev pub IsScheduleFor : Source → List ℕ → Schedule → Type 0
IsScheduleFor l text s = (schedule_of text ≡ Ok s) × (fits l.kind s.shape ≡ true)

-- A text is this schedule, and its shape does not fit.
abbrev pub IsUnfitFor : Source → List ℕ → Schedule → Type 0
IsUnfitFor l text s = (schedule_of text ≡ Ok s) × (fits l.kind s.shape ≡ false)

-- Texts are these schedules, one for one.
abbrev pub AreSchedulesFor : Source → List (List ℕ) → List Schedule → Type 0
AreSchedulesFor l [] [] = Unit {0}
AreSchedulesFor l (text ∷ texts) (s ∷ ss) = IsScheduleFor l text s × AreSchedulesFor l texts ss
AreSchedulesFor l _ _ = ⊥

-- A listing, a schedule and commands, each as its text, are refused for the first of them that is none; and a listing
-- is assembled where it is one.
pub record RefusesTexts (x y z : List ℕ) : Type 0 where
  pub listing : (r : ListingRefusal) → listing_of x ≡ Err r → perform_of x y z ≡ Err (refusal.Listing r)
  pub schedule : (l : Source) (r : ScheduleRefusal) → listing_of x ≡ Ok l → schedule_of y ≡ Err r →
      perform_of x y z ≡ Err (refusal.Schedule r)
  pub shape : (l : Source) (s : Schedule) → listing_of x ≡ Ok l → IsUnfitFor l y s →
      perform_of x y z ≡ Err (refusal.Words BadShape)
  pub commands : (l : Source) (s : Schedule) (r : CommandRefusal) → listing_of x ≡ Ok l → IsScheduleFor l y s →
      commands_of z ≡ Err r → perform_of x y z ≡ Err (refusal.Commands r)
  pub assembles : (r : ListingRefusal) → listing_of x ≡ Err r → assembled x ≡ Err r

-- the tasks that go over one schedule, with the number of texts that each takes behind the listing
abbrev pub IsOverSchedule : Subject → Task → (count : ℕ) → Type 0
IsOverSchedule s t count =
    ((t ≡ task.Run s) × (count ≡ 1)) ⊎ (((t ≡ task.Audit s) × (count ≡ 1)) ⊎ ((t ≡ task.Debug s) × (count ≡ 2)))

-- an input that is not too long, and has so many texts behind the listing
abbrev pub IsCounted : Subject → (count : ℕ) → List ℕ → Type 0
IsCounted s count input = (length input ≤ max_input) × (length (texts_in s input) ≡ count)

-- An input for such a task is refused for the first stage that it does not pass.
pub record RefusesInputs (subject : Subject) (t : Task) (count : ℕ) (input : List ℕ) : Type 0 where
  pub too_long : max_input < length input → output_of [] t input ≡ Err refusal.InputTooLong
  pub parts : length input ≤ max_input → (length (texts_in subject input) ≡ count → ⊥) →
      output_of [] t input ≡ Err (refusal.WrongParts (length (parts_of input)))
  pub listing : (r : Refusal) → IsCounted subject count input → listing_for subject (parts_of input) ≡ Err r →
      output_of [] t input ≡ Err r
  pub schedule : (l : Source) (r : ScheduleRefusal) → IsCounted subject count input →
      listing_for subject (parts_of input) ≡ Ok l → schedule_of (part 0 (texts_in subject input)) ≡ Err r →
      output_of [] t input ≡ Err (refusal.Schedule r)
  pub shape : (l : Source) (s : Schedule) → IsCounted subject count input →
      listing_for subject (parts_of input) ≡ Ok l → IsUnfitFor l (part 0 (texts_in subject input)) s →
      output_of [] t input ≡ Err (refusal.Words BadShape)
  pub commands : (l : Source) (s : Schedule) (r : CommandRefusal) → t ≡ task.Debug subject →
      IsCounted subject count input → listing_for subject (parts_of input) ≡ Ok l →
      IsScheduleFor l (part 0 (texts_in subject input)) s → commands_of (part 1 (texts_in subject input)) ≡ Err r →
      output_of [] t input ≡ Err (refusal.Commands r)

-- A batch is refused alike; of its schedules the first that is none for the listing is refused.
pub record RefusesBatches (subject : Subject) (input : List ℕ) : Type 0 where
  pub too_long : max_input < length input → output_of [] (task.Batch subject) input ≡ Err refusal.InputTooLong
  pub parts : (r : Refusal) → length input ≤ max_input → checked_schedules subject (parts_of input) ≡ Err r →
      output_of [] (task.Batch subject) input ≡ Err r
  pub listing : (r : Refusal) → length input ≤ max_input → checked_schedules subject (parts_of input) ≡ Ok tt →
      listing_for subject (parts_of input) ≡ Err r → output_of [] (task.Batch subject) input ≡ Err r
  pub schedule : (l : Source) (before behind : List (List ℕ)) (text : List ℕ) (ss : List Schedule) (r : Refusal) →
      length input ≤ max_input → checked_schedules subject (parts_of input) ≡ Ok tt →
      listing_for subject (parts_of input) ≡ Ok l → texts_in subject input ≡ before ++ text ∷ behind →
      AreSchedulesFor l before ss → schedule_for l text ≡ Err r → output_of [] (task.Batch subject) input ≡ Err r
