-- `schedule_for`: the schedule of an input's text, if its shape fits the kind of the listing.
use Rattle.std.specs.Prelude.{ℕ, List, Result, Ok, Err, if◌then◌else◌}
use Rattle.snap_words.specs.Kind.{fits}
use Rattle.snap_words.specs.declared.shape.WordFault.TheVariants.{BadShape}
use Rattle.snap_semantics.specs.declared.refusal.Refusal.{Refusal}
use Rattle.snap_semantics.specs.declared.refusal.Refusal.TheVariants as refusal
use Rattle.snap_semantics.specs.Answers.{◌>>=◌, refused_as}
use Rattle.snap_semantics.specs.Schedule.{Schedule, schedule_of}
use Rattle.snap_semantics.specs.Source.{Source}

-- a schedule whose shape fits the kind of the listing
abbrev pub fitting : Source → Schedule → Result Schedule Refusal
fitting l s = if fits l.kind s.shape then Ok s else Err (refusal.Words BadShape)

-- the schedule that a text is, for this listing
unfoldable pub schedule_for : Source → List ℕ → Result Schedule Refusal
schedule_for l schedule = do
  s ← refused_as refusal.Schedule (schedule_of schedule)
  fitting l s
