-- `Talks`: what comes of a dialog about a listing under the schedule that a text is; `TalksIn`: the same, of the texts
-- of files.
use Rattle.std.specs.Prelude.{◌≡◌, ◌⊎◌, ℕ, List, Option, Some, None, Result, Ok, Err, IfSome}
use Rattle.snap_streams.specs.Folder.{Kept}
use Rattle.snap_streams.specs.TypedLines.{typed_lines}
use Rattle.snap_streams.specs.declared.dialog_fault.DialogFault.{DialogFault}
use Rattle.snap_faults.specs.declared.fault.ProgramFault.{ProgramFault}
use Rattle.snap_faults.specs.declared.fault.ProgramFault.TheVariants as fault
use Rattle.snap_input.specs.Schedules.{schedule_for}
use Rattle.snap_named_files.specs.Texts.{Read, OfFiles, OfShipped, view_texts}
use Rattle.snap_named_files.specs.declared.texts.Texts.{Texts}
use Rattle.snap_prompt.specs.Conversation.{ShowsAll, ShowsSome}
use Rattle.snap_prompt.specs.Prompt.{opened_prompt}
use Rattle.snap_prompt.specs.declared.shows.Shows.{Shows}
use Rattle.snap_runs.specs.Run.{run_over}
use Rattle.snap_semantics.specs.Answers.{refused_as}
use Rattle.snap_semantics.specs.Listing.{listing_of}
use Rattle.snap_semantics.specs.Schedule.{Schedule}
use Rattle.snap_semantics.specs.Source.{Source}
use Rattle.snap_semantics.specs.declared.refusal.Refusal.{Refusal}
use Rattle.snap_semantics.specs.declared.refusal.Refusal.TheVariants as refusal
use Rattle.snap_shipped.specs.Shipped.{shipped}
use Rattle.snapdb.specs.Start.{EndsFor}

-- What a dialog meets and leaves: what is shown beside the answers; what is left to be typed at its console; what the
-- console has shown before the dialog and after it; what the folder has kept then; and what has failed of the console.
pub record Devices : Type 0 where
  pub shows : Shows
  pub left : Option (List ℕ)
  pub shown : Option (List ℕ)
  pub shown_after : Option (List ℕ)
  pub kept : Option (List Kept)
  pub kept_after : Option (List Kept)
  pub failed : Option DialogFault

-- The console has shown nothing, and the folder has kept nothing.
abbrev pub IsSilent : Devices → Type 0
IsSilent d = (d.shown ≡ d.shown_after) × (d.kept_after ≡ d.kept)

-- A transcript of what is left to be typed was shown, of a dialog about this listing under this schedule; and the folder
-- has kept what the lines saved.
abbrev pub TellsAll : Source → Schedule → Devices → Type 0
TellsAll l s d = IfSome d.left (λ input.
    ShowsAll (opened_prompt (run_over l s) d.shows d.kept) (typed_lines input) d.shown d.shown_after d.kept_after)

-- A beginning of a transcript was shown, of a dialog about this listing under this schedule.
abbrev pub TellsSome : Source → Schedule → Devices → Type 0
TellsSome l s d = IfSome d.left (λ input.
    ShowsSome (opened_prompt (run_over l s) d.shows d.kept) (typed_lines input) d.shown d.shown_after)

-- The end of a dialog about this listing under the schedule of a text: all of it is shown; or the schedule is refused,
-- and nothing is shown and nothing saved; or the dialog is broken off after a beginning.
abbrev pub Talks : Source → (schedule : List ℕ) → Result (Unit {0}) ProgramFault → Devices → Type 0
Talks l schedule (Ok done) d =
    (s : Schedule) × (schedule_for l schedule ≡ Ok s) × TellsAll l s d × (d.failed ≡ None)
Talks l schedule (Err (fault.Refused r)) d = (schedule_for l schedule ≡ Err r) × IsSilent d × (d.failed ≡ None)
Talks l schedule (Err f) d =
    EndsFor f d.failed d.left × ((s : Schedule) → schedule_for l schedule ≡ Ok s → TellsSome l s d)

-- the listing that a text is
abbrev pub listing_in : List ℕ → Result Source Refusal
listing_in text = refused_as refusal.Listing (listing_of text)

-- There is no listing to talk about, since it is refused, or for want of memory; and nothing is shown or kept.
abbrev pub IsUnlisted : Result Source Refusal → Result (Unit {0}) ProgramFault → Devices → Type 0
IsUnlisted listing done d =
    (((r : Refusal) × (listing ≡ Err r) × (done ≡ Err (fault.Refused r))) ⊎ (done ≡ Err fault.Memory)) × IsSilent d

-- What comes of a dialog about the texts of files.
abbrev pub TalksIn : Read → Result (Unit {0}) ProgramFault → Devices → Type 0
TalksIn (OfFiles listing schedule) done d =
    IsUnlisted (listing_in listing) done d
    ⊎ ((l : Source) × (listing_in listing ≡ Ok l) × Talks l schedule done d)
TalksIn (OfShipped kind schedule) done d =
    IsUnlisted (Ok (shipped kind)) done d ⊎ Talks (shipped kind) schedule done d

-- What comes of a dialog about what was read; where nothing was, nothing is shown or kept.
abbrev pub TalksRead : Result Texts ProgramFault → Option Read → Result (Unit {0}) ProgramFault → Devices → Type 0
TalksRead (Ok read) texts done d = (texts ≡ Some (view_texts read)) × TalksIn (view_texts read) done d
TalksRead (Err f) texts done d = (texts ≡ None) × (done ≡ Err f) × IsSilent d
