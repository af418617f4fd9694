-- `perform_of`: what is written for a listing, a schedule and debugger commands, or the first reason why nothing is.
use Rattle.std.specs.Prelude.{ℕ, List, Result, Ok}
use Rattle.snap_semantics.specs.declared.refusal.Refusal.{Refusal}
use Rattle.snap_semantics.specs.declared.refusal.Refusal.TheVariants as refusal
use Rattle.snap_semantics.specs.Answers.{◌>>=◌, refused_as}
use Rattle.snap_semantics.specs.Listing.{listing_of}
use Rattle.snap_semantics.specs.Source.{Source}
use Rattle.snap_runs.specs.Run.{run_over}
use Rattle.snap_input.specs.Parts.{part}
use Rattle.snap_input.specs.Schedules.{schedule_for}
use Rattle.snap_debug_commands.specs.Commands.{commands_of}
use Rattle.snap_debug.specs.Session.{performance}

-- what is written for a listing and two texts, or the first reason why nothing is
unfoldable pub perform_listing : Source → List ℕ → List ℕ → Result (List ℕ) Refusal
perform_listing l schedule commands = do
  s ← schedule_for l schedule
  cs ← refused_as refusal.Commands (commands_of commands)
  Ok (performance (run_over l s) cs)

-- a schedule and commands
abbrev pub debug_text : Source → List (List ℕ) → Result (List ℕ) Refusal
debug_text l texts = perform_listing l (part 0 texts) (part 1 texts)

-- what is written for three texts
unfoldable pub perform_of : List ℕ → List ℕ → List ℕ → Result (List ℕ) Refusal
perform_of listing schedule commands = do
  l ← refused_as refusal.Listing (listing_of listing)
  perform_listing l schedule commands
