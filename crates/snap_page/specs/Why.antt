-- Why an item of a run that a page in a browser asks about came out as it did, the answer of a scan or a trap
-- (`IsWhyAsked`).
use Rattle.std.specs.Prelude.{◌≡◌, ◌≤◌, ◌<◌, ℕ, List, length, Result, Ok, Err}
use Rattle.snap_semantics.specs.Answers.{refused_as}
use Rattle.snap_semantics.specs.Listing.{listing_of}
use Rattle.snap_semantics.specs.Schedule.{Schedule}
use Rattle.snap_semantics.specs.Source.{Source}
use Rattle.snap_semantics.specs.declared.refusal.CommandRefusal.TheVariants.{NoSuchPosition}
use Rattle.snap_semantics.specs.declared.refusal.Refusal.{Refusal}
use Rattle.snap_semantics.specs.declared.refusal.Refusal.TheVariants as refusal
use Rattle.snap_runs.specs.Run.{run_over}
use Rattle.snap_input.specs.Schedules.{schedule_for}
use Rattle.snap_why.specs.Why.{IsWhy}

-- An answer is what is said of item t, where there are so many items, or that there are fewer.
abbrev pub IsWhyUnder : Source → Schedule → (t : ℕ) → Result (List ℕ) Refusal → Type 0
IsWhyUnder l s t (Ok text) = (t ≤ length s.items) × IsWhy (run_over l s) t text
IsWhyUnder l s t (Err r) = (length s.items < t) × (r ≡ refusal.Commands NoSuchPosition)

-- the same of a schedule that may be refused
abbrev pub IsWhyFor : Source → Result Schedule Refusal → (t : ℕ) → Result (List ℕ) Refusal → Type 0
IsWhyFor l (Ok s) t answer = IsWhyUnder l s t answer
IsWhyFor l (Err r) t answer = answer ≡ Err r

-- the same for the text of a listing, read or refused
abbrev pub IsWhyOf : Result Source Refusal → (schedule : List ℕ) → (t : ℕ) → Result (List ℕ) Refusal → Type 0
IsWhyOf (Ok l) schedule t answer = IsWhyFor l (schedule_for l schedule) t answer
IsWhyOf (Err r) schedule t answer = answer ≡ Err r

-- The answer is what is said of item t of a listing's run under a schedule, or the first reason why nothing is.
abbrev pub IsWhyAsked : (listing schedule : List ℕ) → (t : ℕ) → Result (List ℕ) Refusal → Type 0
IsWhyAsked listing schedule t answer = IsWhyOf (refused_as refusal.Listing (listing_of listing)) schedule t answer
