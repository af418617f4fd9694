-- What a page in a browser asks the program for (`asked_of`), and the code and the text that it is handed for it.
use Rattle.std.specs.Prelude.{◌≡◌, ◌<◌, ◌↔◌, ℕ, Bool, true, false, List, [], ◌∷◌, ◌++◌, codes, length, take}
use Rattle.std.specs.Prelude.{Option, Some, None, option_map, Result, Ok, Err}
use Rattle.snap_semantics.specs.declared.refusal.ImageRefusal.TheVariants as image
use Rattle.snap_semantics.specs.declared.refusal.ListingRefusal.TheVariants as listing
use Rattle.snap_semantics.specs.declared.refusal.Refusal.{Refusal}
use Rattle.snap_semantics.specs.declared.refusal.Refusal.TheVariants as refusal
use Rattle.snap_faults.specs.RefusalText.{refusal_line}
use Rattle.snap_tasks.specs.Request.{kind_of, request_of}
use Rattle.snap_tasks.specs.declared.request.Options.{Options}
use Rattle.snap_tasks.specs.declared.request.Request.{Request}
use Rattle.snap_tasks.specs.declared.request.Request.TheVariants.{Do, Live, Judge, Model}
use Rattle.snap_tasks.specs.declared.subject.Subject.{Subject}
use Rattle.snap_tasks.specs.declared.subject.Subject.TheVariants.{FirstPart, Shipped}
use Rattle.snap_page.specs.declared.handed.Handed.{Handed}
use Rattle.snap_page.specs.declared.page_request.PageRequest.{PageRequest}
use Rattle.snap_page.specs.declared.page_request.PageRequest.TheVariants as asked

-- the listing of this name: that which is shipped for a kind, or where there is no name the first part of the input
abbrev pub subject_of : List ℕ → Option Subject
subject_of [] = Some FirstPart
subject_of (b ∷ bytes) = option_map Shipped (kind_of (b ∷ bytes))

-- the options that say nothing but which listing a task runs
abbrev pub options_for : Subject → Options
options_for s = record { subject = s; limit = 1; history = false; most = 1; crashes = 0 }

-- a page has one thread, in which no scripts are played, and writes no models
abbrev pub asked_in : Subject → Option Request → Option PageRequest
asked_in s (Some (Do t)) = Some (asked.Do t)
asked_in s (Some (Judge r)) = Some (asked.Judge s)
asked_in s (Some (Live _ limit)) = None
asked_in s (Some (Model _ crashes)) = None
asked_in s None = None

-- what a subcommand asks for
abbrev pub asked_for : (subcommand : List ℕ) → Subject → Option PageRequest
asked_for subcommand s = asked_in s (request_of subcommand (options_for s))

abbrev pub asked_with : (subcommand : List ℕ) → Option Subject → Option PageRequest
asked_with subcommand None = None
asked_with subcommand (Some s) = asked_for subcommand s

-- what a page asks for by its names
abbrev pub asked_of : (subcommand shipped : List ℕ) → Option PageRequest
asked_of subcommand shipped = asked_with subcommand (subject_of shipped)

-- 0 with an output, 1 with a refusal
abbrev pub answer_code : {A E : Type 0} → Result A E → ℕ
answer_code (Ok a) = 0
answer_code (Err e) = 1

-- the output, or the line of the refusal
abbrev pub output_or_line : {E : Type 0} → (line_of : E → List ℕ) → Result (List ℕ) E → List ℕ
output_or_line line_of (Ok text) = text
output_or_line line_of (Err e) = line_of e

-- the output, or the line that says why there is none
abbrev pub answer_text : Result (List ℕ) Refusal → List ℕ
answer_text answer = output_or_line refusal_line answer

-- What a page is handed in its room: this code with this text; or there was no memory for it, or too little room, and
-- then it is told how long the text is.
pub record IsHanded (before after : List ℕ) (number : ℕ) (text : List ℕ) (h : Handed) : Type 0 where
  pub code : h.code < 4
  pub small : h.code ≡ 3 ↔ length before < h.len
  pub answer : h.code < 2 → (h.code ≡ number) × (take h.len after ≡ text)
  pub needed : h.code ≡ 3 → h.len ≡ length text

-- What a page is handed of one of the answers that are right: its code with its text, or how long the text is.
pub record IsHandedOneOf {E : Type 0} (IsRight : Result (List ℕ) E → Type 0) (text_of : Result (List ℕ) E → List ℕ)
    (before after : List ℕ) (h : Handed) : Type 0 where
  pub code : h.code < 4
  pub small : h.code ≡ 3 ↔ length before < h.len
  pub answer : h.code < 2 →
      (d : Result (List ℕ) E) × IsRight d × (h.code ≡ answer_code d) × (take h.len after ≡ text_of d)
  pub needed : h.code ≡ 3 → (d : Result (List ℕ) E) × IsRight d × (h.len ≡ length (text_of d))

-- the line of a refusal of this name, with the digits behind it
abbrev pub numbered_line : List ℕ → List ℕ → List ℕ
numbered_line name digits = (codes "refused: " ++ (name ++ digits)) ++ codes "\n"

-- a refusal whose line is handed without memory: each that is found at once
abbrev pub needs_no_memory : Refusal → Bool
needs_no_memory refusal.InputTooLong = true
needs_no_memory (refusal.WrongParts found) = true
needs_no_memory (refusal.Listing listing.TooLong) = true
needs_no_memory (refusal.Image image.NotAnImage) = true
needs_no_memory (refusal.Image image.Version) = true
needs_no_memory _ = false
