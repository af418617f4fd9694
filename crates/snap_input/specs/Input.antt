-- `parted`: a task on the listing that an input has or that is shipped, and on a number of texts after it; `prepared`:
-- what such a task works on.
use Rattle.std.specs.Prelude.{ℕ, nat_eq, List, length, drop, Result, Ok, Err, if◌then◌else◌}
use Rattle.snap_semantics.specs.declared.refusal.Refusal.{Refusal}
use Rattle.snap_semantics.specs.declared.refusal.Refusal.TheVariants as refusal
use Rattle.snap_semantics.specs.Answers.{◌>>=◌, refused_as}
use Rattle.snap_semantics.specs.Listing.{listing_of}
use Rattle.snap_semantics.specs.Source.{Source}
use Rattle.snap_shipped.specs.Shipped.{shipped}
use Rattle.snap_input.specs.Parts.{part}
use Rattle.snap_tasks.specs.declared.subject.Subject.{Subject}
use Rattle.snap_tasks.specs.declared.subject.Subject.TheVariants as subject

-- the listing that a task runs
abbrev pub listing_for : Subject → List (List ℕ) → Result Source Refusal
listing_for subject.FirstPart parts = refused_as refusal.Listing (listing_of (part 0 parts))
listing_for (subject.Shipped g) parts = Ok (shipped g)

-- the parts behind the listing
abbrev pub texts_for : Subject → List (List ℕ) → List (List ℕ)
texts_for subject.FirstPart parts = drop 1 parts
texts_for (subject.Shipped g) parts = parts

-- the number of texts behind the listing, checked
abbrev pub checked_parts : Subject → (count : ℕ) → List (List ℕ) → Result (Unit {0}) Refusal
checked_parts s count parts =
    if nat_eq (length (texts_for s parts)) count then Ok tt else Err (refusal.WrongParts (length parts))

-- the parts, where there are so many
abbrev pub counted_parts : Subject → (count : ℕ) → List (List ℕ) → Result (List (List ℕ)) Refusal
counted_parts s count parts = checked_parts s count parts >>= λ there. Ok parts

-- what a task works on: a listing, and the texts behind it
pub record Prepared : Type 0 where
  pub source : Source
  pub texts : List (List ℕ)

abbrev pub prepared_parts : Subject → List (List ℕ) → Result Prepared Refusal
prepared_parts s parts = listing_for s parts >>= λ l. Ok (record { source = l; texts = texts_for s parts })

-- what a task on so many texts works on, or the first reason why it has nothing to work on
unfoldable pub prepared : Subject → (count : ℕ) → List (List ℕ) → Result Prepared Refusal
prepared s count parts = checked_parts s count parts >>= λ there. prepared_parts s parts

-- a task on a listing and so many texts
unfoldable pub parted : {A : Type 0} → Subject → (count : ℕ) → List (List ℕ) →
    (Source → List (List ℕ) → Result A Refusal) → Result A Refusal
parted s count parts f = do
  there ← checked_parts s count parts
  l ← listing_for s parts
  f l (texts_for s parts)
