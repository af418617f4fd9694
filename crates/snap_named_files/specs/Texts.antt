-- `AreTexts`: the texts of the files that a command line names, or the first reason why they are not read.
use Rattle.std.specs.Prelude.{◌≡◌, ℕ, List, Option, Result, Ok, Err, ⊤}
use Rattle.std.specs.declared.io.ErrorKind.{ErrorKind}
use Rattle.snap_words.specs.declared.kind.KindTag.{KindTag}
use Rattle.snap_semantics.specs.Answers.{◌>>=◌, refused_as}
use Rattle.snap_streams.specs.FileTexts.{IsTextOf}
use Rattle.snap_streams.specs.declared.file_fault.FileFault.{FileFault}
use Rattle.snap_faults.specs.Faults.{of_file}
use Rattle.snap_named_files.specs.Named.{Names, Files, Shipped}
use Rattle.snap_faults.specs.declared.files.Which.TheVariants as which
use Rattle.snap_faults.specs.declared.fault.ProgramFault.{ProgramFault}
use Rattle.snap_faults.specs.declared.fault.ProgramFault.TheVariants as fault
use Rattle.snap_named_files.specs.declared.texts.Texts.{Texts}
use Rattle.snap_named_files.specs.declared.texts.Texts.TheVariants as texts

-- the texts that were read: of a listing and of a schedule, or of a schedule for a shipped listing
pub data Read : Type 0 where
  OfFiles : (listing schedule : List ℕ) → Read
  OfShipped : (kind : KindTag) (schedule : List ℕ) → Read

abbrev pub view_texts : Texts → Read
view_texts (texts.Files listing schedule) = OfFiles listing.items schedule.items
view_texts (texts.Shipped kind schedule) = OfShipped kind schedule.items

-- what a call that reads answers: what is wanted, seen by `view`, or why it is not read; a want of memory may stand in
-- its place
abbrev pub Comes : {X Y : Type 0} → (X → Y) → Result X ProgramFault → Result Y ProgramFault → Type 0
Comes view (Ok x) wanted = wanted ≡ Ok (view x)
Comes view (Err fault.Memory) wanted = ⊤
Comes view (Err (fault.TooLong w)) wanted = wanted ≡ Err (fault.TooLong w)
Comes view (Err (fault.Unread w k)) wanted = wanted ≡ Err (fault.Unread w k)
Comes view (Err _) wanted = ⊥

-- the most bytes that a file may have, and one more
abbrev pub too_many : ℕ
too_many = 16777217

-- a text that the file of this name has, as far as that is known, or why it is not read
abbrev pub IsTextIn : (files : List ℕ → Option (Result (List ℕ) ErrorKind)) → (name : List ℕ) →
    Result (List ℕ) FileFault → Type 0
IsTextIn files name text = IsTextOf too_many (files name) text

-- the texts of a listing and of a schedule, or the first reason why they are not read
abbrev pub both_texts : (listing schedule : Result (List ℕ) FileFault) → Result Read ProgramFault
both_texts listing schedule = do
  l ← refused_as (of_file which.Listing) listing
  s ← refused_as (of_file which.Schedule) schedule
  Ok (OfFiles l s)

-- the text of a schedule for a shipped listing, or why it is not read
abbrev pub one_text : KindTag → (schedule : Result (List ℕ) FileFault) → Result Read ProgramFault
one_text kind schedule = do
  s ← refused_as (of_file which.Schedule) schedule
  Ok (OfShipped kind s)

-- The texts of the files of these names, or the first reason why they are not read. A want of memory may stand in the
-- place of both.
abbrev pub AreTexts : (files : List ℕ → Option (Result (List ℕ) ErrorKind)) → Names → Result Texts ProgramFault → Type 0
AreTexts files (Files listing schedule) read =
    (l s : Result (List ℕ) FileFault) × IsTextIn files listing l × IsTextIn files schedule s
    × Comes view_texts read (both_texts l s)
AreTexts files (Shipped kind schedule) read =
    (s : Result (List ℕ) FileFault) × IsTextIn files schedule s × Comes view_texts read (one_text kind s)
