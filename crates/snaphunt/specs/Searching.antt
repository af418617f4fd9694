-- `IsSearched`: what the hunt that a command line asks for comes to, for the files that are there; and what is printed
-- of it.
use Rattle.std.specs.Prelude.{◌≡◌, ℕ, List, ◌++◌, Option, Result, Ok, Err, Vec, ⊤, codes, decimal, ◌⊎◌}
use Rattle.std.specs.Global.{Global}
use Rattle.std.specs.declared.io.ErrorKind.{ErrorKind}
use Rattle.snap_semantics.specs.Answers.{refused_as}
use Rattle.snap_semantics.specs.Listing.{listing_of}
use Rattle.snap_shipped.specs.Shipped.{shipped}
use Rattle.snap_faults.specs.Faults.{of_file}
use Rattle.snap_faults.specs.declared.fault.ProgramFault.{ProgramFault}
use Rattle.snap_faults.specs.declared.fault.ProgramFault.TheVariants as fault
use Rattle.snap_faults.specs.declared.files.Which.TheVariants as which
use Rattle.snap_streams.specs.FileTexts.{IsTextOf}
use Rattle.snap_streams.specs.declared.file_fault.FileFault.{FileFault}
use Rattle.snap_hunt_output.specs.Hunted.{IsDue, IsHunted}
use Rattle.snap_hunt_output.specs.declared.hunt_request.HuntRequest.{HuntRequest}
use Rattle.snap_hunt_output.specs.declared.hunted.Hunted.{Hunted}
use Rattle.snap_hunt_output.specs.declared.hunted.Hunted.TheVariants as hunted
use Rattle.snaphunt.specs.Search.{Named, File, Shipped}

-- the bytes that are too many for a listing
abbrev pub too_many : ℕ
too_many = 16777217

-- A result is the text of the listing that is named, or the fault for which there is none.
abbrev pub IsText : (files : List ℕ → Option (Result (List ℕ) ErrorKind)) → Named → Result (List ℕ) ProgramFault → Type 0
IsText files (File name) text =
    (read : Result (List ℕ) FileFault) × IsTextOf too_many (files name) read × (text ≡ refused_as (of_file which.Listing) read)
IsText files (Shipped g) text = (t : List ℕ) × (text ≡ Ok t) × (listing_of t ≡ Ok (shipped g))

-- A text was given, or a fault; a want of memory may stand in its place.
abbrev pub GivesText : (files : List ℕ → Option (Result (List ℕ) ErrorKind)) → Named → Result (Vec ℕ Global) ProgramFault →
    Type 0
GivesText files named (Ok v) = IsText files named (Ok v.items)
GivesText files named (Err fault.Memory) = ⊤
GivesText files named (Err f) = IsText files named (Err f)

-- A hunt in the runs of the listing that a text is comes to this.
abbrev pub ComesTo : List ℕ → HuntRequest → Result Hunted ProgramFault → Type 0
ComesTo text a (Ok h) = IsHunted text a h
ComesTo text a (Err f) = IsDue text a f

-- There is no text for this reason, or there is one, and the hunt in it has this result. A want of memory may stand in
-- the place of all.
abbrev pub IsSearched : (files : List ℕ → Option (Result (List ℕ) ErrorKind)) → Named → HuntRequest → (text : List ℕ) →
    Result Hunted ProgramFault → Type 0
IsSearched files named a text (Err fault.Memory) = ⊤
IsSearched files named a text (Ok h) = IsText files named (Ok text) × IsHunted text a h
IsSearched files named a text (Err f) =
    IsText files named (Err f) ⊎ (IsText files named (Ok text) × ComesTo text a (Err f))

-- what is printed where none of the runs fails
abbrev pub none_text : HuntRequest → List ℕ
none_text a = codes "none of " ++ decimal a.runs ++ codes " runs of seed " ++ decimal a.seed ++ codes " fails\n"

-- what is printed of what a hunt came to
abbrev pub hunted_text : HuntRequest → Hunted → List ℕ
hunted_text a hunted.NoneFails = none_text a
hunted_text a (hunted.Fails k f input) = input.items
