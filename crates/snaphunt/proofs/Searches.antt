-- What the hunt that a command line asks for comes to, by what was read of its listing.
use Rattle.std.proofs.Common.{◌≡◌, inl, ℕ, List, Vec, Option, Result, Ok, Err, ap, refl, sym}
use Rattle.std.specs.Global.{Global}
use Rattle.std.specs.declared.io.ErrorKind.{ErrorKind}
use Rattle.snap_semantics.specs.Answers.{refused_as}
use Rattle.snap_streams.specs.State.{SinkState}
use Rattle.snap_faults.specs.Faults.{of_file}
use Rattle.snap_faults.specs.declared.fault.ProgramFault.{ProgramFault}
use Rattle.snap_faults.specs.declared.fault.ProgramFault.TheVariants as fault
use Rattle.snap_faults.specs.declared.files.Which.TheVariants as which
use Rattle.snap_streams.specs.FileTexts.{Gives, IsTextOf, Reads}
use Rattle.snap_streams.specs.declared.file_fault.FileFault.{FileFault}
use Rattle.snap_streams.specs.declared.file_fault.FileFault.TheVariants as file
use Rattle.snap_streams.proofs.Texts.{text_read}
use Rattle.snap_hunt_output.specs.Hunted.{IsDue}
use Rattle.snap_hunt_output.specs.declared.hunt_request.HuntRequest.{HuntRequest}
use Rattle.snaphunt.specs.Search.{Named, File, Shipped}
use Rattle.snaphunt.specs.Answer.{Hunts, HuntsIn}
use Rattle.snaphunt.specs.Searching.{GivesText, IsText, too_many}

-- the text of a file that was read
pub file_read : (files : List ℕ → Option (Result (List ℕ) ErrorKind)) (name : List ℕ) (v : Vec ℕ Global) →
    Reads too_many (files name) (Ok v) → GivesText files (File name) (Ok v)
file_read files name v h =
    let read = text_read too_many (files name) (Ok v) h in
    (read.0, read.1, ap (refused_as (of_file which.Listing)) (sym read.2))

unread : (files : List ℕ → Option (Result (List ℕ) ErrorKind)) (name : List ℕ) (e : FileFault)
    (text : Result (List ℕ) FileFault) → IsTextOf too_many (files name) text → Gives (Err e) text →
    GivesText files (File name) (Err (of_file which.Listing e))
unread files name file.Memory text is h = tt
unread files name file.TooLong text is h = (text, is, ap (refused_as (of_file which.Listing)) (sym h))
unread files name (file.Unread k) text is h = (text, is, ap (refused_as (of_file which.Listing)) (sym h))

-- why a file was not read
pub file_unread : (files : List ℕ → Option (Result (List ℕ) ErrorKind)) (name : List ℕ) (e : FileFault) →
    Reads too_many (files name) (Err e) → GivesText files (File name) (Err (of_file which.Listing e))
file_unread files name e h =
    let read = text_read too_many (files name) (Err e) h in
    unread files name e read.0 read.1 read.2

-- a hunt came to nothing, and nothing was printed
pub nothing_came : (text : List ℕ) (a : HuntRequest) (e : ProgramFault) (sink : SinkState) → IsDue text a e →
    HuntsIn text a (Err e) sink sink
nothing_came text a fault.Memory sink h = (Err fault.Memory, h, refl)
nothing_came text a (fault.Write n) sink h = absurd h
nothing_came text a e sink h = (Err e, h, (refl, refl))

no_write_read : (n : ℕ) (read : Result (List ℕ) FileFault) → Err (fault.Write n) ≡ refused_as (of_file which.Listing) read → ⊥
no_write_read n (Ok t) h = absurd cc
no_write_read n (Err file.Memory) h = absurd cc
no_write_read n (Err file.TooLong) h = absurd cc
no_write_read n (Err (file.Unread k)) h = absurd cc

no_write_shipped : (n : ℕ) (t : List ℕ) (x : Result (List ℕ) ProgramFault) → x ≡ Err (fault.Write n) → x ≡ Ok t → ⊥
no_write_shipped n t x h is = absurd cc

-- no fault of reading is one of writing
no_write : (files : List ℕ → Option (Result (List ℕ) ErrorKind)) (named : Named) (n : ℕ) →
    IsText files named (Err (fault.Write n)) → ⊥
no_write files (File name) n h = no_write_read n h.0 h.2
no_write files (Shipped g) n h = no_write_shipped n h.0 (Err (fault.Write n)) refl h.1

-- there is no text to hunt in, and nothing was printed
pub no_text : (files : List ℕ → Option (Result (List ℕ) ErrorKind)) (named : Named) (a : HuntRequest) (e : ProgramFault)
    (text : List ℕ) (sink : SinkState) →
    GivesText files named (Err e) → Hunts files named a text (Err e) sink sink
no_text files named a fault.Memory text sink h = (Err fault.Memory, tt, refl)
no_text files named a (fault.Write n) text sink h = absurd (no_write files named n h)
no_text files named a e text sink h = (Err e, inl h, (refl, refl))
