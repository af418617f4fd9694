-- What comes of reading a file that a command line names (`Reads`): its text, where that is short enough, or why it was
-- not read; and what is said of that (`reason`).
use Rattle.std.specs.Prelude.{◌≡◌, ℕ, ◌<◌, ◌≤◌, Vec, List, Option, Some, None, Result, Ok, Err, IfOk, nat_lt}
use Rattle.std.specs.Prelude.{length, ⊤, codes, if◌then◌else◌}
use Rattle.std.specs.Global.{Global}
use Rattle.std.specs.declared.io.ErrorKind.{ErrorKind}
use Rattle.std.specs.declared.io.ErrorKind.TheVariants as kind
use Rattle.snap_streams.specs.declared.file_fault.FileFault.{FileFault}
use Rattle.snap_streams.specs.declared.file_fault.FileFault.TheVariants as fault

-- why a file could not be opened or read, for a person
abbrev pub reason : ErrorKind → List ℕ
reason kind.NotFound = codes "no such file"
reason kind.PermissionDenied = codes "permission denied"
reason kind.IsADirectory = codes "is a directory"
reason kind.InvalidInput = codes "no name of a file"
reason _ = codes "cannot be read"

-- the text of a file that has these bytes, or cannot be read for this reason, where fewer than so many are wanted
abbrev pub short_text : (most : ℕ) → Result (List ℕ) ErrorKind → Result (List ℕ) FileFault
short_text most (Ok input) = if nat_lt (length input) most then Ok input else Err fault.TooLong
short_text most (Err k) = Err (fault.Unread k)

-- The text was read, or why there is none; a want of memory may stand in its place.
abbrev pub Gives : Result (Vec ℕ Global) FileFault → Result (List ℕ) FileFault → Type 0
Gives (Ok v) text = text ≡ Ok v.items
Gives (Err fault.Memory) text = ⊤
Gives (Err fault.TooLong) text = text ≡ Err fault.TooLong
Gives (Err (fault.Unread k)) text = text ≡ Err (fault.Unread k)

-- What was read of a file that is this, where that is known. Fewer than so many bytes are read of any file.
abbrev pub Reads : (most : ℕ) → Option (Result (List ℕ) ErrorKind) → Result (Vec ℕ Global) FileFault → Type 0
Reads most None result = IfOk result (λ v. length v.items < most)
Reads most (Some there) result = Gives result (short_text most there)

-- The text of a file that is this, where that is known, or why it is not read: fewer than so many bytes of any file.
abbrev pub IsTextOf : (most : ℕ) → Option (Result (List ℕ) ErrorKind) → Result (List ℕ) FileFault → Type 0
IsTextOf most None text = IfOk text (λ t. length t < most)
IsTextOf most (Some there) text = text ≡ short_text most there

-- the fault of an error of this kind
abbrev pub IsFaultOf : ErrorKind → FileFault → Type 0
IsFaultOf k fault.Memory = k ≡ kind.OutOfMemory
IsFaultOf k fault.TooLong = ⊥
IsFaultOf k (fault.Unread j) = j ≡ k

-- What was read of an open file that has these bytes left: it may still fail.
abbrev pub ReadsOpen : (most : ℕ) → List ℕ → Result (Vec ℕ Global) FileFault → Type 0
ReadsOpen most input (Ok v) = v.items ≡ input
ReadsOpen most input (Err fault.Memory) = ⊤
ReadsOpen most input (Err fault.TooLong) = most ≤ length input
ReadsOpen most input (Err (fault.Unread k)) = ⊤
