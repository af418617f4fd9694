-- The text of a file, that was read or was not.
use Rattle.std.proofs.Common.{ℕ, List, Vec, Result, Ok, Err, Option, Some, None, refl}
use Rattle.std.specs.Global.{Global}
use Rattle.std.specs.declared.io.ErrorKind.{ErrorKind}
use Rattle.snap_streams.specs.FileTexts.{Gives, IsTextOf, Reads, short_text}
use Rattle.snap_streams.specs.declared.file_fault.FileFault.{FileFault}
use Rattle.snap_streams.specs.declared.file_fault.FileFault.TheVariants.{Memory, TooLong, Unread}

-- a file has a text, or there is a reason why it is not read
pub some_text : (most : ℕ) (there : Option (Result (List ℕ) ErrorKind)) →
    (text : Result (List ℕ) FileFault) × IsTextOf most there text
some_text most None = (Err TooLong, tt)
some_text most (Some known) = (short_text most known, refl)

unknown : (most : ℕ) (r : Result (Vec ℕ Global) FileFault) → Reads most None r →
    (text : Result (List ℕ) FileFault) × IsTextOf most None text × Gives r text
unknown most (Ok v) h = (Ok v.items, h, refl)
unknown most (Err Memory) h = (Err Memory, tt, tt)
unknown most (Err TooLong) h = (Err TooLong, tt, refl)
unknown most (Err (Unread k)) h = (Err (Unread k), tt, refl)

-- what was read is the text of the file, or why it is not read
pub text_read : (most : ℕ) (there : Option (Result (List ℕ) ErrorKind)) (r : Result (Vec ℕ Global) FileFault) →
    Reads most there r → (text : Result (List ℕ) FileFault) × IsTextOf most there text × Gives r text
text_read most None r h = unknown most r h
text_read most (Some known) r h = (short_text most known, refl, h)
