-- The faults of files.
use Rattle.std.proofs.Common.{ℕ, List, Err, Option, Some, None, IfSome}
use Rattle.std.specs.declared.io.ErrorKind.{ErrorKind}
use Rattle.snap_streams.specs.FileTexts.{IsFaultOf, ReadsOpen}
use Rattle.snap_streams.specs.declared.file_fault.FileFault.{FileFault}
use Rattle.snap_streams.specs.declared.file_fault.FileFault.TheVariants.{Memory, TooLong, Unread}

fails_open : (most : ℕ) (input : List ℕ) (k : ErrorKind) (f : FileFault) → IsFaultOf k f → ReadsOpen most input (Err f)
fails_open most input k Memory h = tt
fails_open most input k TooLong h = absurd h
fails_open most input k (Unread j) h = tt

-- a file that was opened may fail
pub may_fail : (most : ℕ) (left : Option (List ℕ)) (k : ErrorKind) (f : FileFault) → IsFaultOf k f →
    IfSome left (λ input. ReadsOpen most input (Err f))
may_fail most None k f h = tt
may_fail most (Some input) k f h = fails_open most input k f h
