-- What a program whose output may have lost its reader says at its end (`SaysAtEnd`), and the status that it ends with
-- (`ended_status`).
use Rattle.std.specs.Prelude.{◌≡◌, ℕ, Bool, true, false, List, Option, Some, None, Result, Ok, Err, codes}
use Rattle.std.specs.Prelude.{if◌then◌else◌}
use Rattle.std.specs.IoError.{error_kind}
use Rattle.std.specs.declared.io.Error.{Error}
use Rattle.std.specs.declared.io.ErrorKind.{ErrorKind}
use Rattle.std.specs.declared.io.ErrorKind.TheVariants as kind
use Rattle.snap_streams.specs.Sent.{Says}
use Rattle.snap_streams.specs.State.{SinkState}

-- the kind of the error of a write, where it failed
abbrev pub failure_of : Result ℕ Error → Option ErrorKind
failure_of (Ok count) = None
failure_of (Err e) = Some (error_kind e)

-- whether the reader of an output has gone away: the output failed since its pipe is broken, and for nothing else
abbrev pub is_gone : Option ErrorKind → Bool
is_gone (Some kind.BrokenPipe) = true
is_gone _ = false

-- the status of a program that `SIGPIPE` ends, as a shell tells it
abbrev pub gone : ℕ
gone = 141

-- what a program ends with that would else end with this status, where its output failed for this reason
abbrev pub ended_status : Option ErrorKind → (status : ℕ) → ℕ
ended_status failure status = if is_gone failure then gone else status

-- what is said at the end: the messages that were kept, or, where keeping them has failed, that there was no memory
abbrev pub text_at_end : (failed : Bool) → List ℕ → List ℕ
text_at_end failed text = if failed then codes "refused: Memory\n" else text

-- Messages are said at the end of a program, all of them; where the reader of its output has gone away (`is_gone`),
-- none is, and the device stays as it was.
abbrev pub SaysAtEnd : (is_gone : Bool) → List ℕ → (device device_after : SinkState) → Type 0
SaysAtEnd true text device device_after = device ≡ device_after
SaysAtEnd false text device device_after = Says text device device_after
