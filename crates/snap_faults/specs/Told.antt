-- What a program says on its device for messages, and what it has written, where it ends with a fault.
use Rattle.std.specs.Prelude.{◌≡◌, ◌⊎◌, ℕ, List, ◌++◌, Result, Ok, Err, codes}
use Rattle.snap_streams.specs.Sent as sent
use Rattle.snap_streams.specs.Sent.{Says}
use Rattle.snap_streams.specs.State.{SinkState}
use Rattle.snap_faults.specs.FaultText.{fault_line}
use Rattle.snap_faults.specs.Faults.{fault_status}
use Rattle.snap_faults.specs.Names.{Names}
use Rattle.snap_faults.specs.declared.fault.ProgramFault.{ProgramFault}
use Rattle.snap_faults.specs.declared.fault.ProgramFault.TheVariants.{Memory, Write}

-- the status of a program: that for what it did, or for its fault
abbrev pub exit_status : {A : Type 0} → (A → ℕ) → Result A ProgramFault → ℕ
exit_status of (Ok done) = of done
exit_status of (Err f) = fault_status f

-- the status of a program that did all that was asked of it, and has no more to tell by it
abbrev pub success : {A : Type 0} → A → ℕ
success done = 0

-- A text was written to a sink, all of it, or as many of its first bytes as the fault says.
abbrev pub Sends : Result (Unit {0}) ProgramFault → List ℕ → (sink sink_after : SinkState) → Type 0
Sends done text sink sink_after = sent.Sends Write done text sink sink_after

-- A fault is told in its line, or in that of missing memory where there was none for the other one.
abbrev pub Tells : Names → ProgramFault → (errors errors_after : SinkState) → Type 0
Tells names f errors errors_after =
    Says (fault_line names f) errors errors_after ⊎ Says (fault_line names Memory) errors errors_after

-- A fault is told with more behind its line, or without where there was no memory for that.
abbrev pub TellsMore : Names → ProgramFault → (more : List ℕ) → (errors errors_after : SinkState) → Type 0
TellsMore names f more errors errors_after =
    Says (fault_line names f ++ more) errors errors_after ⊎ Tells names f errors errors_after

-- Where there is a fault, it is told with what explains it; where there is none, nothing is said.
abbrev pub SaysWhy : {A : Type 0} → Names → (why : ProgramFault → List ℕ) → Result A ProgramFault →
    (errors errors_after : SinkState) → Type 0
SaysWhy names why (Ok done) errors errors_after = errors ≡ errors_after
SaysWhy names why (Err f) errors errors_after = TellsMore names f (why f) errors errors_after

-- A fault is said, with nothing behind its line.
abbrev pub SaysFault : {A : Type 0} → Names → Result A ProgramFault → (errors errors_after : SinkState) → Type 0
SaysFault names (Ok done) errors errors_after = errors ≡ errors_after
SaysFault names (Err f) errors errors_after = Tells names f errors errors_after

-- Help, or the version, is written, and the status is 0; or the fault of writing is told, and the status is its.
abbrev pub Helps : Names → (text : List ℕ) → (status : ℕ) → (sink sink_after errors errors_after : SinkState) → Type 0
Helps names text status sink sink_after errors errors_after =
    (done : Result (Unit {0}) ProgramFault) × (status ≡ exit_status success done) × Sends done text sink sink_after
    × SaysFault names done errors errors_after

-- what is said of arguments that are not valid UTF-8
abbrev pub no_text_line : List ℕ
no_text_line = codes "error: the arguments are not valid UTF-8\n"

-- what is said where there is no memory
abbrev pub no_memory_line : List ℕ
no_memory_line = codes "refused: Memory\n"
