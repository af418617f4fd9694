-- The printed texts of refused debugger commands.
use Rattle.std.specs.Prelude.{ℕ, List, ◌++◌, codes, decimal}
use Rattle.snap_semantics.specs.declared.fault.Fault.{Fault}
use Rattle.snap_semantics.specs.declared.fault.Fault.TheVariants as fault
use Rattle.snap_semantics.specs.declared.refusal.CommandRefusal.{CommandRefusal}
use Rattle.snap_semantics.specs.declared.refusal.CommandRefusal.TheVariants as refusal

-- the code of a refusal, its name and its number
abbrev pub refusal_text : CommandRefusal → List ℕ
refusal_text (refusal.BadCommand line) = codes "G1 BadCommand " ++ decimal line
refusal_text refusal.NoSuchLine = codes "G2 NoSuchLine"
refusal_text refusal.NoSuchProcess = codes "G3 NoSuchProcess"
refusal_text refusal.NoSuchRegister = codes "G4 NoSuchRegister"
refusal_text refusal.NoSuchPosition = codes "G5 NoSuchPosition"
refusal_text refusal.TooManyMarks = codes "G6 TooManyMarks"
refusal_text refusal.TooLong = codes "G7 TooLong"

-- the reply to a command that is refused
abbrev pub refusal_line : CommandRefusal → List ℕ
refusal_line r = codes "refused: " ++ refusal_text r ++ codes "\n"

-- the line of a fault; a want of memory has no number
abbrev pub fault_text : Fault CommandRefusal → List ℕ
fault_text fault.Memory = codes "refused: Memory\n"
fault_text (fault.Refused r) = refusal_line r
