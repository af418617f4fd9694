-- `fault_line`: what a program says for a fault, with the name of the file that it is about, where there is one.
use Rattle.std.specs.Prelude.{ℕ, List, ◌++◌, codes}
use Rattle.snap_streams.specs.FileTexts.{reason}
use Rattle.snap_history_text.specs.declared.refusal.HistoryRefusal.{HistoryRefusal}
use Rattle.snap_history_text.specs.declared.refusal.HistoryRefusal.TheVariants as history
use Rattle.snap_semantics.specs.declared.refusal.LiveRefusal.{LiveRefusal}
use Rattle.snap_semantics.specs.declared.refusal.LiveRefusal.TheVariants as live
use Rattle.snap_semantics.specs.declared.refusal.ModelRefusal.{ModelRefusal}
use Rattle.snap_semantics.specs.declared.refusal.ModelRefusal.TheVariants as model
use Rattle.snap_faults.specs.RefusalText.{numbered, refused_text}
use Rattle.snap_semantics.specs.declared.refusal.Refusal.{Refusal}
use Rattle.snap_semantics.specs.declared.refusal.Refusal.TheVariants as refusal
use Rattle.snap_faults.specs.Names.{Names, file_of, front}
use Rattle.snap_faults.specs.declared.fault.ProgramFault.{ProgramFault}
use Rattle.snap_faults.specs.declared.fault.ProgramFault.TheVariants as fault
use Rattle.snap_faults.specs.declared.files.Which.{Which}
use Rattle.snap_faults.specs.declared.files.Which.TheVariants as which

abbrev pub live_refusal_text : LiveRefusal → List ℕ
live_refusal_text (live.Full count) = numbered (codes "V1 Full") count
live_refusal_text (live.TurnLimit process) = numbered (codes "V2 TurnLimit") process
live_refusal_text (live.SeatMissing process) = numbered (codes "V3 SeatMissing") process

abbrev pub history_refusal_text : HistoryRefusal → List ℕ
history_refusal_text history.TooLong = codes "H1 TooLong"
history_refusal_text history.BadShape = codes "H2 BadShape"
history_refusal_text (history.BadEvent line) = numbered (codes "H3 BadEvent") line
history_refusal_text (history.NoSuchProcess line) = numbered (codes "H4 NoSuchProcess") line
history_refusal_text (history.NotRising line) = numbered (codes "H5 NotRising") line
history_refusal_text (history.NoSuchWord line) = numbered (codes "H6 NoSuchWord") line
history_refusal_text (history.Busy line) = numbered (codes "H7 Busy") line
history_refusal_text (history.Crashed line) = numbered (codes "H8 Crashed") line
history_refusal_text (history.NotCalled line) = numbered (codes "H9 NotCalled") line
history_refusal_text (history.BadView line) = numbered (codes "H10 BadView") line

abbrev pub model_refusal_text : ModelRefusal → List ℕ
model_refusal_text model.TooLarge = codes "M1 TooLarge"
model_refusal_text (model.BadNumber number) = numbered (codes "M2 BadNumber") number

-- which of the files is refused so
abbrev pub refused_file : Refusal → Which
refused_file (refusal.Listing r) = which.Listing
refused_file _ = which.Schedule

-- the words that a file, or an input that has no name, is refused
abbrev pub refused_in : Names → Which → Refusal → List ℕ
refused_in n w r = front n.program (file_of n w) ++ refused_text r

-- what is said for a fault
abbrev pub fault_text : Names → ProgramFault → List ℕ
fault_text n fault.Memory = codes "refused: Memory"
fault_text n (fault.Refused r) = refused_in n (refused_file r) r
fault_text n (fault.Live r) = codes "refused: " ++ live_refusal_text r
fault_text n (fault.History r) = codes "refused: " ++ history_refusal_text r
fault_text n (fault.Model r) = codes "refused: " ++ model_refusal_text r
fault_text n (fault.NoSuchItems total) = numbered (codes "refused: D1 NoSuchItems") total
fault_text n (fault.TooManyItems count) = numbered (codes "refused: D2 TooManyItems") count
fault_text n fault.Unsaid = n.program ++ codes ": the run that was found is not that of the input"
fault_text n (fault.TooLong w) = refused_in n w refusal.InputTooLong
fault_text n (fault.Unread w kind) = front n.program (file_of n w) ++ reason kind
fault_text n fault.Read = codes "read fault"
fault_text n (fault.Write count) = numbered (codes "write fault after") count
fault_text n fault.Show = codes "write fault"

-- the line of a fault
abbrev pub fault_line : Names → ProgramFault → List ℕ
fault_line n f = fault_text n f ++ codes "\n"
