-- The faults of what a program does, as faults of the program; and the status that it ends with for one.
use Rattle.std.specs.Prelude.{ℕ}
use Rattle.snap_streams.specs.declared.dialog_fault.DialogFault.{DialogFault}
use Rattle.snap_streams.specs.declared.dialog_fault.DialogFault.TheVariants as dialog
use Rattle.snap_streams.specs.declared.file_fault.FileFault.{FileFault}
use Rattle.snap_streams.specs.declared.file_fault.FileFault.TheVariants as file
use Rattle.snap_history_text.specs.declared.refusal.HistoryRefusal.{HistoryRefusal}
use Rattle.snap_semantics.specs.declared.refusal.LiveRefusal.{LiveRefusal}
use Rattle.snap_semantics.specs.declared.refusal.ModelRefusal.{ModelRefusal}
use Rattle.snap_semantics.specs.declared.fault.Fault.{Fault}
use Rattle.snap_semantics.specs.declared.fault.Fault.TheVariants as given
use Rattle.snap_semantics.specs.declared.refusal.Refusal.{Refusal}
use Rattle.snap_faults.specs.declared.fault.ProgramFault.{ProgramFault}
use Rattle.snap_faults.specs.declared.fault.ProgramFault.TheVariants as fault
use Rattle.snap_faults.specs.declared.files.Which.{Which}

-- a fault that refuses an input
abbrev pub of_input_fault : Fault Refusal → ProgramFault
of_input_fault given.Memory = fault.Memory
of_input_fault (given.Refused r) = fault.Refused r

-- a fault by which a live run was given up
abbrev pub of_live_fault : Fault LiveRefusal → ProgramFault
of_live_fault given.Memory = fault.Memory
of_live_fault (given.Refused r) = fault.Live r

-- a fault that refuses a history
abbrev pub of_history_fault : Fault HistoryRefusal → ProgramFault
of_history_fault given.Memory = fault.Memory
of_history_fault (given.Refused r) = fault.History r

-- a fault for which there is no model
abbrev pub of_model_fault : Fault ModelRefusal → ProgramFault
of_model_fault given.Memory = fault.Memory
of_model_fault (given.Refused r) = fault.Model r

-- a fault that breaks a dialog off; an input without an end cannot be read to its end
abbrev pub of_dialog_fault : DialogFault → ProgramFault
of_dialog_fault dialog.Memory = fault.Memory
of_dialog_fault dialog.Read = fault.Read
of_dialog_fault dialog.Write = fault.Show
of_dialog_fault dialog.Endless = fault.Read

-- a fault for which a file was not read
abbrev pub of_file : Which → FileFault → ProgramFault
of_file w file.Memory = fault.Memory
of_file w file.TooLong = fault.TooLong w
of_file w (file.Unread kind) = fault.Unread w kind

-- The status that a program ends with: 3 where a file or a device failed, and 1 where something was refused or given up,
-- or memory ran out.
abbrev pub fault_status : ProgramFault → ℕ
fault_status (fault.Unread which kind) = 3
fault_status fault.Read = 3
fault_status (fault.Write count) = 3
fault_status fault.Show = 3
fault_status _ = 1
