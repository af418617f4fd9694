-- `failure_of`: the device of a console that an error tells of; and when a line, or a dialog, may end in an error.
use Rattle.std.specs.Prelude.{ℕ, ◌-◌, ◌^◌, ◌≤◌, Bool, true, false, List, length, Option, None, Some, IfSome, ⊤}
use Rattle.std.specs.Prelude.{Result, Ok, Err}
use Rattle.snap_streams.specs.declared.dialog_fault.DialogFault.{DialogFault}
use Rattle.snap_streams.specs.declared.dialog_fault.DialogFault.TheVariants as fault

-- what has failed where an answer is so
abbrev pub failure_of : {A : Type 0} → Result A DialogFault → Option DialogFault
failure_of (Ok answer) = None
failure_of (Err fault.Memory) = None
failure_of (Err fault.Read) = Some fault.Read
failure_of (Err fault.Write) = Some fault.Write
failure_of (Err fault.Endless) = None

-- what of a terminal has failed: its source, or its sink, which fails or takes nothing
abbrev pub failure_in : (source_failed sink_failed sink_stalled : Bool) → Option DialogFault
failure_in true w s = Some fault.Read
failure_in false true s = Some fault.Write
failure_in false false true = Some fault.Write
failure_in false false false = None

-- whether it tells that a source failed
abbrev pub is_read_fault : {A : Type 0} → Result A DialogFault → Bool
is_read_fault (Ok answer) = false
is_read_fault (Err fault.Memory) = false
is_read_fault (Err fault.Read) = true
is_read_fault (Err fault.Write) = false
is_read_fault (Err fault.Endless) = false

-- there are more bytes than can be counted, where they are known
abbrev pub AreCountless : Option (List ℕ) → Type 0
AreCountless left = IfSome left (λ xs. 2 ^ 64 - 1 ≤ length xs)

-- why no line is read of these bytes
abbrev pub MayEndLine : DialogFault → (left : Option (List ℕ)) → Type 0
MayEndLine fault.Memory left = ⊤
MayEndLine fault.Read left = ⊤
MayEndLine fault.Write left = ⊥
MayEndLine fault.Endless left = AreCountless left

-- why a dialog is broken off where these bytes are left to be typed
abbrev pub MayEndDialog : DialogFault → (left : Option (List ℕ)) → Type 0
MayEndDialog fault.Memory left = ⊤
MayEndDialog fault.Read left = ⊤
MayEndDialog fault.Write left = ⊤
MayEndDialog fault.Endless left = AreCountless left
