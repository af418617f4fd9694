-- `EndsFor`: why snapdb, the debugger with a prompt, held no dialog, or no whole one.
use Rattle.std.specs.Prelude.{◌≡◌, ◌⊎◌, ℕ, List, Option, Some, ⊤}
use Rattle.snap_streams.specs.Failures.{AreCountless}
use Rattle.snap_streams.specs.declared.dialog_fault.DialogFault.{DialogFault}
use Rattle.snap_streams.specs.declared.dialog_fault.DialogFault.TheVariants as dialog
use Rattle.snap_faults.specs.declared.fault.ProgramFault.{ProgramFault}
use Rattle.snap_faults.specs.declared.fault.ProgramFault.TheVariants as fault

-- why there was no dialog, or no whole one: what has failed of the console, where these bytes were left to be typed
abbrev pub EndsFor : ProgramFault → (failed : Option DialogFault) → (left : Option (List ℕ)) → Type 0
EndsFor fault.Memory failed left = ⊤
EndsFor (fault.Refused r) failed left = ⊤
EndsFor fault.Read failed left = (failed ≡ Some dialog.Read) ⊎ AreCountless left
EndsFor fault.Show failed left = failed ≡ Some dialog.Write
EndsFor _ failed left = ⊥
