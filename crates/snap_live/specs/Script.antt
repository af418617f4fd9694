-- The script of a process in a live run: the one of process k + 1 (`script_at`), and at which turn it crashes.
use Rattle.std.specs.Prelude.{ℕ, ◌+◌, Bool, false, List, [], Option, Some, None, nat_eq, slice_index_or}
use Rattle.snap_sched.specs.ScriptText.{Script}

abbrev pub no_script : Script
no_script = record { operations = []; crash = None }

-- the script of process k + 1
abbrev pub script_at : List Script → ℕ → Script
script_at scripts k = slice_index_or scripts k no_script

-- whether the crash comes at the turn behind k turns
abbrev pub crashes_behind : Option ℕ → ℕ → Bool
crashes_behind None k = false
crashes_behind (Some turn) k = nat_eq turn (k + 1)
