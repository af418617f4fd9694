-- `each_script` of snap_sched (src/script_reader.rt): what holds at the head of each of its loops.
use Rattle.std.proofs.Common.{◌≡◌, ◌≤◌, ◌+◌, ◌-◌, ◌++◌, length}
use Rattle.snap_sched.specs.ScriptText.{scripts_from}
use Rattle.snap_sched.proofs.script_reader.each_script.Given as goal

-- the scripts so far, and those of the other processes
abbrev pub invariant-loop-k : goal.invariant-loop-k
invariant-loop-k l = record {
  told : l.scripts.items ++ scripts_from l.forms (l.k + 1) (l.n - l.k) ≡ scripts_from l.forms 1 l.n;
  each : length l.scripts.items ≡ l.k;
  within : l.k ≤ l.n;
}

abbrev pub decreases-loop-k : goal.decreases-loop-k
decreases-loop-k l = l.n - l.k
