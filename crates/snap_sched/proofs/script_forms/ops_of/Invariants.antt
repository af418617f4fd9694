-- `ops_of` of snap_sched (src/script_forms.rt): what holds at the head of each of its loops.
use Rattle.std.proofs.Common.{◌≡◌, ◌++◌, drop}
use Rattle.snap_sched.specs.ScriptForms.{ops_of}
use Rattle.snap_sched.proofs.script_forms.ops_of.Given as goal

abbrev pub invariant-loop-form : goal.invariant-loop-form
invariant-loop-form l = l.ops.items ++ ops_of l.process (drop l.form-index l.forms) ≡ ops_of l.process l.forms
