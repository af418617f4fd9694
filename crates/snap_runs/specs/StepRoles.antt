-- `StepRole`: what a step means for the history of a run: the write
-- of a word, a test for all, the answer of a scan, or nothing.
use Rattle.std.specs.Prelude.{ℕ, Bool, true, false, List, [], Option, Some, None}
use Rattle.snap_semantics.specs.Source.{Source, instr_at}
use Rattle.snap_semantics.specs.State.{Locals, State, process_at, value_at}
use Rattle.snap_semantics.specs.declared.instr.Instr.{Instr}
use Rattle.snap_semantics.specs.declared.instr.Instr.TheVariants.{Put, IfAll, Return}
use Rattle.snap_semantics.specs.declared.process.Activity.{Activity}
use Rattle.snap_semantics.specs.declared.process.Item.{Item}
use Rattle.snap_semantics.specs.declared.process.Item.TheVariants.{Step, Call, Crash}
use Rattle.snap_semantics.specs.declared.process.Op.{Op}
use Rattle.snap_semantics.specs.declared.process.Op.TheVariants.{Scan, Update}
use Rattle.snap_semantics.specs.declared.process.Status.{Status}
use Rattle.snap_semantics.specs.declared.process.Status.TheVariants.{Idle, Busy, Trapped, Crashed}

-- a line that writes a word, one that tests for all, one that answers a scan with this view, or another
pub data StepRole : Type 0 where
  Write : StepRole
  Test : StepRole
  Answer : (view : List ℕ) → StepRole
  Nothing : StepRole

-- what a line `return` does with its view
abbrev pub returned : List ℕ → Op → Option ℕ → StepRole
returned view Scan None = Answer view
returned view Scan (Some link) = Nothing
returned view (Update word value) link = Nothing

-- what a line does
abbrev pub line_step_role : Activity → Locals → Instr → StepRole
line_step_role a l (Put i t) = Write
line_step_role a l (IfAll g k target) = Test
line_step_role a l (Return x) = returned (value_at x l.views []) a.op a.link
line_step_role a l _ = Nothing

-- what the line does at which a process stands
abbrev pub step_role_at : Activity → Locals → Option Instr → StepRole
step_role_at a l None = Nothing
step_role_at a l (Some i) = line_step_role a l i

-- what a step does to a process of this status
abbrev pub step_role_in : Source → Locals → Status → StepRole
step_role_in s l Idle = Nothing
step_role_in s l (Busy a) = step_role_at a l (instr_at s.lines a.line)
step_role_in s l (Trapped cause a) = Nothing
step_role_in s l (Crashed was) = Nothing

-- what an item does in a state
abbrev pub step_role_of : Source → State → Item → StepRole
step_role_of s S (Step i) = step_role_in s (process_at S i).locals (process_at S i).status
step_role_of s S (Call i op) = Nothing
step_role_of s S (Crash i) = Nothing

-- a line that tests for all
abbrev pub is_test : StepRole → Bool
is_test Test = true
is_test _ = false

-- a line that writes a word
abbrev pub is_write : StepRole → Bool
is_write Write = true
is_write _ = false
