-- The test by which machines that walk along a run look for the debugger's stops: `stops_between`, of the states
-- before and after an item.
use Rattle.std.specs.Prelude.{◌≡◌, ℕ, Bool, not, ◌&&◌, ◌||◌, Option, Some, None, nat_eq}
use Rattle.std.specs.List.{list_any}
use Rattle.snap_words.specs.declared.address.Address.{Address}
use Rattle.snap_semantics.specs.declared.process.Status.{Status}
use Rattle.snap_semantics.specs.State.{State, process_at}
use Rattle.snap_runs.specs.Run.{Run}
use Rattle.snap_runs.specs.Update.{is_at}
use Rattle.snap_debug.specs.Marks.{Marks, contents_at, same_contents}
use Rattle.snap_debug.specs.Recording.{IsCheckpoint}
use Rattle.snap_debug_commands.specs.declared.command.Breakpoint.{Breakpoint}
use Rattle.snap_debug.specs.declared.stops.Walk.{Walk}

-- whether process i, which stands so, is at the line of a breakpoint for it
abbrev pub stands_at : ℕ → Status → Breakpoint → Bool
stands_at i s b = nat_eq i b.process && is_at b.line s

-- whether a register has other contents in another state
abbrev pub differs : State → State → Address → Bool
differs S T a = not (same_contents (contents_at S a) (contents_at T a))

-- whether marks stop at an item of process i that leads from one state to another
abbrev pub stops_between : State → State → ℕ → Marks → Bool
stops_between S T i m = list_any (stands_at i (process_at T i).status) m.breaks || list_any (differs S T) m.watches

-- a stop, where one was found, and otherwise one before
abbrev pub or_before : Option ℕ → ℕ → ℕ
or_before None t = t
or_before (Some t) before = t

-- the machines of a walk stand at one position of a run
pub record AreAt {K W : Type 0} (r : Run) (w : Walk K W) : Type 0 where
  pub before : IsCheckpoint r w.before
  pub after : IsCheckpoint r w.after
  pub same : w.after.position ≡ w.before.position
