-- How many steps a process takes to a line, or to the end of its operation.
use Rattle.std.specs.Prelude.{◌≡◌, ℕ, zero, suc, ◌+◌, ◌-◌, ◌<◌, ◌≤◌, Bool, true, false, not, List, Option, Some, None}
use Rattle.std.specs.Prelude.{Result, Ok, Err, ⊤, nat_eq, if◌then◌else◌, replicate}
use Rattle.snap_words.specs.Shape.{Counts, max_items}
use Rattle.snap_semantics.specs.Answers.{◌>>=◌}
use Rattle.snap_semantics.specs.Listing.{has_line}
use Rattle.snap_semantics.specs.Run.{after}
use Rattle.snap_semantics.specs.Source.{Source}
use Rattle.snap_semantics.specs.State.{State, process_at}
use Rattle.snap_semantics.specs.Table.{done}
use Rattle.snap_semantics.specs.declared.instr.Line.{Line}
use Rattle.snap_semantics.specs.declared.process.Item.TheVariants.{Step}
use Rattle.snap_semantics.specs.declared.process.Status.{Status}
use Rattle.snap_semantics.specs.declared.process.Status.TheVariants.{Idle, Busy, Trapped, Crashed}
use Rattle.snap_debug.specs.Session.{Session, has_process, state_of}
use Rattle.snap_prompt.specs.declared.goal.Goal.{Goal}
use Rattle.snap_prompt.specs.declared.goal.Goal.TheVariants as goal
use Rattle.snap_prompt.specs.declared.goal.NoSteps.{NoSteps}
use Rattle.snap_prompt.specs.declared.goal.NoSteps.TheVariants as none

-- whether a process at a line has reached a goal
abbrev pub is_at : Goal → ℕ → Bool
is_at (goal.Line number) line = nat_eq line number
is_at goal.End line = false

-- Whether a process that stands so has reached a goal: it is at its line, or no longer busy.
abbrev pub has_reached : Goal → Status → Bool
has_reached g (Busy a) = is_at g a.line
has_reached g _ = true

-- the state after a step of process i
abbrev pub stepped : Source → Counts → ℕ → State → State
stepped l shape i s = (done l shape s (Step i)).0

-- How many steps process i takes to a goal, with those that it took before this state: at least one more, and at most
-- so many more as are left. None where these don't lead there.
abbrev pub steps_from : Source → Counts → ℕ → Goal → (taken left : ℕ) → State → Option ℕ
steps_from l shape i g taken zero s = None
steps_from l shape i g taken (suc left) s =
    if has_reached g (process_at (stepped l shape i s) i).status then Some (taken + 1)
    else steps_from l shape i g (taken + 1) left (stepped l shape i s)

-- one of the lines, or the end
abbrev pub checked_goal : List Line → Goal → Result (Unit {0}) NoSteps
checked_goal lines (goal.Line number) = if has_line lines number then Ok tt else Err none.NoSuchLine
checked_goal lines goal.End = Ok tt

-- a process that is busy
abbrev pub checked_status : Status → Result (Unit {0}) NoSteps
checked_status (Busy a) = Ok tt
checked_status Idle = Err none.Idle
checked_status (Trapped e a) = Err none.Trapped
checked_status (Crashed was) = Err none.Crashed

-- one of the processes, a goal that is there, and then that the process is busy
abbrev pub checked : Session → ℕ → Goal → Result (Unit {0}) NoSteps
checked s i g =
    if not (has_process s i) then Err none.NoSuchProcess else
    (checked_goal s.run.source.lines g >>= λ there. checked_status (process_at (state_of s) i).status)

-- the steps, or that the schedule is full before
abbrev pub or_full : Option ℕ → Result ℕ NoSteps
or_full None = Err none.Full
or_full (Some k) = Ok k

-- How many steps process i takes to a goal from where a session stands: the fewest, at least one, and as many as
-- there is room for behind the position.
unfoldable pub steps_to : Session → ℕ → Goal → Result ℕ NoSteps
steps_to s i g =
    checked s i g >>= λ leads. or_full (steps_from s.run.source s.run.shape i g 0 (max_items - s.position) (state_of s))

-- whether process i has reached a goal after k steps of its own
abbrev pub reached_after : Source → Counts → ℕ → Goal → State → ℕ → Bool
reached_after l shape i g s k = has_reached g (process_at (after l shape s (replicate k (Step i))) i).status

-- k steps lead process i to a goal: at least one, and fewer don't
pub record IsFewest (l : Source) (shape : Counts) (i : ℕ) (g : Goal) (s : State) (k : ℕ) : Type 0 where
  pub some : 0 < k
  pub there : reached_after l shape i g s k ≡ true
  pub fewest : (j : ℕ) → 0 < j → j < k → reached_after l shape i g s j ≡ false

-- no steps lead process i to a goal, at most so many
abbrev pub LeadsNowhere : Source → Counts → ℕ → Goal → State → ℕ → Type 0
LeadsNowhere l shape i g s most = (j : ℕ) → 0 < j → j ≤ most → reached_after l shape i g s j ≡ false

-- What an answer about a goal says of the steps of process i behind the position: these are the fewest, and there is
-- room for them; or there is no room for as many as would lead there.
abbrev pub IsRightOf : Session → ℕ → Goal → Result ℕ NoSteps → Type 0
IsRightOf s i g (Ok k) = IsFewest s.run.source s.run.shape i g (state_of s) k × (k ≤ max_items - s.position)
IsRightOf s i g (Err none.Full) = LeadsNowhere s.run.source s.run.shape i g (state_of s) (max_items - s.position)
IsRightOf s i g _ = ⊤
