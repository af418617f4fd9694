-- What a `Walk` keeps of its machine and of its schedule (`IsWalking`), and of the items that are left (`IsAhead`).
use Rattle.std.specs.Prelude.{◌≡◌, ℕ, ◌≤◌, Bool, true, false, List, [], drop, if◌then◌else◌, length}
use Rattle.std.specs.List.{AllByRecursion}
use Rattle.snap_semantics.specs.declared.process.Item.{Item}
use Rattle.snap_semantics.specs.declared.process.Item.TheVariants.{Step}
use Rattle.snap_semantics.specs.declared.process.Outcome.{Outcome}
use Rattle.snap_semantics.specs.declared.process.Outcome.TheVariants.{Stepped}
use Rattle.snap_semantics.specs.declared.process.Reason.{Reason}
use Rattle.snap_semantics.specs.declared.process.Reason.TheVariants as reason
use Rattle.snap_semantics.specs.declared.process.Status.{Status}
use Rattle.snap_semantics.specs.declared.process.Status.TheVariants.{Idle, Busy, Trapped, Crashed}
use Rattle.snap_semantics.specs.Schedule.{Schedule}
use Rattle.snap_semantics.specs.ScheduleText.{IsSchedule}
use Rattle.snap_runs.specs.Run.{run_over, state}
use Rattle.snap_runs.specs.Scan.{count}
use Rattle.snap_sched.specs.ItemsLeft.{IsSome}
use Rattle.snap_sched.specs.declared.segments.Segment.{Segment}
use Rattle.snap_machine.specs.Configuration.{Configuration}
use Rattle.snap_walk.specs.Walk.{is_skip, is_skipped}

-- the segments behind those of the next items have an item at least, and there are none where no item comes next
pub record IsAhead (often : ℕ) (rest : List Segment) : Type 0 where
  pub some : AllByRecursion IsSome rest
  pub end : often ≡ 0 → rest ≡ []

-- a machine has done so many items of a schedule, of which so many were skipped, and these are left
pub record IsWalking (m : Configuration) (s : Schedule) (done skipped : ℕ) (ahead : List Item) : Type 0 where
  pub schedule : IsSchedule s
  pub shape : m.shape ≡ s.shape
  pub state_is : m.state ≡ state (run_over m.source s) done
  pub within : done ≤ length s.items
  pub skips : skipped ≡ count (is_skipped (run_over m.source s)) 0 done
  pub left : ahead ≡ drop done s.items

-- how many items are skipped by one of this outcome
abbrev pub skips_by : Outcome → ℕ
skips_by o = if is_skip o then 1 else 0

-- whether an item is a step
abbrev pub is_step : Item → Bool
is_step (Step i) = true
is_step _ = false

-- whether a process is busy
abbrev pub is_busy : Status → Bool
is_busy (Busy a) = true
is_busy _ = false

-- whether an item is a step of a busy process
abbrev pub runs_line : Item → Status → Bool
runs_line (Step i) s = is_busy s
runs_line _ s = false

-- whether a step went on to another line
abbrev pub has_stepped : Outcome → Bool
has_stepped Stepped = true
has_stepped _ = false

-- why a step of a process that stands so is skipped
abbrev pub skip_reason : Status → Reason
skip_reason Idle = reason.Idle
skip_reason (Busy a) = reason.Busy
skip_reason (Trapped cause a) = reason.Trapped
skip_reason (Crashed was) = reason.Crashed
