-- `StepPattern`: searches in the trace of a run for the first or the last step of a sort, such as the end of an
-- operation.
use Rattle.std.specs.Prelude.{ℕ, zero, suc, ◌+◌, Bool, true, false, ◌&&◌, ◌||◌, List, [], ◌∷◌}
use Rattle.std.specs.Prelude.{Option, Some, None, bytes_eq, nat_eq, if◌then◌else◌, get_or}
use Rattle.snap_semantics.specs.Source.{Name}
use Rattle.snap_acts.specs.declared.act.Act.{Act}
use Rattle.snap_acts.specs.declared.act.Act.TheVariants as act
use Rattle.snap_acts.specs.declared.act.Spot.{Spot}
use Rattle.snap_acts.specs.declared.act.TraceStep.{TraceStep}
use Rattle.snap_acts.specs.declared.searches.StepPattern.{StepPattern}
use Rattle.snap_acts.specs.declared.searches.StepPattern.TheVariants as wanted

-- an operation ends
abbrev pub is_end : Act → Bool
is_end (act.Answer view x) = true
is_end act.Done = true
is_end act.Crash = true
is_end act.Trap = true
is_end _ = false

-- the scan of an update ends
abbrev pub is_leave : Act → Bool
is_leave (act.Leave x) = true
is_leave _ = false

abbrev pub is_write : Act → Bool
is_write (act.Write word values x) = true
is_write _ = false

abbrev pub writes_word : ℕ → Act → Bool
writes_word k (act.Write word values x) = nat_eq word k
writes_word k _ = false

-- a word is read into this place
abbrev pub reads_into : Spot → Act → Bool
reads_into spot (act.Read word into) = bytes_eq into.words spot.words && nat_eq into.place spot.place
reads_into spot _ = false

abbrev pub publishes : ℕ → Act → Bool
publishes k (act.Publish j x) = nat_eq j k
publishes k _ = false

-- view local x is set
abbrev pub sets_view : Name → Act → Bool
sets_view x (act.Look k y) = bytes_eq y x
sets_view x (act.Borrow spot y) = bytes_eq y x
sets_view x (act.Collect y) = bytes_eq y x
sets_view x _ = false

-- the scan of an update begins
abbrev pub is_enter : Act → Bool
is_enter act.Enter = true
is_enter _ = false

-- a view is taken that had been written
abbrev pub takes_view : Act → Bool
takes_view (act.Borrow spot x) = true
takes_view (act.Look k x) = true
takes_view _ = false

-- a scan is answered, or a process traps
abbrev pub is_answer_or_trap : Act → Bool
is_answer_or_trap (act.Answer view x) = true
is_answer_or_trap act.Trap = true
is_answer_or_trap _ = false

-- whether a step is what is wanted
abbrev pub meets : StepPattern → TraceStep → Bool
meets (wanted.End i) s = nat_eq s.process i && is_end s.act
meets (wanted.Leave i) s = nat_eq s.process i && is_leave s.act
meets (wanted.Closing i) s = nat_eq s.process i && (is_leave s.act || is_end s.act)
meets wanted.Write s = is_write s.act
meets (wanted.WriteOf k) s = writes_word k s.act
meets (wanted.ReadInto i spot) s = nat_eq s.process i && reads_into spot s.act
meets (wanted.Published k) s = publishes k s.act
meets (wanted.Enter i) s = nat_eq s.process i && is_enter s.act
meets (wanted.Sets i x) s = nat_eq s.process i && sets_view x s.act
meets wanted.AnswerOrTrap s = is_answer_or_trap s.act

-- the first of these steps that is what is wanted
abbrev pub first_meeting : StepPattern → List TraceStep → Option TraceStep
first_meeting w [] = None
first_meeting w (s ∷ ss) = if meets w s then Some s else first_meeting w ss

-- stands where there is no step
abbrev pub no_step : TraceStep
no_step = record { process = 0; item = 0; line = 0; act = act.Other }

-- the last of the first k places at which there is what is wanted; places count from 0
abbrev pub last_before : StepPattern → List TraceStep → ℕ → Option ℕ
last_before w ss zero = None
last_before w ss (suc k) = if meets w (get_or ss k no_step) then Some k else last_before w ss k

-- the first of so many places from place k on at which there is what is wanted
abbrev pub first_within : StepPattern → List TraceStep → ℕ → ℕ → Option ℕ
first_within w ss k zero = None
first_within w ss k (suc count) =
    if meets w (get_or ss k no_step) then Some k else first_within w ss (k + 1) count
