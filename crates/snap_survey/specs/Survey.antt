-- What a run came to: which operations were called, which have ended, what kept the others from it, and whether the
-- run is linearizable.
use Rattle.std.specs.Prelude.{◌≡◌, ℕ, zero, suc, Bool, true, false, ◌&&◌, List, [], ◌∷◌, length, Option, Some, None}
use Rattle.std.specs.Prelude.{is_none, is_some, max, if◌then◌else◌}
use Rattle.snap_semantics.specs.declared.process.Item.{Item}
use Rattle.snap_semantics.specs.declared.process.Item.TheVariants.{Call}
use Rattle.snap_semantics.specs.declared.process.Op.TheVariants as op
use Rattle.snap_semantics.specs.declared.process.Outcome.{Outcome}
use Rattle.snap_semantics.specs.declared.process.Outcome.TheVariants as outcome
use Rattle.snap_semantics.specs.declared.process.Status.{Status}
use Rattle.snap_semantics.specs.declared.process.Status.TheVariants.{Trapped}
use Rattle.snap_semantics.specs.Readers.{operation_of}
use Rattle.snap_semantics.specs.Rules.{or_else}
use Rattle.snap_semantics.specs.State.{process_at}
use Rattle.snap_semantics.specs.Table.{who}
use Rattle.snap_runs.specs.Audit.{audit, is_called}
use Rattle.snap_runs.specs.Run.{Run, state, item, outcome as outcome_at}
use Rattle.snap_runs.specs.Scan.{count}
use Rattle.snap_runs.specs.declared.verdict.Verdict.{Verdict}
use Rattle.snap_walk.specs.Walk.{is_skipped}
use Rattle.snap_judge.specs.declared.judgements.Failing.{Failing}
use Rattle.snap_run_judge.specs.RunJudgement.{IsRunJudgement, most_configurations, word_of}
use Rattle.snap_survey.specs.declared.findings.JudgedSurvey.{JudgedSurvey}
use Rattle.snap_survey.specs.declared.findings.Skip.{Skip}
use Rattle.snap_survey.specs.declared.findings.Survey.{Survey}
use Rattle.snap_survey.specs.declared.findings.Trap.{Trap}

-- an item that asks for a scan
abbrev pub asks_scan : Item → Bool
asks_scan (Call i op.Scan) = true
asks_scan _ = false

-- an item that asks for an update
abbrev pub asks_update : Item → Bool
asks_update (Call i (op.Update word value)) = true
asks_update _ = false

-- the end of an update
abbrev pub is_done : Outcome → Bool
is_done outcome.Finished = true
is_done _ = false

abbrev pub is_trap : Outcome → Bool
is_trap (outcome.Trapped cause) = true
is_trap _ = false

-- a crash that is not skipped
abbrev pub is_crash : Outcome → Bool
is_crash outcome.Crashed = true
is_crash _ = false

-- whether item t calls a scan
abbrev pub calls_scan : Run → ℕ → Bool
calls_scan r t = is_called (outcome_at r t) && asks_scan (item r t)

-- whether item t calls an update
abbrev pub calls_update : Run → ℕ → Bool
calls_update r t = is_called (outcome_at r t) && asks_update (item r t)

-- whether an update is done at item t
abbrev pub ends_update : Run → ℕ → Bool
ends_update r t = is_done (outcome_at r t)

-- whether item t traps its process
abbrev pub traps : Run → ℕ → Bool
traps r t = is_trap (outcome_at r t)

-- whether item t crashes its process
abbrev pub crashes : Run → ℕ → Bool
crashes r t = is_crash (outcome_at r t)

-- the trap of process i by item t, after which it stands so
abbrev pub trap_of : ℕ → ℕ → Status → Option Trap
trap_of t i (Trapped cause a) = Some (record { item = t; process = i; line = a.line; cause = cause })
trap_of t i _ = None

-- the trap by an item of process i, if the item's outcome is a trap
abbrev pub trap_by : ℕ → ℕ → Outcome → Status → Option Trap
trap_by t i (outcome.Trapped cause) s = trap_of t i s
trap_by t i _ s = None

-- the trap by item t
abbrev pub trap_at : Run → ℕ → Option Trap
trap_at r t = trap_by t (who (item r t)) (outcome_at r t) (process_at (state r t) (who (item r t))).status

-- what is said of item t, of process i, where it is skipped
abbrev pub skip_by : ℕ → ℕ → Outcome → Option Skip
skip_by t i (outcome.Skipped reason) = Some (record { item = t; process = i; reason = reason })
skip_by t i _ = None

-- the skip at item t
abbrev pub skip_at : Run → ℕ → Option Skip
skip_at r t = skip_by t (who (item r t)) (outcome_at r t)

-- what is found at the first of so many items at which something is found
abbrev pub first_found : {A : Type 0} → (ℕ → Option A) → ℕ → Option A
first_found find zero = None
first_found find (suc t) = or_else (first_found find t) (find (suc t))

-- whether process i is at an operation after all items, or was at one when it trapped or crashed
abbrev pub is_open : Run → ℕ → Bool
is_open r i = is_some (operation_of (process_at (state r (length r.items)) i).status)

-- how many scans have no point
abbrev pub without_point : List Verdict → ℕ
without_point [] = 0
without_point (v ∷ vs) = if is_none v.point then suc (without_point vs) else without_point vs

-- the most double collects of a scan
abbrev pub most_collects : List Verdict → ℕ
most_collects [] = 0
most_collects (v ∷ vs) = max v.collects (most_collects vs)

-- what a run came to
abbrev pub survey_of : Run → Survey
survey_of r = record {
  scans_called = count (calls_scan r) 0 (length r.items);
  scans_answered = length (audit r);
  scans_without_point = without_point (audit r);
  most_collects = most_collects (audit r);
  updates_called = count (calls_update r) 0 (length r.items);
  updates_done = count (ends_update r) 0 (length r.items);
  open_operations = count (is_open r) 0 r.shape.n;
  traps = count (traps r) 0 (length r.items);
  first_trap = first_found (trap_at r) (length r.items);
  crashes = count (crashes r) 0 (length r.items);
  skips = count (is_skipped r) 0 (length r.items);
  first_skip = first_found (skip_at r) (length r.items);
}

-- the survey of a run, with what was judged of the run
abbrev pub judged_survey : Run → Failing → JudgedSurvey
judged_survey r j = record { survey = survey_of r; linearizability = word_of j }

-- A survey is that of a run, with a judgement that says what is so.
abbrev pub IsSurveyOf : Run → JudgedSurvey → Type 0
IsSurveyOf r s = (j : Failing) × IsRunJudgement most_configurations r j × (s ≡ judged_survey r j)
