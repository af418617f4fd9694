-- The audit of a run: of each scan that was called and has been answered, whether it has a point, and how many double
-- collects it took.
use Rattle.std.specs.List.{AllByRecursion}
use Rattle.std.specs.Prelude.{◌≡◌, IsSome, ℕ, zero, suc, ◌-◌, ◌<◌, ◌≤◌, Bool, true, false, ◌&&◌, List, [], ◌∷◌, ◌++◌}
use Rattle.std.specs.Prelude.{length, Option, Some, None, bytes_eq, nat_eq, if◌then◌else◌}
use Rattle.snap_semantics.specs.declared.process.Outcome.{Outcome}
use Rattle.snap_semantics.specs.declared.process.Outcome.TheVariants as outcome
use Rattle.snap_semantics.specs.State.{values}
use Rattle.snap_semantics.specs.Table.{who}
use Rattle.snap_runs.specs.Run.{Run, IsValidRun, state, item, outcome as outcome_at}
use Rattle.snap_runs.specs.Scan.{FinishedScan, HasPoint, double_collects}
use Rattle.snap_runs.specs.declared.verdict.Verdict.{Verdict}

-- a call that is not skipped
abbrev pub is_called : Outcome → Bool
is_called outcome.Called = true
is_called _ = false

-- the last item up to item t that called an operation of process i, and 0 where there is none
abbrev pub last_call : Run → ℕ → ℕ → ℕ
last_call r i zero = 0
last_call r i (suc t) =
    if nat_eq (who (item r (suc t))) i && is_called (outcome_at r (suc t)) then suc t else last_call r i t

-- the least of so many items, the first of which is item t, after which the values are this view
abbrev pub least_point : Run → List ℕ → ℕ → ℕ → Option ℕ
least_point r view t zero = None
least_point r view t (suc more) = if bytes_eq (values (state r t)) view then Some t else least_point r view (suc t) more

-- of the scan of process i that item c called and item e answered with this view
abbrev pub verdict_of : Run → (i c e : ℕ) → List ℕ → Verdict
verdict_of r i c e view = record {
  process = i;
  call = c;
  answer = e;
  point = least_point r view c (suc (e - c));
  collects = double_collects r i c e;
}

-- of the scan that item e answers, where it answers one
abbrev pub verdict_at : Run → ℕ → Outcome → List Verdict
verdict_at r e (outcome.Answered view) = verdict_of r (who (item r e)) (last_call r (who (item r e)) e) e view ∷ []
verdict_at r e _ = []

-- of the scans that the first t items answer, in the order of their answers
abbrev pub verdicts : Run → ℕ → List Verdict
verdicts r zero = []
verdicts r (suc t) = verdicts r t ++ verdict_at r (suc t) (outcome_at r (suc t))

abbrev pub audit : Run → List Verdict
audit r = verdicts r (length r.items)

-- What is found of a scan's point is right: the least item from its start to its end after which the values are its
-- view, and none where there is none.
abbrev pub IsLeastPoint : Run → (c e : ℕ) → List ℕ → Option ℕ → Type 0
IsLeastPoint r c e view None = HasPoint r c e view → ⊥
IsLeastPoint r c e view (Some t) =
    (c ≤ t) × (t ≤ e) × (values (state r t) ≡ view) × ((u : ℕ) → c ≤ u → u < t → values (state r u) ≡ view → ⊥)

-- a verdict is of a finished scan that answers this view
pub record IsOfScan (r : Run) (v : Verdict) : Type 0 where
  pub view : List ℕ
  pub finished : FinishedScan r v.process None v.call v.answer view
  pub point_is : v.point ≡ least_point r view v.call (suc (v.answer - v.call))
  pub point_is_least : IsLeastPoint r v.call v.answer view v.point
  pub collects_are : v.collects ≡ double_collects r v.process v.call v.answer

-- the verdict has found a point
abbrev pub HasFoundPoint : Verdict → Type 0
HasFoundPoint v = IsSome v.point

-- Every verdict of the audit has a point.
abbrev pub VerdictsHavePoints : Run → Type 0
VerdictsHavePoints r = IsValidRun r → AllByRecursion HasFoundPoint (audit r)

-- Every verdict of the audit is of a finished scan.
abbrev pub VerdictsAreOfScans : Run → Type 0
VerdictsAreOfScans r = IsValidRun r → AllByRecursion (IsOfScan r) (audit r)
