-- An audit as a sweep over the events of a run (`by_events`): the verdict on a scan at its answer, from what is kept
-- of each process.
use Rattle.std.specs.Prelude.{◌≡◌, ℕ, zero, suc, ◌-◌, ◌≤◌, List, [], ◌∷◌, ◌++◌, length, map, drop, Option, Some, None}
use Rattle.std.specs.Prelude.{bytes_eq, get_or, replicate, if◌then◌else◌, slice_index, slice_set}
use Rattle.std.specs.List.{AllByRecursion}
use Rattle.snap_words.specs.Shape.{Counts, IsOneOf, max_items}
use Rattle.snap_semantics.specs.State.{values}
use Rattle.snap_semantics.specs.declared.event.Event.{Event}
use Rattle.snap_semantics.specs.declared.event.Happening.{Happening}
use Rattle.snap_semantics.specs.declared.event.Happening.TheVariants.{Call, Answer}
use Rattle.snap_runs.specs.Audit.{audit, verdict_of}
use Rattle.snap_runs.specs.Run.{Run, IsValidRun, events_of, state}
use Rattle.snap_runs.specs.Scan.{double_collects}
use Rattle.snap_runs.specs.declared.verdict.Verdict.{Verdict}
use Rattle.snap_record.specs.History.{IsRising, IsWithin, LeadsAlong, collects_at, values_by}
use Rattle.snap_record.specs.declared.history.Change.{Change}
use Rattle.snap_audit.specs.declared.caller.Caller.{Caller}

-- of the scan of process i that item c called, where item e answers it
abbrev pub verdicts_at : Run → (i c e : ℕ) → Happening → List Verdict
verdicts_at r i c e (Answer view) = verdict_of r i c e view ∷ []
verdicts_at r i c e _ = []

-- the last call of each process, once this has happened to process i at item t
abbrev pub calls_after : List ℕ → (i t : ℕ) → Happening → List ℕ
calls_after calls i t (Call op) = slice_set calls (i - 1) t
calls_after calls i t _ = calls

-- of the scans that these events answer, where these items called each process last
abbrev pub by_events : Run → List ℕ → List Event → List Verdict
by_events r calls [] = []
by_events r calls (e ∷ es) =
    verdicts_at r e.process (slice_index calls (e.process - 1)) e.item e.what
    ++ by_events r (calls_after calls e.process e.item e.what) es

-- the least of so many items, the first of which is item t, after which the values are
-- this view, by the changes to come
abbrev pub least_by : List ℕ → List Change → List ℕ → ℕ → ℕ → Option ℕ
least_by vs xs view t zero = None
least_by vs xs view t (suc more) =
    if bytes_eq (values_by vs xs t) view then Some t else least_by vs xs view (suc t) more

-- what is kept of a process before its first call
abbrev pub fresh : ℕ → Caller
fresh words = record { values = replicate words 0; next = 0; call = 0; collects = 0 }

-- from its last call on, what is kept of a process leads to the values
abbrev pub LeadsToValues : Run → List Change → Caller → Type 0
LeadsToValues r xs c =
    (u : ℕ) → c.call ≤ u → u ≤ length r.items → values (state r u) ≡ values_by c.values (drop c.next xs) u

-- what is kept of process i before these events
pub record IsCaller (r : Run) (xs : List Change) (left : List Event) (i : ℕ) (c : Caller) : Type 0 where
  pub follows : LeadsToValues r xs c
  pub past : AllByRecursion (λ (e : Event). c.call ≤ e.item) left
  pub collects_are : c.collects ≡ double_collects r i 0 c.call

-- the verdicts that were found so far, and the events that are left
pub record Sweeps (r : Run) (xs : List Change) (callers : List Caller) (found : List Verdict)
    (left : List Event) : Type 0 where
  pub goes_on : found ++ by_events r (map (λ (c : Caller). c.call) callers) left ≡ audit r
  pub count : length callers ≡ r.shape.n
  pub each : (i : ℕ) → IsOneOf r.shape.n i → (d : Caller) → IsCaller r xs left i (get_or callers (i - 1) d)
  pub within : AllByRecursion (IsWithin r.shape.n (length r.items)) left
  pub rises : IsRising left

-- what an audit has to know of a run: its shape, the changes of its values, its events, and the double collects at
-- each of them
pub record IsToldBy (r : Run) (n : Counts) (xs : List Change) (es : List Event) (ks : List ℕ) : Type 0 where
  pub fits : IsValidRun r
  pub few : length r.items ≤ max_items
  pub shape : n ≡ r.shape
  pub leads : LeadsAlong r xs
  pub events : es ≡ events_of r (length r.items)
  pub collects : ks ≡ map (collects_at r) es
