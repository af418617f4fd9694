-- `ViewsAreFollowed`: the view in a local is the one that was written where it is said to come from. Places in the
-- trace of a run count from 0, so before place k the run is in state k.
use Rattle.std.specs.Prelude.{◌≡◌, ◌<◌, ◌≤◌, ◌-◌, ℕ, suc, List, [], length, map, take, Option, Some, None, get_or}
use Rattle.snap_words.specs.Shape.{IsOneOf}
use Rattle.snap_words.specs.Word.{Word, no_word}
use Rattle.snap_semantics.specs.IsListing.{IsListing}
use Rattle.snap_semantics.specs.Source.{Name}
use Rattle.snap_semantics.specs.State.{process_at, value_at}
use Rattle.snap_runs.specs.Run.{Run, IsValidRun, state}
use Rattle.snap_runs.specs.Scan.{FinishedScan}
use Rattle.snap_acts.specs.Trace.{trace_of}
use Rattle.snap_acts.specs.Loans.{handed_on, lender_at, set_for, source_of, step_at, view_taken}
use Rattle.snap_acts.specs.declared.act.Act.{Act}
use Rattle.snap_acts.specs.declared.act.Act.TheVariants as act
use Rattle.snap_acts.specs.declared.act.TraceStep.{TraceStep}
use Rattle.snap_acts.specs.declared.loans.Borrowed.{Borrowed}
use Rattle.snap_acts.specs.declared.loans.ScanPlaces.{ScanPlaces}

-- the step at place k of a run's trace
abbrev pub step : Run → ℕ → TraceStep
step r k = step_at (trace_of r) k

-- the view in local x of process i before place k
abbrev pub held : Run → ℕ → Name → ℕ → List ℕ
held r i x k = value_at x (process_at (state r k) i).locals.views []

-- the view that is held, if there is a local
abbrev pub held_if_named : Run → ℕ → Option Name → ℕ → List ℕ
held_if_named r i None k = []
held_if_named r i (Some x) k = held r i x k

-- the view that the item at place w answers, returns or writes, as its local has it before place k
abbrev pub handed_at : Run → ℕ → ℕ → List ℕ
handed_at r w k = held_if_named r (step r w).process (handed_on (step r w).act) k

-- the view that the item at place k answers, returns or writes
abbrev pub handed_view : Run → ℕ → List ℕ
handed_view r k = handed_at r k k

-- the data of the first words in local y of process i before place k, so many
abbrev pub data_in : Run → ℕ → Name → ℕ → (count : ℕ) → List ℕ
data_in r i y k count = map (λ (w : Word). w.datum) (take count (value_at y (process_at (state r k) i).locals.words []))

-- what an item that hands on a view has done: it has answered that view, or written it into its register
abbrev pub HasHandedOn : Run → ℕ → Act → Type 0
HasHandedOn r k (act.Answer view x) = view ≡ handed_view r k
HasHandedOn r k (act.Write word values x) =
    (get_or (state r (suc k)).memory.words (word - 1) no_word).view ≡ handed_view r k
HasHandedOn r k (act.Publish j x) = get_or (state r (suc k)).memory.views (j - 1) [] ≡ handed_view r k
HasHandedOn r k _ = Unit {0}

-- in a run
pub record IsFollowed (r : Run) : Type 0 where
  -- an item hands on the view in its local
  pub handed : (k : ℕ) → k < length r.items → HasHandedOn r k (step r k).act
  -- the view in a local is the one that was written at its source
  pub sourced : (i : ℕ) (x : Name) (k w : ℕ) → IsOneOf r.shape.n i → k ≤ length r.items →
      source_of (trace_of r) i x k ≡ Some w → held r i x k ≡ handed_view r w
  -- the view with which a scan ends is the one that was written where it is said to be
  pub taken : (s : ScanPlaces) (b : Borrowed) (w : ℕ) → s.to < length r.items →
      view_taken (trace_of r) s ≡ Some b → b.written ≡ Some w → handed_view r s.to ≡ handed_view r w
  -- a view that was written stood in the writer's local when the lender's scan ended, which is one of the writer
  pub lent : (w : ℕ) (s : ScanPlaces) → w < length r.items → lender_at (trace_of r) (Some w) ≡ Some s →
      (s.process ≡ (step r w).process) × (s.to < w) × (handed_view r w ≡ handed_at r w s.to)
  -- the lender's scan is a whole one of an update: it begins at a `call` line, and ends at a `return` line; items count
  -- from 1
  pub scans : (w : ℕ) (s : ScanPlaces) → w < length r.items → lender_at (trace_of r) (Some w) ≡ Some s →
      (link : ℕ) × FinishedScan r s.process (Some link) (suc s.from) (suc s.to) (handed_view r s.to)
  -- if the lender's scan returned the local that was written, as in a listing with one view local, it ended with that
  -- view
  pub returned : (w : ℕ) (s : ScanPlaces) → w < length r.items → lender_at (trace_of r) (Some w) ≡ Some s →
      handed_on (step r s.to).act ≡ handed_on (step r w).act → handed_view r w ≡ handed_view r s.to
  -- a scan that set its view and took none made it of the words that a local of its process had then
  pub made : (s : ScanPlaces) (k : ℕ) → s.to < length r.items → set_for (trace_of r) s.to ≡ Some k → s.from ≤ k →
      view_taken (trace_of r) s ≡ None →
      (y : Name) × (handed_view r s.to ≡ data_in r (step r s.to).process y k (length (handed_view r s.to)))
  -- a scan that set no view ends with the one that its local had when the scan began
  pub kept : (s : ScanPlaces) → s.from ≤ s.to → s.to < length r.items →
      ((k : ℕ) → set_for (trace_of r) s.to ≡ Some k → k < s.from) → handed_view r s.to ≡ handed_at r s.to s.from
  -- a view that was written, and is told to be of no scan of an update, was set by its writer within no such scan that
  -- had ended
  pub alone : (w d link a b : ℕ) (view : List ℕ) → w < length r.items → lender_at (trace_of r) (Some w) ≡ None →
      set_for (trace_of r) w ≡ Some d → FinishedScan r (step r w).process (Some link) (suc a) (suc b) view → a < d →
      d < b → b < w → ⊥

-- in every run of any listing
abbrev pub ViewsAreFollowed : Type 0
ViewsAreFollowed = (r : Run) → IsListing r.source → IsValidRun r → IsFollowed r
