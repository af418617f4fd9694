-- The argument by linearization points, for any listing: what it asks of a run, and what it gives.
use Rattle.std.specs.Prelude.{ℕ, List, None}
use Rattle.snap_runs.specs.Run.{Run, IsValidRun}
use Rattle.snap_runs.specs.Scan.{FinishedScan, HasPoint}
use Rattle.snap_runs.specs.Promises.{ChangesOnlyAt, WritesItsUpdate, WritesOnce}
use Rattle.snap_runs.specs.Linearization.{IsLinearizable}

-- Every scan that was called and has been answered has a point. Of a scan that is embedded
-- in an update nothing is asked.
abbrev pub AnswersHavePoints : Run → Type 0
AnswersHavePoints r = IsValidRun r → (i c e : ℕ) (view : List ℕ) → FinishedScan r i None c e view → HasPoint r c e view

-- Each operation has a linearization point: an update where its process executes this line, and a scan where the values
-- are its view.
pub record HasLinearizationPoints (line : ℕ) (r : Run) : Type 0 where
  -- the values change at this line alone
  pub changes_only_at : ChangesOnlyAt line r
  -- what executes it is an update, which writes there what it was called for
  pub writes_its_update : WritesItsUpdate line r
  -- no more than once, and once by its end
  pub writes_once : WritesOnce line r
  -- a scan that has been answered has a point between its call and its answer
  pub answers_have_points : AnswersHavePoints r

-- A run whose operations have linearization points is linearizable, whatever its listing.
abbrev pub LinearizableByPoints : Type 0
LinearizableByPoints = (line : ℕ) (r : Run) → HasLinearizationPoints line r → IsLinearizable r
