-- `Reaches`: in a run a finished scan makes exactly this many double collects.
-- The bounds n of U and B and 2 n - 1 of M are reached, and no more.
use Rattle.std.specs.Prelude.{◌≡◌, ℕ, ◌*◌, ◌-◌, ◌<◌, List, None}
use Rattle.snap_words.specs.Shape.{IsOneOf, IsShape, max_count}
use Rattle.snap_semantics.specs.declared.process.Item.{Item}
use Rattle.snap_runs.specs.Run.{Run, IsValidRun}
use Rattle.snap_runs.specs.Scan.{FinishedScan, double_collects}
use Rattle.snap_runs_of_b.specs.Promises as b
use Rattle.snap_runs_of_m.specs.Promises as m
use Rattle.snap_runs_of_u.specs.Promises as u
use Rattle.snap_runs_sharp.specs.Schedules.{schedule_of_u, scan_alone_of_u, schedule_of_b, schedule_of_m}

-- In this run a scan that was called and is finished makes exactly so many double collects.
pub record Reaches (bound : ℕ) (r : Run) : Type 0 where
  pub fits : IsValidRun r
  pub process : ℕ
  pub call : ℕ
  pub answer : ℕ
  pub view : List ℕ
  pub finished : FinishedScan r process None call answer view
  pub collects : double_collects r process call answer ≡ bound

-- Some items have a run that reaches the bound.
abbrev pub IsReached : ℕ → (List Item → Run) → Type 0
IsReached bound run_of = (items : List Item) × Reaches bound (run_of items)

-- A scan of U by one of n processes makes n double collects in some run.
abbrev pub IsReachedByU : Type 0
IsReachedByU = (n : ℕ) → IsOneOf max_count n → IsReached n (u.run_of n)

-- The schedule of U makes a run in which a scan reaches the bound.
abbrev pub ScheduleOfUReaches : Type 0
ScheduleOfUReaches = (n : ℕ) → IsOneOf max_count n → Reaches n (u.run_of n (schedule_of_u n))

-- A scan of B by one of n processes makes n double collects in some run.
abbrev pub IsReachedByB : Type 0
IsReachedByB = (n : ℕ) → IsOneOf max_count n → IsReached n (b.run_of n)

abbrev pub ScheduleOfBReaches : Type 0
ScheduleOfBReaches = (n : ℕ) → IsOneOf max_count n → Reaches n (b.run_of n (schedule_of_b n))

-- M, of any number of words: 2 n - 1 double collects.
abbrev pub IsReachedByM : Type 0
IsReachedByM = (n w : ℕ) → IsShape n w → IsReached (2 * n - 1) (m.run_of n w)

abbrev pub ScheduleOfMReaches : Type 0
ScheduleOfMReaches = (n w : ℕ) → IsShape n w → Reaches (2 * n - 1) (m.run_of n w (schedule_of_m n w))

-- No more are reached: n double collects are the most of U and of B, and 2 n - 1 those of M.
pub record NoMoreIsReached : Type 0 where
  pub by_u : (n more : ℕ) (items : List Item) → n < more → u.SequenceNumbersSuffice items →
      Reaches more (u.run_of n items) → ⊥
  pub by_b : (n more : ℕ) → n < more → IsReached more (b.run_of n) → ⊥
  pub by_m : (n w more : ℕ) → 0 < w → 2 * n - 1 < more → IsReached more (m.run_of n w) → ⊥

-- A scan of U alone makes one double collect, and not two.
abbrev pub ScanAloneMakesOne : Type 0
ScanAloneMakesOne = (n : ℕ) → IsOneOf max_count n →
    Reaches 1 (u.run_of n (scan_alone_of_u n)) × (Reaches 2 (u.run_of n (scan_alone_of_u n)) → ⊥)
