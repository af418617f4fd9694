-- The definitions at work on runs of M by one and by two processes, by computing.
use Rattle.std.proofs.Common.{◌≡◌, ℕ, List, [], ◌∷◌, ◌++◌, Some, None, replicate, true, refl, arith}
use Rattle.snap_runs.proofs.Common.{Item, Step, Call, Scan, Update, Finished, values, state}
use Rattle.snap_runs.proofs.Common.{outcome}
use Rattle.snap_runs.specs.Scan.{Starts, Ends, HasPoint, double_collects}
use Rattle.snap_runs.specs.Update.{executes}
use Rattle.snap_runs_of_m.specs.Promises.{run_of}

-- a number of steps of a process
abbrev pub times : ℕ → ℕ → List Item
times count i = replicate count (Step i)

-- Two processes and one word: process 2 updates it, and then process 1 scans.
abbrev pub update_then_scan : List Item
update_then_scan = Call 2 (Update 1 5) ∷ times 40 2 ++ Call 1 Scan ∷ times 28 1

embedded_starts : Starts (run_of 2 1 update_then_scan) 2 9 (Some 55)
embedded_starts = (refl, tt, refl, refl)

embedded_ends : Ends (run_of 2 1 update_then_scan) 2 37 (Some 55) (0 ∷ [])
embedded_ends = (refl, refl, refl)

update_writes : (executes (run_of 2 1 update_then_scan) 2 57 40 ≡ true)
    × (values (state (run_of 2 1 update_then_scan) 39) ≡ 0 ∷ [])
    × (values (state (run_of 2 1 update_then_scan) 40) ≡ 5 ∷ [])
update_writes = (refl, refl, refl)

update_done : outcome (run_of 2 1 update_then_scan) 41 ≡ Finished
update_done = refl

-- Process 2 updates three times while process 1 scans, each time between its two collects: three double collects
-- fail, and the scan borrows the view that process 2 put with the third update, which is what the second one wrote.
abbrev pub scan_borrows : List Item
scan_borrows =
    Call 1 Scan ∷ times 13 1 ++ Call 2 (Update 1 5) ∷ times 40 2 ++ times 28 1
    ++ Call 2 (Update 1 6) ∷ times 40 2 ++ times 28 1
    ++ Call 2 (Update 1 7) ∷ times 40 2 ++ times 19 1

borrows_ends : Starts (run_of 2 1 scan_borrows) 1 1 None × Ends (run_of 2 1 scan_borrows) 1 212 None (6 ∷ [])
borrows_ends = ((refl, refl), (refl, refl))

borrows_counts : double_collects (run_of 2 1 scan_borrows) 1 1 212 ≡ 3
borrows_counts = refl

borrows_point : HasPoint (run_of 2 1 scan_borrows) 1 212 (6 ∷ [])
borrows_point = (123, omega arith, omega arith, refl)
