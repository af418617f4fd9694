-- The definitions at work on runs of B by one and by two processes, by computing.
use Rattle.std.proofs.Common.{◌≡◌, ℕ, List, [], ◌∷◌, ◌++◌, Some, None, replicate, true, refl, arith}
use Rattle.snap_runs.proofs.Common.{Item, Step, Call, Scan, Update, Finished, values, process_at, state, before}
use Rattle.snap_runs.proofs.Common.{outcome}
use Rattle.snap_semantics.specs.State.{value_at}
use Rattle.snap_runs.specs.Scan.{Starts, Ends, HasPoint, double_collects, own_steps}
use Rattle.snap_runs.specs.Update.{executes}
use Rattle.snap_runs.specs.Promises.{row_place}
use Rattle.snap_runs_of_b.specs.ListingB as listing
use Rattle.snap_runs_of_b.specs.Promises.{run_of}

-- a number of steps of a process
abbrev pub times : ℕ → ℕ → List Item
times count i = replicate count (Step i)

-- One process scans: the call and thirteen steps.
abbrev pub scan_alone : List Item
scan_alone = Call 1 Scan ∷ times 13 1

scan_alone_starts : Starts (run_of 1 scan_alone) 1 1 None
scan_alone_starts = (refl, refl)

scan_alone_ends : Ends (run_of 1 scan_alone) 1 14 None (0 ∷ [])
scan_alone_ends = (refl, refl)

scan_alone_counts : (double_collects (run_of 1 scan_alone) 1 1 14 ≡ 1) × (own_steps (run_of 1 scan_alone) 1 1 14 ≡ 13)
scan_alone_counts = (refl, refl)

scan_alone_point : HasPoint (run_of 1 scan_alone) 1 14 (0 ∷ [])
scan_alone_point = (1, omega arith, omega arith, refl)

-- One process updates: the call, lines 40 to 44, the thirteen lines of the scan inside it, lines 45 to 47.
abbrev pub update_alone : List Item
update_alone = Call 1 (Update 1 7) ∷ times 21 1

embedded_starts : Starts (run_of 1 update_alone) 1 6 (Some 45)
embedded_starts = (refl, tt, refl, refl)

embedded_ends : Ends (run_of 1 update_alone) 1 19 (Some 45) (0 ∷ [])
embedded_ends = (refl, refl, refl)

update_writes : (executes (run_of 1 update_alone) 1 46 21 ≡ true) × (values (state (run_of 1 update_alone) 20) ≡ 0 ∷ [])
    × (values (state (run_of 1 update_alone) 21) ≡ 7 ∷ [])
update_writes = (refl, refl, refl)

update_done : outcome (run_of 1 update_alone) 22 ≡ Finished
update_done = refl

-- Two processes, and nobody writes: the view is the values at the call already.
abbrev pub scan_undisturbed : List Item
scan_undisturbed = Call 1 Scan ∷ times 21 1

undisturbed_ends : Starts (run_of 2 scan_undisturbed) 1 1 None × Ends (run_of 2 scan_undisturbed) 1 22 None (0 ∷ 0 ∷ [])
undisturbed_ends = ((refl, refl), (refl, refl))

undisturbed_point : HasPoint (run_of 2 scan_undisturbed) 1 22 (0 ∷ 0 ∷ [])
undisturbed_point = (1, omega arith, omega arith, refl)

-- Process 2 updates twice while process 1 scans, each time between the two collects: both double collects fail, and
-- the scan borrows the view that the second update has put beside its value.
abbrev pub scan_borrows : List Item
scan_borrows =
    Call 1 Scan ∷ (times 14 1 ++ (Call 2 (Update 2 5)
    ∷ (times 32 2 ++ (times 8 1 ++ (times 12 1 ++ (Call 2 (Update 2 6) ∷ (times 32 2 ++ times 9 1)))))))

borrows_values : (values (state (run_of 2 scan_borrows) 46) ≡ 0 ∷ 0 ∷ [])
    × (values (state (run_of 2 scan_borrows) 47) ≡ 0 ∷ 5 ∷ [])
    × (values (state (run_of 2 scan_borrows) 99) ≡ 0 ∷ 5 ∷ [])
    × (values (state (run_of 2 scan_borrows) 100) ≡ 0 ∷ 6 ∷ [])
borrows_values = (refl, refl, refl, refl)

borrows_ends : Starts (run_of 2 scan_borrows) 1 1 None × Ends (run_of 2 scan_borrows) 1 110 None (0 ∷ 5 ∷ [])
borrows_ends = ((refl, refl), (refl, refl))

borrows_from_2 : (executes (run_of 2 scan_borrows) 1 27 109 ≡ true)
    × (value_at listing.j (process_at (before (run_of 2 scan_borrows) 109) 1).locals.scalars 0 ≡ 2)
borrows_from_2 = (refl, refl)

borrows_counts : (double_collects (run_of 2 scan_borrows) 1 1 110 ≡ 2)
    × (own_steps (run_of 2 scan_borrows) 1 1 110 ≡ 43)
borrows_counts = (refl, refl)

borrows_point : HasPoint (run_of 2 scan_borrows) 1 110 (0 ∷ 5 ∷ [])
borrows_point = (47, omega arith, omega arith, refl)

-- The second move that it sees, at item 107, is the write at item 100; one double collect
-- ends between them, at item 106.
second_move : (executes (run_of 2 scan_borrows) 1 21 107 ≡ true)
    × (row_place (process_at (before (run_of 2 scan_borrows) 107) 1).locals listing.moved 2 ≡ 1)
    × (row_place (process_at (state (run_of 2 scan_borrows) 107) 1).locals listing.moved 2 ≡ 2)
second_move = (refl, refl, refl)

its_write : (executes (run_of 2 scan_borrows) 2 46 100 ≡ true) × (double_collects (run_of 2 scan_borrows) 1 100 107 ≡ 1)
its_write = (refl, refl)
