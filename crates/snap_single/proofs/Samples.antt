-- The definitions at work on runs of U by one and by two processes, by computing.
use Rattle.std.proofs.Common.{◌≡◌, ℕ, List, [], ◌∷◌, ◌++◌, Some, None, replicate, true, refl, arith}
use Rattle.snap_runs.proofs.Common.{Item, Step, Call, Crash, Scan, Update, Finished, Skipped, values, process_at, state}
use Rattle.snap_runs.proofs.Common.{before, outcome}
use Rattle.snap_semantics.specs.declared.event.Happening.TheVariants as what
use Rattle.snap_semantics.specs.declared.process.Outcome.TheVariants.{Crashed}
use Rattle.snap_semantics.specs.declared.process.Reason.TheVariants as reason
use Rattle.snap_semantics.specs.declared.process.Status.TheVariants as status
use Rattle.snap_semantics.specs.Run.{events}
use Rattle.snap_semantics.specs.State.{value_at, initial}
use Rattle.snap_runs.specs.Scan.{Starts, Ends, HasPoint, double_collects, own_steps}
use Rattle.snap_runs.specs.Update.{executes}
use Rattle.snap_runs.specs.Promises.{row_place}
use Rattle.snap_runs_of_u.specs.ListingU as u
use Rattle.snap_runs_of_u.specs.ListingU.{listing_u}
use Rattle.snap_runs_of_u.specs.Promises.{run_of, square}

-- a number of steps of a process
abbrev pub times : ℕ → ℕ → List Item
times count i = replicate count (Step i)

-- One process scans: the call and nine steps.
abbrev pub scan_alone : List Item
scan_alone = Call 1 Scan ∷ times 9 1

scan_alone_starts : Starts (run_of 1 scan_alone) 1 1 None
scan_alone_starts = (refl, refl)

scan_alone_ends : Ends (run_of 1 scan_alone) 1 10 None (0 ∷ [])
scan_alone_ends = (refl, refl)

scan_alone_counts : (double_collects (run_of 1 scan_alone) 1 1 10 ≡ 1) × (own_steps (run_of 1 scan_alone) 1 1 10 ≡ 9)
scan_alone_counts = (refl, refl)

scan_alone_point : HasPoint (run_of 1 scan_alone) 1 10 (0 ∷ [])
scan_alone_point = (1, omega arith, omega arith, refl)

-- One process updates: the call, line 30, the nine lines of the scan inside it, lines 31 to 33.
abbrev pub update_alone : List Item
update_alone = Call 1 (Update 1 7) ∷ times 13 1

embedded_starts : Starts (run_of 1 update_alone) 1 2 (Some 31)
embedded_starts = (refl, tt, refl, refl)

embedded_ends : Ends (run_of 1 update_alone) 1 11 (Some 31) (0 ∷ [])
embedded_ends = (refl, refl, refl)

update_writes : (executes (run_of 1 update_alone) 1 32 13 ≡ true)
    × (values (state (run_of 1 update_alone) 12) ≡ 0 ∷ []) × (values (state (run_of 1 update_alone) 13) ≡ 7 ∷ [])
update_writes = (refl, refl, refl)

update_done : outcome (run_of 1 update_alone) 14 ≡ Finished
update_done = refl

-- Two processes, and nobody writes: the view is the values at the call already.
abbrev pub scan_undisturbed : List Item
scan_undisturbed = Call 1 Scan ∷ times 13 1

undisturbed_ends : Starts (run_of 2 scan_undisturbed) 1 1 None × Ends (run_of 2 scan_undisturbed) 1 14 None (0 ∷ 0 ∷ [])
undisturbed_ends = ((refl, refl), (refl, refl))

undisturbed_point : HasPoint (run_of 2 scan_undisturbed) 1 14 (0 ∷ 0 ∷ [])
undisturbed_point = (1, omega arith, omega arith, refl)

-- Process 2 updates twice while process 1 scans: both double collects fail, and the scan borrows the view that the
-- second update has put beside its value.
abbrev pub scan_borrows : List Item
scan_borrows =
    Call 1 Scan ∷ (times 6 1 ++ (Call 2 (Update 2 5)
    ∷ (times 17 2 ++ (times 8 1 ++ (times 4 1 ++ (Call 2 (Update 2 6) ∷ (times 17 2 ++ times 9 1)))))))

borrows_values : (values (state (run_of 2 scan_borrows) 23) ≡ 0 ∷ 0 ∷ [])
    × (values (state (run_of 2 scan_borrows) 24) ≡ 0 ∷ 5 ∷ [])
    × (values (state (run_of 2 scan_borrows) 53) ≡ 0 ∷ 5 ∷ [])
    × (values (state (run_of 2 scan_borrows) 54) ≡ 0 ∷ 6 ∷ [])
borrows_values = (refl, refl, refl, refl)

borrows_ends : Starts (run_of 2 scan_borrows) 1 1 None × Ends (run_of 2 scan_borrows) 1 64 None (0 ∷ 5 ∷ [])
borrows_ends = ((refl, refl), (refl, refl))

borrows_from_2 : (executes (run_of 2 scan_borrows) 1 23 63 ≡ true)
    × (value_at u.j (process_at (before (run_of 2 scan_borrows) 63) 1).locals.scalars 0 ≡ 2)
borrows_from_2 = (refl, refl)

borrows_counts : (double_collects (run_of 2 scan_borrows) 1 1 64 ≡ 2) × (own_steps (run_of 2 scan_borrows) 1 1 64 ≡ 27)
borrows_counts = (refl, refl)

borrows_point : HasPoint (run_of 2 scan_borrows) 1 64 (0 ∷ 5 ∷ [])
borrows_point = (24, omega arith, omega arith, refl)

-- The second move that it sees, at item 61, is the write at item 54; one double collect ends between them, at item 60.
second_move : (executes (run_of 2 scan_borrows) 1 17 61 ≡ true)
    × (row_place (process_at (before (run_of 2 scan_borrows) 61) 1).locals u.moved 2 ≡ 1)
    × (row_place (process_at (state (run_of 2 scan_borrows) 61) 1).locals u.moved 2 ≡ 2)
second_move = (refl, refl, refl)

its_write : (executes (run_of 2 scan_borrows) 2 32 54 ≡ true) × (double_collects (run_of 2 scan_borrows) 1 54 61 ≡ 1)
its_write = (refl, refl)

-- Process 2 crashes right after its write; its next item is skipped. The scan that process 1 calls then sees the value.
abbrev pub crash_after_write : List Item
crash_after_write = Call 2 (Update 2 5) ∷ (times 16 2 ++ (Crash 2 ∷ Step 2 ∷ Call 1 Scan ∷ times 13 1))

after_write_outcomes : (executes (run_of 2 crash_after_write) 2 32 17 ≡ true)
    × (outcome (run_of 2 crash_after_write) 18 ≡ Crashed)
    × (outcome (run_of 2 crash_after_write) 19 ≡ Skipped reason.Crashed)
after_write_outcomes = (refl, refl, refl)

after_write_ends : Starts (run_of 2 crash_after_write) 1 20 None
    × Ends (run_of 2 crash_after_write) 1 33 None (0 ∷ 5 ∷ [])
after_write_ends = ((refl, refl), (refl, refl))

after_write_point : HasPoint (run_of 2 crash_after_write) 20 33 (0 ∷ 5 ∷ [])
    × (double_collects (run_of 2 crash_after_write) 1 20 33 ≡ 1)
after_write_point = ((20, omega arith, omega arith, refl), refl)

after_write_stands : (process_at (state (run_of 2 crash_after_write) 33) 2).status
    ≡ status.Crashed (Some (record { op = Update 2 5; line = 33; link = None }))
after_write_stands = refl

after_write_events : events listing_u (square 2) (initial listing_u (square 2)) 1 crash_after_write
    ≡ record { item = 1; process = 2; what = what.Call (Update 2 5) }
    ∷ record { item = 18; process = 2; what = what.Crash }
    ∷ record { item = 20; process = 1; what = what.Call Scan }
    ∷ record { item = 33; process = 1; what = what.Answer (0 ∷ 5 ∷ []) } ∷ []
after_write_events = refl

-- The updater crashes one step earlier, between its scan and its write: the scan sees nothing of the update.
abbrev pub crash_before_write : List Item
crash_before_write = Call 2 (Update 2 5) ∷ (times 15 2 ++ (Crash 2 ∷ Step 2 ∷ Call 1 Scan ∷ times 13 1))

before_write_ends : Starts (run_of 2 crash_before_write) 1 19 None
    × Ends (run_of 2 crash_before_write) 1 32 None (0 ∷ 0 ∷ [])
before_write_ends = ((refl, refl), (refl, refl))

before_write_point : HasPoint (run_of 2 crash_before_write) 19 32 (0 ∷ 0 ∷ [])
before_write_point = (19, omega arith, omega arith, refl)
