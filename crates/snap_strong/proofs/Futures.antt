-- The two futures of a run of U, computed: what the scan answers
-- in each, and that the update has ended before they part.
use Rattle.std.proofs.Common.{[], ◌∷◌, ◌++◌, None, refl, arith}
use Rattle.snap_runs.specs.Operation.{IsOperation}
use Rattle.snap_runs.specs.Scan.{FinishedScan}
use Rattle.snap_runs.proofs.Worked.{finished_scan, finished_update}
use Rattle.snap_runs_of_u.specs.Promises.{run_of}
use Rattle.snap_strong.specs.Futures.{so_far, alone, overtaken, update}

-- the update takes place in the run so far
pub update_took_place : IsOperation (run_of 3 so_far) update
update_took_place =
    finished_update (run_of 3 so_far) 2 2 5 34 54 (omega arith, omega arith) (omega arith) (omega arith) (omega arith)
    refl refl (refl, refl) refl

-- process 1 goes on alone, and the scan answers 0 0 0
pub alone_answers : FinishedScan (run_of 3 (so_far ++ alone)) 1 None 21 60 (0 ∷ 0 ∷ 0 ∷ [])
alone_answers =
    finished_scan (run_of 3 (so_far ++ alone)) 1 21 59 (0 ∷ 0 ∷ 0 ∷ []) (omega arith, omega arith) (omega arith)
    (omega arith) (omega arith) (refl, refl) (refl, refl) refl

-- process 3 writes first, and the scan answers 0 5 7
pub overtaken_answers : FinishedScan (run_of 3 (so_far ++ overtaken)) 1 None 21 77 (0 ∷ 5 ∷ 7 ∷ [])
overtaken_answers =
    finished_scan (run_of 3 (so_far ++ overtaken)) 1 21 76 (0 ∷ 5 ∷ 7 ∷ []) (omega arith, omega arith) (omega arith)
    (omega arith) (omega arith) (refl, refl) (refl, refl) refl
