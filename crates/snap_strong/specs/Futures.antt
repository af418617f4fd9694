-- Two futures of one run of U by three processes. No order of the operations so far goes on in both.
use Rattle.std.specs.Prelude.{ℕ, List, ◌∷◌, [], ◌++◌, ◌^◌, Some, replicate}
use Rattle.snap_semantics.specs.declared.process.Item.{Item}
use Rattle.snap_semantics.specs.declared.process.Item.TheVariants.{Step, Call}
use Rattle.snap_semantics.specs.declared.process.Op.TheVariants.{Scan, Update}
use Rattle.snap_runs.specs.Operation.{Sets, Sees, Operation, IsOperation}
use Rattle.snap_runs_of_u.specs.ListingU.{listing_u}
use Rattle.snap_runs_of_u.specs.Promises.{square, run_of}
use Rattle.snap_strong.specs.StrongLinearization.{IsCompletedLinearization, BeginsWith, IsStronglyLinearizable}

-- a number of steps of a process
abbrev pub times : ℕ → ℕ → List Item
times count i = replicate count (Step i)

-- Process 3 stands before its write. Process 1 has read all words, and words 1 and 2 again. Then process 2 updates
-- its word, and that has ended.
abbrev pub so_far : List Item
so_far = Call 3 (Update 3 7) ∷ (times 19 3 ++ (Call 1 Scan ∷ (times 12 1 ++ (Call 2 (Update 2 5) ∷ times 21 2))))

-- Process 1 goes on alone: it reads word 3 again, and finds that nothing has changed.
abbrev pub alone : List Item
alone = times 5 1

-- Process 3 writes first: the scan finds that, and collects again.
abbrev pub overtaken : List Item
overtaken = Step 3 ∷ times 21 1

-- the scan with a view, answered at item e
abbrev pub scan_seeing : List ℕ → ℕ → Operation
scan_seeing view e = record { process = 1; call = 21; end = Some e; action = Sees view }

-- the update that has ended when the futures part
abbrev pub update : Operation
update = record { process = 2; call = 34; end = Some 55; action = Sets 2 5 }

-- In one future the scan answers 0 0 0, as if it took place before the update, and in the other 0 5 7.
pub record HasTwoFutures : Type 0 where
  pub ended : IsOperation (run_of 3 so_far) update
  pub alone : IsOperation (run_of 3 (so_far ++ alone)) (scan_seeing (0 ∷ 0 ∷ 0 ∷ []) 60)
  pub overtaken : IsOperation (run_of 3 (so_far ++ overtaken)) (scan_seeing (0 ∷ 5 ∷ 7 ∷ []) 77)

-- No linearization of the run so far goes on in linearizations of both.
abbrev pub NoneServesBoth : Type 0
NoneServesBoth = (now one other : List Operation) → IsCompletedLinearization (run_of 3 so_far) now →
    IsCompletedLinearization (run_of 3 (so_far ++ alone)) one →
    IsCompletedLinearization (run_of 3 (so_far ++ overtaken)) other → BeginsWith one now → BeginsWith other now → ⊥

-- U is not strongly linearizable, for three processes. Its sequence numbers have 64 bits, so runs of 2^64 items and
-- more, in which they may run out, are left aside: there is no choice even for the runs that are shorter.
abbrev pub UIsNotStronglyLinearizable : Type 0
UIsNotStronglyLinearizable = IsStronglyLinearizable listing_u (square 3) (Some (2 ^ 64)) → ⊥
