-- The bounds of U at work on runs by two processes, by computing.
use Rattle.std.proofs.Common.{◌≡◌, ℕ, Some, None, List, [], ◌∷◌, ◌++◌, replicate, true, refl, arith, inl, inr}
use Rattle.snap_runs.proofs.Common.{Word, Item, Step, Call, Crash, Scan, Update, State, process_at, state}
use Rattle.snap_semantics.specs.declared.process.Status.TheVariants.{Idle, Crashed}
use Rattle.snap_runs.specs.Bounded.{IsValue, IsWordWithin, IsStateWithin, sequence_numbers}
use Rattle.snap_runs.specs.Promises.{row_place}
use Rattle.snap_runs.specs.Update.{executes}
use Rattle.snap_runs_of_u.specs.Bounded.{limits}
use Rattle.snap_runs_of_u.specs.ListingU.{listing_u, j, c, moved, a, b, s}
use Rattle.snap_runs_of_u.specs.Promises.{square, run_of}

-- Process 2 crashes right after its write, and process 1 scans.
abbrev crash_and_scan : List Item
crash_and_scan = Call 2 (Update 2 5) ∷ (replicate 16 (Step 2) ++ (Crash 2 ∷ Call 1 Scan ∷ replicate 13 (Step 1)))

abbrev unwritten : Word
unwritten = record { datum = 0; seq = 0; id = 0; toggle = 0; handshakes = []; view = 0 ∷ 0 ∷ [] }

abbrev written : Word
written = record { datum = 5; seq = 1; id = 0; toggle = 0; handshakes = []; view = 0 ∷ 0 ∷ [] }

abbrev after_crash : State
after_crash = record {
  memory = record { words = unwritten ∷ written ∷ []; q = []; p = []; views = [] };
  processes =
      record {
        status = Idle;
        locals = record {
          scalars = (j, 1) ∷ (c, 0) ∷ [];
          rows = (moved, 0 ∷ 0 ∷ []) ∷ [];
          words = (a, unwritten ∷ written ∷ []) ∷ (b, unwritten ∷ written ∷ []) ∷ [];
          views = (s, 0 ∷ 5 ∷ []) ∷ [];
        };
      }
      ∷ record {
        status = Crashed (Some (record { op = Update 2 5; line = 33; link = None }));
        locals = record {
          scalars = (j, 1) ∷ (c, 1) ∷ [];
          rows = (moved, 0 ∷ 0 ∷ []) ∷ [];
          words = (a, unwritten ∷ unwritten ∷ []) ∷ (b, unwritten ∷ unwritten ∷ []) ∷ [];
          views = (s, 0 ∷ 0 ∷ []) ∷ [];
        };
      }
      ∷ [];
}

crash_leaves : state (run_of 2 crash_and_scan) 32 ≡ after_crash
crash_leaves = refl

abbrev Asked : ℕ → Type 0
Asked = IsValue (run_of 2 crash_and_scan) 32

five_asked : Asked 5
five_asked = inr (1, 2, 2, omega arith, refl, refl)

abbrev Within : Word → Type 0
Within = IsWordWithin (limits 2 32) (square 2) Asked

unwritten_within : Within unwritten
unwritten_within = record {
  datum = inl refl;
  seq = omega arith;
  id = omega arith;
  toggle = omega arith;
  handshakes = (omega arith, tt);
  view = (omega arith, (inl refl, (inl refl, tt)));
}

written_within : Within written
written_within = record {
  datum = five_asked;
  seq = omega arith;
  id = omega arith;
  toggle = omega arith;
  handshakes = (omega arith, tt);
  view = (omega arith, (inl refl, (inl refl, tt)));
}

-- All that is there is within the limits, what the crashed process was at too.
after_crash_within : IsStateWithin (limits 2 32) listing_u (square 2) Asked after_crash
after_crash_within = record {
  memory = record {
    words = (omega arith, (unwritten_within, (written_within, tt)));
    q = (omega arith, tt);
    p = (omega arith, tt);
    views = (omega arith, tt);
  };
  processes = (
    omega arith,
    (
      record {
        status = tt;
        locals = record {
          scalars = (omega arith, (omega arith, tt));
          rows = ((omega arith, (omega arith, (omega arith, tt))), tt);
          words = (
            (omega arith, (unwritten_within, (written_within, tt))),
            ((omega arith, (unwritten_within, (written_within, tt))), tt),
          );
          views = ((omega arith, (inl refl, (five_asked, tt))), tt);
        };
      },
      (
        record {
          status = record { op = ((omega arith, omega arith), five_asked); line = refl; link = tt };
          locals = record {
            scalars = (omega arith, (omega arith, tt));
            rows = ((omega arith, (omega arith, (omega arith, tt))), tt);
            words = (
              (omega arith, (unwritten_within, (unwritten_within, tt))),
              ((omega arith, (unwritten_within, (unwritten_within, tt))), tt),
            );
            views = ((omega arith, (inl refl, (inl refl, tt))), tt);
          };
        },
        tt,
      ),
    ),
  );
}

-- Item 17 is the write, and the one by which a sequence number grows.
number_grows : (executes (run_of 2 crash_and_scan) 2 32 17 ≡ true)
    × (sequence_numbers (state (run_of 2 crash_and_scan) 16) ≡ 0 ∷ 0 ∷ [])
    × (sequence_numbers (state (run_of 2 crash_and_scan) 17) ≡ 0 ∷ 1 ∷ [])
number_grows = (refl, refl, refl)

-- Process 2 updates twice while process 1 scans: the scan sees two moves, which is the limit of row `moved`.
abbrev scan_borrows : List Item
scan_borrows =
    Call 1 Scan ∷ (replicate 6 (Step 1) ++ (Call 2 (Update 2 5) ∷ (replicate 17 (Step 2)
    ++ (replicate 12 (Step 1) ++ (Call 2 (Update 2 6) ∷ (replicate 17 (Step 2) ++ replicate 9 (Step 1)))))))

moves_reach_limit : row_place (process_at (state (run_of 2 scan_borrows) 61) 1).locals moved 2 ≡ 2
moves_reach_limit = refl
