-- The bounds of M at work on runs by one and by two processes, by computing.
use Rattle.std.proofs.Common.{◌≡◌, ℕ, List, [], ◌∷◌, ◌++◌, replicate, refl, arith, inl, inr}
use Rattle.snap_runs.proofs.Common.{Word, Item, Step, Call, Scan, Update, State, process_at, state}
use Rattle.snap_semantics.specs.declared.process.Status.TheVariants.{Idle}
use Rattle.snap_runs.specs.Bounded.{IsValue, IsWordWithin, IsStateWithin}
use Rattle.snap_runs.specs.Promises.{row_place}
use Rattle.snap_runs_of_m.specs.Bounded.{limits}
use Rattle.snap_runs_of_m.specs.ListingM.{listing_m, j, k, x, moved, g, h, d, tog, a, b, s}
use Rattle.snap_runs_of_m.specs.Promises.{counts, run_of}

-- One process updates the one word to 7.
abbrev update_alone : List Item
update_alone = Call 1 (Update 1 7) ∷ replicate 30 (Step 1)

abbrev unwritten : Word
unwritten = record { datum = 0; seq = 0; id = 0; toggle = 0; handshakes = []; view = [] }

abbrev written : Word
written = record { datum = 7; seq = 0; id = 1; toggle = 1; handshakes = []; view = [] }

abbrev after_update : State
after_update = record {
  memory = record { words = written ∷ []; q = (1 ∷ []) ∷ []; p = (1 ∷ []) ∷ []; views = (0 ∷ []) ∷ [] };
  processes = record {
    status = Idle;
    locals = record {
      scalars = (j, 1) ∷ (k, 1) ∷ (x, 1) ∷ [];
      rows = (moved, 0 ∷ []) ∷ (g, 1 ∷ []) ∷ (h, 1 ∷ []) ∷ (d, 0 ∷ []) ∷ (tog, 1 ∷ []) ∷ [];
      words = (a, unwritten ∷ []) ∷ (b, unwritten ∷ []) ∷ [];
      views = (s, 0 ∷ []) ∷ [];
    };
  } ∷ [];
}

update_leaves : state (run_of 1 1 update_alone) 31 ≡ after_update
update_leaves = refl

abbrev Asked : ℕ → Type 0
Asked = IsValue (run_of 1 1 update_alone) 31

abbrev Within : Word → Type 0
Within = IsWordWithin (limits 1 1) (counts 1 1) Asked

unwritten_within : Within unwritten
unwritten_within = record {
  datum = inl refl;
  seq = omega arith;
  id = omega arith;
  toggle = omega arith;
  handshakes = (omega arith, tt);
  view = (omega arith, tt);
}

written_within : Within written
written_within = record {
  datum = inr (1, 1, 1, omega arith, refl, refl);
  seq = omega arith;
  id = omega arith;
  toggle = omega arith;
  handshakes = (omega arith, tt);
  view = (omega arith, tt);
}

-- All that is there is within the limits.
after_update_within : IsStateWithin (limits 1 1) listing_m (counts 1 1) Asked after_update
after_update_within = record {
  memory = record {
    words = (omega arith, (written_within, tt));
    q = (omega arith, ((omega arith, (omega arith, tt)), tt));
    p = (omega arith, ((omega arith, (omega arith, tt)), tt));
    views = (omega arith, ((omega arith, (inl refl, tt)), tt));
  };
  processes = (
    omega arith,
    (
      record {
        status = tt;
        locals = record {
          scalars = (omega arith, (omega arith, (omega arith, tt)));
          rows = (
            (omega arith, (omega arith, tt)),
            (
              (omega arith, (omega arith, tt)),
              (
                (omega arith, (omega arith, tt)),
                ((omega arith, (omega arith, tt)), ((omega arith, (omega arith, tt)), tt)),
              ),
            ),
          );
          words = ((omega arith, (unwritten_within, tt)), ((omega arith, (unwritten_within, tt)), tt));
          views = ((omega arith, (inl refl, tt)), tt);
        };
      },
      tt,
    ),
  );
}

-- Process 2 updates three times while process 1 scans: the scan sees three moves, which is the limit of row `moved`.
abbrev scan_borrows : List Item
scan_borrows =
    Call 1 Scan ∷ (replicate 13 (Step 1) ++ (Call 2 (Update 1 5)
    ∷ (replicate 40 (Step 2) ++ (replicate 28 (Step 1) ++ (Call 2 (Update 1 6) ∷ (replicate 40 (Step 2)
    ++ (replicate 28 (Step 1) ++ (Call 2 (Update 1 7) ∷ (replicate 40 (Step 2) ++ replicate 19 (Step 1))))))))))

moves_reach_limit : row_place (process_at (state (run_of 2 1 scan_borrows) 210) 1).locals moved 2 ≡ 3
moves_reach_limit = refl
