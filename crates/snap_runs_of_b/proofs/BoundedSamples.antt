-- The bounds of B at work on runs by one and by two processes, by computing.
use Rattle.std.proofs.Common.{◌≡◌, ℕ, zero, suc, List, [], ◌∷◌, ◌++◌, replicate, refl, ap, arith, inl, inr}
use Rattle.snap_runs.proofs.Common.{Word, Item, Step, Call, Scan, Update, State, process_at, state, item}
use Rattle.snap_semantics.specs.declared.process.Status.TheVariants.{Idle}
use Rattle.snap_runs.specs.Bounded.{IsValue, IsWordWithin, IsStateWithin}
use Rattle.snap_runs.specs.Promises.{row_place}
use Rattle.snap_runs.proofs.Within.{all_read, all_same}
use Rattle.snap_runs_of_b.specs.Bounded.{limits}
use Rattle.snap_runs_of_b.specs.ListingB.{listing_b, j, x, t, moved, g, f, a, b, s}
use Rattle.snap_runs_of_b.specs.Promises.{square, run_of}

-- One process updates its word to 7.
abbrev update_alone : List Item
update_alone = Call 1 (Update 1 7) ∷ replicate 21 (Step 1)

abbrev unwritten : Word
unwritten = record { datum = 0; seq = 0; id = 0; toggle = 0; handshakes = 0 ∷ []; view = 0 ∷ [] }

abbrev written : Word
written = record { datum = 7; seq = 0; id = 0; toggle = 1; handshakes = 1 ∷ []; view = 0 ∷ [] }

abbrev after_update : State
after_update = record {
  memory = record { words = written ∷ []; q = (0 ∷ []) ∷ []; p = []; views = [] };
  processes = record {
    status = Idle;
    locals = record {
      scalars = (j, 1) ∷ (x, 0) ∷ (t, 1) ∷ [];
      rows = (moved, 0 ∷ []) ∷ (g, 0 ∷ []) ∷ (f, 1 ∷ []) ∷ [];
      words = (a, unwritten ∷ []) ∷ (b, unwritten ∷ []) ∷ [];
      views = (s, 0 ∷ []) ∷ [];
    };
  } ∷ [];
}

update_leaves : state (run_of 1 update_alone) 22 ≡ after_update
update_leaves = refl

abbrev Asked : ℕ → Type 0
Asked = IsValue (run_of 1 update_alone) 22

seven_asked : Asked 7
seven_asked = inr (1, 1, 1, omega arith, refl, refl)

abbrev Within : Word → Type 0
Within = IsWordWithin (limits 1) (square 1) Asked

unwritten_within : Within unwritten
unwritten_within = record {
  datum = inl refl;
  seq = omega arith;
  id = omega arith;
  toggle = omega arith;
  handshakes = (omega arith, (omega arith, tt));
  view = (omega arith, (inl refl, tt));
}

written_within : Within written
written_within = record {
  datum = seven_asked;
  seq = omega arith;
  id = omega arith;
  toggle = omega arith;
  handshakes = (omega arith, (omega arith, tt));
  view = (omega arith, (inl refl, tt));
}

-- All that is there is within the limits.
after_update_within : IsStateWithin (limits 1) listing_b (square 1) Asked after_update
after_update_within = record {
  memory = record {
    words = (omega arith, (written_within, tt));
    q = (omega arith, ((omega arith, (omega arith, tt)), tt));
    p = (omega arith, tt);
    views = (omega arith, tt);
  };
  processes = (
    omega arith,
    (
      record {
        status = tt;
        locals = record {
          scalars = (omega arith, (omega arith, (omega arith, tt)));
          rows = (
            (omega arith, (omega arith, tt)),
            ((omega arith, (omega arith, tt)), ((omega arith, (omega arith, tt)), tt)),
          );
          words = ((omega arith, (unwritten_within, tt)), ((omega arith, (unwritten_within, tt)), tt));
          views = ((omega arith, (inl refl, tt)), tt);
        };
      },
      tt,
    ),
  );
}

-- What would not be: a toggle that was added to, and a value that nobody was asked to write.
toggle_too_large : Within (record { datum = 0; seq = 0; id = 0; toggle = 2; handshakes = 0 ∷ []; view = 0 ∷ [] }) → ⊥
toggle_too_large h = absurd (omega (arith, h.toggle))

abbrev value_of : Item → ℕ
value_of (Call i (Update word value)) = value
value_of _ = 0

no_call : (c i word : ℕ) → item (run_of 1 update_alone) c ≡ Call i (Update word 5) → ⊥
no_call zero i word is = absurd (cc)
no_call (suc zero) i word is = absurd (omega (arith, ap value_of is))
no_call (suc (suc c)) i word is =
    all_read (λ y. y ≡ Call i (Update word 5) → ⊥) (replicate 21 (Step 1)) c (Step 0)
    (all_same (λ y. y ≡ Call i (Update word 5) → ⊥) 21 (Step 1) (λ e. absurd (cc))) (λ e. absurd (cc)) is

five_unasked : Asked 5 → ⊥
five_unasked (inl none) = absurd (omega arith)
five_unasked (inr asked) = no_call asked.0 asked.1 asked.2 asked.4

-- Process 2 updates twice while process 1 scans: the scan sees two moves, which is the limit of row `moved`.
abbrev scan_borrows : List Item
scan_borrows =
    Call 1 Scan ∷ (replicate 14 (Step 1) ++ (Call 2 (Update 2 5) ∷ (replicate 32 (Step 2)
    ++ (replicate 20 (Step 1) ++ (Call 2 (Update 2 6) ∷ (replicate 32 (Step 2) ++ replicate 9 (Step 1)))))))

moves_reach_limit : row_place (process_at (state (run_of 2 scan_borrows) 107) 1).locals moved 2 ≡ 2
moves_reach_limit = refl
