-- The operations that moves take from some event on may be taken there, are all, are in order in time, and are run by
-- the object.
use Rattle.std.proofs.Common.{ℕ, ◌-◌, ◌<◌, List, [], ◌∷◌, arith, slice_set}
use Rattle.snap_runs.specs.Operation.{Operation}
use Rattle.snap_runs.specs.Linearization.{RunsFrom, after}
use Rattle.snap_runs.proofs.Order.{Apart, Pairs}
use Rattle.snap_judge.specs.History.{History}
use Rattle.snap_judge.specs.Steps.{Explains, Move, Pass, Slot, Step, Take, Taken, passed, taken}
use Rattle.snap_judge.proofs.ExplainedLists.{each_weaker}
use Rattle.snap_judge.proofs.ExplainedTurns.{AreSound, Fits, Goes, SlotsAt, pass_slots, take_slots}
use Rattle.snap_judge.proofs.ExplainedPasses.{MayBeTaken, apart_from_taken, fits_before, fits_before_take}

-- The operations fit, no two are the same, they are in order in time, and the object runs them.
pub record Runs (h : History) (p : ℕ) (slots : List Slot) (values : List ℕ) (left : List Operation) : Type 0 where
  pub fits : Fits h p slots left
  pub pairs : Pairs Apart left
  pub runs : RunsFrom values left

module _ (h : History) (sound : AreSound h) where
  pub sound_moves : (moves : List Move) (xs : List Step) (p : ℕ) (values : List ℕ) (slots : List Slot) → Goes h xs p →
      SlotsAt h p slots → Explains moves xs values slots → Runs h p slots values (taken moves)
  sound_moves [] [] p values slots g s e = record {
    fits = record {
      each = tt;
      has = λ y t is end le. let lt : t < p = g.ended y t is end in absurd (omega arith);
    };
    pairs = tt;
    runs = tt;
  }
  sound_moves [] (x ∷ xs) p values slots g s e = absurd e
  sound_moves (Pass ∷ moves) [] p values slots g s e = absurd e
  sound_moves (Pass ∷ moves) (x ∷ xs) p values slots g s e =
      let next = sound_moves moves xs g.0 values (passed slots x) g.2
      (pass_slots h sound p g.0 x slots g.1 s) e.1 in
      record {
        fits = fits_before h sound p g.0 x slots (taken moves) g.1 s e.0 next.fits;
        pairs = next.pairs;
        runs = next.runs;
      }
  sound_moves (Take o ∷ moves) xs p values slots g s e =
      let next = sound_moves moves xs p (after values o.action) (slice_set slots (o.process - 1) (Taken o)) g
      (take_slots h sound p o slots s e.0) e.2 in
      record {
        fits = fits_before_take h sound p o slots (taken moves) s e.0 next.fits;
        pairs = (
          each_weaker (MayBeTaken h p (slice_set slots (o.process - 1) (Taken o))) (Apart o) (taken moves)
              (apart_from_taken h sound p o slots s e.0) next.fits.each,
          next.pairs,
        );
        runs = (e.1, next.runs);
      }
