-- `FindsNothing`: nothing is found in any run of a shipped listing, where a hunt asks for no bound on double collects,
-- and for none on steps that is too low (`StepsSuffice`).
use Rattle.std.specs.Prelude.{◌≡◌, ℕ, ◌≤◌, ⊤, true, Option, None, Some}
use Rattle.snap_words.specs.Kind.{fits}
use Rattle.snap_words.specs.Shape.{Counts}
use Rattle.snap_words.specs.declared.kind.KindTag.{KindTag}
use Rattle.snap_shipped.specs.Kept.{update_turns}
use Rattle.snap_shipped.specs.Shipped.{shipped}
use Rattle.snap_chance.specs.Plan.{IsPlan, Plan}
use Rattle.snap_hunt.specs.declared.failures.StepBound.{StepBound}
use Rattle.snap_hunt.specs.declared.failures.StepBound.TheVariants as bound
use Rattle.snap_hunt.specs.declared.failures.Wanted.{Wanted}
use Rattle.snap_hunt.specs.Finding.{Finds}
use Rattle.snap_hunt.specs.declared.failures.Failure.{Failure}
use Rattle.snap_hunt.specs.Hunt.{IsFirst, run_of}
use Rattle.snap_hunt.specs.declared.found.Found.{Found}

-- No bound on the steps of operations is asked for; or the usual one is; or one that is not below it.
abbrev pub StepsSuffice : KindTag → Counts → Option StepBound → Type 0
StepsSuffice g s None = ⊤
StepsSuffice g s (Some bound.Shipped) = ⊤
StepsSuffice g s (Some (bound.Given most)) = update_turns g s ≤ most

-- Where nothing is said of double collects, and steps suffice, nothing is ever found in a run of the listing that is
-- shipped for this kind.
abbrev pub FindsNothing : KindTag → Type 0
FindsNothing g =
    (p : Plan) (w : Wanted) (seed k : ℕ) (found : Option Failure) → IsPlan p → fits (shipped g).kind p.shape ≡ true →
    w.collects ≡ None → StepsSuffice g p.shape w.steps → Finds w (run_of (shipped g) p seed k) found → found ≡ None

-- No hunt comes to a run that fails.
abbrev pub HuntsFindNone : KindTag → Type 0
HuntsFindNone g =
    (p : Plan) (w : Wanted) (seed runs : ℕ) (first : Option Found) → IsPlan p →
    fits (shipped g).kind p.shape ≡ true → w.collects ≡ None → StepsSuffice g p.shape w.steps →
    IsFirst (shipped g) p w seed 0 runs first → first ≡ None
