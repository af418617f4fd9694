-- What is found where a run is judged, or where it is not; and verdicts that nobody asks for.
use Rattle.std.proofs.Common.{◌≡◌, ℕ, Bool, true, false, List, Option, Some, None, is_some, length}
use Rattle.std.proofs.Common.{refl, arith}
use Rattle.snap_runs.specs.Run.{Run}
use Rattle.snap_runs.specs.declared.verdict.Verdict.{Verdict}
use Rattle.snap_hunt.specs.declared.failures.Failure.{Failure}
use Rattle.snap_hunt.specs.declared.failures.Wanted.{Wanted}
use Rattle.snap_hunt.specs.Failing.{first_seen, many_of, no_point, of_collects, of_points}
use Rattle.snap_hunt.specs.Finding.{Finds, IsJudgedIf}

-- what was judged, where something was found
pub found_judged : (w : Wanted) (r : Run) (o : Option Failure) → IsJudgedIf w.linearizable r o → is_some o ≡ true →
    Finds w r o
found_judged w r o h e = record { judged = o; is_judged = h; is = grind arith }

-- what is seen is found, if nothing is judged to fail
pub found_seen : (w : Wanted) (r : Run) (o found : Option Failure) → IsJudgedIf w.linearizable r o →
    is_some o ≡ false → found ≡ first_seen w r → Finds w r found
found_seen w r None found h e is = record { judged = None; is_judged = h; is = is }
found_seen w r (Some f) found h e is = absurd cc

-- verdicts do not matter where nobody asks for them
pub no_points_asked : (w : Wanted) (vs us : List Verdict) → w.point ≡ false → of_points w vs ≡ of_points w us
no_points_asked w vs us h = cc

pub no_collects_asked : (w : Wanted) (vs us : List Verdict) → is_some w.collects ≡ false →
    of_collects w vs ≡ of_collects w us
no_collects_asked w vs us h = grind arith
