-- What is found in a run is found in it too where nothing of another kind is asked for.
use Rattle.std.proofs.Common.{◌≡◌, inl, inr, ℕ, zero, suc, Bool, true, false, List, [], ◌∷◌, Option, Some, None}
use Rattle.std.proofs.Common.{length, if◌then◌else◌, refl, sym, ap, arith, subst}
use Rattle.snap_semantics.specs.Rules.{or_else}
use Rattle.snap_semantics.specs.State.{State}
use Rattle.snap_runs.specs.Audit.{audit}
use Rattle.snap_runs.specs.Run.{Run, state}
use Rattle.snap_runs.specs.declared.verdict.Verdict.{Verdict}
use Rattle.snap_hunt.specs.declared.failures.Failure.{Failure}
use Rattle.snap_hunt.specs.declared.failures.FailureKind.{FailureKind}
use Rattle.snap_hunt.specs.declared.failures.FailureKind.TheVariants as kind
use Rattle.snap_hunt.specs.declared.failures.StepBound.{StepBound}
use Rattle.snap_hunt.specs.declared.failures.Wanted.{Wanted}
use Rattle.snap_hunt.specs.Failing.{first_seen, first_trap, long_of, many_collects, many_of, most_steps}
use Rattle.snap_hunt.specs.Failing.{no_point, of_collects, of_points, of_steps, of_traps, overrun_at}
use Rattle.snap_hunt.specs.Finding.{Finds, IsJudgedIf}
use Rattle.snap_hunt.specs.Kinds.{kind_of, with_only}
use Rattle.snap_hunt.proofs.Operations.{found_at, one_of, overrun_some}

points : (vs : List Verdict) (f : Failure) → no_point vs ≡ Some f → kind_of f ≡ kind.Point
points [] f e = absurd cc
points (v ∷ vs) f e = grind (arith, points vs f)

collects : (most : ℕ) (vs : List Verdict) (f : Failure) → many_collects most vs ≡ Some f → kind_of f ≡ kind.Collects
collects most [] f e = absurd cc
collects most (v ∷ vs) f e = grind (arith, collects most vs f)

traps : (S : State) (i more : ℕ) (f : Failure) → first_trap S i more ≡ Some f → kind_of f ≡ kind.Trap
traps S i zero f e = absurd cc
traps S i (suc more) f e = grind (arith, traps S (suc i) more f)

where_asked : (b : Bool) (o : Option Failure) (f : Failure) → (if b then o else None) ≡ Some f → o ≡ Some f
where_asked b o f e = grind arith

long : (r : Run) (b : Option StepBound) (f : Failure) → long_of r b ≡ Some f → kind_of f ≡ kind.Steps
long r None f e = absurd cc
long r (Some b) f e =
    let most = most_steps r.source.kind r.shape b in
    let found = found_at (overrun_at r most) (length r.items) f e in
    ap kind_of (overrun_some most _ (suc found.0) _ _ f found.2).2

many : (vs : List Verdict) (b : Option ℕ) (f : Failure) → many_of vs b ≡ Some f → kind_of f ≡ kind.Collects
many vs None f e = absurd cc
many vs (Some most) f e = collects most vs f e

-- of a kind, and of that alone
of_kind : (w : Wanted) (r : Run) (f : Failure) (k : FailureKind) → kind_of f ≡ k →
    IsJudgedIf (with_only k w).linearizable r None → first_seen (with_only k w) r ≡ Some f →
    Finds (with_only (kind_of f) w) r (Some f)
of_kind w r f k e none is = rw e (record { judged = None; is_judged = none; is = sym is })

seen : (w : Wanted) (r : Run) (f : Failure) → first_seen w r ≡ Some f → Finds (with_only (kind_of f) w) r (Some f)
seen w r f e =
    let vs = audit r in
    let S = state r (length r.items) in
    elim (one_of (of_points w vs) _ f e) [
      | inl is ↦
          of_kind w r f kind.Point (points vs f (where_asked w.point (no_point vs) f is)) refl
          (ap (λ o. or_else o None) is)
      | inr later ↦ elim (one_of (of_traps w S r.shape.n) _ f later) [
        | inl is ↦
            of_kind w r f kind.Trap (traps S 1 r.shape.n f (where_asked w.trap (first_trap S 1 r.shape.n) f is)) refl
            (ap (λ o. or_else o None) is)
        | inr last ↦ elim (one_of (of_steps w r) (of_collects w vs) f last) [
          | inl is ↦ of_kind w r f kind.Steps (long r w.steps f is) refl (ap (λ o. or_else o None) is)
          | inr is ↦ of_kind w r f kind.Collects (many vs w.collects f is) refl is
        ]
      ]
    ]

judged_kind : (b : Bool) (r : Run) (g : Failure) → IsJudgedIf b r (Some g) → kind_of g ≡ kind.Linearizable
judged_kind true r g h = ap kind_of h.2
judged_kind false r g h = absurd cc

by_judgement : (w : Wanted) (r : Run) (judged : Option Failure) (f : Failure) → IsJudgedIf w.linearizable r judged →
    Some f ≡ or_else judged (first_seen w r) → Finds (with_only (kind_of f) w) r (Some f)
by_judgement w r None f h e = seen w r f (sym e)
by_judgement w r (Some g) f h e =
    let same : f ≡ g = cc in
    rw (same, judged_kind w.linearizable r g h) (record { judged = Some g; is_judged = h; is = refl })

pub alike : (w : Wanted) (r : Run) (f : Failure) → Finds w r (Some f) → Finds (with_only (kind_of f) w) r (Some f)
alike w r f h = by_judgement w r h.judged f h.is_judged h.is
