-- `is_candidate` of snap_refutation (src/sights.rt).
use Rattle.std.proofs.Common.{ℕ, Option, subst}
use Rattle.snap_refutation.specs.Operations.{kept}
use Rattle.snap_refutation.specs.Sights.{IsOutOfSight, MaySee}
use Rattle.snap_refutation.proofs.Seeing.{out_of_sight, past_beginning}
use Rattle.snap_refutation.proofs.sights.is_candidate.Goals as goal

pub returns-in-Some : goal.returns-in-Some
returns-in-Some c = λ no may.
    out_of_sight (kept c.args.operations.now) c.args.sight.now c.in-Some.place c.requires
    (subst (IsOutOfSight c.args.sight.now) c.operation_at.ensures (c.may_have_seen.ensures no))
    (subst (λ (o : Option ℕ). MaySee (kept c.args.operations.now) c.args.sight.now o) c.in-Some.is may)

pub returns-in-None : goal.returns-in-None
returns-in-None c = λ no may.
    past_beginning (kept c.args.operations.now) c.args.sight.now c.requires (c.may_have_seen_beginning.ensures no)
    (subst (λ (o : Option ℕ). MaySee (kept c.args.operations.now) c.args.sight.now o) c.in-None.is may)
