-- `hunted_of` of snap_hunt_output (src/hunted.rt).
use Rattle.std.proofs.Common.{List, ℕ, subst}
use Rattle.snap_hunt_output.specs.Hunted.{Says}
use Rattle.snap_hunt_output.proofs.Finding.{found_by}
use Rattle.snap_hunt_output.proofs.hunted.hunted_of.Goals as goal

pub returns-clause-hunted : goal.returns-clause-hunted
returns-clause-hunted c =
    let small = c.in_ok-small.small in
    found_by c.args.program.now c.args.listing.now c.args.asked.now c.in-Some.found small.failure small.input.items
    c.args.plan.now c.kind.result c.with_only-alike.result c.requires.plan
    (rw c.in-Some.is at c.requires.first) c.in_ok-small.ensures.alike c.kind.ensures c.with_only-alike.ensures
    c.in_ok-small.ensures.printed
    (subst (λ (x : List ℕ). Says c.with_only-alike.result x small.failure) c.as_slice.ensures.value
    c.in_ok-check.ensures.says)
