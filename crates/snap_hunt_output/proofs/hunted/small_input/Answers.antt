-- `small_input` of snap_hunt_output (src/hunted.rt).
use Rattle.snap_hunt_output.proofs.Finding.{fails_over}
use Rattle.snap_hunt_output.proofs.hunted.small_input.Goals as goal

pub shrunk-requires : goal.shrunk-requires
shrunk-requires c =
    fails_over c.args.program.now c.args.plan.now c.args.asked.now.wanted c.with_only-alike.result c.args.asked.now.seed
    c.args.found.now.run c.in_ok-schedule.schedule c.args.found.now.failure c.kind-kind.result c.in_ok-schedule.ensures
    c.shape-shape.ensures.schedule c.kind-kind.ensures c.with_only-alike.ensures c.requires
