-- `copy_processes` of snap_machine (src/copies.rt): the proof of what its contract says.
use Rattle.std.proofs.Common.{map, ap, ◌∙◌}
use Rattle.snap_machine.specs.SeenProcesses.{seen_process}
use Rattle.snap_machine.proofs.Passed.{one_copied, all_passed}
use Rattle.snap_machine.proofs.copies.copy_processes.Goals as goal

pub loop-process-preserved : goal.loop-process-preserved
loop-process-preserved g c s =
    let seen = seen_process {K = g.row.K.Denot} g.K.Kind.as_word s in
    one_copied seen seen c.push.new.self.items c.loop-process.copies.items c.args.processes.now
    c.in_ok-copy_process.field-0 c.loop-process.process-index c.process-item.result c.in_ok-push.ensures.items
    c.loop-process-test.true (c.loop-process.invariant s) (c.in_ok-copy_process.ensures s ∙ ap seen c.process-item.is)

pub returns : goal.returns
returns g c s =
    let seen = seen_process {K = g.row.K.Denot} g.K.Kind.as_word s in
    all_passed seen (map seen c.loop-process.copies.items) c.args.processes.now c.loop-process.process-index
    c.loop-process-test.false (c.loop-process.invariant s)
