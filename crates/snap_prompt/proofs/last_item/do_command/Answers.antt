-- `do_command` of snap_prompt (src/last_item.rt): the proof of what its contract says.
use Rattle.std.proofs.Common.{ℕ, List}
use Rattle.snap_prompt.proofs.KeepsRun.{keeps_run}
use Rattle.snap_prompt.proofs.last_item.do_command.Goals as goal

pub returns-clause-run : goal.returns-clause-run
returns-clause-run g c =
    keeps_run (λ (r : List ℕ). r) c.command.result c.args.session.now c.command.new.self
    c.args.command.now c.command.ensures.obeys
