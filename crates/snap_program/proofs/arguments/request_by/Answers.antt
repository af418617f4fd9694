-- `request_by` of snap_program (src/arguments.rt): the proof of what its contract says.
use Rattle.std.proofs.Common.{sym}
use Rattle.clap.specs.Matches.{found_of}
use Rattle.snap_program.proofs.OfSubcommand.{asked_by_subcommand}
use Rattle.snap_program.proofs.arguments.request_by.Goals as goal

pub returns-clause-asked : goal.returns-clause-asked
returns-clause-asked c =
    asked_by_subcommand c.args.matches.now c.in_ok-name.name.now (found_of c.in_ok-name.arguments.now) c.asked_by.result
    (sym c.in_ok-name.ensures.name) (sym c.in_ok-name.ensures.rows) c.asked_by.ensures.asked
