-- `TerminalConsole::say` of snap_streams (src/terminal.rt): the proof of what its contract says.
use Rattle.snap_streams.proofs.Parts.{sent_in_part}
use Rattle.snap_streams.proofs.terminal.TerminalConsole.say.Goals as goal

pub returns-in_err-write_all-clause-shows : goal.returns-in_err-write_all-clause-shows
returns-in_err-write_all-clause-shows g c =
    sent_in_part c.from_residual.result _ _ (g.W.ByteSink.state c.args.self.now.writer)
    (g.W.ByteSink.state c.write_all.new.sink) _ c.from_residual.ensures c.in_err-write_all.ensures.sends
