-- `push_laid_out` of snap_text (src/layout.rt): the proof of what its contract says.
use Rattle.std.proofs.Common.{codes}
use Rattle.snap_text.specs.Tokens.{view_tokens}
use Rattle.snap_text.proofs.Ends.{line_pushed}
use Rattle.snap_text.proofs.layout.push_laid_out.Goals as goal

pub returns : goal.returns
returns c =
    line_pushed c.push_text.result (codes "\n") c.args.out.now.items c.push_tokens.new.out.items
    c.push_text.new.out.items (view_tokens c.args.tokens.now)
    c.in_ok-push_tokens.ensures c.push_text.ensures
