-- `what_is_laid_out_is_read` of snap_text (src/laws.rt): the proof of what its contract says.
use Rattle.snap_text.proofs.Laid.{laid_read}
use Rattle.snap_text.proofs.laws.what_is_laid_out_is_read.Goals as goal

pub returns : goal.returns
returns c = laid_read
