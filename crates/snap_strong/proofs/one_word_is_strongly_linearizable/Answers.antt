-- `one_word_is_strongly_linearizable` of snap_strong (src/lib.rt): the proof of what its contract says.
use Rattle.snap_strong.proofs.OneWordStays.{one_word_is_strongly_linearizable_lem}
use Rattle.snap_strong.proofs.one_word_is_strongly_linearizable.Goals as goal

pub returns : goal.returns
returns c = one_word_is_strongly_linearizable_lem
