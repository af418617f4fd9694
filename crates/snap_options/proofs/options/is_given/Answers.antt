-- `is_given` of snap_options (src/options.rt): the proof of what its contract says.
use Rattle.snap_options.proofs.Read.{flag_read}
use Rattle.snap_options.proofs.options.is_given.Goals as goal

pub returns : goal.returns
returns c = flag_read _ _ c.get_flag.ensures.none c.get_flag.ensures.value c.get_flag.ensures.other
