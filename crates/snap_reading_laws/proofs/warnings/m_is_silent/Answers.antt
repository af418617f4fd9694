-- `m_is_silent` of snap_reading_laws (src/warnings.rt): the proof of what its contract says.
use Rattle.std.proofs.Common.{refl}
use Rattle.snap_lint.specs.Marks.{reached}
use Rattle.snap_lint.specs.Warnings.{warnings}
use Rattle.snap_reading_laws.proofs.warnings.m_is_silent.Goals as goal

pub returns : goal.returns
unfolding reached warnings
returns c = refl
