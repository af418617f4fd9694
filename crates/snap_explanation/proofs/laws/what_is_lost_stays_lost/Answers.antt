-- `what_is_lost_stays_lost` of snap_explanation (src/laws.rt): the proof of what its contract says.
use Rattle.std.proofs.Common.{false, arith}
use Rattle.snap_explanation.specs.Lost.{parts_of_line}
use Rattle.snap_explanation.proofs.Stays.{stays}
use Rattle.snap_explanation.proofs.laws.what_is_lost_stays_lost.Goals as goal

pub returns : goal.returns
returns c = λ sort front t rest more p e f.
    stays front t rest more 0 (record { parts = parts_of_line sort; places = false }) p e (omega (arith, f))
