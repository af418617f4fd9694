-- `a_line_is_refused_for_the_token_found` of snap_reading_laws (src/laws.rt): the proof of what its contract says.
use Rattle.snap_reading_laws.proofs.FirstWrong.{refused_for_token}
use Rattle.snap_reading_laws.proofs.laws.a_line_is_refused_for_the_token_found.Goals as goal

pub returns : goal.returns
returns c = refused_for_token
