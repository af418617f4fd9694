-- `write_text` of snapdraw (src/answers.rt): the proof of what its contract says.
use Rattle.std.proofs.Common.{refl}
use Rattle.snapdraw.proofs.answers.write_text.Goals as goal

pub returns-in-Ok : goal.returns-in-Ok
returns-in-Ok g c = (c.args.text.now, refl, c.in-Ok.ensures.sends)

pub returns-in-Err : goal.returns-in-Err
returns-in-Err g c = (c.args.text.now, refl, (c.in-Err.unsent, c.in-Err.ensures.sends, refl))
