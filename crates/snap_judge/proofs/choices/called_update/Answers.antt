-- `called_update` of snap_judge (src/choices.rt).
use Rattle.std.proofs.Common.{rules}
use Rattle.snap_judge.proofs.choices.called_update.Goals as goal

pub returns-in-Sees-clause-none : goal.returns-in-Sees-clause-none
returns-in-Sees-clause-none c = (c.in-Sees.field-0.now, search rules)
