-- `changes_make_the_new_text` of snap_text (src/change_laws.rt): the proof of what its contract says.
use Rattle.std.proofs.Common.{refl, []}
use Rattle.snap_text.proofs.Putting.{put_from, real_from}
use Rattle.snap_text.proofs.change_laws.changes_make_the_new_text.Goals as goal

pub returns-clause-make : goal.returns-clause-make
returns-clause-make c xs ys = put_from 0 [] xs ys refl

pub returns-clause-real : goal.returns-clause-real
returns-clause-real c xs ys = real_from 0 [] [] xs ys refl refl
