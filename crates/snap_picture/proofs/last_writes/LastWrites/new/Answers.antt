-- `LastWrites::new` of snap_picture (src/last_writes.rt): the proof of what its contract says.
use Rattle.snap_picture.proofs.LastPlaces.{none_yet}
use Rattle.snap_picture.proofs.last_writes.LastWrites.new.Goals as goal

pub returns : goal.returns
returns c = λ ss. none_yet ss
