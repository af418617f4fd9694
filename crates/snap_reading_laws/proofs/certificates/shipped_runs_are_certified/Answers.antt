-- `shipped_runs_are_certified` of snap_reading_laws (src/certificates.rt): the proof of what its contract says.
use Rattle.snap_reading_laws.proofs.certificates.Kept.{of_promises}
use Rattle.snap_reading_laws.proofs.certificates.shipped_runs_are_certified.Goals as goal

pub returns : goal.returns
returns c = of_promises c.points_certify.ensures c.shipped_runs_keep_promises.ensures
