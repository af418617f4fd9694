-- `certified_is_linearizable` of snap_certify (src/certificates.rt): the proof of what its contract says.
use Rattle.snap_certify.proofs.Certifying.{is_linearizable}
use Rattle.snap_certify.proofs.certificates.certified_is_linearizable.Goals as goal

pub returns : goal.returns
returns c = is_linearizable c.linearizable_by_points.ensures
