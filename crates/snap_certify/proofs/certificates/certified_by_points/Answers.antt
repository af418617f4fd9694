-- `certified_by_points` of snap_certify (src/certificates.rt): the proof of what its contract says.
use Rattle.snap_certify.proofs.Certifying.{by_points}
use Rattle.snap_certify.proofs.certificates.certified_by_points.Goals as goal

pub returns : goal.returns
returns c = by_points
