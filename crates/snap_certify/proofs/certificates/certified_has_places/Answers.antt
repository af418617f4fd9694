-- `certified_has_places` of snap_certify (src/certificates.rt): the proof of what its contract says.
use Rattle.snap_certify.proofs.Certifying.{has_places}
use Rattle.snap_certify.proofs.certificates.certified_has_places.Goals as goal

pub returns : goal.returns
returns c = has_places c.placed_by_points.ensures
