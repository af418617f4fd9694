-- `certified_has_certificate` of snap_certify (src/certificates.rt): the proof of what its contract says.
use Rattle.snap_certify.specs.Certification.{certificate_of, write_line}
use Rattle.snap_certify.proofs.Sound.{certificate_is}
use Rattle.snap_certify.proofs.certificates.certified_has_certificate.Goals as goal

pub returns : goal.returns
returns c = λ r fits e is.
    let cert = certificate_is r fits e is in
    (cert, c.certified_is_linearizable.ensures (write_line r) r (λ valid. (certificate_of r e, cert)))
