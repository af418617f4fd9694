-- `certify` of snap_certify (src/certification.rt): the proof of what its contract says.
use Rattle.std.proofs.Common.{◌≡◌}
use Rattle.std.specs.Prelude.{IsOk, Ok}
use Rattle.snap_runs.specs.Linearization.{IsLinearizable}
use Rattle.snap_certify.specs.Certificate.{IsCertificate}
use Rattle.snap_certify.specs.Certification.{Evidence, certificate_of, certification_of}
use Rattle.snap_certify.specs.Certification.{seen_certification, write_line}
use Rattle.std.proofs.lemmas.Result.{IfOk-weaker}
use Rattle.snap_certify.proofs.Worth.{has_certificate, has_order}
use Rattle.snap_certify.proofs.certification.certify.Goals as goal

pub returns-clause-certificate : goal.returns-clause-certificate
returns-clause-certificate g c =
    let r = c.args.history.now in
    IfOk-weaker c.conclude.result (λ x. seen_certification x ≡ certification_of r)
    (λ x. (e : Evidence) → seen_certification x ≡ Ok e → IsCertificate (write_line r) r (certificate_of r e))
    (λ x is. has_certificate c.certified_has_certificate.ensures r c.items-items.ensures.fits (seen_certification x) is)
    c.conclude.ensures

pub returns-clause-linearizable : goal.returns-clause-linearizable
returns-clause-linearizable g c =
    let r = c.args.history.now in
    IfOk-weaker c.conclude.result (λ x. seen_certification x ≡ certification_of r)
    (λ x. IsOk (seen_certification x) → IsLinearizable r)
    (λ x is. has_order c.certified_has_certificate.ensures r c.items-items.ensures.fits (seen_certification x) is)
    c.conclude.ensures
