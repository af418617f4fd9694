-- `certified_exactly` of snap_certify (src/certificates.rt): the proof of what its contract says.
use Rattle.std.specs.Prelude.{◌≡◌, Ok, Err, IsOk, Result, refl}
use Rattle.snap_runs.specs.Run.{Run, IsValidRun}
use Rattle.snap_certify.specs.Certificate.{Certificate, IsCertificate}
use Rattle.snap_certify.specs.Certification.{Evidence, certificate_of, certification_of, write_line}
use Rattle.snap_certify.specs.declared.found.Missing.{Missing}
use Rattle.snap_certify.proofs.Sound.{certificate_is}
use Rattle.snap_certify.proofs.Complete.{is_certified}
use Rattle.snap_certify.proofs.certificates.certified_exactly.Goals as goal

-- a certified run has a certificate
by_answer : (r : Run) → IsValidRun r → (x : Result Evidence Missing) → certification_of r ≡ x → IsOk x →
    (c : Certificate) × IsCertificate (write_line r) r c
by_answer r fits (Ok e) is h = (certificate_of r e, certificate_is r fits e is)
by_answer r fits (Err missing) is h = absurd cc

pub returns : goal.returns
returns c = λ r fits. (
  by_answer r fits (certification_of r) refl,
  λ x. is_certified r fits ((c.certified_by_points.ensures (write_line r) r).0 (λ valid. x)),
)
