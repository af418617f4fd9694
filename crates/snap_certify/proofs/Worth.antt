-- What a certification is made of, and what it is worth.
use Rattle.std.specs.Prelude.{◌≡◌, List, length, Option, None, Result, Ok, Err, IsOk, OnOk, ℕ}
use Rattle.std.proofs.Common.{sym, ◌∙◌, arith}
use Rattle.snap_semantics.specs.Schedule.{Schedule}
use Rattle.snap_semantics.specs.Source.{Source}
use Rattle.snap_runs.specs.Linearization.{IsLinearizable}
use Rattle.snap_runs.specs.Run.{Run, IsValidRun, run_over}
use Rattle.snap_certify.specs.Certificate.{IsCertificate}
use Rattle.snap_certify.specs.Certification.{CertifiedHasCertificate, Evidence, certificate_of, certification_of}
use Rattle.snap_certify.specs.Certification.{write_line, writes}
use Rattle.snap_certify.specs.declared.found.Missing.{Missing}
use Rattle.snap_certify.specs.declared.found.UpdateWrite.{UpdateWrite}
use Rattle.snap_certify.specs.Finding.{pointed, so_far}

-- where nothing is missing of all items of a run
pub lacks_nothing : (r : Run) (line : ℕ) (missing : Option Missing) (ws : List UpdateWrite) → line ≡ write_line r →
    writes r line (length r.items) ≡ so_far missing ws → missing ≡ None → pointed r line ws ≡ certification_of r
lacks_nothing r line missing ws at found is = rw (← at, found, is)

-- a run over a schedule that has its shape and its items
pub same_run : (r : Run) (l : Source) (s : Schedule) → l ≡ r.source → s.shape ≡ r.shape → s.items ≡ r.items →
    run_over l s ≡ r
same_run r l s source shape items = rw (source, shape, items)

-- what holds of an answer, and what follows
pub on_both : {X E P Q R : Type 0} (res : Result X E) → (P → Q → R) → OnOk res P → OnOk res Q → OnOk res R
on_both res f p q = grind arith

-- what a certification is worth
pub has_certificate : CertifiedHasCertificate → (r : Run) → IsValidRun r → (x : Result Evidence Missing) →
    x ≡ certification_of r → (e : Evidence) → x ≡ Ok e → IsCertificate (write_line r) r (certificate_of r e)
has_certificate law r fits x is e some = (law r fits e (sym is ∙ some)).0

pub has_order : CertifiedHasCertificate → (r : Run) → IsValidRun r → (x : Result Evidence Missing) →
    x ≡ certification_of r → IsOk x → IsLinearizable r
has_order law r fits (Ok e) is ok = (law r fits e (sym is)).1
has_order law r fits (Err m) is ok = absurd cc
