-- `places_text` of snap_certify (src/text.rt): what holds at the head of each of its loops.
use Rattle.std.proofs.Common.{◌≡◌, ◌++◌, drop, false}
use Rattle.snap_certify.specs.CertificationText.{places_text}
use Rattle.snap_certify.proofs.text.places_text.Given as goal

abbrev pub invariant-loop-scan : goal.invariant-loop-scan
invariant-loop-scan l =
    l.out.failed ≡ false →
    (l.fn.out.failed ≡ false)
    × (l.out.text ++ places_text (drop l.next l.writes) (drop l.scan-index l.scans)
    ≡ l.fn.out.text ++ places_text l.writes l.scans)
