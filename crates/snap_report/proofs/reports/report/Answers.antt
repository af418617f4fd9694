-- `report` of snap_report (src/reports.rt): the proof of what its contract says. The text is read back from its last
-- piece to its first.
use Rattle.std.proofs.Common.{◌≡◌, ◌++◌, ℕ, List, append_assoc}
use Rattle.snap_report.specs.ReportLines.{first_line}
use Rattle.snap_report.proofs.reports.report.Goals as goal

-- five pieces, one after another
five : (o a b d e f u v w x y : List ℕ) → u ≡ o ++ a → v ≡ u ++ b → w ≡ v ++ d → x ≡ w ++ e → y ≡ x ++ f →
    y ≡ o ++ ((((a ++ b) ++ d) ++ e) ++ f)
five o a b d e f u v w x y p q r s t = rw (t, s, r, q, p) (simp append_assoc)

pub returns : goal.returns
returns g c = λ well.
    let e5 = c.event_lines.ensures well in
    let e4 = c.processes_lines.ensures e5.0 in
    let e3 = c.register_lines.ensures e4.0 in
    let e2 = c.values_line.ensures e3.0 in
    let e1 = c.first_line.ensures e2.0 in (
      e1.0,
      five c.args.out.now.text (first_line c.args.position c.args.total) _ _ _ _ c.first_line.new.out.text
          c.values_line.new.out.text c.register_lines.new.out.text c.processes_lines.new.out.text
          c.event_lines.new.out.text e1.1 e2.1 e3.1 e4.1 e5.1,
    )
