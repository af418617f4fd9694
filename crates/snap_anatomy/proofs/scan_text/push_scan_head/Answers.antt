-- `push_scan_head` of snap_anatomy (src/scan_text.rt): the proof of what its contract says. The text is read back from
-- its last piece to its first.
use Rattle.std.proofs.Common.{append_assoc}
use Rattle.snap_anatomy.specs.ScanText.{scan_head}
use Rattle.snap_anatomy.proofs.scan_text.push_scan_head.Goals as goal

pub returns : goal.returns
unfolding scan_head
returns c = λ well.
    let e5 = c.push_place_field-3.ensures well in
    let e4 = c.push_place_field-2.ensures e5.0 in
    let e3 = c.push_place_field.ensures e4.0 in
    let e2 = c.push_number.ensures e3.0 in
    let e1 = c.push.ensures e2.0 in
    (e1.0, rw (e5.1, e4.1, e3.1, e2.1, e1.1, c.from.ensures) (simp append_assoc))
