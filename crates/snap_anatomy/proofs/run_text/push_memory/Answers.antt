-- `push_memory` of snap_anatomy (src/run_text.rt): the proof of what its contract says. The text is read back from its
-- last piece to its first.
use Rattle.std.proofs.Common.{append_assoc}
use Rattle.snap_anatomy.specs.AnatomyText.{memory_json}
use Rattle.snap_anatomy.proofs.run_text.push_memory.Goals as goal

pub returns : goal.returns
unfolding memory_json
returns c = λ well.
    let e3 = c.push-2.ensures well in
    let e2 = c.push_bands.ensures e3.0 in
    let e1 = c.push.ensures e2.0 in
    (e1.0, rw (e3.1, e2.1, e1.1) (simp append_assoc))
