-- `push_broken` of snap_explanation (src/explain.rt): the proof of what its contract says.
use Rattle.std.proofs.Common.{append_assoc}
use Rattle.snap_explanation.proofs.explain.push_broken.Goals as goal

pub returns : goal.returns
returns c = λ well.
    let e = c.push-2.ensures well in
    let d = c.push.ensures e.0 in (d.0, rw (e.1, d.1, c.rule.ensures) (simp append_assoc))
