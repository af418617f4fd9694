-- `changing_line` of snap_certify (src/line.rt): the proof of what its contract says.
use Rattle.std.proofs.Common.{sym, ◌∙◌}
use Rattle.snap_certify.proofs.Passing.{seeks_on, sought, told_change}
use Rattle.snap_certify.proofs.line.changing_line.Goals as goal

pub returns-in-Some-changed : goal.returns-in-Some-changed
returns-in-Some-changed g c =
    let h = c.loop-values.invariant in
    let d = rw c.in-Some.is at c.in_ok-passed.ensures.passed in
    sought _ _ _ _ _ h d _ (sym c.in-Some-changed.is ∙ told_change _ _ _ _ _ h d _ _ _ _ c.as_slice-in-Some.ensures
    c.as_slice.ensures.value c.in_ok-roles.ensures (rw c.in-Some.is at c.in_ok-passed.ensures.activity)
    c.in_ok-changed.ensures)

pub loop-values-preserved-in_default-changed : goal.loop-values-preserved-in_default-changed
loop-values-preserved-in_default-changed g c =
    let h = c.loop-values.invariant in
    let d = rw c.in-Some.is at c.in_ok-passed.ensures.passed in
    seeks_on _ _ _ _ _ h d (sym c.in_default-changed.is ∙ told_change _ _ _ _ _ h d _ _ _ _
    c.as_slice-in-Some.ensures c.as_slice.ensures.value c.in_ok-roles.ensures
    (rw c.in-Some.is at c.in_ok-passed.ensures.activity) c.in_ok-changed.ensures)

pub loop-values-preserved : goal.loop-values-preserved
loop-values-preserved g c =
    let h = c.loop-values.invariant in
    let d = rw c.in-Some.is at c.in_ok-passed.ensures.passed in
    seeks_on _ _ _ _ _ h d (sym c.in_default-changed.is ∙ told_change _ _ _ _ _ h d _ _ _ _
    c.as_slice-in-Some.ensures c.as_slice.ensures.value c.in_ok-roles.ensures
    (rw c.in-Some.is at c.in_ok-passed.ensures.activity) c.in_ok-changed.ensures)
