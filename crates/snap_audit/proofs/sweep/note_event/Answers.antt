-- `note_event` of snap_audit (src/sweep.rt): the proof of what its contract says.
use Rattle.std.proofs.Common.{◌≡◌, ℕ, List, ◌-◌, suc, drop, get_or, ap, ◌∙◌}
use Rattle.snap_runs.specs.declared.verdict.Verdict.{Verdict}
use Rattle.snap_audit.specs.Sweep.{least_by}
use Rattle.snap_audit.specs.declared.caller.Caller.{Caller}
use Rattle.snap_audit.proofs.Sweeping.{answer_swept, call_swept}
use Rattle.snap_audit.proofs.sweep.note_event.Goals as goal

pub returns-in-Call : goal.returns-in-Call
returns-in-Call c = λ r left counted h.
    call_swept r c.args.changes.now c.args.callers.now.items c.args.verdicts.now.items c.args.event.now left h
    c.in-Call.field-0 c.go_on.new.self c.args.collects c.index_mut.result.now c.in-Call.is counted c.go_on.ensures.call
    c.go_on.ensures.collects (λ u le. rw c.index_mut.ensures.value at (c.go_on.ensures.values u le))

pub returns-in_ok-push-in-Answer : goal.returns-in_ok-push-in-Answer
returns-in_ok-push-in-Answer c = λ r left counted h.
    let xs = c.args.changes.now in
    let cs = c.args.callers.now.items in
    let e = c.args.event.now in
    let d = c.index-caller.result.now in
    let v = c.in_ok-verdict-in-Answer.verdict in
    let of : Caller → List ℕ → Verdict = λ x view. record {
      process = e.process;
      call = x.call;
      answer = e.item;
      point = least_by x.values (drop x.next xs) view x.call (suc (e.item - x.call));
      collects = c.args.collects - x.collects;
    } in
    let given : v ≡ of (get_or cs (e.process - 1) d) c.in-Answer.view =
    c.in_ok-verdict-in-Answer.ensures ∙ ap (of d) c.as_slice.ensures
    ∙ ap (λ x. of x c.in-Answer.view) c.index-caller.ensures in
    rw c.in_ok-push-in-Answer.ensures.items (answer_swept r xs cs c.args.verdicts.now.items e left h c.in-Answer.view v
    c.args.collects d c.in-Answer.is counted given)
