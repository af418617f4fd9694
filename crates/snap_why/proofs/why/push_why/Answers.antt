-- `push_why` of snap_why (src/why.rt): the proof of what its contract says.
use Rattle.std.proofs.Common.{◌∙◌, length, refl}
use Rattle.snap_runs.specs.Run.{run_over}
use Rattle.snap_why.specs.Answer.{answer_lines}
use Rattle.snap_why.specs.Why.{trap_or_nothing, trapped_at}
use Rattle.snap_why.proofs.Told.{is_told}
use Rattle.snap_why.proofs.why.push_why.Goals as goal
use Rattle.snap_why.proofs.why.push_why.Goals.{in-Some-trapped_in+in_ok-record-in-Some-trapped_in, in-None}

pub returns-in-Some : goal.returns-in-Some
returns-in-Some g c =
    let ss = c.as_slice-in-Some.result.now in
    let point = c.as_slice-in-Some-2.result.now in
    is_told (run_over c.args.program.now c.args.schedule.now) c.args.item ss c.as_slice.result.now
    c.verdict_with.result (answer_lines ss (length ss) c.in-Some.verdict c.args.item point)
    (c.as_slice-in-Some.ensures.value ∙ c.in_ok-steps.ensures)
    (c.as_slice.ensures.value ∙ c.in_ok-verdicts.ensures) c.verdict_with.ensures
    (rw c.in-Some.is (point, rw c.as_slice-in-Some-2.ensures.value c.in_ok-point.ensures, refl))
    c.args.out.now c.push_answer.new.out c.push_answer.ensures

pub returns : goal.returns
returns g c =
    let r = run_over c.args.program.now c.args.schedule.now in
    let ss = c.in_ok-steps.steps.items in
    let process = rw c.as_slice-2.ensures.value at c.trapped_in.ensures.process in
    let told = is_told r c.args.item ss c.as_slice.result.now c.verdict_with.result
    (trap_or_nothing r ss c.args.item (trapped_at ss c.args.item)) c.in_ok-steps.ensures
    (c.as_slice.ensures.value ∙ c.in_ok-verdicts.ensures) c.verdict_with.ensures (rw c.in_default.is refl)
    c.args.out.now in
    elim c.match-trapped_in.branch [
      | in-Some-trapped_in+in_ok-record-in-Some-trapped_in w ↦
          let record_is = w.in_ok-record-in-Some-trapped_in.ensures in
          let adds = rw w.machine.ensures at w.push_trap.ensures in
          rw w.out-is (told w.push_trap.new.out
          (rw (← process, w.in-Some-trapped_in.is, ← record_is.state, ← record_is.source, ← record_is.shape) adds))
      | in-None w ↦
          let adds = rw w.as_slice-in-None.ensures.value at w.push_nothing_at.ensures in
          rw w.out-is (told w.push_nothing_at.new.out (rw (← process, w.in-None.is) adds))
    ]
