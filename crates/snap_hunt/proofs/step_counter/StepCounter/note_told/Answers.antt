-- `StepCounter::note_told` of snap_hunt (src/step_counter.rt).
use Rattle.std.proofs.Common.{rules, ◌≡◌, ◌-◌, length, vec_len, refl, ◌∙◌, arith}
use Rattle.std.proofs.lemmas.List.{length-set}
use Rattle.snap_hunt.proofs.Counting.{busy_told, left_behind}
use Rattle.snap_hunt.proofs.Watching.{few_steps, watches_next}
use Rattle.snap_hunt.proofs.step_counter.StepCounter.note_told.Goals as goal

pub overflow_add-self : goal.overflow_add-self
overflow_add-self g c = omega (arith, c.requires.1.done, c.requires.1.few, c.requires.1.within)

pub note-found-requires-clause-process : goal.note-found-requires-clause-process
note-found-requires-clause-process g c = rw c.requires.1.steps.count c.requires.2.process

pub note-found-requires-clause-few : goal.note-found-requires-clause-few
note-found-requires-clause-few g c =
    let s = c.args.self.now in
    let v = c.requires.0 in
    let h = c.requires.1 in
    few_steps v.run s.most v.at _ s.owns.items s.overrun h.steps c.requires.2.process (omega (arith, h.few, h.within))

pub index_mut-requires : goal.index_mut-requires
index_mut-requires g c =
    let s = c.args.self.now in
    let len : vec_len s.busy ≡ length s.busy.items = search rules in
    omega (arith, c.requires.1.count, c.requires.2.process, c.who-process.ensures, len)

pub returns-clause-counted : goal.returns-clause-counted
returns-clause-counted g c =
    let s = c.args.self.now in
    let v = c.requires.0 in
    let is = c.requires.2 in
    let h = c.requires.1 in
    let i = c.who-process.result in
    let b = c.is_busy.result in
    rw is.way (record {
      valid = h.valid;
      few = h.few;
      done = omega (arith, h.done);
      most_is = h.most_is;
      within = is.left;
      left =
          left_behind v.run v.at c.next-told.result s.ahead c.next-told.new.self is.left h.left
          c.next-told.ensures.steps;
      steps =
          rw c.first-self.ensures (watches_next v.run s.most v.at s.owns.items c.note-found.new.owns.items s.overrun
          c.note-found.result (rw is.item at is.process)
          (λ d. rw (is.outcome, is.item, is.number) at (c.note-found.ensures.owns d))
          (λ d. rw (is.outcome, is.item, is.number) at (c.note-found.ensures.result d)) h.steps);
      count = length-set s.busy.items (i - 1) b ∙ h.count;
      busy = λ j one d. rw c.who-process.ensures (busy_told v c.args.walk.now c.args.passed.now s.most s b h is
          (rw (c.is_busy.ensures, c.status.ensures, c.who-process.ensures, c.machine.ensures.state) refl) j one d);
    })
