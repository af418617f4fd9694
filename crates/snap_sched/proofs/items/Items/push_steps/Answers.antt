-- `Items::push_steps` of snap_sched (src/items.rt): the proof of what its contract says.
use Rattle.std.proofs.Common.{◌<◌, arith}
use Rattle.snap_sched.specs.Kept.{segments_of}
use Rattle.snap_sched.proofs.Keeping.{same_process, other_process, steps_added, steps_joined}
use Rattle.snap_sched.proofs.items.Items.push_steps.Goals as goal

pub invariant_of-self : goal.invariant_of-self
invariant_of-self c =
    let x = c.self.inside in
    let some : 0 < c.args.count = omega (arith, c.if-count-eq0.false) in
    (steps_joined x.segments.items x.singles.items x.len x.stepping
    (segments_of x.segments.items x.singles.items x.len) c.args.self.now c.args.process c.args.count
    c.self.invariant c.self.view_is (same_process x.stepping c.args.process c.if-eq.ensures) some).keeps

pub returns-then-eq-clause-added : goal.returns-then-eq-clause-added
returns-then-eq-clause-added c =
    let x = c.self.inside in
    let some : 0 < c.args.count = omega (arith, c.if-count-eq0.false) in
    (steps_joined x.segments.items x.singles.items x.len x.stepping
    (segments_of x.segments.items x.singles.items x.len) c.args.self.now c.args.process c.args.count
    c.self.invariant c.self.view_is (same_process x.stepping c.args.process c.if-eq.ensures) some).are

pub returns-then-eq-clause-fits : goal.returns-then-eq-clause-fits
returns-then-eq-clause-fits c =
    let x = c.self.inside in
    let some : 0 < c.args.count = omega (arith, c.if-count-eq0.false) in
    (steps_joined x.segments.items x.singles.items x.len x.stepping
    (segments_of x.segments.items x.singles.items x.len) c.args.self.now c.args.process c.args.count
    c.self.invariant c.self.view_is (same_process x.stepping c.args.process c.if-eq.ensures) some).keeps.fits

pub invariant_of-self-2 : goal.invariant_of-self-2
invariant_of-self-2 c =
    let x = c.self.inside in
    let some : 0 < c.args.count = omega (arith, c.if-count-eq0.false) in
    (steps_added x.segments.items c.push.new.self.items x.singles.items x.len x.stepping
    (segments_of x.segments.items x.singles.items x.len) c.args.self.now c.args.process c.args.count
    c.self.invariant c.self.view_is c.in_ok-push.ensures.items
    (other_process x.stepping c.args.process c.if-eq.ensures) some).keeps

pub returns-clause-added : goal.returns-clause-added
returns-clause-added c =
    let x = c.self.inside in
    let some : 0 < c.args.count = omega (arith, c.if-count-eq0.false) in
    (steps_added x.segments.items c.push.new.self.items x.singles.items x.len x.stepping
    (segments_of x.segments.items x.singles.items x.len) c.args.self.now c.args.process c.args.count
    c.self.invariant c.self.view_is c.in_ok-push.ensures.items
    (other_process x.stepping c.args.process c.if-eq.ensures) some).are

pub returns-clause-fits : goal.returns-clause-fits
returns-clause-fits c =
    let x = c.self.inside in
    let some : 0 < c.args.count = omega (arith, c.if-count-eq0.false) in
    (steps_added x.segments.items c.push.new.self.items x.singles.items x.len x.stepping
    (segments_of x.segments.items x.singles.items x.len) c.args.self.now c.args.process c.args.count
    c.self.invariant c.self.view_is c.in_ok-push.ensures.items
    (other_process x.stepping c.args.process c.if-eq.ensures) some).keeps.fits
