-- `Items::push_single` of snap_sched (src/items.rt): the proof of what its contract says.
use Rattle.snap_sched.specs.Kept.{segments_of}
use Rattle.snap_sched.proofs.Keeping.{single_added}
use Rattle.snap_sched.proofs.items.Items.push_single.Goals as goal

pub invariant_of-self-2 : goal.invariant_of-self-2
invariant_of-self-2 c =
    let x = c.self.inside in
    (single_added x.segments.items c.push.new.self.items x.singles.items c.reserve.new.self.items
    c.push_reserved.new.self.items x.len x.stepping (segments_of x.segments.items x.singles.items x.len)
    c.args.self.now c.args.process c.args.what c.self.invariant c.self.view_is c.requires.fits
    c.in_ok-push.ensures.items c.in_ok-reserve.ensures.items c.push_reserved.ensures.items).keeps

pub returns-clause-added : goal.returns-clause-added
returns-clause-added c =
    let x = c.self.inside in
    (single_added x.segments.items c.push.new.self.items x.singles.items c.reserve.new.self.items
    c.push_reserved.new.self.items x.len x.stepping (segments_of x.segments.items x.singles.items x.len)
    c.args.self.now c.args.process c.args.what c.self.invariant c.self.view_is c.requires.fits
    c.in_ok-push.ensures.items c.in_ok-reserve.ensures.items c.push_reserved.ensures.items).are

pub returns-clause-fits : goal.returns-clause-fits
returns-clause-fits c =
    let x = c.self.inside in
    (single_added x.segments.items c.push.new.self.items x.singles.items c.reserve.new.self.items
    c.push_reserved.new.self.items x.len x.stepping (segments_of x.segments.items x.singles.items x.len)
    c.args.self.now c.args.process c.args.what c.self.invariant c.self.view_is c.requires.fits
    c.in_ok-push.ensures.items c.in_ok-reserve.ensures.items c.push_reserved.ensures.items).keeps.fits
