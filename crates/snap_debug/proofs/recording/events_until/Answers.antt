-- `events_until` of snap_debug (src/recording.rt): the proof of what its contract says.
use Rattle.std.proofs.Common.{◌<◌, subst, sym, ◌∙◌}
use Rattle.snap_semantics.specs.declared.event.Event.{Event}
use Rattle.snap_debug.proofs.Recordings.{first_events, until_end, until_here}
use Rattle.snap_debug.proofs.recording.events_until.Goals as goal

pub returns-then-events-k : goal.returns-then-events-k
returns-then-events-k c = λ r all.
    let e = c.index-events-k.result in
    let later = subst (λ (x : Event). c.args.position < x.item) (sym c.index-events-k.is) c.if-events-k.true in
    sym (until_here c.args.position c.loop-k.k c.args.events.now e c.loop-k.invariant
    c.loop-k-test.true c.index-events-k.is later)
    ∙ first_events r c.args.position c.args.events.now all

pub returns : goal.returns
returns c = λ r all.
    sym (until_end c.args.position c.loop-k.k c.args.events.now c.loop-k.invariant c.loop-k-test.false)
    ∙ first_events r c.args.position c.args.events.now all
