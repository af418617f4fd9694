-- `Recording::advance` of snap_debug (src/recording.rt): the proof of what its contract says.
use Rattle.std.proofs.Common.{◌+◌, refl}
use Rattle.snap_debug.proofs.Recordings.{checkpoint_next}
use Rattle.snap_debug.proofs.recording.Recording.advance.Goals as goal

pub returns-clause-stands : goal.returns-clause-stands
returns-clause-stands g c =
    let did = c.in_ok-outcome.ensures in
    let next = c.item-item.ensures in
    (checkpoint_next c.args.self.now.run c.args.current.now (record {
      machine = c.apply.new.self;
      position = c.args.current.now.position + 1;
    }) c.item-item.result c.in_ok-outcome.outcome
    c.requires.stands next.within next.item did.done did.source did.shape refl).0

pub returns-clause-outcome : goal.returns-clause-outcome
returns-clause-outcome g c =
    let did = c.in_ok-outcome.ensures in
    let next = c.item-item.ensures in
    (checkpoint_next c.args.self.now.run c.args.current.now (record {
      machine = c.apply.new.self;
      position = c.args.current.now.position + 1;
    }) c.item-item.result c.in_ok-outcome.outcome
    c.requires.stands next.within next.item did.done did.source did.shape refl).1
