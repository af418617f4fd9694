-- `ReversibleMachine::step_on` of snap_debug (src/reversible_machine.rt): the proof of what its contract says.
use Rattle.std.proofs.Common.{◌+◌, refl, sym}
use Rattle.snap_debug.proofs.ReversibleMachines.{leads_on}
use Rattle.snap_debug.proofs.Recordings.{checkpoint_next}
use Rattle.snap_debug.proofs.reversible_machine.ReversibleMachine.step_on.Goals as goal

pub returns-clause-leads : goal.returns-clause-leads
returns-clause-leads g c =
    let r = c.args.recording.now.run in
    let old = c.args.self.now in
    let next = c.item-item.ensures in
    let did = c.in_ok-outcome.ensures in
    let came =
    checkpoint_next r old.current (record { machine = c.apply_undo.new.self; position = old.current.position + 1 })
    c.item-item.result c.in_ok-outcome.outcome
    c.requires.leads.stands next.within next.item did.done did.source did.shape refl in
    leads_on r old (record {
      current = record { machine = c.apply_undo.new.self; position = old.current.position + 1 };
      done = c.push_reserved.new.self;
    })
    (record { outcome = c.in_ok-outcome.outcome; undo = c.in_ok-outcome.undo }) c.requires.leads came.0 refl
    (rw (sym c.in_ok-reserve.ensures.items) c.push_reserved.ensures.items) came.1 did.fits did.back
