-- `ReversibleMachine::step_back` of snap_debug (src/reversible_machine.rt): the proof of what its contract says.
use Rattle.std.proofs.Common.{◌≡◌, ◌+◌, ◌-◌, arith}
use Rattle.snap_debug.proofs.ReversibleMachines.{can_put, leads_back}
use Rattle.snap_debug.proofs.reversible_machine.ReversibleMachine.step_back.Goals as goal

pub revert-requires-after_bounds : goal.revert-requires-after_bounds
revert-requires-after_bounds g c κs within =
    let some = c.requires.some in
    let deep = c.requires.leads.1.within in
    can_put c.requires.leads.0 c.args.self.now c.pop.new.self.items c.in-Some.last c.requires.leads.1
    c.in-Some.ensures.items (omega (arith, some, deep))

pub returns-clause-leads : goal.returns-clause-leads
returns-clause-leads g c = λ r h.
    let old = c.args.self.now in
    let some = c.requires.some in
    let deep = h.within in
    let at : old.current.position - 1 + 1 ≡ old.current.position = omega (arith, some, deep) in
    let did = c.revert.ensures in
    leads_back r old (record {
      current = record { machine = c.revert.new.self; position = old.current.position - 1 };
      done = c.pop.new.self;
    }) c.in-Some.last h c.in-Some.ensures.items
    at did.source did.shape did.state
