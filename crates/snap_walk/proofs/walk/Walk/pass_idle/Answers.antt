-- `Walk::pass_idle` of snap_walk (src/walk.rt): the proof of what its contract says.
use Rattle.std.proofs.Common.{arith}
use Rattle.snap_walk.proofs.Walks.{few_done, few_skipped, idle_within, passes_idle, walks_idle}
use Rattle.snap_walk.proofs.walk.Walk.pass_idle.Goals as goal

pub overflow_add-self : goal.overflow_add-self
overflow_add-self g c =
    let w = c.self.inside in
    let few =
    few_done c.args.quiet.now w.machine w.schedule.now w.done w.skipped c.pass_alike-count.result w.ahead
    c.pass_alike-count.new.self c.args.self.now c.self.invariant c.self.view_is c.pass_alike-count.ensures.alike
    c.pass_alike-count.ensures.some c.requires.idle in
    omega (arith, few)

pub overflow_add-self-2 : goal.overflow_add-self-2
overflow_add-self-2 g c =
    let w = c.self.inside in
    let few =
    few_skipped c.args.quiet.now w.machine w.schedule.now w.done w.skipped c.pass_alike-count.result w.ahead
    c.pass_alike-count.new.self c.args.self.now c.self.invariant c.self.view_is c.pass_alike-count.ensures.alike
    c.pass_alike-count.ensures.some c.requires.idle in
    omega (arith, few)

pub invariant_of-self : goal.invariant_of-self
invariant_of-self g c =
    let w = c.self.inside in
    walks_idle c.args.quiet.now w.machine w.schedule.now w.done w.skipped c.pass_alike-count.result w.ahead
    c.pass_alike-count.new.self c.args.self.now c.self.invariant c.self.view_is c.pass_alike-count.ensures.alike
    c.pass_alike-count.ensures.some c.requires.idle

pub returns-clause-over : goal.returns-clause-over
returns-clause-over g c =
    let w = c.self.inside in
    passes_idle c.args.quiet.now w.machine w.schedule.now w.done w.skipped c.pass_alike-count.result w.ahead
    c.pass_alike-count.new.self c.args.self.now c.self.invariant c.self.view_is c.pass_alike-count.ensures.alike
    c.pass_alike-count.ensures.some c.requires.idle

pub returns-clause-within : goal.returns-clause-within
returns-clause-within g c =
    let w = c.self.inside in
    idle_within c.args.quiet.now w.machine w.schedule.now w.done w.skipped c.pass_alike-count.result w.ahead
    c.pass_alike-count.new.self c.args.self.now c.self.invariant c.self.view_is c.pass_alike-count.ensures.alike
    c.pass_alike-count.ensures.some c.requires.idle
