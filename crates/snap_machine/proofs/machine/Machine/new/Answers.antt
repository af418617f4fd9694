-- `Machine::new` of snap_machine (src/machine.rt): the proof of what its contract says.
use Rattle.std.proofs.Common.{◌≡◌, map, replicate, sym, subst}
use Rattle.std.proofs.lemmas.List.Elements.{All-replicate}
use Rattle.snap_semantics.specs.State.{Process, initial_process}
use Rattle.snap_machine.specs.SeenProcesses.{seen_process}
use Rattle.snap_machine.specs.Sizes.{AllSized, AreSized}
use Rattle.snap_machine.proofs.Replicas.{length_of_map}
use Rattle.snap_machine.proofs.Sizes.{AreSized-initial}
use Rattle.snap_machine.proofs.machine.Machine.new.Goals as goal

pub invariant_of-result : goal.invariant_of-result
invariant_of-result g c =
    let as_word = g.K.Kind.as_word in
    let s = c.args.program.now in
    let shape = c.args.shape in
    let processes = c.in_ok-processes.processes.items in
    let initial : map (seen_process as_word s) processes ≡ replicate shape.n (initial_process s shape) =
    subst (λ z. map (seen_process as_word z) processes ≡ replicate shape.n (initial_process z shape)) c.listing.ensures
    c.in_ok-processes.ensures in
    let sized : AllSized s shape (map (seen_process as_word s) processes) =
    subst (AllSized s shape) (sym initial)
    (All-replicate (λ (p : Process). AreSized s shape p.locals) shape.n (initial_process s shape)
    (AreSized-initial s shape)) in
    rw (c.in_ok-program.ensures, c.in_ok-registers.ensures.0)
    (record {
      kind = c.requires;
      process_count = length_of_map (seen_process as_word s) processes shape.n (initial_process s shape) initial;
      sized = sized;
    })
