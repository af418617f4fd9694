-- `overwritten` of snap_machine (src/overwrites.rt): the proof of what its contract says.
use Rattle.std.proofs.Common.{arith, refl}
use Rattle.snap_machine.specs.SeenPlaces.{seen_place}
use Rattle.snap_machine.proofs.States.{sized_at, undone}
use Rattle.snap_machine.proofs.overwrites.overwritten.Goals as goal

pub item_place-requires-after_bounds : goal.item_place-requires-after_bounds
item_place-requires-after_bounds g c κs within =
    let as_word = g.K.Kind.as_word in
    let s = c.args.program.now in
    record {
      kind = c.requires.kind;
      shape_is = refl;
      memory = c.shape-shape.ensures.of_shape;
      locals =
          sized_at as_word s c.args.registers.now.shape c.args.processes.now c.who-i.result c.index-processes-i.result
          (omega arith) c.index-processes-i.is c.requires.sized;
    }

pub returns-clause-back : goal.returns-clause-back
returns-clause-back g c =
    let as_word = g.K.Kind.as_word in
    undone as_word c.args.program.now c.args.registers.now.shape c.args.registers.now.memory c.args.processes.now
    c.args.item c.who-i.result c.index-processes-i.result
    (seen_place as_word c.in_ok-place.place) c.who-i.ensures
    (omega arith) c.index-processes-i.is c.in_ok-place.ensures.back
