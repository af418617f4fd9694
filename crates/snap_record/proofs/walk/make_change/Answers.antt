-- `make_change` of snap_record (src/walk.rt): the proof of what its contract says.
use Rattle.std.proofs.Common.{length, ap, arith, sym}
use Rattle.std.proofs.lemmas.List.{set_past}
use Rattle.snap_record.proofs.walk.make_change.Goals as goal

pub returns-else-place-as_slice : goal.returns-else-place-as_slice
returns-else-place-as_slice c =
    let same = ap length c.as_slice.ensures in
    let past = c.if-place-as_slice.false in
    sym (set_past c.args.values.now c.args.change.place c.args.change.value (omega (arith, same, past)))
