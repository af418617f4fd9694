-- `later_hider` of snap_refutation (src/sights.rt).
use Rattle.std.proofs.Common.{refl}
use Rattle.snap_judge.specs.Kept.{operation_of}
use Rattle.snap_refutation.specs.Operations.{kept}
use Rattle.snap_refutation.proofs.Seeing.{update_among}
use Rattle.snap_refutation.proofs.sights.later_hider.Goals as goal

pub returns-then-is_later : goal.returns-then-is_later
returns-then-is_later c = λ known.
    let h = c.hides.ensures c.if-hides.true in
    record {
      hider = operation_of c.operation_at-operation.result;
      among = update_among (kept c.args.operations.now) c.args.place c.args.word
          (operation_of c.operation_at-operation.result) c.operation_at-operation.ensures h.0;
      sets = h.0;
      before = h.1;
      called = refl;
    }
