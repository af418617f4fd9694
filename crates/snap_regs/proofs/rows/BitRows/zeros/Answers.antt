-- `BitRows::zeros` of snap_regs (src/rows.rt): the proof of what its contract says.
use Rattle.std.proofs.Common.{◌≡◌, ◌∙◌, ◌*◌, ap, List, Bool, false, replicate, rules}
use Rattle.snap_regs.specs.Rows.{rows_of}
use Rattle.snap_regs.proofs.RowsOfBits.{rows_of-zeros}
use Rattle.snap_regs.proofs.rows.BitRows.zeros.Goals as goal

pub returns : goal.returns
returns c =
    let clear : c.in_ok-vec.field-0.items ≡ replicate (c.args.rows * c.args.columns) false = search rules in
    ap (λ (bits : List Bool). rows_of c.args.rows c.args.columns bits) clear ∙ rows_of-zeros c.args.rows c.args.columns
