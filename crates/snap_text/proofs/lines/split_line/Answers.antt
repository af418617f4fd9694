-- `split_line` of snap_text (src/lines.rt): the proof of what its contract says.
use Rattle.std.proofs.Common.{◌<◌, length, arith}
use Rattle.snap_text.proofs.Splits.{ends_at, goes_on_at, whole_at}
use Rattle.snap_text.proofs.lines.split_line.Goals as goal

pub returns-then-bytes-len-eq10-clause-lines : goal.returns-then-bytes-len-eq10-clause-lines
returns-then-bytes-len-eq10-clause-lines c =
    let h : c.loop-len.len < length c.args.bytes.now = omega arith in
    ends_at c.args.bytes.now c.loop-len.len 0 h c.if-bytes-len-eq10.true c.loop-len.invariant.1

pub loop-len-preserved : goal.loop-len-preserved
loop-len-preserved c =
    let h : c.loop-len.len < length c.args.bytes.now = omega arith in
    (omega arith, goes_on_at c.args.bytes.now c.loop-len.len 0 h c.if-bytes-len-eq10.false c.loop-len.invariant.1)

pub returns-clause-lines : goal.returns-clause-lines
returns-clause-lines c =
    whole_at c.args.bytes.now c.loop-len.len c.requires (omega arith) c.loop-len.invariant.1
