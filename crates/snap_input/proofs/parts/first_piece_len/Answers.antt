-- `first_piece_len` of snap_input (src/parts.rt): the proof of what its contract says.
use Rattle.std.proofs.Common.{take, drop}
use Rattle.snap_input.proofs.Splits.{first_ends, first_goes_on}
use Rattle.snap_input.proofs.parts.first_piece_len.Goals as goal

pub returns-else-plain-gt0-clause-ends : goal.returns-else-plain-gt0-clause-ends
returns-else-plain-gt0-clause-ends c =
    let bytes = c.args.bytes.now in
    let len = c.first_line_len.result in
    first_ends bytes (take len bytes) (drop len bytes) c.first_line_len.ensures.line c.first_line_len.ensures.rest

pub returns-else-plain-gt0-clause-goes_on : goal.returns-else-plain-gt0-clause-goes_on
returns-else-plain-gt0-clause-goes_on c =
    let bytes = c.args.bytes.now in
    let len = c.first_line_len.result in
    first_goes_on bytes (take len bytes) (drop len bytes) c.first_line_len.ensures.line c.first_line_len.ensures.rest
