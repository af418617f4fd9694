-- `read_line` of snap_streams (src/typed_line.rt): what holds at the head of each of its loops.
use Rattle.std.specs.Prelude.{◌≡◌, false}
use Rattle.snap_streams.specs.Talks.{HasKept, HasTaken}
use Rattle.snap_streams.proofs.typed_line.read_line.Given as goal

-- what was kept so far, and what is left
abbrev pub invariant-loop-count : goal.invariant-loop-count
invariant-loop-count g l = record {
  well : (g.R.ByteSource.state l.reader).failed ≡ false;
  kept : HasKept (g.R.ByteSource.state l.fn.reader).left (g.R.ByteSource.state l.reader).left l.line.items;
  taken : HasTaken l._count (g.R.ByteSource.state l.fn.reader).left (g.R.ByteSource.state l.reader).left;
}
