-- `read_line` of snap_streams (src/typed_line.rt): the proof of what its contract says.
use Rattle.std.proofs.Common.{subst}
use Rattle.snap_streams.specs.TypedLines.{GivesNext}
use Rattle.snap_streams.proofs.Lines.{kept_on, line_at_end}
use Rattle.snap_streams.proofs.Parts.{byte_taken}
use Rattle.snap_streams.proofs.typed_line.read_line.Goals as goal

pub returns-then-byte-eq10-clause-line : goal.returns-then-byte-eq10-clause-line
returns-then-byte-eq10-clause-line g c =
    line_at_end _ _ _ _ _ _ c.loop-count.invariant.kept
    (subst
    (λ o. GivesNext o (g.R.ByteSource.state c.loop-count.reader).left
    (g.R.ByteSource.state c.next_byte.new.reader).left)
    c.in-Some.is c.in_ok-byte.ensures.byte)
    c.in_ok-keep_byte.ensures c.if-byte-eq10.true

pub loop-count-preserved : goal.loop-count-preserved
loop-count-preserved g c =
    let gives = subst
    (λ o. GivesNext o (g.R.ByteSource.state c.loop-count.reader).left
    (g.R.ByteSource.state c.next_byte.new.reader).left)
    c.in-Some.is c.in_ok-byte.ensures.byte in record {
      well = c.in_ok-byte.ensures.failed;
      kept =
          kept_on _ _ _ _ _ _ c.loop-count.invariant.kept gives c.in_ok-keep_byte.ensures c.if-byte-eq10.false;
      taken = byte_taken _ _ _ _ _ c.loop-count.invariant.taken gives;
    }
