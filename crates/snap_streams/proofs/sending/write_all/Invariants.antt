-- `write_all` of snap_streams (src/sending.rt): what holds at the head of each of its loops.
use Rattle.std.proofs.Common.{length, ◌-◌, ◌≡◌, ◌≤◌, false, take}
use Rattle.std.specs.Io.KnownBytes.{Appends}
use Rattle.snap_streams.proofs.sending.write_all.Given as goal

-- the first bytes are sent, and the sink takes more
abbrev pub invariant-loop-sent : goal.invariant-loop-sent
invariant-loop-sent g l = record {
  within : l.sent ≤ length l.text;
  well : (g.W.ByteSink.state l.sink).failed ≡ false;
  goes_on : (g.W.ByteSink.state l.initial.sink).stalled ≡ false → (g.W.ByteSink.state l.sink).stalled ≡ false;
  sent : Appends (g.W.ByteSink.state l.initial.sink).taken (g.W.ByteSink.state l.sink).taken (take l.sent l.text);
}

abbrev pub decreases-loop-sent : goal.decreases-loop-sent
decreases-loop-sent g l = length l.text - l.sent
