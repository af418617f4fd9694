-- `mask_of` of snap_words (src/handshakes.rt): what holds at the head of each of its loops.
use Rattle.std.proofs.Common.{◌≡◌, ◌-◌, ◌<◌, drop, length}
use Rattle.std.specs.Prelude.{◌^◌}
use Rattle.snap_words.specs.Handshakes.{mask_bits}
use Rattle.snap_words.proofs.handshakes.mask_of.Given as goal

abbrev pub invariant-loop-done : goal.invariant-loop-done
invariant-loop-done l = (l.mask < 2 ^ l.done) × (mask_bits l.done l.mask ≡ drop (length l.bits - l.done) l.bits)
