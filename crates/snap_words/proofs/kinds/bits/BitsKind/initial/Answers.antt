-- The invariant of a new word of kind bits: its handshake bits are zeros, and so they are bits.
use Rattle.snap_words.proofs.Words.{list_all_bits-replicate}
use Rattle.snap_words.proofs.kinds.bits.BitsKind.initial.Goals as goal

pub invariant_of-result : goal.invariant_of-result
invariant_of-result c = record { bits = rw c.zeros.ensures (list_all_bits-replicate c.process_count.result) }
