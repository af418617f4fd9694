-- `mask_of` of snap_words (src/handshakes.rt): the proof of what its contract says.
use Rattle.std.proofs.Common.{◌≡◌, suc, ◌-◌, ◌*◌, ◌≤◌, length, arith}
use Rattle.std.specs.Prelude.{◌^◌}
use Rattle.std.proofs.Math.Pow.{pow_mono}
use Rattle.std.proofs.Math.Nat.{pow-suc}
use Rattle.snap_words.proofs.HandshakeLists.{is_bit_at}
use Rattle.snap_words.proofs.handshakes.mask_of.Goals as goal

pub overflow_add-mask : goal.overflow_add-mask
overflow_add-mask c =
    let bit = is_bit_at c.args.bits.now (length c.args.bits.now - 1 - c.loop-done.done) c.requires.bits (omega arith) in
    let within : suc c.loop-done.done ≤ 64 = omega arith in
    let width : 2 ^ suc c.loop-done.done ≤ 2 ^ 64 = pow_mono within in
    let double : 2 ^ suc c.loop-done.done ≡ 2 ^ c.loop-done.done * 2 = pow-suc 2 c.loop-done.done in
    omega (arith, bit, width, double, c.loop-done.invariant.0)
