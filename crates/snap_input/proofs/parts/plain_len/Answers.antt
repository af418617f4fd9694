-- `plain_len` of snap_input (src/parts.rt): the proof of what its contract says.
use Rattle.std.proofs.Common.{◌≡◌, ◌+◌, suc, take, subst, arith}
use Rattle.memchr.specs.Find.{IsFirstByte, IsLastByte, is_byte}
use Rattle.snap_input.proofs.Without.{IsPlain, all_are_plain, lines_are_plain}
use Rattle.snap_input.proofs.parts.plain_len.Goals as goal

pub returns-in_default-clause-parts : goal.returns-in_default-clause-parts
returns-in_default-clause-parts c =
    (all_are_plain c.args.bytes.now
    (subst (λ found. IsFirstByte (is_byte 37) c.args.bytes.now found) c.in_default.is c.memchr.ensures)).parts

pub returns-in-Some-memrchr-clause-parts : goal.returns-in-Some-memrchr-clause-parts
returns-in-Some-memrchr-clause-parts c =
    let bytes = c.args.bytes.now in
    let one : suc c.in-Some-memrchr.feed ≡ c.in-Some-memrchr.feed + 1 = omega arith in
    let plain = lines_are_plain bytes c.in-Some.sign c.in-Some-memrchr.feed
    (subst (λ found. IsFirstByte (is_byte 37) bytes found) c.in-Some.is c.memchr.ensures)
    (subst (λ found. IsLastByte (is_byte 10) (take c.in-Some.sign bytes) found) c.in-Some-memrchr.is c.memrchr.ensures) in
    (subst (IsPlain bytes) one plain).parts
