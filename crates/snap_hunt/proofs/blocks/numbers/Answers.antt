-- `numbers` of snap_hunt (src/blocks.rt): the proof of what its contract says.
use Rattle.std.proofs.Common.{◌≡◌, ℕ, zero, suc, ◌+◌, List, [], ◌∷◌, ◌++◌, ap, arith}
use Rattle.std.specs.List.{range_with_len}
use Rattle.snap_hunt.proofs.blocks.numbers.Goals as goal

one_more : (from k : ℕ) → range_with_len from (k + 1) ≡ range_with_len from k ++ (from + k) ∷ []
one_more from zero =
    let e : from ≡ from + zero = omega arith in
    ap (λ n. n ∷ []) e
one_more from (suc k) =
    let e : suc k + 1 ≡ suc (k + 1) = omega arith in
    let f : from + 1 + k ≡ from + suc k = omega arith in
    cc (one_more (from + 1) k)

pub loop-k-preserved : goal.loop-k-preserved
loop-k-preserved c = cc (one_more c.args.from c.loop-k.k, c.in_ok-push.ensures.items, c.loop-k.invariant)
