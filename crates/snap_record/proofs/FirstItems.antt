-- The first t + 1 items of a history are its first t and then the next one.
use Rattle.std.proofs.Common.{◌≡◌, ℕ, ◌+◌, ◌-◌, ◌<◌, ◌++◌, true, List, [], ◌∷◌, Some, length, take, get_or}
use Rattle.std.proofs.Common.{nat_lt, ◌∙◌, sym, ap, arith}
use Rattle.snap_runs.proofs.Computing.{lt_true}
use Rattle.std.proofs.lemmas.List.{take_more}
use Rattle.std.proofs.lemmas.Option.{slice_get-get_or}
use Rattle.snap_semantics.specs.declared.process.Item.{Item}
use Rattle.snap_semantics.specs.declared.process.Item.TheVariants.{Step}
use Rattle.snap_semantics.specs.Readers.{nth}

-- the item behind the first t
next_is : (xs : List Item) (t : ℕ) → t < length xs → nth (t + 1) xs ≡ Some (get_or xs t (Step 0))
next_is xs t below =
    let first : nat_lt 0 (t + 1) ≡ true = lt_true 0 (t + 1) (omega arith) in
    let behind : t + 1 - 1 ≡ t = omega arith in
    rw (first, behind) (slice_get-get_or xs t (Step 0) below)

-- the first t items and item t + 1 are the first t + 1
pub one_more : (xs items : List Item) (t : ℕ) (x : Item) → t < length xs → nth (t + 1) xs ≡ Some x →
    items ≡ take t xs ++ x ∷ [] → items ≡ take (t + 1) xs
one_more xs items t x below e is =
    let same : get_or xs t (Step 0) ≡ x = let found = next_is xs t below in cc in
    is ∙ ap (λ (y : Item). take t xs ++ y ∷ []) (sym same) ∙ sym (take_more xs t (Step 0) below)
