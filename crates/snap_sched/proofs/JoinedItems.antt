-- Schedule items whose numbers have 64 bits (`FitsItem`): lists of them joined, and steps.
use Rattle.std.proofs.Common.{ℕ, zero, suc, List, [], ◌∷◌, ◌++◌, replicate}
use Rattle.std.specs.List.{AllByRecursion}
use Rattle.snap_semantics.specs.declared.process.Item.{Item}
use Rattle.snap_semantics.specs.declared.process.Item.TheVariants as item
use Rattle.snap_semantics.specs.ScheduleText.{FitsItem}

pub joined_fit : (xs ys : List Item) → AllByRecursion FitsItem xs → AllByRecursion FitsItem ys →
    AllByRecursion FitsItem (xs ++ ys)
joined_fit [] ys h g = g
joined_fit (x ∷ xs) ys h g = (h.0, joined_fit xs ys h.1 g)

pub steps_fit : (count i : ℕ) → AllByRecursion FitsItem (replicate count (item.Step i))
steps_fit zero i = tt
steps_fit (suc count) i = (tt, steps_fit count i)
