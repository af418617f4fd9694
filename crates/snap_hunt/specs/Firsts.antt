-- The first of the items of a run with which something is found; and which items ask for an update.
use Rattle.std.specs.Prelude.{ℕ, zero, suc, Bool, true, false, Option, None}
use Rattle.snap_semantics.specs.declared.process.Item.{Item}
use Rattle.snap_semantics.specs.declared.process.Item.TheVariants.{Call}
use Rattle.snap_semantics.specs.declared.process.Op.TheVariants as op
use Rattle.snap_semantics.specs.Rules.{or_else}

-- whether an item asks for an update
abbrev pub asks_update : Item → Bool
asks_update (Call i (op.Update word value)) = true
asks_update _ = false

-- the first that is found with one of the items 1 to t
abbrev pub first_found : {A : Type 0} → (ℕ → Option A) → ℕ → Option A
first_found find zero = None
first_found find (suc t) = or_else (first_found find t) (find (suc t))
