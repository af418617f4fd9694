-- The listing that is shipped for a kind (`shipped`) is of that kind, and its numbers suffice for every schedule.
use Rattle.std.proofs.Common.{◌≡◌, ◌≤◌, ◌^◌, ◌<◌, List, length, true, refl, arith, subst, sym}
use Rattle.snap_words.specs.Kind.{fits}
use Rattle.snap_words.specs.Shape.{Counts, max_items}
use Rattle.snap_words.specs.declared.kind.KindTag.{KindTag}
use Rattle.snap_words.specs.declared.kind.KindTag.TheVariants as kind
use Rattle.snap_semantics.specs.declared.process.Item.{Item}
use Rattle.snap_shipped.specs.Kept.{NumbersSuffice}
use Rattle.snap_shipped.specs.Shipped.{shipped}

pub kind_shipped : (g : KindTag) → (shipped g).kind ≡ g
kind_shipped kind.Seq = refl
kind_shipped kind.Bits = refl
kind_shipped kind.Multi = refl

pub fits_shipped : (g : KindTag) (s : Counts) → fits g s ≡ true → fits (shipped g).kind s ≡ true
fits_shipped g s fit = subst (λ (k : KindTag). fits k s ≡ true) (sym (kind_shipped g)) fit

pub suffice : (g : KindTag) (items : List Item) → length items ≤ max_items → NumbersSuffice g items
suffice kind.Seq items few = omega (arith, few)
suffice kind.Bits items few = tt
suffice kind.Multi items few = tt
