-- The values of a view as a list, whether the view has them on its own or shares them with its copies.
use Rattle.std.specs.Prelude.{ℕ, List}
use Rattle.std.specs.Arc.{arc_value}
use Rattle.snap_words.specs.declared.view.ViewValues.{ViewValues}
use Rattle.snap_words.specs.declared.view.ViewValues.TheVariants.{Own, Shared}

abbrev pub view_items : ViewValues → List ℕ
view_items (Own v) = v.items
view_items (Shared a) = (arc_value a).items
