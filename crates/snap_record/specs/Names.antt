-- `ViewsAlone`: no process has a scalar, a row or a `words` local with the name of a view.
use Rattle.std.specs.Prelude.{◌≡◌, ℕ, Some, None}
use Rattle.snap_semantics.specs.Readers.{find_name}
use Rattle.snap_semantics.specs.Source.{Name, Source}
use Rattle.snap_semantics.specs.State.{Locals, State, process_at}
use Rattle.snap_semantics.specs.Uses.{sort_of}
use Rattle.snap_semantics.specs.declared.text.Sort.TheVariants as sort

-- no scalar, row or words of this name
pub record Lacks (x : Name) (l : Locals) : Type 0 where
  pub scalars : find_name x l.scalars ≡ None
  pub rows : find_name x l.rows ≡ None
  pub words : find_name x l.words ≡ None

-- no process has another local by the name of a view
abbrev pub ViewsAlone : Source → State → Type 0
ViewsAlone s S = (x : Name) (i : ℕ) → sort_of s x ≡ Some sort.View → Lacks x (process_at S i).locals
