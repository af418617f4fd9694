-- `with_item` and `with_items`: a run with one more item, and with some more.
use Rattle.std.specs.Prelude.{List, [], ◌∷◌, ◌++◌}
use Rattle.snap_semantics.specs.declared.process.Item.{Item}
use Rattle.snap_runs.specs.Run.{Run}

-- a run with one more item
abbrev pub with_item : Run → Item → Run
with_item r x = record { source = r.source; shape = r.shape; items = r.items ++ x ∷ [] }

-- a run with more items
abbrev pub with_items : Run → List Item → Run
with_items r xs = record { source = r.source; shape = r.shape; items = r.items ++ xs }
