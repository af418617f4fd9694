-- The items of a run as they are stored (`StoredItem`): steps, crashes, and calls by their place in a list of
-- calls.
use Rattle.std.specs.Prelude.{ℕ, ◌<◌, ◌≤◌, Bool, List, length, map, get_or, ⊤}
use Rattle.std.specs.List.{AllByRecursion}
use Rattle.snap_semantics.specs.declared.process.Item.{Item}
use Rattle.snap_semantics.specs.declared.process.Item.TheVariants as item
use Rattle.snap_semantics.specs.declared.process.Op.TheVariants.{Scan}
use Rattle.snap_record.specs.declared.items.Called.{Called}
use Rattle.snap_record.specs.declared.items.StoredItem.{StoredItem}
use Rattle.snap_record.specs.declared.items.StoredItem.TheVariants as kept

-- what is seen of a history: its items, and whether there is room for one more
pub record HistoryView : Type 0 where
  pub items : List Item
  pub ready : Bool

-- no call is seen behind the last one
abbrev pub nobody : Called
nobody = record { process = 0; op = Scan }

-- the item of a call
abbrev pub call_item : Called → Item
call_item c = item.Call c.process c.op

-- the item that is kept so, where these are the calls
abbrev pub kept_item : List Called → StoredItem → Item
kept_item calls (kept.Step i) = item.Step i
kept_item calls (kept.Call k) = call_item (get_or calls k nobody)
kept_item calls (kept.Crash i) = item.Crash i

abbrev pub kept_items : List Called → List StoredItem → List Item
kept_items calls xs = map (kept_item calls) xs

-- a call is one of so many
abbrev pub IsThere : ℕ → StoredItem → Type 0
IsThere n (kept.Step i) = ⊤
IsThere n (kept.Call k) = k < n
IsThere n (kept.Crash i) = ⊤

-- each call that an item names is there, and there are no more calls than items
pub record AreKept (calls : List Called) (xs : List StoredItem) : Type 0 where
  pub there : AllByRecursion (IsThere (length calls)) xs
  pub few : length calls ≤ length xs
