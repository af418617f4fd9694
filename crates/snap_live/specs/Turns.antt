-- `turns_of`: the turns of one process in a desk's history, which are its items with their numbers and outcomes.
use Rattle.std.specs.Prelude.{ℕ, ◌+◌, Bool, true, false, List, [], ◌∷◌, length, nat_eq}
use Rattle.snap_semantics.specs.declared.process.Item.{Item}
use Rattle.snap_semantics.specs.declared.process.Outcome.{Outcome}
use Rattle.snap_semantics.specs.State.{State, initial}
use Rattle.snap_semantics.specs.Table.{done, who}
use Rattle.snap_runs.specs.Run.{Run, outcome}
use Rattle.snap_live.specs.declared.seat_state.OwnTurn.{OwnTurn}
use Rattle.snap_live.specs.declared.seat_state.Setting.{Setting}

-- the run of these items
abbrev pub run_of : Setting → List Item → Run
run_of base items = record { source = base.source; shape = base.shape; items = items }

-- the listing and the shape of a run
abbrev pub setting_of : Run → Setting
setting_of r = record { source = r.source; shape = r.shape }

-- what came of the last of these items
abbrev pub last_outcome : Setting → List Item → Outcome
last_outcome base items = outcome (run_of base items) (length items)

abbrev pub own_turn : ℕ → Item → Outcome → OwnTurn
own_turn n x o = record { number = n; item = x; outcome = o }

abbrev pub put_if : Bool → OwnTurn → List OwnTurn → List OwnTurn
put_if true t ts = t ∷ ts
put_if false t ts = ts

-- the turns of process p among these items, which are done from the state S on, behind k items
abbrev pub turns_from : Setting → State → ℕ → ℕ → List Item → List OwnTurn
turns_from base S k p [] = []
turns_from base S k p (x ∷ xs) =
    put_if (nat_eq p (who x)) (own_turn (k + 1) x (done base.source base.shape S x).1)
    (turns_from base (done base.source base.shape S x).0 (k + 1) p xs)

-- the turns of process p in the run of these items: each of its items with its number and what came of it, in order
abbrev pub turns_of : Setting → ℕ → List Item → List OwnTurn
turns_of base p items = turns_from base (initial base.source base.shape) 0 p items
