-- `SeatState`s, which are what a seat of a desk knows: one for a new seat, and how each step changes it.
use Rattle.std.specs.Prelude.{ℕ, ◌+◌, List, [], ◌∷◌, ◌++◌, length, nat_lt}
use Rattle.std.specs.Prelude.{if◌then◌else◌, Bool, true, false, Option, Some, None}
use Rattle.snap_semantics.specs.declared.process.Item.{Item}
use Rattle.snap_words.specs.declared.kind.KindTag.TheVariants.{Seq}
use Rattle.snap_live.specs.declared.seat_state.Setting.{Setting}
use Rattle.snap_semantics.specs.declared.process.Outcome.{Outcome}
use Rattle.snap_live.specs.declared.seat_state.SeatState.{SeatState}
use Rattle.snap_live.specs.declared.seat_state.Own.{Own}
use Rattle.snap_live.specs.declared.seat_state.OwnTurn.{OwnTurn}
use Rattle.snap_live.specs.declared.seat_state.Stage.{Stage}
use Rattle.snap_live.specs.declared.seat_state.Stage.TheVariants.{Idle, Waits, Served}
use Rattle.snap_live.specs.Turns.{own_turn}

-- the ticket that a seat has
abbrev pub ticket_of : Stage → Option ℕ
ticket_of Idle = None
ticket_of (Waits t) = Some t
ticket_of (Served t g) = Some t

-- how many tickets a seat has
abbrev pub tickets_of : Stage → ℕ
tickets_of Idle = 0
tickets_of (Waits t) = 1
tickets_of (Served t g) = 1

abbrev pub is_served : Stage → Bool
is_served Idle = false
is_served (Waits t) = false
is_served (Served t g) = true

-- the history that a served seat knows
abbrev pub grip_of : Stage → List Item
grip_of Idle = []
grip_of (Waits t) = []
grip_of (Served t g) = g

abbrev pub own : ℕ → List OwnTurn → Own
own p ts = record { process = p; turns = ts }

-- the seat that may name, after so many
abbrev pub opener : Setting → ℕ → SeatState
opener base n = record {
  alive = true;
  base = base;
  seen = [];
  olds = [];
  owns = [];
  draws = 0;
  stage = Idle;
  may_name = true;
  named = n;
}

abbrev pub newcomer : Setting → SeatState
newcomer base = opener base 0

-- stands where nothing is run
abbrev pub no_setting : Setting
no_setting = record {
  source = record { kind = Seq; scalars = []; rows = []; words = []; views = []; scan = 0; update = 0; lines = [] };
  shape = record { n = 0; w = 0 };
}

-- a seat that was joined into another
abbrev pub nobody : SeatState
nobody = record {
  alive = false;
  base = no_setting;
  seen = [];
  olds = [];
  owns = [];
  draws = 0;
  stage = Idle;
  may_name = false;
  named = 0;
}

abbrev pub rests : SeatState → SeatState
rests v = record v { stage = Idle }

abbrev pub waits : SeatState → ℕ → SeatState
waits v t = record v { draws = v.draws + 1; stage = Waits t }

abbrev pub serves : SeatState → ℕ → List Item → SeatState
serves v t g = record v { stage = Served t g }

abbrev pub names : SeatState → ℕ → SeatState
names v p = record v { owns = own p [] ∷ []; named = p }

-- the split: what stays loses the right to name, and the new seat has it
abbrev pub stays : SeatState → SeatState
stays v = record v { may_name = false }

abbrev pub comes : SeatState → SeatState
comes v = record {
  alive = v.alive;
  base = v.base;
  seen = v.seen;
  olds = [];
  owns = [];
  draws = 0;
  stage = Idle;
  may_name = v.may_name;
  named = v.named;
}

-- the first process's turns, and with one turn more
abbrev pub turns_in : List Own → List OwnTurn
turns_in [] = []
turns_in (o ∷ os) = o.turns

abbrev pub with_turn : List Own → OwnTurn → List Own
with_turn [] t = []
with_turn (o ∷ os) t = own o.process (o.turns ++ t ∷ []) ∷ os

abbrev pub longer_grip : Stage → Item → Stage
longer_grip Idle x = Idle
longer_grip (Waits t) x = Waits t
longer_grip (Served t g) x = Served t (g ++ x ∷ [])

-- the history goes on by one item
abbrev pub publishes : SeatState → Item → Outcome → SeatState
publishes v x o =
    let h = grip_of v.stage ++ x ∷ [] in
    record v { seen = h; owns = with_turn v.owns (own_turn (length h) x o); stage = longer_grip v.stage x }

-- nothing was added, and the history so far is seen
abbrev pub catches_up : SeatState → SeatState
catches_up v = record v { seen = grip_of v.stage }

abbrev pub longer : List Item → List Item → List Item
longer xs ys = if nat_lt (length xs) (length ys) then ys else xs

-- what two seats know
abbrev pub both : SeatState → SeatState → SeatState
both v w = record v {
  seen = longer v.seen w.seen;
  olds = v.seen ∷ w.seen ∷ [];
  owns = v.owns ++ w.owns;
  draws = v.draws + w.draws;
}

abbrev pub tells : SeatState → SeatState
tells v = record v { olds = [] }

-- after a turn that added an item, and after one that was refused
abbrev pub after_turn : SeatState → List Item → Item → Outcome → SeatState
after_turn v g x o =
    record v {
      seen = g ++ x ∷ [];
      owns = with_turn v.owns (own_turn (length (g ++ x ∷ [])) x o);
      draws = v.draws + 1;
      stage = Idle;
    }

abbrev pub after_full : SeatState → List Item → SeatState
after_full v g = record v { seen = g; draws = v.draws + 1; stage = Idle }

abbrev pub after_refusal : SeatState → SeatState
after_refusal v = record v { draws = v.draws + 1; stage = Idle }
