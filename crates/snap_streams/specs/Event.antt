-- `Event`: what passes at the console of a dialog, which is a text that is shown or a line that is typed.
use Rattle.std.specs.Prelude.{◌≡◌, ℕ, Vec, List, [], ◌∷◌, ◌++◌, Option, None, Some, Result, Ok, Err, ⊤}
use Rattle.std.specs.Global.{Global}
use Rattle.std.specs.Io.KnownBytes.{Appends}
use Rattle.snap_streams.specs.declared.dialog_fault.DialogFault.{DialogFault}

-- a text that was shown, and a line that was typed
pub data Event : Type 0 where
  said : List ℕ → Event
  typed : List ℕ → Event

-- one thing more has passed, where it is known what has
abbrev pub Passes : Option (List Event) → Option (List Event) → Event → Type 0
Passes None new event = ⊤
Passes (Some old) None event = ⊥
Passes (Some old) (Some new) event = new ≡ old ++ event ∷ []

-- several things have passed, in order, where it is known what has
abbrev pub PassesAll : Option (List Event) → Option (List Event) → List Event → Type 0
PassesAll None new events = ⊤
PassesAll (Some old) None events = ⊥
PassesAll (Some old) (Some new) events = new ≡ old ++ events

-- a beginning of this text was shown
abbrev pub ShowsPart : Option (List ℕ) → Option (List ℕ) → List ℕ → Type 0
ShowsPart old new text = (part rest : List ℕ) × (part ++ rest ≡ text) × Appends old new part

-- a text has passed, if it was shown whole
abbrev pub Says : Result (Unit {0}) DialogFault → Option (List Event) → Option (List Event) → List ℕ → Type 0
Says (Ok done) old new text = Passes old new (said text)
Says (Err fault) old new text = new ≡ old

-- a text was shown, or a beginning of it
abbrev pub Shows : Result (Unit {0}) DialogFault → Option (List ℕ) → Option (List ℕ) → List ℕ → Type 0
Shows (Ok done) old new text = Appends old new text
Shows (Err fault) old new text = ShowsPart old new text

-- a line has passed, if it was read
abbrev pub Types : Result (Vec ℕ Global) DialogFault → Option (List Event) → Option (List Event) → Type 0
Types (Ok line) old new = Passes old new (typed line.items)
Types (Err fault) old new = new ≡ old
