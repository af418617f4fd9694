-- `Said`: what the prompt answers to a line, a text, why an item came out as it did, or what came of a file that was to
-- be saved; `IsSaid`, that a text is that.
use Rattle.std.specs.Prelude.{◌≡◌, ℕ, List}
use Rattle.snap_text.specs.Drafted.{Adds, Drafted}
use Rattle.snap_runs.specs.Run.{Run}
use Rattle.snap_why.specs.Why.{IsWhy}
use Rattle.snap_prompt.specs.Saved.{IsSavedLine}

pub data Said : Type 0 where
  text : List ℕ → Said
  -- of item t of a run
  why : Run → (t : ℕ) → Said
  -- of a schedule that was to be saved under this name
  saved : (name : List ℕ) → Said

abbrev pub IsSaid : Said → List ℕ → Type 0
IsSaid (text x) it = it ≡ x
IsSaid (why r t) it = IsWhy r t it
IsSaid (saved name) it = IsSavedLine name it

-- what is said was added to a text
abbrev pub IsAdded : Said → (old new : Drafted) → Type 0
IsAdded (text x) old new = Adds old new x
IsAdded (why r t) old new = (it : List ℕ) × IsWhy r t it × Adds old new it
IsAdded (saved name) old new = (it : List ℕ) × IsSavedLine name it × Adds old new it
