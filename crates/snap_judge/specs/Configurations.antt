-- Where one can be on the way through a history.
use Rattle.std.specs.Prelude.{◌≡◌, ℕ, ◌<◌, List, [], ◌∷◌, length, replicate}
use Rattle.std.specs.List.{All, AllPairs}
use Rattle.snap_runs.specs.Linearization.{Allows, after}
use Rattle.snap_judge.specs.History.{History}
use Rattle.snap_judge.specs.Steps.{Step, steps_of, Slot, Free, Open, Taken, slot, with_slot, MayPass, passed, Move, Take, Pass}

-- A configuration: the events that are left, the values, and what each process has open.
pub record Configuration : Type 0 where
  pub left : List Step
  pub values : List ℕ
  pub slots : List Slot

-- before the first event of a history: all words are zero, and nothing is open
abbrev pub beginning : History → Configuration
beginning h = record { left = steps_of h.events; values = replicate h.shape.w 0; slots = replicate h.shape.n Free }

-- The moves lead from one configuration to another: what takes place is open and may do so there, and an event that is
-- passed is the next one and may pass.
abbrev pub Leads : List Move → Configuration → Configuration → Type 0
Leads [] c c' = c ≡ c'
Leads (Take o ∷ moves) c c' =
    (slot c.slots o.process ≡ Open o) × Allows c.values o.action
    × Leads moves (record {
      left = c.left;
      values = after c.values o.action;
      slots = with_slot c.slots o.process (Taken o);
    }) c'
Leads (Pass ∷ moves) c c' =
    (x : Step) × (xs : List Step) × (c.left ≡ x ∷ xs) × MayPass c.slots x
    × Leads moves (record { left = xs; values = c.values; slots = passed c.slots x }) c'

-- The next event may not pass there, so it has to be chosen what takes place before it.
abbrev pub HasToChoose : Configuration → Type 0
HasToChoose c = (x : Step) × (xs : List Step) × (c.left ≡ x ∷ xs) × (MayPass c.slots x → ⊥)

-- From the configuration b, moves lead to one at which something has to be chosen.
pub record IsMetFrom (b c : Configuration) : Type 0 where
  pub moves : List Move
  pub leads : Leads moves b c
  pub chooses : HasToChoose c

-- More than `most` configurations can be met from b at which something has to be chosen; no two of these are the same.
pub record MeetsMoreThan (most : ℕ) (b : Configuration) : Type 0 where
  pub configurations : List Configuration
  pub more : most < length configurations
  pub different : AllPairs (λ (c c' : Configuration). c ≡ c' → ⊥) configurations
  pub met : All (IsMetFrom b) configurations
