-- What a search keeps of a history and of where it stands, as the definitions have it.
use Rattle.std.specs.Prelude.{◌≡◌, ℕ, suc, ◌<◌, ◌≤◌, ◌++◌, List, [], None, length, map, drop}
use Rattle.std.specs.Prelude.{replicate, slice_index_or}
use Rattle.snap_words.specs.Shape.{IsOneOf}
use Rattle.snap_runs.specs.Operation.{Action, Sets, Sees, Operation}
use Rattle.snap_judge.specs.declared.operation.Action.{Action as KeptAction}
use Rattle.snap_judge.specs.declared.operation.Action.TheVariants as kept_action
use Rattle.snap_judge.specs.declared.operation.Operation.{Operation as KeptOperation}
use Rattle.snap_judge.specs.declared.config.Step.{Step as KeptStep}
use Rattle.snap_judge.specs.declared.config.Step.TheVariants as kept_step
use Rattle.snap_judge.specs.declared.config.Slot.{Slot as KeptSlot}
use Rattle.snap_judge.specs.declared.config.Slot.TheVariants as kept_slot
use Rattle.snap_judge.specs.declared.config.Config.{Config}
use Rattle.snap_judge.specs.Configurations.{Configuration, Leads}
use Rattle.snap_judge.specs.Steps.{Step, Calls, Ends, Waits, Slot, Free, Open, Taken, slot, CanBeExplained, Move, taken}

abbrev pub action_of : KeptAction → Action
action_of (kept_action.Sets word value) = Sets word value
action_of (kept_action.Sees view) = Sees view.now

abbrev pub operation_of : KeptOperation → Operation
operation_of o = record { process = o.process; call = o.call; end = o.end; action = action_of o.action }

abbrev pub step_of_kept : KeptStep → Step
step_of_kept (kept_step.Calls o) = Calls (operation_of o)
step_of_kept (kept_step.Ends i) = Ends i
step_of_kept kept_step.Waits = Waits

abbrev pub steps_kept : List KeptStep → List Step
steps_kept steps = map step_of_kept steps

-- the operation that a step calls; of another step, one that sees no words
abbrev pub called_by : Step → Operation
called_by (Calls o) = o
called_by (Ends i) = record { process = i; call = 0; end = None; action = Sees [] }
called_by Waits = record { process = 0; call = 0; end = None; action = Sees [] }

-- the operation that step j, counted from 0, calls
abbrev pub called_at : List KeptStep → ℕ → Operation
called_at steps j = called_by (step_of_kept (slice_index_or steps j kept_step.Waits))

-- the slot that tells of an operation by the step that calls it
abbrev pub slot_of : List KeptStep → KeptSlot → Slot
slot_of steps kept_slot.Free = Free
slot_of steps (kept_slot.Open j) = Open (called_at steps j)
slot_of steps (kept_slot.Taken j) = Taken (called_at steps j)

-- what is left of the steps, and the slots, where a search stands
abbrev pub rest_of : List KeptStep → Config → List Step
rest_of steps c = drop c.position (steps_kept steps)

abbrev pub slots_of : List KeptStep → Config → List Slot
slots_of steps c = map (slot_of steps) c.slots.items

-- a configuration as the definitions see it, with what is left of the steps
abbrev pub seen_as : List KeptStep → Config → Configuration
seen_as steps c = record { left = rest_of steps c; values = c.values.items; slots = slots_of steps c }

abbrev pub first : (n w : ℕ) → List KeptStep → Configuration
first n w steps = record { left = steps_kept steps; values = replicate w 0; slots = replicate n Free }

-- From there on, the history can be explained.
abbrev pub Can : List KeptStep → Config → Type 0
Can steps c = CanBeExplained (rest_of steps c) c.values.items (slots_of steps c)

-- Moves lead there from the first step on, and these operations take place in this order.
abbrev pub IsReached : List KeptStep → List ℕ → Config → Type 0
IsReached steps order c =
    (moves : List Move)
    × Leads moves (first (length c.slots.items) (length c.values.items) steps) (seen_as steps c)
    × (taken moves ≡ map (called_at steps) order)

-- Step t calls an operation of the process whose place this is.
abbrev pub IsCallOf : List KeptStep → (t place : ℕ) → Type 0
IsCallOf steps t place =
    (o : KeptOperation) × (slice_index_or steps t kept_step.Waits ≡ kept_step.Calls o) × (o.process ≡ suc place)

-- The slot tells of what step j calls.
abbrev pub TellsOf : KeptSlot → ℕ → Type 0
TellsOf kept_slot.Free j = ⊥
TellsOf (kept_slot.Open k) j = k ≡ j
TellsOf (kept_slot.Taken k) j = k ≡ j

-- A slot tells of an operation of its process.
pub record IsConfig (steps : List KeptStep) (c : Config) : Type 0 where
  pub within : c.position ≤ length steps
  pub placed : (p j : ℕ) → slice_index_or c.slots.items p kept_slot.Free ≡ kept_slot.Open j →
      ((called_at steps j).process ≡ suc p) × (j < length steps)
  pub tells : (p j : ℕ) → TellsOf (slice_index_or c.slots.items p kept_slot.Free) j → IsCallOf steps j p

-- Operations have been added to an order.
abbrev pub Grows : List ℕ → List ℕ → Type 0
Grows order order' = (more : List ℕ) × (order' ≡ order ++ more)

-- A search goes on from one place to another: what could be explained still can, and it is reached.
pub record GoesOn (steps : List KeptStep) (order : List ℕ) (c : Config) (order' : List ℕ)
    (c' : Config) : Type 0 where
  pub config : IsConfig steps c → IsConfig steps c'
  pub reached : IsConfig steps c → IsReached steps order c → IsReached steps order' c'
  pub explained : IsConfig steps c → Can steps c → Can steps c'
  pub grows : Grows order order'

-- An open scan at this place sees other values than are there.
abbrev pub IsSettledAt : List KeptStep → Config → ℕ → Type 0
IsSettledAt steps c p =
    (j : ℕ) → slice_index_or c.slots.items p kept_slot.Free ≡ kept_slot.Open j →
    (called_at steps j).action ≡ Sees c.values.items → ⊥

-- each open scan does
abbrev pub IsSettled : List KeptStep → Config → Type 0
IsSettled steps c = (p : ℕ) → IsSettledAt steps c p

-- Nothing has changed but slots.
pub record ChangesSlotsAlone (c c' : Config) : Type 0 where
  pub position : c'.position ≡ c.position
  pub values : c'.values.items ≡ c.values.items
  pub count : length c'.slots.items ≡ length c.slots.items

-- nothing but the slot at this place
pub record ChangesSlotAlone (p : ℕ) (c c' : Config) : Type 0 where
  pub alone : ChangesSlotsAlone c c'
  pub others : (q : ℕ) → (q ≡ p → ⊥) →
      slice_index_or c'.slots.items q kept_slot.Free ≡ slice_index_or c.slots.items q kept_slot.Free

-- A step of one of n processes, with one of w words.
abbrev pub HasWord : ℕ → KeptAction → Type 0
HasWord w (kept_action.Sets word value) = IsOneOf w word
HasWord w (kept_action.Sees view) = Unit {0}

abbrev pub IsStepOf : (n w : ℕ) → KeptStep → Type 0
IsStepOf n w (kept_step.Calls o) = IsOneOf n o.process × HasWord w o.action
IsStepOf n w (kept_step.Ends i) = IsOneOf n i
IsStepOf n w kept_step.Waits = Unit {0}

abbrev pub AreSteps : (n w : ℕ) → List KeptStep → Type 0
AreSteps n w steps = (t : ℕ) → IsStepOf n w (slice_index_or steps t kept_step.Waits)

-- There are as many slots and values as before.
pub record KeepsCounts (c c' : Config) : Type 0 where
  pub slots : length c'.slots.items ≡ length c.slots.items
  pub values : length c'.values.items ≡ length c.values.items

-- The step may not pass: a call where something is open, or the end of what has not taken place.
abbrev pub MayNotPass : List Slot → Step → Type 0
MayNotPass slots (Calls o) = slot slots o.process ≡ Free → ⊥
MayNotPass slots (Ends i) = (o : Operation) → slot slots i ≡ Taken o → ⊥
MayNotPass slots Waits = ⊥

-- The search is before a step that may not pass.
abbrev pub IsStuck : List KeptStep → Config → Type 0
IsStuck steps c =
    (c.position < length steps)
    × MayNotPass (slots_of steps c) (step_of_kept (slice_index_or steps c.position kept_step.Waits))

-- Two configurations are the same but for where they stand in memory.
pub record IsSameConfig (c c' : Config) : Type 0 where
  pub position : c'.position ≡ c.position
  pub values : c'.values.items ≡ c.values.items
  pub slots : c'.slots.items ≡ c.slots.items

-- No two of the steps call operations of the same number.
abbrev pub AreNumbered : List KeptStep → Type 0
AreNumbered steps = (j k : ℕ) (o o' : KeptOperation) → slice_index_or steps j kept_step.Waits ≡ kept_step.Calls o →
    slice_index_or steps k kept_step.Waits ≡ kept_step.Calls o' → o.call ≡ o'.call → j ≡ k
