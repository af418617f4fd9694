-- What need not take place before an end that may not pass yet.
use Rattle.std.specs.Prelude.{◌≡◌, ℕ, suc, ◌-◌, ◌<◌, List, length, slice_index_or, slice_set}
use Rattle.snap_words.specs.Shape.{IsOneOf}
use Rattle.snap_runs.specs.Operation.{Sets, Sees, Operation}
use Rattle.snap_judge.specs.declared.config.Step.{Step as KeptStep}
use Rattle.snap_judge.specs.declared.config.Slot.TheVariants as kept_slot
use Rattle.snap_judge.specs.declared.config.Config.{Config}
use Rattle.snap_judge.specs.declared.config.OpenUpdate.{OpenUpdate}
use Rattle.snap_runs.specs.Linearization.{after}
use Rattle.snap_judge.specs.Steps.{Slot, Free, Open, Taken, CanBeExplained}
use Rattle.snap_judge.specs.Kept.{Can, Grows, IsConfig, IsReached, called_at, rest_of, slots_of}

-- A scan that wants x in the word at place k, counted from 0.
abbrev pub Wants : (k x : ℕ) → Operation → Type 0
Wants k x o = (view : List ℕ) × (o.action ≡ Sees view) × (slice_index_or view k 0 ≡ x)

-- An update at place p, whose value no open scan wants, while no other update of its word is open.
pub record MayWait (p : ℕ) (word value : ℕ) (V : List ℕ) (S : List Slot) : Type 0 where
  pub is_word : IsOneOf (length V) word
  pub alone : (q : ℕ) (o : Operation) (word' value' : ℕ) → slice_index_or S q Free ≡ Open o →
      o.action ≡ Sets word' value' → word' - 1 ≡ word - 1 → q ≡ p
  pub unwanted : (q : ℕ) (s : Operation) → slice_index_or S q Free ≡ Open s → Wants (word - 1) value s → ⊥

-- What is open at place p need not take place before the end of process i: it is a scan of other values, or an update
-- that may wait.
pub data NotNow (i : ℕ) (V : List ℕ) (S : List Slot) (p : ℕ) (o : Operation) : Type 0 where
  Scans : (view : List ℕ) → o.action ≡ Sees view → (view ≡ V → ⊥) → NotNow i V S p o
  Updates : (word value : ℕ) → o.action ≡ Sets word value → (p ≡ i - 1 → ⊥) → MayWait p word value V S →
      NotNow i V S p o

-- What is open at this place, if anything is, need not take place before the end of the process of that place.
abbrev pub NotNowAt : List KeptStep → Config → (ending p : ℕ) → Type 0
NotNowAt steps c ending p =
    (j : ℕ) → slice_index_or c.slots.items p kept_slot.Free ≡ kept_slot.Open j →
    NotNow (suc ending) c.values.items (slots_of steps c) p (called_at steps j)

-- No other update of this word is open.
abbrev pub IsAlone : List KeptStep → Config → (p word : ℕ) → Type 0
IsAlone steps c p word =
    (q j value : ℕ) → slice_index_or c.slots.items q kept_slot.Free ≡ kept_slot.Open j →
    (called_at steps j).action ≡ Sets word value → q ≡ p

-- No open scan wants this value in this word.
abbrev pub IsUnwanted : List KeptStep → Config → (word value : ℕ) → Type 0
IsUnwanted steps c word value =
    (q j : ℕ) → slice_index_or c.slots.items q kept_slot.Free ≡ kept_slot.Open j →
    Wants (word - 1) value (called_at steps j) → ⊥

-- An update is open, of a word that there is.
pub record IsChoice (steps : List KeptStep) (c : Config) (u : OpenUpdate) : Type 0 where
  pub within : u.place < length c.slots.items
  pub is : slice_index_or c.slots.items u.place kept_slot.Free ≡ kept_slot.Open u.call
  pub action : (called_at steps u.call).action ≡ Sets u.word u.value
  pub is_word : IsOneOf (length c.values.items) u.word

-- What is open at this place, if anything is, is a scan.
abbrev pub IsScanAt : List KeptStep → Config → ℕ → Type 0
IsScanAt steps c p =
    (j : ℕ) → slice_index_or c.slots.items p kept_slot.Free ≡ kept_slot.Open j →
    (view : List ℕ) × ((called_at steps j).action ≡ Sees view)

-- With what is open at this place taken, the rest of the history can be explained.
abbrev pub CanTaking : List KeptStep → Config → ℕ → Type 0
CanTaking steps c p =
    (j : ℕ) × (slice_index_or c.slots.items p kept_slot.Free ≡ kept_slot.Open j)
    × CanBeExplained (rest_of steps c) (after c.values.items (called_at steps j).action)
    (slice_set (slots_of steps c) p (Taken (called_at steps j)))

-- The search has taken what was open at this place.
pub record HasTaken (steps : List KeptStep) (p : ℕ) (order : List ℕ) (c : Config) (order' : List ℕ) (c' : Config) :
    Type 0 where
  pub config : IsConfig steps c → IsConfig steps c'
  pub reached : IsConfig steps c → IsReached steps order c → IsReached steps order' c'
  pub explained : IsConfig steps c → CanTaking steps c p → Can steps c'
  pub grows : Grows order order'
  pub longer : length order < length order'
