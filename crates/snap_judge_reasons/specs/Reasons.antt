-- Why one operation of a history took place before another one, in whatever order they took place; and circles of such
-- reasons, which no order explains.
use Rattle.std.specs.Prelude.{◌≡◌, ℕ, ◌-◌, List, [], ◌∷◌, length, slice_index_or}
use Rattle.std.specs.List.{All}
use Rattle.snap_words.specs.Shape.{IsOneOf}
use Rattle.snap_semantics.specs.declared.event.Event.{Event}
use Rattle.snap_semantics.specs.declared.event.Happening.TheVariants as what
use Rattle.snap_semantics.specs.declared.process.Op.TheVariants as op
use Rattle.snap_runs.specs.Operation.{EndedBefore, Operation, Sees, Sets}
use Rattle.snap_judge.specs.History.{History, IsHistory}
use Rattle.snap_judge.specs.Linearizable.{IsLinearizableHistory, IsOperationOf}
use Rattle.snap_judge.specs.Kept.{operation_of}
use Rattle.snap_judge_reasons.specs.declared.reason.Grounds.{Grounds}
use Rattle.snap_judge_reasons.specs.declared.reason.Grounds.TheVariants as grounds
use Rattle.snap_judge_reasons.specs.declared.reason.Reason.{Reason}

-- The view has this value in this word, counted from 1.
abbrev pub Shows : List ℕ → (word value : ℕ) → Type 0
Shows view word value = IsOneOf (length view) word × (slice_index_or view (word - 1) 0 ≡ value)

-- No update that is called sets the word to the value.
abbrev pub IsNeverSet : List Event → (word value : ℕ) → Type 0
IsNeverSet es word value = All (λ e. e.what ≡ what.Call (op.Update word value) → ⊥) es

-- No update that is called sets the word to the value, but for the one that is called at event number c.
abbrev pub IsSetOnlyAt : List Event → (c word value : ℕ) → Type 0
IsSetOnlyAt es c word value = All (λ e. e.what ≡ what.Call (op.Update word value) → e.item ≡ c) es

-- A scan saw an update: it shows the value of the update, which is not 0, and which no other update sets the word to.
pub record HasSeen (es : List Event) (update scan : Operation) : Type 0 where
  pub word : ℕ
  pub value : ℕ
  pub view : List ℕ
  pub sets : update.action ≡ Sets word value
  pub sees : scan.action ≡ Sees view
  pub shows : Shows view word value
  pub not_first : value ≡ 0 → ⊥
  pub only : IsSetOnlyAt es update.call word value

-- The value stood in the word before an update, and not again: it is 0, which no update sets the word to; or one
-- update alone sets the word to it, which had ended when that update was called.
pub data StoodBefore (h : History) (word value : ℕ) (update : Operation) : Type 0 where
  FromTheBeginning : value ≡ 0 → IsNeverSet h.events word 0 → StoodBefore h word value update
  FromAnUpdate : (earlier : Operation) → IsOperationOf h earlier → earlier.action ≡ Sets word value →
      EndedBefore earlier update → IsSetOnlyAt h.events earlier.call word value → StoodBefore h word value update

-- A scan did not see an update: it shows a value that stood in the word before that update.
pub record HasMissed (h : History) (scan update : Operation) : Type 0 where
  pub word : ℕ
  pub value : ℕ
  pub seen : ℕ
  pub view : List ℕ
  pub sees : scan.action ≡ Sees view
  pub sets : update.action ≡ Sets word value
  pub shows : Shows view word seen
  pub stood : StoodBefore h word seen update

-- A scan shows a value in a word, not 0, that no update that is called sets the word to.
pub record ShowsUnset (es : List Event) (word value : ℕ) (scan : Operation) : Type 0 where
  pub view : List ℕ
  pub sees : scan.action ≡ Sees view
  pub shows : Shows view word value
  pub not_first : value ≡ 0 → ⊥
  pub never : IsNeverSet es word value

-- On these grounds the first operation took place before the second one. What shows a value that is never set took
-- place at no moment, and so before itself.
abbrev pub AreGrounds : History → Grounds → (first second : Operation) → Type 0
AreGrounds h grounds.Ended first second = EndedBefore first second
AreGrounds h grounds.Saw first second = HasSeen h.events first second
AreGrounds h grounds.Missed first second = HasMissed h first second
AreGrounds h (grounds.Unset word value) first second = (second ≡ first) × ShowsUnset h.events word value first

-- Two operations of the history, the first of which took place before the second one on the grounds that are given.
pub record IsReason (h : History) (r : Reason) : Type 0 where
  pub first : IsOperationOf h (operation_of r.first)
  pub second : IsOperationOf h (operation_of r.second)
  pub grounds : AreGrounds h r.grounds (operation_of r.first) (operation_of r.second)

-- The reasons are a chain from one operation to another: each begins at the operation at which the one before ends.
abbrev pub IsChain : History → (from : Operation) → List Reason → (to : Operation) → Type 0
IsChain h from [] to = from ≡ to
IsChain h from (r ∷ rs) to = (operation_of r.first ≡ from) × IsReason h r × IsChain h (operation_of r.second) rs to

-- Reasons are a chain from an operation back to it, and there is at least one.
abbrev pub IsCircle : History → List Reason → Type 0
IsCircle h [] = ⊥
IsCircle h (r ∷ rs) = IsChain h (operation_of r.first) (r ∷ rs) (operation_of r.first)

-- A history with a circle of reasons is not linearizable.
abbrev pub CirclesRefute : Type 0
CirclesRefute = (h : History) (rs : List Reason) → IsHistory h → IsCircle h rs → IsLinearizableHistory h → ⊥
