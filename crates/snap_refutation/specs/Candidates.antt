-- What a scan may have seen in a word: by values and times alone, or by cases that are assumed.
use Rattle.std.specs.Prelude.{◌≡◌, ℕ, ◌-◌, ◌⊎◌, List, Option, Some, None, length, slice_index_or}
use Rattle.std.specs.List.{Contains}
use Rattle.snap_words.specs.Shape.{IsOneOf}
use Rattle.snap_runs.specs.Operation.{EndedBefore, Operation, Sees, Sets}
use Rattle.snap_refutation.specs.declared.refutation.Case.{Case}
use Rattle.snap_refutation.specs.declared.refutation.Case.TheVariants as case
use Rattle.snap_refutation.specs.Operations.{operation_at}

-- The view has this value in this word, counted from 1.
abbrev pub Shows : List ℕ → (word value : ℕ) → Type 0
Shows view word value = IsOneOf (length view) word × (slice_index_or view (word - 1) 0 ≡ value)

-- The operation is an update of the word.
abbrev pub IsUpdateOf : (word : ℕ) → Operation → Type 0
IsUpdateOf word o = (value : ℕ) × (o.action ≡ Sets word value)

-- The operation is a scan, and shows this value in the word.
abbrev pub ScanShows : Operation → (word value : ℕ) → Type 0
ScanShows scan word value = (view : List ℕ) × (scan.action ≡ Sees view) × Shows view word value

-- The update was hidden from the scan: another one of the word was called after it ended, and ended before the scan
-- was called.
pub record IsHidden (os : List Operation) (scan : Operation) (word : ℕ) (update : Operation) : Type 0 where
  pub hider : Operation
  pub among : Contains os hider
  pub sets : IsUpdateOf word hider
  pub after : EndedBefore update hider
  pub before : EndedBefore hider scan

-- By values and times alone the scan may have seen this update: it sets the word to the value that the scan shows there,
-- was called before the scan ended, and was not hidden from it.
pub record MayHaveSeen (os : List Operation) (scan : Operation) (word value : ℕ) (update : Operation) : Type 0 where
  pub sets : update.action ≡ Sets word value
  pub in_time : EndedBefore scan update → ⊥
  pub in_sight : IsHidden os scan word update → ⊥

-- By values and times alone the scan may have seen this in a word in which it shows this value: an update, by its
-- place, or the beginning of the word, which is 0, where no update of the word had ended when the scan was called.
abbrev pub IsCandidate : List Operation → (scan : Operation) → (word value : ℕ) → Option ℕ → Type 0
IsCandidate os scan word value None =
    (value ≡ 0) × ((o : Operation) → Contains os o → IsUpdateOf word o → EndedBefore o scan → ⊥)
IsCandidate os scan word value (Some place) = MayHaveSeen os scan word value (operation_at os place)

-- The scan at this place has no other candidate in the word.
pub record IsAlone (os : List Operation) (scan word : ℕ) (seen : Option ℕ) : Type 0 where
  pub value : ℕ
  pub shows : ScanShows (operation_at os scan) word value
  pub only : (other : Option ℕ) → IsCandidate os (operation_at os scan) word value other → other ≡ seen

-- The scan saw this in the word: a case says so, or it has no other candidate.
abbrev pub HasSeen : List Operation → List Case → (scan word : ℕ) → Option ℕ → Type 0
HasSeen os cases scan word seen = Contains cases (case.Saw scan word seen) ⊎ IsAlone os scan word seen
