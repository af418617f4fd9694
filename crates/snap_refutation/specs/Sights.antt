-- What is kept of a scan and a word, to tell what the scan may have seen there.
use Rattle.std.specs.Prelude.{◌≡◌, ℕ, ◌<◌, ◌⊎◌, List, Option, Some, IfSome}
use Rattle.std.specs.List.{Contains}
use Rattle.snap_runs.specs.Operation.{EndedBefore, Operation, Sets}
use Rattle.snap_judge.specs.Kept.{operation_of}
use Rattle.snap_refutation.specs.declared.sights.Sight.{Sight}
use Rattle.snap_refutation.specs.Candidates.{IsCandidate, IsUpdateOf, ScanShows}
use Rattle.snap_refutation.specs.Operations.{operation_at}

-- An update of the word that was called at this event ended before the scan was called.
pub record HidesUpTo (os : List Operation) (scan : Operation) (word call : ℕ) : Type 0 where
  pub hider : Operation
  pub among : Contains os hider
  pub sets : IsUpdateOf word hider
  pub before : EndedBefore hider scan
  pub called : hider.call ≡ call

-- It is kept of this scan and this word.
pub record IsSight (os : List Operation) (scan word : ℕ) (s : Sight) : Type 0 where
  pub of_scan : s.scan ≡ scan
  pub of_word : s.word ≡ word
  pub operation : operation_of s.operation ≡ operation_at os scan
  pub shows : ScanShows (operation_at os scan) word s.value
  pub hidden : IfSome s.hidden (HidesUpTo os (operation_at os scan) word)

-- The update ended before this event.
abbrev pub IsHiddenBy : Operation → Option ℕ → Type 0
IsHiddenBy update hidden = (call : ℕ) × (hidden ≡ Some call) × (end : ℕ) × (update.end ≡ Some end) × (end < call)

-- The scan cannot have seen the update: it sets something else, or was called too late, or was hidden.
abbrev pub IsOutOfSight : Sight → Operation → Type 0
IsOutOfSight s update =
    (update.action ≡ Sets s.word s.value → ⊥)
    ⊎ (EndedBefore (operation_of s.operation) update ⊎ IsHiddenBy update s.hidden)

-- It cannot have seen the beginning of the word.
abbrev pub IsPastBeginning : Sight → Type 0
IsPastBeginning s = (s.value ≡ 0 → ⊥) ⊎ ((call : ℕ) × (s.hidden ≡ Some call))

-- It may have seen this.
abbrev pub MaySee : List Operation → Sight → Option ℕ → Type 0
MaySee os s seen = IsCandidate os (operation_at os s.scan) s.word s.value seen
