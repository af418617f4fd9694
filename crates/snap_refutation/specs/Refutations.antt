-- Refutations of a list of operations, and that a history with one is not linearizable. Operations, lines and parts
-- are named by their places.
use Rattle.std.specs.Prelude.{◌≡◌, ℕ, ◌<◌, ◌⊎◌, List, [], ◌∷◌, Option, Some, None, length, slice_index_or, take}
use Rattle.std.specs.List.{All, Contains}
use Rattle.snap_runs.specs.Operation.{EndedBefore, HasEnded, Operation}
use Rattle.snap_judge.specs.History.{History, IsHistory}
use Rattle.snap_judge.specs.Linearizable.{IsLinearizableHistory}
use Rattle.snap_refutation.specs.declared.refutation.Case.{Case}
use Rattle.snap_refutation.specs.declared.refutation.Case.TheVariants as case
use Rattle.snap_refutation.specs.declared.refutation.Grounds.{Grounds}
use Rattle.snap_refutation.specs.declared.refutation.Grounds.TheVariants as grounds
use Rattle.snap_refutation.specs.declared.refutation.Line.{Line}
use Rattle.snap_refutation.specs.declared.refutation.Part.{Part}
use Rattle.snap_refutation.specs.declared.refutation.Refutation.{Refutation}
use Rattle.snap_refutation.specs.declared.refutation.Standing.{Standing}
use Rattle.snap_refutation.specs.declared.refutation.Why.{Why}
use Rattle.snap_refutation.specs.declared.refutation.Why.TheVariants as why
use Rattle.snap_refutation.specs.Operations.{operation_at, operations_of}
use Rattle.snap_refutation.specs.Candidates.{HasSeen, IsCandidate, IsUpdateOf, ScanShows}

-- Line number `place` of the list, counted from 0, is this one.
abbrev pub IsLineAt : List Line → (place : ℕ) → Line → Type 0
IsLineAt lines place line = (place < length lines) × (slice_index_or lines place line ≡ line)

-- The lines at these places lead from one operation to another: each begins where the one before ends.
abbrev pub Leads : List Line → (from : ℕ) → (way : List ℕ) → (to : ℕ) → Type 0
Leads lines from [] to = from ≡ to
Leads lines from (place ∷ way) to =
    (line : Line) × IsLineAt lines place line × (line.first ≡ from) × Leads lines line.second way to

-- they are one at least
pub record IsWay (lines : List Line) (from : ℕ) (way : List ℕ) (to : ℕ) : Type 0 where
  pub some : 0 < length way
  pub leads : Leads lines from way to

-- The operation belongs to the block of the update in the word: it is the update, or a scan that saw it.
abbrev pub IsOfBlock : List Operation → List Case → (word update operation : ℕ) → Type 0
IsOfBlock os cases word update operation =
    ((operation ≡ update) × IsUpdateOf word (operation_at os update)) ⊎ HasSeen os cases operation word (Some update)

-- The second operation, a scan, saw the first one, an update.
abbrev pub HasSeenUpdate : List Operation → List Case → (first second : ℕ) → Type 0
HasSeenUpdate os cases first second =
    (word : ℕ) × IsUpdateOf word (operation_at os first) × HasSeen os cases second word (Some first)

-- The first operation, a scan, saw the beginning of the word that the second one, an update, sets.
abbrev pub HasSeenBeginning : List Operation → List Case → (first second : ℕ) → Type 0
HasSeenBeginning os cases first second =
    (word : ℕ) × IsUpdateOf word (operation_at os second) × HasSeen os cases first word None

-- The first operation belongs to the block of an update, and the second one is another update of the same word. What
-- leads from the one place to the other leads from the one block to the other.
pub record AreOfBlocks (os : List Operation) (cases : List Case) (update first second from to : ℕ) : Type 0 where
  pub word : ℕ
  pub sets : IsUpdateOf word (operation_at os second)
  pub other : second ≡ update → ⊥
  pub of_first : IsOfBlock os cases word update first
  pub of_from : IsOfBlock os cases word update from
  pub of_to : IsOfBlock os cases word second to

-- The way leads from something of the block of the update to something of the block of the second operation.
pub record IsBehindBlock (os : List Operation) (cases : List Case) (lines : List Line) (update : ℕ) (way : List ℕ)
    (first second : ℕ) : Type 0 where
  pub from : ℕ
  pub to : ℕ
  pub leads : IsWay lines from way to
  pub blocks : AreOfBlocks os cases update first second from to

-- On these grounds the first operation stands before the second one, in the cases, and by the lines in front.
abbrev pub AreGrounds : List Operation → List Case → List Line → Grounds → (first second : ℕ) → Type 0
AreGrounds os cases lines grounds.Ended first second = EndedBefore (operation_at os first) (operation_at os second)
AreGrounds os cases lines grounds.Saw first second = HasSeenUpdate os cases first second
AreGrounds os cases lines grounds.First first second = HasSeenBeginning os cases first second
AreGrounds os cases lines grounds.Assumed first second = Contains cases (case.Order first second)
AreGrounds os cases lines (grounds.Blocks update way) first second =
    IsBehindBlock os cases lines update way.items first second

abbrev pub IsLine : List Operation → List Case → List Line → Line → Type 0
IsLine os cases lines line = AreGrounds os cases lines line.grounds line.first line.second

-- Each line has its grounds by the lines in front of it.
abbrev pub AreLines : List Operation → List Case → List Line → Type 0
AreLines os cases lines = (place : ℕ) (line : Line) → IsLineAt lines place line → IsLine os cases (take place lines) line

-- the way leads from an operation back to it
pub record IsCircle (lines : List Line) (way : List ℕ) : Type 0 where
  pub from : ℕ
  pub closes : IsWay lines from way from

-- One of the parts excludes these cases: each of its own is one of them.
abbrev pub AreExcluded : List Part → List Case → Type 0
AreExcluded parts cases = (p : Part) × Contains parts p × All (Contains cases) p.cases.items

-- Whatever the scan may have seen in the word, one of the parts excludes that.
pub record IsExcludedScan (os : List Operation) (parts : List Part) (cases : List Case) (scan word : ℕ) : Type 0 where
  pub value : ℕ
  pub shows : ScanShows (operation_at os scan) word value
  pub each : (seen : Option ℕ) → IsCandidate os (operation_at os scan) word value seen →
      AreExcluded parts (case.Saw scan word seen ∷ cases)

-- The update stands in each linearization: it has ended, or the scan that is named, if one is, saw it.
abbrev pub Stands : List Operation → List Case → Standing → Type 0
Stands os cases s =
    HasEnded (operation_at os s.update)
    ⊎ ((scan : ℕ) × (s.scan ≡ Some scan) × HasSeenUpdate os cases s.update scan)

-- Two updates stand, and whichever is first, one of the parts excludes that.
pub record AreExcludedOrders (os : List Operation) (parts : List Part) (cases : List Case)
    (one other : Standing) : Type 0 where
  pub two : one.update ≡ other.update → ⊥
  pub one_stands : Stands os cases one
  pub other_stands : Stands os cases other
  pub one_first : AreExcluded parts (case.Order one.update other.update ∷ cases)
  pub other_first : AreExcluded parts (case.Order other.update one.update ∷ cases)

-- No linearization is such that all of the cases are so, on account of this and of the parts in front.
abbrev pub IsReasonWhy : List Operation → List Part → List Case → Why → Type 0
IsReasonWhy os parts cases (why.Circle lines circle) =
    AreLines os cases lines.items × IsCircle lines.items circle.items
IsReasonWhy os parts cases (why.Saw scan word) = IsExcludedScan os parts cases scan word
IsReasonWhy os parts cases (why.Order one other) = AreExcludedOrders os parts cases one other

-- Each part is right by the parts in front of it.
abbrev pub AreParts : List Operation → List Part → Type 0
AreParts os parts =
    (place : ℕ) (part : Part) → place < length parts → slice_index_or parts place part ≡ part →
    IsReasonWhy os (take place parts) part.cases.items part.why

-- The parts are right, and one of them has no cases.
pub record IsRefutation (h : History) (r : Refutation) : Type 0 where
  pub parts : AreParts (operations_of h) r.parts.items
  pub refutes : (part : Part) × Contains r.parts.items part × (length part.cases.items ≡ 0)

-- A history with a refutation is not linearizable.
abbrev pub RefutationsRefute : Type 0
RefutationsRefute = (h : History) (r : Refutation) → IsHistory h → IsRefutation h r → IsLinearizableHistory h → ⊥
