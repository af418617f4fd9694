-- What a scan cannot have seen is no candidate.
use Rattle.std.proofs.Common.{◌≡◌, ℕ, suc, ◌<◌, ◌≤◌, List, [], ◌∷◌, get_or}
use Rattle.std.proofs.Common.{Option, Some, None, ◌∙◌, IfSome, ap, arith, inl, inr, length, subst, sym}
use Rattle.std.proofs.lemmas.Bool.{cases_lt}
use Rattle.std.proofs.lemmas.List.{get_or_default, get_or_past, length-map}
use Rattle.std.specs.List.{Contains}
use Rattle.snap_runs.specs.Operation.{EndedBefore, Operation, Sees, Sets}
use Rattle.snap_judge.specs.declared.operation.Operation.{Operation as KeptOperation}
use Rattle.snap_judge.specs.Kept.{operation_of}
use Rattle.snap_judge.proofs.ExplainedLists.{within_if}
use Rattle.snap_refutation.specs.declared.refutation.Case.{Case}
use Rattle.snap_refutation.specs.declared.refutation.Case.TheVariants as case
use Rattle.snap_refutation.specs.declared.refutation.Part.{Part}
use Rattle.snap_refutation.specs.declared.sights.Sight.{Sight}
use Rattle.snap_refutation.specs.Candidates.{IsAlone, IsCandidate, IsHidden, IsUpdateOf}
use Rattle.snap_refutation.specs.Operations.{kept, no_operation, operation_at}
use Rattle.snap_refutation.specs.Refutations.{AreExcluded, IsExcludedScan}
use Rattle.snap_refutation.specs.Sights.{HidesUpTo, IsHiddenBy, IsOutOfSight, IsPastBeginning, IsSight, MaySee}

hides : (os : List Operation) (scan update : Operation) (word : ℕ) (hidden : Option ℕ) →
    IfSome hidden (HidesUpTo os scan word) → IsHiddenBy update hidden → IsHidden os scan word update
hides os scan update word hidden known hider =
    let call = hider.0 in
    let h : HidesUpTo os scan word call =
    subst (λ (o : Option ℕ). IfSome o (HidesUpTo os scan word)) hider.1 known in
    let before : hider.2 < call = hider.4 in
    let at : h.hider.call ≡ call = h.called in
    record {
      hider = h.hider;
      among = h.among;
      sets = h.sets;
      after = (hider.2, hider.3, omega (arith, before, at));
      before = h.before;
    }

pub out_of_sight : (os : List Operation) (s : Sight) (place : ℕ) → IsSight os s.scan s.word s →
    IsOutOfSight s (operation_at os place) → MaySee os s (Some place) → ⊥
out_of_sight os s place sight (inl other) may = other may.sets
out_of_sight os s place sight (inr (inl late)) may =
    may.in_time (subst (λ (o : Operation). EndedBefore o (operation_at os place)) sight.operation late)
out_of_sight os s place sight (inr (inr hider)) may =
    may.in_sight (hides os (operation_at os s.scan) (operation_at os place) s.word s.hidden sight.hidden hider)

pub past_beginning : (os : List Operation) (s : Sight) → IsSight os s.scan s.word s → IsPastBeginning s →
    MaySee os s None → ⊥
past_beginning os s sight (inl other) may = other may.0
past_beginning os s sight (inr hider) may =
    let h : HidesUpTo os (operation_at os s.scan) s.word hider.0 =
    subst (λ (o : Option ℕ). IfSome o (HidesUpTo os (operation_at os s.scan) s.word)) hider.1 sight.hidden in
    may.1 h.hider h.among h.sets h.before

-- What is no place of an operation is no candidate.
pub no_place : (os : List Operation) (s : Sight) (place : ℕ) → length os ≤ place → MaySee os s (Some place) → ⊥
no_place os s place past may =
    let none : operation_at os place ≡ no_operation = get_or_past os place no_operation past in
    let no : Sets s.word s.value ≡ Sees [] = sym may.sets ∙ ap (λ (o : Operation). o.action) none in cc

-- An update that stands at a place is one of the operations.
pub update_among : (os : List Operation) (place word : ℕ) (o : Operation) → o ≡ operation_at os place →
    IsUpdateOf word o → Contains os o
update_among os place word o is sets =
    let lt : place < length os = within_if no_operation os place (λ none.
    let no : Sets word sets.0 ≡ Sees [] = sym sets.1 ∙ ap (λ (x : Operation). x.action) (is ∙ none) in cc) in
    (place, lt, get_or_default os place o no_operation lt ∙ sym is)

-- What is kept of a scan and a word is of that scan and that word.
as_seen : (os : List Operation) (s : Sight) (scan word : ℕ) (seen : Option ℕ) → IsSight os scan word s →
    IsCandidate os (operation_at os scan) word s.value seen → MaySee os s seen
as_seen os s scan word seen sight may =
    subst (λ (k : ℕ). IsCandidate os (operation_at os k) s.word s.value seen) (sym sight.of_scan)
    (subst (λ (w : ℕ). IsCandidate os (operation_at os scan) w s.value seen) (sym sight.of_word) may)

pub alone : (os : List Operation) (s : Sight) (scan word : ℕ) (seen : Option ℕ) → IsSight os scan word s →
    ((other : Option ℕ) → MaySee os s other → other ≡ seen) → IsAlone os scan word seen
alone os s scan word seen sight only = record {
  value = s.value;
  shows = sight.shows;
  only = λ other may. only other (as_seen os s scan word other sight may);
}

pub excluded_scan : (os : List Operation) (s : Sight) (scan word : ℕ) (parts : List Part) (cases : List Case) →
    IsSight os scan word s →
    ((seen : Option ℕ) → MaySee os s seen → AreExcluded parts (case.Saw s.scan s.word seen ∷ cases)) →
    IsExcludedScan os parts cases scan word
excluded_scan os s scan word parts cases sight each = record {
  value = s.value;
  shows = sight.shows;
  each = λ seen may.
      subst (λ (k : ℕ). AreExcluded parts (case.Saw k word seen ∷ cases)) sight.of_scan
      (subst (λ (w : ℕ). AreExcluded parts (case.Saw s.scan w seen ∷ cases)) sight.of_word
      (each seen (as_seen os s scan word seen sight may)));
}

-- What holds of each candidate by its place, and of the beginning, holds of each.
pub each_seen : (ops : List KeptOperation) (s : Sight) (P : Option ℕ → Type 0) → (MaySee (kept ops) s None → P None) →
    ((i : ℕ) → i < length ops → MaySee (kept ops) s (Some i) → P (Some i)) → (seen : Option ℕ) →
    MaySee (kept ops) s seen → P seen
each_seen ops s P first rest None may = first may
each_seen ops s P first rest (Some i) may = elim (cases_lt i (length ops)) [
  | inl lt ↦ rest i lt may
  | inr past ↦ absurd (no_place (kept ops) s i (omega (arith, past, length-map ops operation_of)) may)
]

-- What holds below a number and at it holds below the next one.
pub one_more : (P : ℕ → Type 0) (k n : ℕ) → n ≤ suc k → ((i : ℕ) → i < k → P i) → P k → (i : ℕ) → i < n → P i
one_more P k n le before here i lt = elim (cases_lt i k) [
  | inl less ↦ before i less
  | inr more ↦ (let same : k ≡ i = omega arith in subst P same here)
]

-- What a list has at a place is one.
pub element_is : {X : Type 0} (xs : List X) (k : ℕ) (x y : X) → k < length xs → x ≡ get_or xs k x →
    get_or xs k y ≡ y → x ≡ y
element_is xs k x y lt is is' = is ∙ get_or_default xs k x y lt ∙ is'
