-- `RefutationsRefute`: in a linearization in which the cases of a part are so, each scan saw one of its candidates, and
-- the lines of the part stand; so no linearization is such that they are.
use Rattle.std.proofs.Common.{◌≡◌, ℕ, zero, suc, ◌<◌, ◌≤◌, List, [], ◌∷◌, length, refl, ap, sym, subst, arith}
use Rattle.std.proofs.Common.{inl, inr, ◌-◌, ◌∙◌, Option, Some, None, replicate, slice_index_or, take}
use Rattle.std.proofs.lemmas.Bool.{cases_lt}
use Rattle.std.proofs.lemmas.List.{get_or_default, get_or-take, length-take}
use Rattle.std.proofs.lemmas.List.Elements.{All-contains}
use Rattle.std.specs.List.{All, Contains}
use Rattle.snap_runs.specs.Operation.{EndedBefore, HasEnded, Operation, Sees, Sets}
use Rattle.snap_runs.proofs.Computing.{neither_less}
use Rattle.snap_judge.specs.History.{History}
use Rattle.snap_judge.specs.Linearizable.{CameToEnd, IsLinearizationOf, IsOperationOf}
use Rattle.snap_judge.proofs.ExplainedLists.{replicated, within_if}
use Rattle.snap_refutation.specs.declared.refutation.Case.{Case}
use Rattle.snap_refutation.specs.declared.refutation.Case.TheVariants as case
use Rattle.snap_refutation.specs.declared.refutation.Grounds.{Grounds}
use Rattle.snap_refutation.specs.declared.refutation.Grounds.TheVariants as grounds
use Rattle.snap_refutation.specs.declared.refutation.Line.{Line}
use Rattle.snap_refutation.specs.declared.refutation.Part.{Part}
use Rattle.snap_refutation.specs.declared.refutation.Standing.{Standing}
use Rattle.snap_refutation.specs.declared.refutation.Why.{Why}
use Rattle.snap_refutation.specs.declared.refutation.Why.TheVariants as why
use Rattle.snap_refutation.specs.Candidates.{HasSeen, IsCandidate, IsHidden, IsUpdateOf, MayHaveSeen, ScanShows}
use Rattle.snap_refutation.specs.Operations.{AreOperationsOf, no_operation, operation_at, operations_of}
use Rattle.snap_refutation.specs.Refutations.{AreExcluded, AreGrounds, AreLines, AreParts, IsBehindBlock, IsCircle}
use Rattle.snap_refutation.specs.Refutations.{IsLineAt, IsOfBlock, IsReasonWhy, Leads, RefutationsRefute, Stands}
use Rattle.snap_refutation.proofs.Listed.{operations_are_all}
use Rattle.snap_refutation.proofs.Origins.{IsAt, LastSet, Untouched, comes}

-- A scan that a history tells of has ended.
scan_ended : (h : History) (s : Operation) (view : List ℕ) → IsOperationOf h s → s.action ≡ Sees view → HasEnded s
scan_ended h s view is sees = decided s.end refl (rw sees at is.came)
  where
    decided : (end : Option ℕ) → s.end ≡ end → CameToEnd h.events s.process s.call end (Sees view) → HasEnded s
    decided (Some t) stands came = (t, stands)
    decided None stands came = absurd came

-- A scan that shows something in a word is one of the operations.
scan_there : (os : List Operation) (scan word value : ℕ) → ScanShows (operation_at os scan) word value →
    scan < length os
scan_there os scan word value shows =
    within_if no_operation os scan (λ none.
    let both : Sees [] ≡ Sees shows.0 = ap (λ (o : Operation). o.action) (sym none) ∙ shows.1 in
    let empty : shows.0 ≡ [] = cc in
    let few : length shows.0 ≡ 0 = ap (λ (v : List ℕ). length v) empty in
    omega (arith, few, shows.2.0.0, shows.2.0.1))

-- So is an operation that has ended.
ended_there : (os : List Operation) (place end : ℕ) → (operation_at os place).end ≡ Some end → place < length os
ended_there os place end is =
    within_if no_operation os place (λ none.
    let no : ◌≡◌ {A = Option ℕ} None (Some end) = ap (λ (o : Operation). o.end) (sym none) ∙ is in cc)

-- What stands in the first elements of a list stands in the list.
taken : {X : Type 0} (n : ℕ) (xs : List X) (i : ℕ) (x : X) → i < length (take n xs) →
    slice_index_or (take n xs) i x ≡ x → (i < n) × (i < length xs) × (slice_index_or xs i x ≡ x)
taken n xs i x lt is =
    let least = length-take n xs in
    let early : i < n = omega arith in
    (early, omega arith, sym (get_or-take n xs i x early) ∙ is)

all_more : {X : Type 0} (P : X → Type 0) (x : X) (xs : List X) → P x → All P xs → All P (x ∷ xs)
all_more P x xs first rest zero d lt = first
all_more P x xs first rest (suc k) d lt = rest k d (omega arith)

-- Two operations at one place are one.
one_operation : (l : List Operation) (i j : ℕ) (a b : Operation) → IsAt l i a → IsAt l j b → i ≡ j → a ≡ b
one_operation l i j a b stands stands' same =
    sym stands.1 ∙ ap (λ (k : ℕ). slice_index_or l k a) same ∙ get_or_default l j a b stands'.0 ∙ stands'.1

-- Nor is a word touched by the scan behind its untouched operations.
and_scan : (l : List Operation) (k j word : ℕ) (s : Operation) (view : List ℕ) → IsAt l j s → s.action ≡ Sees view →
    Untouched l k j word → Untouched l k (suc j) word
and_scan l k j word s view stands sees rest i o y low high at sets = elim (cases_lt i j) [
  | inl less ↦ rest i o y low less at sets
  | inr le ↦ (let same : i ≡ j = omega arith in
      let one : o ≡ s = one_operation l i j o s at stands same in
      let no : Sets word y ≡ Sees view = sym sets ∙ ap (λ (x : Operation). x.action) one ∙ sees in cc)
]

-- In this order the scan stands before each update of the word.
record SawBeginning (os l : List Operation) (scan word : ℕ) : Type 0 where
  at : ℕ
  stands : IsAt l at (operation_at os scan)
  view : List ℕ
  sees : (operation_at os scan).action ≡ Sees view
  untouched : Untouched l 0 at word

-- In this order the update is the last one of the word before the scan.
record SawUpdate (os l : List Operation) (scan word update : ℕ) : Type 0 where
  at : ℕ
  stands : IsAt l at (operation_at os scan)
  view : List ℕ
  sees : (operation_at os scan).action ≡ Sees view
  place : ℕ
  before : place < at
  setter : IsAt l place (operation_at os update)
  sets : IsUpdateOf word (operation_at os update)
  last : Untouched l (suc place) at word

abbrev SawThere : (os l : List Operation) (scan word : ℕ) → Option ℕ → Type 0
SawThere os l scan word None = SawBeginning os l scan word
SawThere os l scan word (Some update) = SawUpdate os l scan word update

record InOrder (os l : List Operation) (first second : ℕ) : Type 0 where
  at : ℕ
  stands : IsAt l at (operation_at os first)
  other_at : ℕ
  other_stands : IsAt l other_at (operation_at os second)
  before : at < other_at

-- The case is so in this order.
abbrev IsSo : (os l : List Operation) → Case → Type 0
IsSo os l (case.Saw scan word seen) = SawThere os l scan word seen
IsSo os l (case.Order first second) = InOrder os l first second

-- The first operation stands, and before the second one, if that stands.
record StandsBefore (os l : List Operation) (first second : ℕ) : Type 0 where
  at : ℕ
  stands : IsAt l at (operation_at os first)
  before : (k : ℕ) → IsAt l k (operation_at os second) → at < k

-- The lines of a list are so in this order.
abbrev LinesStand : (os l : List Operation) → List Line → Type 0
LinesStand os l lines =
    (place : ℕ) (line : Line) → IsLineAt lines place line → StandsBefore os l line.first line.second

-- The operation at this place is the update, or stands behind it with no other update of the word between.
record BlockAt (os l : List Operation) (word update at : ℕ) : Type 0 where
  place : ℕ
  setter : IsAt l place (operation_at os update)
  sets : IsUpdateOf word (operation_at os update)
  from : place ≤ at
  last : Untouched l (suc place) (suc at) word

module _ (os l : List Operation) where
  -- an operation by another name for its place
  renamed : (k a b : ℕ) → a ≡ b → IsAt l k (operation_at os a) → IsAt l k (operation_at os b)
  renamed k a b same stands = subst (λ (p : ℕ). IsAt l k (operation_at os p)) same stands

  -- The operation from which lines lead stands before the one to which they lead, or is it.
  leads_stand : (lines : List Line) → LinesStand os l lines → (from : ℕ) (way : List ℕ) (to k : ℕ) →
      Leads lines from way to → IsAt l k (operation_at os to) →
      (j : ℕ) × IsAt l j (operation_at os from) × (j ≤ k)
  leads_stand lines stand from [] to k leads at = (k, renamed k to from (sym leads) at, omega arith)
  leads_stand lines stand from (place ∷ way) to k leads at =
      let rest = leads_stand lines stand leads.0.second way to k leads.3 at in
      let here = stand place leads.0 leads.1 in
      let before : here.at < rest.0 = here.before rest.0 rest.1 in
      (here.at, renamed here.at leads.0.first from leads.2 here.stands, omega (arith, rest.2))

  way_stands : (lines : List Line) → LinesStand os l lines → (from : ℕ) (way : List ℕ) (to : ℕ) → 0 < length way →
      Leads lines from way to → StandsBefore os l from to
  way_stands lines stand from [] to some leads = absurd (omega arith)
  way_stands lines stand from (place ∷ way) to some leads =
      let here = stand place leads.0 leads.1 in
      record {
        at = here.at;
        stands = renamed here.at leads.0.first from leads.2 here.stands;
        before = λ k stands.
            let rest = leads_stand lines stand leads.0.second way to k leads.3 stands in
            let before : here.at < rest.0 = here.before rest.0 rest.1 in omega (arith, rest.2);
      }

  no_circle : (lines : List Line) (way : List ℕ) → LinesStand os l lines → IsCircle lines way → ⊥
  no_circle lines way stand circle =
      let here = way_stands lines stand circle.from way circle.from circle.closes.some circle.closes.leads in
      let no : here.at < here.at = here.before here.at here.stands in omega arith

module _ (h : History) (os : List Operation) (all : AreOperationsOf h os) (l : List Operation)
    (lin : IsLinearizationOf h l) where
  told : (k : ℕ) (o : Operation) → IsAt l k o → IsOperationOf h o
  told k o stands = rw stands.1 at (lin.took_place k o stands.0)

  once : (j k : ℕ) (o : Operation) → IsAt l j o → IsAt l k o → j < k → ⊥
  once j k o stands stands' lt = lin.once j k o lt stands'.0 (ap (λ (z : Operation). z.call) (stands.1 ∙ sym stands'.1))

  one_place : (j k : ℕ) (o : Operation) → IsAt l j o → IsAt l k o → j ≡ k
  one_place j k o stands stands' = neither_less j k (once j k o stands stands') (once k j o stands' stands)

  in_order : (j k : ℕ) (a b : Operation) → IsAt l j a → IsAt l k b → EndedBefore a b → j < k
  in_order j k a b stands stands' ended =
      lin.order j k a stands.0 stands'.0 (rw (stands.1, get_or_default l k a b stands'.0, stands'.1) ended)

  -- What has ended stands.
  stood : (o : Operation) → IsOperationOf h o → HasEnded o → (j : ℕ) × IsAt l j o
  stood o its ended = let here = lin.complete o its ended in (here.0, (here.1, here.2))

  its_own : (o : Operation) → Contains os o → IsOperationOf h o
  its_own o has = All-contains (IsOperationOf h) os o all.each has

  -- What stands is one of the operations, and two of them stand at two places.
  there : (place j : ℕ) → IsAt l j (operation_at os place) → place < length os
  there place j stands =
      within_if no_operation os place
      (λ none. (subst (IsOperationOf h) none (told j (operation_at os place) stands)).came)

  rises : (a b j : ℕ) → a < b → IsAt l j (operation_at os b) → (operation_at os a).call ≡ (operation_at os b).call → ⊥
  rises a b j less stands same =
      let up : (operation_at os a).call < (operation_at os b).call = all.rising a b no_operation less (there b j stands) in
      omega arith

  two_places : (a b i j : ℕ) → IsAt l i (operation_at os a) → IsAt l j (operation_at os b) → (a ≡ b → ⊥) → i ≡ j → ⊥
  two_places a b i j stands stands' apart same =
      let one = one_operation l i j (operation_at os a) (operation_at os b) stands stands' same in
      let call : (operation_at os a).call ≡ (operation_at os b).call = ap (λ (o : Operation). o.call) one in
      apart (neither_less a b (λ less. rises a b j less stands' call) (λ less. rises b a i less stands (sym call)))

  -- The last update of the word before a scan is not hidden from it.
  not_hidden : (j : ℕ) (s : Operation) (word value : ℕ) → IsAt l j s → (last : LastSet l j word value) →
      IsHidden os s word last.setter → ⊥
  not_hidden j s word value stands last hidden =
      let hider = stood hidden.hider (its_own hidden.hider hidden.among) (hidden.before.0, hidden.before.1) in
      let after : last.place < hider.0 = in_order last.place hider.0 last.setter hidden.hider last.at hider.1 hidden.after in
      let before : hider.0 < j = in_order hider.0 j hidden.hider s hider.1 stands hidden.before in
      last.last hider.0 hidden.hider hidden.sets.0 (omega arith) before hider.1 hidden.sets.1

  may_have_seen : (j : ℕ) (s : Operation) (word value : ℕ) → IsAt l j s → (last : LastSet l j word value) →
      MayHaveSeen os s word value last.setter
  may_have_seen j s word value stands last = record {
    sets = last.sets;
    in_time = λ ended.
        let after : j < last.place = in_order j last.place s last.setter stands last.at ended in
        let before : last.place < j = last.before in omega arith;
    in_sight = not_hidden j s word value stands last;
  }

  -- What a scan saw, in this order, and that it is a candidate.
  abbrev SawCandidate : (scan word value : ℕ) → Type 0
  SawCandidate scan word value =
      (seen : Option ℕ) × IsCandidate os (operation_at os scan) word value seen × SawThere os l scan word seen

  saw_update : (scan word value j : ℕ) → ScanShows (operation_at os scan) word value →
      IsAt l j (operation_at os scan) → LastSet l j word value → SawCandidate scan word value
  saw_update scan word value j shows stands last =
      let s = operation_at os scan in
      let has = all.all last.setter (told last.place last.setter last.at) in
      let named : last.setter ≡ operation_at os has.0 =
      sym (get_or_default os has.0 no_operation last.setter has.1 ∙ has.2) in (
        Some has.0,
        subst (MayHaveSeen os s word value) named (may_have_seen j s word value stands last),
        record {
          at = j;
          stands = stands;
          view = shows.0;
          sees = shows.1;
          place = last.place;
          before = last.before;
          setter = subst (IsAt l last.place) named last.at;
          sets = (value, subst (λ (o : Operation). o.action ≡ Sets word value) named last.sets);
          last = last.last;
        },
      )

  saw_beginning : (scan word value j : ℕ) → ScanShows (operation_at os scan) word value →
      IsAt l j (operation_at os scan) → Untouched l 0 j word → value ≡ 0 → SawCandidate scan word value
  saw_beginning scan word value j shows stands untouched zeroed = (
    None,
    (
      zeroed,
      λ o has sets ended.
          let here = stood o (its_own o has) (ended.0, ended.1) in
          let before : here.0 < j = in_order here.0 j o (operation_at os scan) here.1 stands ended in
          untouched here.0 o sets.0 (omega arith) before here.1 sets.1,
    ),
    record { at = j; stands = stands; view = shows.0; sees = shows.1; untouched = untouched },
  )

  saw_candidate : (scan word value : ℕ) → ScanShows (operation_at os scan) word value → SawCandidate scan word value
  saw_candidate scan word value shows =
      let s = operation_at os scan in
      let its : IsOperationOf h s = all.each scan no_operation (scan_there os scan word value shows) in
      let here = stood s its (scan_ended h s shows.0 its shows.1) in
      elim (comes (replicate h.shape.w 0) l here.0 s shows.0 word value lin.runs here.1 shows.1 shows.2) [
        | inl last ↦ saw_update scan word value here.0 shows here.1 last
        | inr never ↦ saw_beginning scan word value here.0 shows here.1 never.0
            (sym never.1 ∙ replicated 0 h.shape.w (word - 1))
      ]

  -- What is known of a scan is so in this order, if the cases are.
  has_seen : (cases : List Case) → All (IsSo os l) cases → (scan word : ℕ) (seen : Option ℕ) →
      HasSeen os cases scan word seen → SawThere os l scan word seen
  has_seen cases so scan word seen (inl assumed) =
      All-contains (IsSo os l) cases (case.Saw scan word seen) so assumed
  has_seen cases so scan word seen (inr alone) =
      let c = saw_candidate scan word alone.value alone.shows in
      subst (SawThere os l scan word) (alone.only c.0 c.1) c.2

  -- What belongs to the block of an update stands where the update does.
  block_stands : (cases : List Case) → All (IsSo os l) cases → (word update operation j : ℕ) →
      IsOfBlock os cases word update operation → IsAt l j (operation_at os update) →
      (k : ℕ) × IsAt l k (operation_at os operation)
  block_stands cases so word update operation j (inl same) stands =
      (j, renamed os l j update operation (sym same.0) stands)
  block_stands cases so word update operation j (inr seen) stands =
      let saw = has_seen cases so operation word (Some update) seen in (saw.at, saw.stands)

  of_block : (cases : List Case) → All (IsSo os l) cases → (word update operation k : ℕ) →
      IsOfBlock os cases word update operation → IsAt l k (operation_at os operation) → BlockAt os l word update k
  of_block cases so word update operation k (inl same) stands = record {
    place = k;
    setter = renamed os l k operation update same.0 stands;
    sets = same.1;
    from = omega arith;
    last = λ i o y low high at sets. omega (arith, low, high);
  }
  of_block cases so word update operation k (inr seen) stands =
      let saw = has_seen cases so operation word (Some update) seen in
      let here : saw.at ≡ k = one_place saw.at k (operation_at os operation) saw.stands stands in
      let before : saw.place < saw.at = saw.before in
      record {
        place = saw.place;
        setter = saw.setter;
        sets = saw.sets;
        from = omega arith;
        last = subst (λ (j : ℕ). Untouched l (suc saw.place) (suc j) word) here
            (and_scan l (suc saw.place) saw.at word (operation_at os operation) saw.view saw.stands saw.sees saw.last);
      }

  -- Blocks of a word do not overlap: where something of one stands before something of another, so does its update.
  blocks_apart : (word update other i j : ℕ) → (other ≡ update → ⊥) → (a : BlockAt os l word update i) →
      (b : BlockAt os l word other j) → i < j → a.place < b.place
  blocks_apart word update other i j apart a b less =
      let differ : b.place ≡ a.place → ⊥ = two_places other update b.place a.place b.setter a.setter apart in
      elim (cases_lt a.place b.place) [
        | inl first ↦ first
        | inr le ↦ absurd (let from : a.place ≤ i = a.from in
            let more : b.place < a.place = omega (arith, differ, le) in
            b.last a.place (operation_at os update) a.sets.0 more (omega arith) a.setter a.sets.1)
      ]

  -- So does all of its block.
  block_before : (word update other i j k m : ℕ) → (other ≡ update → ⊥) → BlockAt os l word update i →
      BlockAt os l word other j → i < j → BlockAt os l word update k → IsAt l m (operation_at os other) → k < m
  block_before word update other i j k m apart a b less c stands =
      let first : a.place < b.place = blocks_apart word update other i j apart a b less in
      let one : a.place ≡ c.place = one_place a.place c.place (operation_at os update) a.setter c.setter in
      let here : b.place ≡ m = one_place b.place m (operation_at os other) b.setter stands in
      elim (cases_lt k m) [
        | inl before ↦ before
        | inr le ↦ absurd
            (c.last m (operation_at os other) b.sets.0 (omega arith) (omega arith) stands b.sets.1)
      ]

  behind_block : (cases : List Case) → All (IsSo os l) cases → (lines : List Line) → LinesStand os l lines →
      (update : ℕ) (way : List ℕ) (first second : ℕ) →
      IsBehindBlock os cases lines update way first second → StandsBefore os l first second
  behind_block cases so lines stand update way first second g =
      let b = g.blocks in
      let from = way_stands os l lines stand g.from way g.to g.leads.some g.leads.leads in
      let of_from = of_block cases so b.word update g.from from.at b.of_from from.stands in
      let here = block_stands cases so b.word update first of_from.place b.of_first of_from.setter in
      let of_first = of_block cases so b.word update first here.0 b.of_first here.1 in
      record {
        at = here.0;
        stands = here.1;
        before = λ m stands.
            let to = block_stands cases so b.word second g.to m b.of_to stands in
            let of_to = of_block cases so b.word second g.to to.0 b.of_to to.1 in
            block_before b.word update second from.at to.0 here.0 m b.other of_from of_to (from.before to.0 to.1)
            of_first stands;
      }

  -- A line is so in this order, if the lines in front of it are.
  line_stands : (cases : List Case) → All (IsSo os l) cases → (lines : List Line) → LinesStand os l lines →
      (g : Grounds) (first second : ℕ) →
      AreGrounds os cases lines g first second → StandsBefore os l first second
  line_stands cases so lines stand grounds.Ended first second g =
      let its = all.each first no_operation (ended_there os first g.0 g.1) in
      let here = stood (operation_at os first) its (g.0, g.1) in
      record {
        at = here.0;
        stands = here.1;
        before = λ k stands. in_order here.0 k (operation_at os first) (operation_at os second) here.1 stands g;
      }
  line_stands cases so lines stand grounds.Saw first second g =
      let saw = has_seen cases so second g.0 (Some first) g.2 in
      record {
        at = saw.place;
        stands = saw.setter;
        before = λ k stands.
            let here : saw.at ≡ k = one_place saw.at k (operation_at os second) saw.stands stands in
            let before : saw.place < saw.at = saw.before in omega arith;
      }
  line_stands cases so lines stand grounds.First first second g =
      let saw = has_seen cases so first g.0 None g.2 in
      record {
        at = saw.at;
        stands = saw.stands;
        before = λ k stands. elim (cases_lt saw.at k) [
          | inl less ↦ less
          | inr le ↦ absurd
              (and_scan l 0 saw.at g.0 (operation_at os first) saw.view saw.stands saw.sees saw.untouched
              k (operation_at os second) g.1.0 (omega arith) (omega arith) stands g.1.1)
        ];
      }
  line_stands cases so lines stand grounds.Assumed first second g =
      let order = All-contains (IsSo os l) cases (case.Order first second) so g in
      record {
        at = order.at;
        stands = order.stands;
        before = λ k stands.
            let here : order.other_at ≡ k =
            one_place order.other_at k (operation_at os second) order.other_stands stands in
            let before : order.at < order.other_at = order.before in omega arith;
      }
  line_stands cases so lines stand (grounds.Blocks update way) first second g =
      behind_block cases so lines stand update way.items first second g

  first_lines : (cases : List Case) → All (IsSo os l) cases → (lines : List Line) → AreLines os cases lines →
      (n place : ℕ) (line : Line) → place < n →
      IsLineAt lines place line → StandsBefore os l line.first line.second
  first_lines cases so lines are zero place line lt at = absurd (omega arith)
  first_lines cases so lines are (suc n) place line lt at =
      line_stands cases so (take place lines)
      (λ i other at'. let t = taken place lines i other at'.0 at'.1 in
      let early : i < place = t.0 in
      first_lines cases so lines are n i other (omega arith) (t.1, t.2))
      line.grounds line.first line.second (are place line at)

  lines_stand : (cases : List Case) → All (IsSo os l) cases → (lines : List Line) → AreLines os cases lines →
      LinesStand os l lines
  lines_stand cases so lines are place line at = first_lines cases so lines are (suc place) place line (omega arith) at

  update_stands : (cases : List Case) → All (IsSo os l) cases → (s : Standing) → Stands os cases s →
      (j : ℕ) × IsAt l j (operation_at os s.update)
  update_stands cases so s (inl ended) =
      stood (operation_at os s.update)
      (all.each s.update no_operation (ended_there os s.update ended.0 ended.1)) ended
  update_stands cases so s (inr seen) =
      let sight = seen.2 in
      let saw = has_seen cases so seen.0 sight.0 (Some s.update) sight.2 in (saw.place, saw.setter)

  -- The cases of a part are not all so in this order.
  abbrev Excludes : Part → Type 0
  Excludes p = All (IsSo os l) p.cases.items → ⊥

  excluded : (parts : List Part) → ((p : Part) → Contains parts p → Excludes p) → (cases : List Case) →
      All (IsSo os l) cases → AreExcluded parts cases → ⊥
  excluded parts earlier cases so e =
      earlier e.0 e.1 (λ k d lt.
      All-contains (IsSo os l) cases (slice_index_or e.0.cases.items k d) so (e.2 k d lt))

  reason_excludes : (parts : List Part) → ((p : Part) → Contains parts p → Excludes p) → (cases : List Case) →
      All (IsSo os l) cases → (w : Why) → IsReasonWhy os parts cases w → ⊥
  reason_excludes parts earlier cases so (why.Circle lines circle) g =
      no_circle os l lines.items circle.items (lines_stand cases so lines.items g.0) g.1
  reason_excludes parts earlier cases so (why.Saw scan word) g =
      let c = saw_candidate scan word g.value g.shows in
      excluded parts earlier (case.Saw scan word c.0 ∷ cases)
      (all_more (IsSo os l) (case.Saw scan word c.0) cases c.2 so) (g.each c.0 c.1)
  reason_excludes parts earlier cases so (why.Order one other) g =
      let a = update_stands cases so one g.one_stands in
      let b = update_stands cases so other g.other_stands in
      let differ : a.0 ≡ b.0 → ⊥ = two_places one.update other.update a.0 b.0 a.1 b.1 g.two in
      elim (cases_lt a.0 b.0) [
        | inl less ↦ excluded parts earlier (case.Order one.update other.update ∷ cases)
            (all_more (IsSo os l) (case.Order one.update other.update) cases
            (record { at = a.0; stands = a.1; other_at = b.0; other_stands = b.1; before = less }) so) g.one_first
        | inr le ↦ excluded parts earlier (case.Order other.update one.update ∷ cases)
            (all_more (IsSo os l) (case.Order other.update one.update) cases
            (record {
              at = b.0;
              stands = b.1;
              other_at = a.0;
              other_stands = a.1;
              before = omega (arith, differ, le);
            }) so) g.other_first
      ]

  first_parts : (parts : List Part) → AreParts os parts → (n place : ℕ) (part : Part) → place < n →
      place < length parts → slice_index_or parts place part ≡ part → Excludes part
  first_parts parts are zero place part less lt is so = omega (arith, less)
  first_parts parts are (suc n) place part less lt is so =
      reason_excludes (take place parts)
      (λ p has. let t = taken place parts has.0 p has.1 has.2 in
      let early : has.0 < place = t.0 in
      first_parts parts are n has.0 p (omega arith) t.1 t.2)
      part.cases.items so part.why (are place part lt is)

pub refutations_refute : RefutationsRefute
refutations_refute h r is refutation linearizable =
    let last = refutation.refutes in
    first_parts h (operations_of h) (operations_are_all h is) linearizable.0 linearizable.1 r.parts.items
    refutation.parts (suc last.1.0) last.1.0 last.0 (omega arith) last.1.1 last.1.2
    (λ k d lt. absurd (omega (arith, lt, last.2)))
