-- The double collects of a scan are found among the events.
use Rattle.std.proofs.Common.{◌≡◌, ℕ, zero, suc, ◌+◌, ◌-◌, ◌<◌, ◌≤◌, Bool, true, false, ◌&&◌, List, [], ◌∷◌, ◌++◌}
use Rattle.std.proofs.Common.{length, drop, get_or, map, Some, None, option_map, nat_eq, nat_le, if◌then◌else◌, refl}
use Rattle.std.proofs.Common.{sym, ap, subst, ◌∙◌, arith}
use Rattle.std.proofs.lemmas.Bool.{eqb-true, eq-eqb, leb-true, leb-false}
use Rattle.std.proofs.lemmas.List.{drop_all, get_or-map, get_or_past}
use Rattle.std.specs.List.{AllByRecursion}
use Rattle.snap_words.specs.Shape.{IsOneOf}
use Rattle.snap_semantics.specs.Run.{event_of}
use Rattle.snap_semantics.specs.Table.{who}
use Rattle.snap_semantics.specs.declared.event.Event.{Event}
use Rattle.snap_semantics.specs.declared.event.Happening.{Happening}
use Rattle.snap_semantics.specs.declared.event.Happening.TheVariants as what
use Rattle.snap_semantics.specs.declared.process.Item.{Item}
use Rattle.snap_semantics.specs.declared.process.Item.TheVariants.{Step, Call, Crash}
use Rattle.snap_semantics.specs.declared.process.Op.TheVariants as op
use Rattle.snap_semantics.specs.declared.process.Outcome.{Outcome}
use Rattle.snap_semantics.specs.declared.process.Outcome.TheVariants as outcomes
use Rattle.snap_runs.specs.Run.{Run, IsValidRun, state, item, outcome, events_of}
use Rattle.snap_runs.specs.Scan.{double_collects, ends_double_collect}
use Rattle.snap_record.specs.Record.{answers, collects_from, collects_of, is_answer, scan_called, scan_end}
use Rattle.snap_record.specs.History.{IsWithin, collects_at}
use Rattle.snap_record.specs.Searches.{collects_until, found_collects, scan_collects, scans}
use Rattle.snap_record.proofs.Counts.{count_split}
use Rattle.snap_record.proofs.Later.{events_after}
use Rattle.snap_record.proofs.Events.{next_left, events_from, next_events, no_events, all_events, all_within_run}

-- a choice that is not made
pub and_false : {A : Type 0} (b : Bool) (x y : A) → (if b && false then x else y) ≡ y
and_false true x y = refl
and_false false x y = refl

-- numbers that differ
apart : (m c : ℕ) (b : Bool) → nat_eq m c ≡ b → (m ≡ c → ⊥) → nat_eq m c ≡ false
apart m c true e differ = absurd (differ (eqb-true m c e))
apart m c false e differ = e

module _ (r : Run) where
  -- up to the answer at item t, where it answers process i
  until_answer : (i k t : ℕ) (rest : ℕ) (b : Bool) → nat_eq k i ≡ b →
      (if b && true then double_collects r k 0 t else rest) ≡ (if b && true then double_collects r i 0 t else rest)
  until_answer i k t rest true e = ap (λ j. double_collects r j 0 t) (eqb-true k i e)
  until_answer i k t rest false e = refl

  -- one item
  until_item : (i t : ℕ) (x : Item) (o : Outcome) (es : List Event) →
      collects_until r i (event_of t x o ++ es)
      ≡ (if nat_eq (who x) i && is_answer o then double_collects r i 0 t else collects_until r i es)
  until_item i t (Call k o) outcomes.Called es =
      and_false (nat_eq k i) (double_collects r k 0 t) (collects_until r i es)
      ∙ sym (and_false (nat_eq k i) (double_collects r i 0 t) (collects_until r i es))
  until_item i t x (outcomes.Answered v) es = until_answer i (who x) t (collects_until r i es) (nat_eq (who x) i) refl
  until_item i t x outcomes.Finished es =
      and_false (nat_eq (who x) i) (double_collects r (who x) 0 t) (collects_until r i es)
      ∙ sym (and_false (nat_eq (who x) i) (double_collects r i 0 t) (collects_until r i es))
  until_item i t x outcomes.Crashed es =
      and_false (nat_eq (who x) i) (double_collects r (who x) 0 t) (collects_until r i es)
      ∙ sym (and_false (nat_eq (who x) i) (double_collects r i 0 t) (collects_until r i es))
  until_item i t x _ es =
      sym (and_false (nat_eq (who x) i) (double_collects r i 0 t) (collects_until r i es))

  -- of a choice
  at_choice : (i : ℕ) (b : Bool) (x y : ℕ) →
      double_collects r i 0 (if b then x else y) ≡ (if b then double_collects r i 0 x else double_collects r i 0 y)
  at_choice i true x y = refl
  at_choice i false x y = refl

  -- up to the end of a scan
  until_end : (i t more : ℕ) → t + more ≡ length r.items →
      collects_until r i (events_from r t) ≡ double_collects r i 0 (scan_end r i t more)
  until_end i t zero e =
      let last : length r.items ≡ t = omega (arith, e) in
      ap (collects_until r i) (no_events r t (omega (arith, e))) ∙ ap (double_collects r i 0) last
  until_end i t (suc more) e =
      ap (collects_until r i) (next_events r t (omega (arith, e)))
      ∙ until_item i (suc t) (item r (suc t)) (outcome r (suc t)) (events_from r (suc t))
      ∙ ap (λ k. if answers r i (suc t) then double_collects r i 0 (suc t) else k)
      (until_end i (suc t) more (omega (arith, e)))
      ∙ sym (at_choice i (answers r i (suc t)) (suc t) (scan_end r i (suc t) more))

  -- a scan does not end before it starts
  end_later : (i t more : ℕ) → t ≤ scan_end r i t more
  end_later i t zero = omega arith
  end_later i t (suc more) = by_answer (answers r i (suc t)) (end_later i (suc t) more)
    where
      by_answer : (b : Bool) → suc t ≤ scan_end r i (suc t) more → t ≤ (if b then suc t else scan_end r i (suc t) more)
      by_answer true le = omega arith
      by_answer false le = omega (arith, le)

  -- the double collects of a scan
  of_scan : (i c : ℕ) → c ≤ length r.items →
      collects_until r i (events_from r c) - double_collects r i 0 c
      ≡ double_collects r i c (scan_end r i c (length r.items - c))
  of_scan i c le =
      let more = length r.items - c in
      let all = until_end i c more (omega (arith, le)) in
      let split = count_split (ends_double_collect r i) c (scan_end r i c more) (end_later i c more) in
      omega (arith, all, split)

  -- where no event is of item c, nothing is found
  none_found : (c : ℕ) (es : List Event) →
      AllByRecursion (λ (e : Event). e.item ≡ c → ⊥) es → found_collects r c es ≡ None
  none_found c [] all = refl
  none_found c (e ∷ es) all =
      ap (λ b. if b then scan_collects r e es else found_collects r c es) (apart e.item c (nat_eq e.item c) refl all.0)
      ∙ none_found c es all.1

  -- events of which something else is known
  others : (P : Event → Type 0) (c : ℕ) (es : List Event) → ((e : Event) → P e → e.item ≡ c → ⊥) →
      AllByRecursion P es → AllByRecursion (λ (e : Event). e.item ≡ c → ⊥) es
  others P c [] h all = tt
  others P c (e ∷ es) h all = (h e all.0, others P c es h all.1)

  -- none of the later events is
  none_later : (c : ℕ) → found_collects r c (events_from r c) ≡ None
  none_later c =
      none_found c (events_from r c)
      (others (λ (e : Event). suc c ≤ e.item) c (events_from r c) (λ e later same. absurd (omega (arith, later, same)))
      (events_after r.source r.shape (state r c) (suc c) (suc c) (drop c r.items) (omega arith)))

  -- an event of another item
  other_event : (c : ℕ) (e : Event) (es : List Event) → (e.item ≡ c → ⊥) →
      found_collects r c (e ∷ es) ≡ found_collects r c es
  other_event c e es differ =
      ap (λ b. if b then scan_collects r e es else found_collects r c es) (apart e.item c (nat_eq e.item c) refl differ)

  -- an item before item c
  passed : (c t : ℕ) (x : Item) (o : Outcome) (es : List Event) → (t ≡ c → ⊥) →
      found_collects r c (event_of t x o ++ es) ≡ found_collects r c es
  passed c t (Call k o) outcomes.Called es differ =
      other_event c (record { item = t; process = k; what = what.Call o }) es differ
  passed c t x (outcomes.Answered v) es differ =
      other_event c (record { item = t; process = who x; what = what.Answer v }) es differ
  passed c t x outcomes.Finished es differ =
      other_event c (record { item = t; process = who x; what = what.Done }) es differ
  passed c t x outcomes.Crashed es differ =
      other_event c (record { item = t; process = who x; what = what.Crash }) es differ
  passed c t x _ es differ = refl

  -- the item itself
  same_item : {A : Type 0} (c : ℕ) (x y : A) → (if nat_eq c c then x else y) ≡ x
  same_item c x y = ap (λ b. if b then x else y) (eq-eqb c c refl)

  -- item c itself
  here : (c : ℕ) (x : Item) (o : Outcome) → c ≤ length r.items →
      found_collects r c (event_of c x o ++ events_from r c) ≡ collects_from r c (scan_called o x)
  here c (Call i op.Scan) outcomes.Called le = same_item c _ _ ∙ ap (λ k. Some k) (of_scan i c le)
  here c (Call i (op.Update word value)) outcomes.Called le = same_item c _ _
  here c x (outcomes.Answered v) le = same_item c _ _
  here c x outcomes.Finished le = same_item c _ _
  here c x outcomes.Crashed le = same_item c _ _
  here c x _ le = none_later c

  -- one of the items
  among_items : (c t before : ℕ) → suc t + before ≡ c → c ≤ length r.items →
      found_collects r c (events_from r t) ≡ collects_of r c
  among_items c t zero e le =
      let now : suc t ≡ c = omega (arith, e) in
      ap (found_collects r c) (next_events r t (omega (arith, e, le)))
      ∙ ap (λ k. found_collects r c (event_of k (item r k) (outcome r k) ++ events_from r k)) now
      ∙ here c (item r c) (outcome r c) le
  among_items c t (suc before) e le =
      ap (found_collects r c) (next_events r t (omega (arith, e, le)))
      ∙ passed c (suc t) (item r (suc t)) (outcome r (suc t)) (events_from r (suc t))
      (λ same. absurd (omega (arith, e, same)))
      ∙ among_items c (suc t) before (omega (arith, e)) le

  -- a step calls no scan
  no_scan : (o : Outcome) (c k : ℕ) → collects_from r c (scan_called o (Step k)) ≡ None
  no_scan outcomes.Called c k = refl
  no_scan _ c k = refl

  -- behind the last item
  past_items : (c : ℕ) → length r.items < c → item r c ≡ Step 0
  past_items zero lt = absurd (omega (arith, lt))
  past_items (suc t) lt = get_or_past r.items t (Step 0) (omega (arith, lt))

  -- any number
  by_place : IsValidRun r → (c : ℕ) (b : Bool) → nat_le c (length r.items) ≡ b →
      found_collects r c (events_from r 0) ≡ collects_of r c
  by_place fits zero b e = none_later 0 ∙ sym (no_scan (outcome r 0) 0 0)
  by_place fits (suc t) true e = among_items (suc t) 0 t (omega arith) (leb-true (suc t) (length r.items) e)
  by_place fits (suc t) false e =
      let beyond = leb-false (suc t) (length r.items) e in
      let past : length r.items < suc t = omega (arith, beyond) in
      none_found (suc t) (events_from r 0) (others (IsWithin r.shape.n (length r.items)) (suc t) (events_from r 0)
      (λ e within same. absurd (let le = within.1 in omega (arith, le, same, past))) (all_within_run r fits))
      ∙ sym (ap (λ (x : Item). collects_from r (suc t) (scan_called (outcome r (suc t)) x)) (past_items (suc t) past)
      ∙ no_scan (outcome r (suc t)) (suc t) 0)

  -- what is found among all events
  pub found : IsValidRun r → (c : ℕ) (es : List Event) → es ≡ events_of r (length r.items) →
      found_collects r c es ≡ collects_of r c
  found fits c es all = ap (found_collects r c) (all ∙ all_events r) ∙ by_place fits c (nat_le c (length r.items)) refl

  -- the search, place by place
  module _ (es : List Event) (k : ℕ) (e : Event) (lt : k < length es) (is : e ≡ get_or es k e) where
    pub that_item : (c : ℕ) → nat_eq e.item c ≡ true →
        scan_collects r e (drop (k + 1) es) ≡ found_collects r c (drop k es)
    that_item c same =
        sym (ap (found_collects r c) (next_left es k e lt is)
        ∙ ap (λ b. if b then scan_collects r e (drop (k + 1) es) else found_collects r c (drop (k + 1) es)) same)

  -- nothing is found
  pub none_there : (c : ℕ) (es : List Event) (k : ℕ) → length es ≤ k → None ≡ found_collects r c (drop k es)
  none_there c es k le = sym (ap (found_collects r c) (drop_all k es le))

-- only a process's own call has it scan
scans_itself : (p i : ℕ) (w : Happening) → Some i ≡ scans p w → p ≡ i
scans_itself p i (what.Call op.Scan) h = cc
scans_itself p i _ h = absurd cc

-- an event of a list
event_there : (P : Event → Type 0) (es : List Event) (k : ℕ) (e : Event) → AllByRecursion P es →
    k < length es → e ≡ get_or es k e → P e
event_there P [] k e all lt is = absurd (omega (arith, lt))
event_there P (x ∷ es) zero e all lt is = subst P (sym is) all.0
event_there P (x ∷ es) (suc k) e all lt is = event_there P es k e all.1 (omega (arith, lt)) is

-- a scan is of one of the processes
pub scan_process : (r : Run) → IsValidRun r → (es : List Event) (k i : ℕ) (e : Event) →
    es ≡ events_of r (length r.items) → k < length es → e ≡ get_or es k e →
    Some i ≡ scans e.process e.what → IsOneOf r.shape.n i
scan_process r fits es k i e all lt is calls =
    let within = event_there (IsWithin r.shape.n (length r.items)) es k e
    (subst (λ (l : List Event). AllByRecursion (IsWithin r.shape.n (length r.items)) l) (sym (all ∙ all_events r))
    (all_within_run r fits)) lt is in
    subst (IsOneOf r.shape.n) (scans_itself e.process i e.what calls) within.0

-- what is counted of a scan
pub scan_told : (r : Run) (rest : List Event) (i until before result : ℕ) (e : Event) →
    Some i ≡ scans e.process e.what → until ≡ collects_until r i rest → before ≡ collects_at r e →
    result ≡ until - before → Some result ≡ scan_collects r e rest
scan_told r rest i until before result e calls until_is before_is is =
    ap (λ k. Some k) (is ∙ ap (λ k. k - before) until_is ∙ ap (λ k. collects_until r i rest - k) before_is)
    ∙ ap (option_map (λ j. collects_until r j rest - collects_at r e)) calls

-- the count at an event
pub count_there : (r : Run) (es : List Event) (counts : List ℕ) (k n : ℕ) (e : Event) →
    counts ≡ map (collects_at r) es → k < length es → e ≡ get_or es k e → n ≡ get_or counts k n → n ≡ collects_at r e
count_there r es counts k n e are lt is at =
    at ∙ ap (λ l. get_or l k n) are ∙ get_or-map (collects_at r) es k e n lt ∙ ap (collects_at r) (sym is)
