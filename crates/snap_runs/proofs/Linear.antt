-- Every run that keeps the promises is linearizable: each update at its write, and each scan at its point.
use Rattle.std.proofs.Common.{◌≡◌, ℕ, zero, suc, ◌<◌, ◌≤◌, ◌⊎◌, true, List, [], ◌∷◌, ◌++◌, length, Option, Some, None}
use Rattle.std.proofs.Common.{replicate, map, refl, sym, ◌∙◌, ap, subst, arith, inl, inr}
use Rattle.std.specs.List.{AllByRecursion, Contains}
use Rattle.std.proofs.lemmas.Bool.{cases_eq}
use Rattle.std.proofs.lemmas.List.{append-nil, length-replicate}
use Rattle.std.proofs.lemmas.List.Elements.{All-from_recursion, Contains-append_left, Contains-push}
use Rattle.snap_runs.proofs.Common.{Counts, IsOneOf, Word, values, Run, IsValidRun, state}
use Rattle.snap_words.specs.Kind.{initial_word}
use Rattle.snap_words.specs.declared.kind.KindTag.{KindTag}
use Rattle.snap_words.specs.declared.kind.KindTag.TheVariants as kind
use Rattle.snap_semantics.specs.State.{initial_memory}
use Rattle.snap_runs.specs.Scan.{FinishedScan, count}
use Rattle.snap_runs.specs.Update.{executes, PendingUpdate}
use Rattle.snap_runs.specs.LinearizationPoints.{HasLinearizationPoints, LinearizableByPoints}
use Rattle.snap_runs.specs.Promises.{ChangesOnlyAt, WritesItsUpdate, WritesOnce, HavePoints}
use Rattle.snap_runs.specs.Operation.{Action, Sets, Sees, Operation, TookPlace, IsOperation, HasEnded, EndedBefore}
use Rattle.snap_runs.specs.Linearization.{after, Allows, RunsFrom, IsLinearization}
use Rattle.snap_runs.specs.WriteStrong.{UpdateCall, updates}
use Rattle.snap_runs.proofs.Embedding.{map_same}
use Rattle.snap_runs.proofs.Computing.{neither_less}
use Rattle.snap_runs.proofs.OneOperation.{one_operation}
use Rattle.snap_runs.proofs.Operations as operations
use Rattle.snap_runs.proofs.Operations.{count_two, counted_item}
use Rattle.snap_runs.proofs.Order.{Pairs, Apart, Sooner, all_pairs, all_push, all_weaker, pairs_push, pairs_weaker}
use Rattle.snap_runs.proofs.Order.{after_all, after_none, after_push, length_after_all, runs_push, keeps_order}
use Rattle.snap_runs.proofs.Order.{sooner_differs, sooner_next, sooner_item}
use Rattle.snap_runs.proofs.Order.{sooner_item_le, sooner_or_here, sooner_before_item}
use Rattle.snap_runs.proofs.Written.{WritesAt, WrittenUpTo, updates_push}

-- at the start each word is 0
first_values : (k : KindTag) (shape : Counts) →
    map (λ (x : Word). x.datum) (initial_memory k shape).words ≡ replicate shape.w 0
first_values kind.Seq shape = map_same (λ (x : Word). x.datum) shape.w (initial_word kind.Seq shape)
first_values kind.Bits shape = map_same (λ (x : Word). x.datum) shape.w (initial_word kind.Bits shape)
first_values kind.Multi shape = map_same (λ (x : Word). x.datum) shape.w (initial_word kind.Multi shape)

module _ (line : ℕ) (r : Run) (fits : IsValidRun r) (points : HasLinearizationPoints line r) where
  abbrev pub AnswerAt : ℕ → Type 0
  AnswerAt e = operations.AnswerAt r line fits points e

  abbrev pub NoAnswer : ℕ → Type 0
  NoAnswer e = operations.NoAnswer r line fits points e

  abbrev WriteAt : ℕ → Type 0
  WriteAt t = operations.WriteAt r line fits points t

  abbrev NoWrite : ℕ → Type 0
  NoWrite t = operations.NoWrite r line fits points t

  abbrev pub answer_at : (e : ℕ) → AnswerAt e ⊎ NoAnswer e
  answer_at e = operations.answer_at r line fits points e

  -- the point of the scan that an item answers
  abbrev pub point_in : (e : ℕ) → AnswerAt e ⊎ NoAnswer e → ℕ
  point_in e (inl a) = a.point
  point_in e (inr never) = 0

  pub point : ℕ → ℕ
  point e = point_in e (answer_at e)

  pub point_is : (e : ℕ) (d : AnswerAt e ⊎ NoAnswer e) → answer_at e ≡ d → point e ≡ point_in e d
  unfolding point
  point_is e d is = ap (point_in e) is

  -- Where an operation stands: an update at its write, and a scan at its point, with the number of its answer.
  abbrev pub Spot : Action → ℕ → ℕ → Option ℕ → ℕ → ℕ → Type 0
  Spot (Sets word value) i c end t s = (s ≡ 0) × (c < t) × (executes r i line t ≡ true)
  Spot (Sees view) i c end t s = (0 < s) × (end ≡ Some s) × (point s ≡ t)

  pub record Placed (t s : ℕ) (o : Operation) : Type 0 where
    pub operation : IsOperation r o
    pub called : o.call ≤ t
    pub last : t ≤ length r.items
    pub open_still : (e : ℕ) → o.end ≡ Some e → t ≤ e
    pub spot : Spot o.action o.process o.call o.end t s

  -- an operation has one spot
  one_write : (i word value c t t' : ℕ) → PendingUpdate r i word value c t' → c < t → t < t' →
      executes r i line t ≡ true → executes r i line t' ≡ true → ⊥
  one_write i word value c t t' up lt less ex ex' =
      let two = count_two (executes r i line) c t t' lt less ex ex' in
      let most : count (executes r i line) c t' ≤ 1 = (points.writes_once fits i word value c t' up).0 in omega arith

  pub finished_of : (i c s : ℕ) (end : Option ℕ) (view : List ℕ) → TookPlace r i c end (Sees view) → end ≡ Some s →
      FinishedScan r i None c s view
  finished_of i c s (Some e) view took is =
      let same : e ≡ s = cc in
      subst (λ y. FinishedScan r i None c y view) same took
  finished_of i c s None view took is = absurd took

  spots : (a : Action) (i c : ℕ) (end : Option ℕ) (t t' s s' : ℕ) → TookPlace r i c end a →
      Spot a i c end t s → Spot a i c end t' s' → t ≤ length r.items → t' ≤ length r.items →
      ((e : ℕ) → end ≡ Some e → t ≤ e) → ((e : ℕ) → end ≡ Some e → t' ≤ e) → (t ≡ t') × (s ≡ s')
  spots (Sets word value) i c end t t' s s' took spot spot' last last' still still' = (
    neither_less t t'
        (λ less. one_write i word value c t t'
        (operations.open_update r i word value c t' end took (omega arith) last' still') spot.1 less spot.2 spot'.2)
        (λ more. one_write i word value c t' t
        (operations.open_update r i word value c t end took (omega arith) last still) spot'.1 more spot'.2 spot.2),
    omega arith,
  )
  spots (Sees view) i c end t t' s s' took spot spot' last last' still still' =
      let ends : s ≡ s' = (let e = sym spot.1 ∙ spot'.1 in cc) in (sym spot.2 ∙ ap point ends ∙ spot'.2, ends)

  pub one_spot : (o : Operation) (t s t' s' : ℕ) → Placed t s o → Placed t' s' o → (t ≡ t') × (s ≡ s')
  one_spot o t s t' s' p q =
      spots o.action o.process o.call o.end t t' s s' p.operation p.spot q.spot p.last q.last p.open_still q.open_still

  -- operations with one spot have one call, and so are one
  same_at : (a a' : Action) (i i' c c' : ℕ) (end end' : Option ℕ) (t s : ℕ) → TookPlace r i c end a →
      TookPlace r i' c' end' a' → Spot a i c end t s → Spot a' i' c' end' t s → t ≤ length r.items →
      ((e : ℕ) → end ≡ Some e → t ≤ e) → ((e : ℕ) → end' ≡ Some e → t ≤ e) → c ≡ c'
  same_at (Sets word value) (Sets word' value') i i' c c' end end' t s took took' spot spot' last still still' =
      let his = operations.executes_who r i' line t spot'.2 ∙ sym (operations.executes_who r i line t spot.2) in
      (operations.same_update r fits i word value word' value' c c' t spot.1 spot'.1
      (operations.open_update r i word value c t end took (omega arith) last still)
      (subst (λ y. PendingUpdate r y word' value' c' t) his
      (operations.open_update r i' word' value' c' t end' took' (omega arith) last still'))).0
  same_at (Sees view) (Sees view') i i' c c' end end' t s took took' spot spot' last still still' =
      (operations.same_scan r fits i i' c c' s view view' (finished_of i c s end view took spot.1)
      (finished_of i' c' s end' view' took' spot'.1)).1
  same_at _ _ i i' c c' end end' t s took took' spot spot' last still still' = absurd (omega arith)

  same_operation : (o o' : Operation) (t s : ℕ) → Placed t s o → Placed t s o' → o ≡ o'
  same_operation o o' t s p p' =
      one_operation r o o' p.operation p'.operation
      (same_at o.action o'.action o.process o'.process o.call o'.call o.end o'.end t s p.operation p'.operation
      p.spot p'.spot p.last p.open_still p'.open_still)

  apart : (a b : Operation) (t s t' s' : ℕ) → Placed t s a → Placed t' s' b → Sooner t s t' s' → Apart a b
  apart a b t s t' s' p q sooner = (
    λ same. let one = one_operation r a b p.operation q.operation same in
        let spots = one_spot b t s t' s' (subst (Placed t s) one p) q in
        sooner_differs t s t' s' sooner spots.0 spots.1,
    λ ended. let le : t' ≤ ended.0 = q.open_still ended.0 ended.1 in
        let before : t ≤ t' = sooner_item_le t s t' s' sooner in
        omega arith,
  )

  not_ended_before_itself : (o : Operation) (t s : ℕ) → Placed t s o → EndedBefore o o → ⊥
  not_ended_before_itself o t s p ended =
      let le : t ≤ ended.0 = p.open_still ended.0 ended.1 in
      omega arith

  -- no spot is before the first item, and no number past the last
  first_item : (a : Action) (i c : ℕ) (end : Option ℕ) (t s : ℕ) → TookPlace r i c end a →
      Spot a i c end t s → c ≤ t → 0 < t
  first_item (Sets word value) i c end t s took spot le = omega arith
  first_item (Sees view) i c end t s took spot le =
      let f = finished_of i c s end view took spot.1 in omega arith

  last_number : (a : Action) (i c : ℕ) (end : Option ℕ) (t s : ℕ) → TookPlace r i c end a →
      Spot a i c end t s → s ≤ length r.items
  last_number (Sets word value) i c end t s took spot = omega arith
  last_number (Sees view) i c end t s took spot = let f = finished_of i c s end view took spot.1 in f.scan.last

  abbrev zeros : List ℕ
  zeros = replicate r.shape.w 0

  abbrev pub Before : ℕ → ℕ → Operation → Type 0
  Before t s o = (u : ℕ) × (v : ℕ) × Placed u v o × Sooner u v t s

  -- the first one's spot is sooner than the second one's
  abbrev pub Follows : Operation → Operation → Type 0
  Follows a b = (t : ℕ) × (s : ℕ) × (t' : ℕ) × (s' : ℕ) × Placed t s a × Placed t' s' b × Sooner t s t' s'

  -- The operations before a spot, in their order; the object of one process has these values after them.
  pub record OrderedUpTo (t s : ℕ) (now : List ℕ) (os : List Operation) : Type 0 where
    pub placed : AllByRecursion (Before t s) os
    pub pairs : Pairs Follows os
    pub runs : RunsFrom zeros os
    pub leaves : after_all zeros os ≡ now
    pub has : (o : Operation) (u v : ℕ) → Placed u v o → Sooner u v t s → Contains os o

  -- the spot is that of an operation, or of none
  with_operation : (t s : ℕ) (now : List ℕ) (os : List Operation) (o : Operation) → OrderedUpTo t s now os →
      Placed t s o → Allows now o.action → OrderedUpTo t (suc s) (after now o.action) (os ++ o ∷ [])
  with_operation t s now os o h p allows = record {
    placed = all_push (Before t (suc s)) os o
        (all_weaker (Before t s) (Before t (suc s)) os (λ x b. (b.0, b.1, b.2, sooner_next b.0 b.1 t s b.3)) h.placed)
        (t, s, p, inr (refl, omega arith));
    pairs = pairs_push Follows (Before t s) os o (λ x b. (b.0, b.1, t, s, b.2, p, b.3)) h.placed h.pairs;
    runs = runs_push zeros os o h.runs (subst (λ y. Allows y o.action) (sym h.leaves) allows);
    leaves = after_push zeros os o ∙ ap (λ y. after y o.action) h.leaves;
    has = λ x u v q sooner. elim (sooner_or_here u v t s sooner) [
      | inl less ↦ Contains-append_left os (o ∷ []) x (h.has x u v q less)
      | inr here ↦ (let same : o ≡ x =
          same_operation o x t s p (subst (λ y. Placed t y x) here.1 (subst (λ y. Placed y v x) here.0 q)) in
          subst (λ y. Contains (os ++ o ∷ []) y) same (Contains-push os o))
    ];
  }

  with_none : (t s : ℕ) (now : List ℕ) (os : List Operation) → OrderedUpTo t s now os →
      ((o : Operation) → Placed t s o → ⊥) → OrderedUpTo t (suc s) now os
  with_none t s now os h none = record {
    placed =
        all_weaker (Before t s) (Before t (suc s)) os (λ x b. (b.0, b.1, b.2, sooner_next b.0 b.1 t s b.3)) h.placed;
    pairs = h.pairs;
    runs = h.runs;
    leaves = h.leaves;
    has = λ x u v q sooner. elim (sooner_or_here u v t s sooner) [
      | inl less ↦ h.has x u v q less
      | inr here ↦ absurd (none x (subst (λ y. Placed t y x) here.1 (subst (λ y. Placed y v x) here.0 q)))
    ];
  }

  -- once all numbers of an item are passed, the next item's come
  at_next_item : (t : ℕ) (now : List ℕ) (os : List Operation) →
      OrderedUpTo t (suc (length r.items)) now os → OrderedUpTo (suc t) 0 now os
  at_next_item t now os h = record {
    placed = all_weaker (Before t (suc (length r.items))) (Before (suc t) 0) os
        (λ x b. (b.0, b.1, b.2, sooner_item b.0 b.1 t (suc (length r.items)) b.3)) h.placed;
    pairs = h.pairs;
    runs = h.runs;
    leaves = h.leaves;
    has = λ x u v q sooner.
        let most : v ≤ length r.items = last_number x.action x.process x.call x.end u v q.operation q.spot in
        h.has x u v q (sooner_before_item u v t (length r.items) most sooner);
  }

  -- whether an operation has a spot at which a scan, or an update, would have one
  no_scan_in : (t s i c : ℕ) (end : Option ℕ) (a : Action) →
      ((view : List ℕ) → FinishedScan r i None c (suc s) view → point (suc s) ≡ t → ⊥) →
      TookPlace r i c end a → Spot a i c end t (suc s) → ⊥
  no_scan_in t s i c end (Sets word value) none took spot = omega arith
  no_scan_in t s i c end (Sees view) none took spot = none view (finished_of i c (suc s) end view took spot.1) spot.2

  no_scan : (t s : ℕ) → ((i c : ℕ) (view : List ℕ) → FinishedScan r i None c (suc s) view → point (suc s) ≡ t → ⊥) →
      (o : Operation) → Placed t (suc s) o → ⊥
  no_scan t s none o p = no_scan_in t s o.process o.call o.end o.action (none o.process o.call) p.operation p.spot

  no_update_in : (t i c : ℕ) (end : Option ℕ) (a : Action) → (executes r i line t ≡ true → ⊥) → Spot a i c end t 0 → ⊥
  no_update_in t i c end (Sets word value) none spot = none spot.2
  no_update_in t i c end (Sees view) none spot = omega arith

  -- the scans with their points at an item, by the numbers of their answers; no updates are among them
  scans_at : (t s : ℕ) (os : List Operation) → s ≤ length r.items → OrderedUpTo t 1 (values (state r t)) os →
      (more : List Operation) × OrderedUpTo t (suc s) (values (state r t)) more × (updates os ≡ updates more)
  scans_at t zero os le h = (os, h, refl)
  scans_at t (suc s) os le h =
      let past = scans_at t s os (omega arith) h in decided past.0 past.1 past.2 (answer_at (suc s)) refl
    where
      decided : (xs : List Operation) → OrderedUpTo t (suc s) (values (state r t)) xs → updates os ≡ updates xs →
          (d : AnswerAt (suc s) ⊎ NoAnswer (suc s)) → answer_at (suc s) ≡ d →
          (more : List Operation) × OrderedUpTo t (suc (suc s)) (values (state r t)) more × (updates os ≡ updates more)
      decided xs past same (inr never) is = (
        xs,
        with_none t (suc s) (values (state r t)) xs past (no_scan t s (λ i c view f here. never i c view f)),
        same,
      )
      decided xs past same (inl a) is =
          let at_point : point (suc s) ≡ a.point = point_is (suc s) (inl a) is in
          elim (cases_eq a.point t) [
            | inr other ↦ (
              xs,
              with_none t (suc s) (values (state r t)) xs past
                  (no_scan t s (λ i c view f here. other (sym at_point ∙ here))),
              same,
            )
            | inl here ↦ (let o : Operation =
                record { process = a.process; call = a.call; end = Some (suc s); action = Sees a.view } in
                let p : Placed t (suc s) o = record {
                  operation = a.finished;
                  called = omega arith;
                  last = omega arith;
                  open_still = λ e some. let same : suc s ≡ e = cc in omega arith;
                  spot = (omega arith, refl, at_point ∙ here);
                } in
                let sees : a.view ≡ values (state r t) = sym a.held ∙ ap (λ y. values (state r y)) here in
                let kept : updates xs ≡ updates (xs ++ o ∷ []) = sym (updates_push xs o ∙ append-nil (updates xs)) in
                (xs ++ o ∷ [], with_operation t (suc s) (values (state r t)) xs o past p sees, same ∙ kept))
          ]

  -- the operations up to an item, of which the updates are those that have written
  pub ordered : (t : ℕ) → t ≤ length r.items →
      (os : List Operation) × OrderedUpTo (suc t) 0 (values (state r t)) os × WrittenUpTo line r t (updates os)
  ordered zero h = (
    [],
    record {
      placed = tt;
      pairs = tt;
      runs = tt;
      leaves = after_none zeros ∙ sym (first_values r.source.kind r.shape);
      has = λ o u v p sooner.
          let pos : 0 < u = first_item o.action o.process o.call o.end u v p.operation p.spot p.called in
          absurd (none_before u v sooner pos);
    },
    refl,
  )
    where
      none_before : (u v : ℕ) → Sooner u v 1 0 → 0 < u → ⊥
      none_before u v (inl less) pos = omega arith
      none_before u v (inr here) pos = let lt : v < 0 = here.1 in omega arith
  ordered (suc t) h =
      let past = ordered t (omega arith) in
      let first = decided past.0 past.1 past.2 (operations.write_at r line fits points t (omega arith)) in
      let rest = scans_at (suc t) (length r.items) first.0 (omega arith) first.1 in (
        rest.0,
        at_next_item (suc t) (values (state r (suc t))) rest.0 rest.1,
        subst (WrittenUpTo line r (suc t)) rest.2 first.2,
      )
    where
      decided : (xs : List Operation) → OrderedUpTo (suc t) 0 (values (state r t)) xs →
          WrittenUpTo line r t (updates xs) → WriteAt (suc t) ⊎ NoWrite (suc t) → (more : List Operation)
          × OrderedUpTo (suc t) 1 (values (state r (suc t))) more × WrittenUpTo line r (suc t) (updates more)
      decided xs past written (inl w) =
          let lt : w.call < suc t = w.before_it in
          let x = operations.update_operation r w.process w.word w.value w.call (suc t) lt w.updating in
          let o : Operation =
          record { process = w.process; call = w.call; end = x.end; action = Sets w.word w.value } in
          let p : Placed (suc t) 0 o = record {
            operation = x.took_place;
            called = omega arith;
            last = h;
            open_still = x.open_still;
            spot = (refl, lt, w.executed);
          } in
          let count : length (values (state r t)) ≡ r.shape.w =
          ap length (sym past.leaves) ∙ length_after_all zeros xs ∙ length-replicate r.shape.w 0 in
          let sets : IsOneOf (length (values (state r t))) w.word = subst (λ y. IsOneOf y w.word) (sym count)
          w.is_word in
          let u : UpdateCall = record { process = w.process; call = w.call; word = w.word; value = w.value } in
          let writes : WritesAt line r (suc t) u =
          record { executed = w.executed; before_it = lt; updating = w.updating } in (
            xs ++ o ∷ [],
            subst (λ y. OrderedUpTo (suc t) 1 y (xs ++ o ∷ [])) (sym w.written)
                (with_operation (suc t) 0 (values (state r t)) xs o past p sets),
            (updates xs, written, inl (u, writes, updates_push xs o)),
          )
      decided xs past written (inr never) = (
        xs,
        subst (λ y. OrderedUpTo (suc t) 1 y xs) (sym never.kept)
            (with_none (suc t) 0 (values (state r t)) xs past
            (λ o p. no_update_in (suc t) o.process o.call o.end o.action (never.none o.process) p.spot)),
        (updates xs, written, inr (never.none, refl)),
      )

  -- an operation that has ended has a spot
  spot_of : (a : Action) (i c e : ℕ) → TookPlace r i c (Some e) a →
      (t : ℕ) × (s : ℕ) × Placed t s (record { process = i; call = c; end = Some e; action = a })
  spot_of (Sets word value) i c e took =
      let counted : count (executes r i line) c e ≡ 1 = (points.writes_once fits i word value c e took.0).1 took.1
      took.2 in
      let w = counted_item (executes r i line) c e (omega arith) in (
        w.0,
        0,
        record {
          operation = took;
          called = omega arith;
          last = omega arith;
          open_still = λ u is. let same : e ≡ u = cc in omega arith;
          spot = (refl, w.1, w.3);
        },
      )
  spot_of (Sees view) i c e took = decided (answer_at e) refl
    where
      decided : (d : AnswerAt e ⊎ NoAnswer e) → answer_at e ≡ d →
          (t : ℕ) × (s : ℕ) × Placed t s (record { process = i; call = c; end = Some e; action = Sees view })
      decided (inr never) is = absurd (never i c view took)
      decided (inl a) is =
          let same = operations.same_scan r fits i a.process c a.call e view a.view took a.finished in (
            a.point,
            e,
            record {
              operation = took;
              called = omega arith;
              last = omega arith;
              open_still = λ u some. let ends : e ≡ u = cc in omega arith;
              spot = (omega arith, refl, point_is e (inl a) is);
            },
          )

  pub complete : (os : List Operation) → OrderedUpTo (suc (length r.items)) 0 (values (state r (length r.items))) os →
      (o : Operation) → IsOperation r o → HasEnded o → Contains os o
  complete os h o took ended =
      let its : TookPlace r o.process o.call (Some ended.0) o.action =
      subst (λ y. TookPlace r o.process o.call y o.action) ended.1 took in
      let p = spot_of o.action o.process o.call ended.0 its in
      subst (λ y. Contains os (record { process = o.process; call = o.call; end = y; action = o.action })) (sym ended.1)
      (h.has (record { process = o.process; call = o.call; end = Some ended.0; action = o.action }) p.0 p.1 p.2
      (inl (omega arith)))

  pub is_linearization : (os : List Operation) →
      OrderedUpTo (suc (length r.items)) 0 (values (state r (length r.items))) os → IsLinearization r os
  is_linearization os h =
      let t = suc (length r.items) in
      let pairs = pairs_weaker Follows Apart os (λ a b f. apart a b f.0 f.1 f.2 f.3 f.4 f.5 f.6) h.pairs in
      record {
        took_place =
            All-from_recursion (IsOperation r) os
            (all_weaker (Before t 0) (IsOperation r) os (λ o b. b.2.operation) h.placed);
        once = λ i j d lt short. (all_pairs Apart os pairs i j d lt short).0;
        complete = complete os h;
        order = keeps_order os
            (all_weaker (Before t 0) (λ o. EndedBefore o o → ⊥) os
            (λ o b. not_ended_before_itself o b.0 b.1 b.2) h.placed) pairs;
        runs = h.runs;
      }

pub linearizable_by_points : LinearizableByPoints
linearizable_by_points line r h fits =
    let x = ordered line r fits h (length r.items) (omega arith) in (x.0, is_linearization line r fits h x.0 x.1)

-- in a run in which every scan has a point, embedded ones too
pub with_all_points : (line : ℕ) (r : Run) → ChangesOnlyAt line r → WritesItsUpdate line r → WritesOnce line r →
    HavePoints r → HasLinearizationPoints line r
with_all_points line r changes writes once points = record {
  changes_only_at = changes;
  writes_its_update = writes;
  writes_once = once;
  answers_have_points = λ fits i c e view. points fits i None c e view;
}
