-- Samples of runs of listing U that go on: updates keep their order, and one linearization of a run that the longer
-- run cannot keep.
use Rattle.std.proofs.Common.{◌≡◌, ◌⊎◌, ℕ, ◌<◌, ◌≤◌, ◌^◌, true, length, List, [], ◌∷◌, ◌++◌}
use Rattle.std.proofs.Common.{Some, None, refl, sym, ◌∙◌, ap, subst, arith, inl, inr}
use Rattle.std.specs.List.{AllByRecursion, AllZip, Contains}
use Rattle.std.proofs.lemmas.List.Elements.{All-contains, All-from_recursion, recursion_from_All}
use Rattle.std.proofs.lemmas.List.Sums.{AllPass-from_list_all}
use Rattle.snap_words.specs.Shape.{is_place}
use Rattle.snap_runs.proofs.Common.{Item, Call, Scan, Update, who, IsOneOf, Run, IsValidRun}
use Rattle.snap_runs.proofs.Common.{item}
use Rattle.snap_runs.specs.Linearization.{after, Allows, RunsFrom, IsLinearization}
use Rattle.snap_runs.specs.Operation.{Sets, Sees, Operation, IsOperation}
use Rattle.snap_runs.specs.Placement.{TakesPlaceAt, IsPlacedLinearization}
use Rattle.snap_runs.specs.WriteStrong.{UpdateCall, updates, IsPrefix, IsWriteStrongChoice}
use Rattle.snap_runs.proofs.Order.{Pairs, Apart, all_pairs, all_weaker, keeps_order}
use Rattle.snap_runs.proofs.Worked.{finished_scan, finished_update, open_update, none_ended, one_of_three}
use Rattle.snap_runs.proofs.Worked.{takes_place}
use Rattle.snap_runs_of_u.specs.ListingU.{listing_u}
use Rattle.snap_runs_of_u.specs.Promises.{run_of, square}
use Rattle.snap_single.proofs.Samples.{times}
use Rattle.snap_single.proofs.LinearSample.{linearized, is_call, not_before, one_of_three_operations}
use Rattle.snap_single.proofs.PlacementSample as placement
use Rattle.snap_single.proofs.PlacementSample.{rising}

-- In the worked run the first update is listed once it has written, though it has not ended; it stays first.
keeps : IsPrefix (updates (placement.open_update ∷ [])) (updates linearized)
keeps = (record { process = 2; call = 38; word = 2; value = 6 } ∷ [], refl)

-- Two updates are called, of two words.
abbrev asked : List Item
asked = Call 1 (Update 1 7) ∷ Call 2 (Update 2 8) ∷ []

-- The second one goes first; its process scans and does not see the first one, which goes on only then.
abbrev rest : List Item
rest = times 17 2 ++ (Call 2 Scan ∷ (times 13 2 ++ times 17 1))

abbrev short : Run
short = run_of 2 asked

abbrev long : Run
long = run_of 2 (asked ++ rest)

abbrev open_first : Operation
open_first = record { process = 1; call = 1; end = None; action = Sets 1 7 }

abbrev open_second : Operation
open_second = record { process = 2; call = 2; end = None; action = Sets 2 8 }

abbrev first : Operation
first = record { process = 1; call = 1; end = Some 50; action = Sets 1 7 }

abbrev second : Operation
second = record { process = 2; call = 2; end = Some 19; action = Sets 2 8 }

abbrev scan : Operation
scan = record { process = 2; call = 20; end = Some 33; action = Sees (0 ∷ 8 ∷ []) }

-- As long as neither has written, both may be listed, by what a linearization is.
listed_both : IsLinearization short (open_first ∷ open_second ∷ [])
listed_both = record {
  took_place = All-from_recursion (IsOperation short) (open_first ∷ open_second ∷ []) (
    open_update short 1 1 7 1 1 (omega arith, omega arith) (omega arith) (omega arith) refl refl refl refl refl,
    (open_update short 2 2 8 2 1 (omega arith, omega arith) (omega arith) (omega arith) refl refl refl refl refl, tt),
  );
  once = λ i j d lt less. (all_pairs Apart (open_first ∷ open_second ∷ []) both_apart i j d lt less).0;
  complete = none_ended short refl (open_first ∷ open_second ∷ []);
  order = keeps_order (open_first ∷ open_second ∷ []) (
    not_before open_first open_first refl,
    (not_before open_second open_second refl, tt),
  ) both_apart;
  runs = ((omega arith, omega arith), ((omega arith, omega arith), tt));
}
  where
    both_apart : Pairs Apart (open_first ∷ open_second ∷ [])
    both_apart = (((λ same. omega arith, not_before open_second open_first refl), tt), (tt, tt))

-- the operations of the longer run
first_took_place : IsOperation long first
first_took_place =
    finished_update long 1 1 7 1 49 (omega arith, omega arith) (omega arith) (omega arith) (omega arith) refl refl
    (refl, refl) refl

second_took_place : IsOperation long second
second_took_place =
    finished_update long 2 2 8 2 18 (omega arith, omega arith) (omega arith) (omega arith) (omega arith) refl refl
    (refl, refl) refl

scan_took_place : IsOperation long scan
scan_took_place =
    finished_scan long 2 20 32 (0 ∷ 8 ∷ []) (omega arith, omega arith) (omega arith) (omega arith) (omega arith)
    (refl, refl) (refl, refl) refl

-- the longer run has no calls but these
call_at : (c : ℕ) → 0 < c → c ≤ 50 → is_call (item long c) ≡ true → (c ≡ 1) ⊎ ((c ≡ 2) ⊎ (c ≡ 20))
call_at c pos le call = one_of_three (λ t. is_call (item long t)) 0 1 19 50 c refl refl refl refl pos le call

abbrev IsOneOfThem : Operation → Type 0
IsOneOfThem o = (o ≡ first) ⊎ ((o ≡ second) ⊎ (o ≡ scan))

one_of_them : (o : Operation) → IsOperation long o → IsOneOfThem o
one_of_them = one_of_three_operations long first second scan first_took_place second_took_place scan_took_place call_at

-- The operations take place in this order.
abbrev linear : List Operation
linear = second ∷ scan ∷ first ∷ []

linear_apart : Pairs Apart linear
linear_apart = (
  (
    (λ same. omega arith, not_before scan second refl),
    ((λ same. omega arith, not_before first second refl), tt),
  ),
  (((λ same. omega arith, not_before first scan refl), tt), (tt, tt)),
)

contains : (o : Operation) → IsOneOfThem o → Contains linear o
contains o (inl is) = subst (Contains linear) (sym is) (2, omega arith, refl)
contains o (inr (inl is)) = subst (Contains linear) (sym is) (0, omega arith, refl)
contains o (inr (inr is)) = subst (Contains linear) (sym is) (1, omega arith, refl)

linearizes : IsLinearization long linear
linearizes = record {
  took_place =
      All-from_recursion (IsOperation long) linear (second_took_place, (scan_took_place, (first_took_place, tt)));
  once = λ i j d lt less. (all_pairs Apart linear linear_apart i j d lt less).0;
  complete = λ o took ended. contains o (one_of_them o took);
  order = keeps_order linear (
    not_before second second refl,
    (not_before scan scan refl, (not_before first first refl, tt)),
  )
      linear_apart;
  runs = ((omega arith, omega arith), (refl, ((omega arith, omega arith), tt)));
}

-- Each at its place: the second update writes at item 18, and the first one at item 49.
linear_places : AllZip (TakesPlaceAt 32 long) linear (18 ∷ 20 ∷ 49 ∷ [])
linear_places = (
  takes_place long 32 second 19 18 refl (omega arith) (omega arith) (omega arith) (omega arith, refl),
  (
    takes_place long 32 scan 33 20 refl (omega arith) (omega arith) (omega arith) refl,
    (takes_place long 32 first 50 49 refl (omega arith) (omega arith) (omega arith) (omega arith, refl), tt),
  ),
)

linear_placed : IsPlacedLinearization 32 long linear (18 ∷ 20 ∷ 49 ∷ [])
linear_placed = record {
  linearization = linearizes;
  each = linear_places;
  in_order = rising 18 20 49 (omega arith) (omega arith);
  complete = λ o t took at. contains o (one_of_them o took);
}

-- Where the first update comes first, no scan sees word 1 as it was.
abbrev IsNot : Operation → Operation → Type 0
IsNot p o = o ≡ p → ⊥

another : (o p q : Operation) → o ≡ p → (p.call ≡ q.call → ⊥) → IsNot q o
another o p q is differ same = differ (ap (λ (y : Operation). y.call) (sym is ∙ same))

next_not_seen : (x : ℕ) (o : Operation) (os : List Operation) → IsOneOfThem o → RunsFrom (7 ∷ x ∷ []) (o ∷ os) →
    ((y : ℕ) → RunsFrom (7 ∷ y ∷ []) os → AllByRecursion (IsNot scan) os) → AllByRecursion (IsNot scan) (o ∷ os)
next_not_seen x o os (inl is) runs then = (
  another o first scan is (λ same. omega arith),
  then x (subst (λ p. RunsFrom (after (7 ∷ x ∷ []) p.action) os) is runs.1),
)
next_not_seen x o os (inr (inl is)) runs then = (
  another o second scan is (λ same. omega arith),
  then 8 (subst (λ p. RunsFrom (after (7 ∷ x ∷ []) p.action) os) is runs.1),
)
next_not_seen x o os (inr (inr is)) runs then =
    let view : ◌≡◌ {A = List ℕ} (0 ∷ 8 ∷ []) (7 ∷ x ∷ []) = subst (λ p. Allows (7 ∷ x ∷ []) p.action) is runs.0 in
    absurd (let same : ◌≡◌ {A = ℕ} 0 7 = cc in omega arith)

not_seen : (x : ℕ) (os : List Operation) → AllByRecursion IsOneOfThem os → RunsFrom (7 ∷ x ∷ []) os →
    AllByRecursion (IsNot scan) os
not_seen x [] them runs = tt
not_seen x (o ∷ os) them runs = next_not_seen x o os them.0 runs (λ y more. not_seen y os them.1 more)

-- whose update comes first
abbrev who_first : List UpdateCall → ℕ
who_first [] = 0
who_first (u ∷ us) = u.process

-- a list that begins with the first update, or not
begins : (o : Operation) (os : List Operation) → IsOneOfThem o →
    AllByRecursion IsOneOfThem os → RunsFrom (0 ∷ 0 ∷ []) (o ∷ os) →
    IsPrefix (updates (open_first ∷ open_second ∷ [])) (updates (o ∷ os)) → AllByRecursion (IsNot scan) (o ∷ os)
begins o os (inl is) them runs prefix = (
  another o first scan is (λ same. omega arith),
  not_seen 0 os them (subst (λ p. RunsFrom (after (0 ∷ 0 ∷ []) p.action) os) is runs.1),
)
begins o os (inr (inl is)) them runs prefix =
    let same = (subst (λ p. IsPrefix (updates (open_first ∷ open_second ∷ [])) (updates (p ∷ os))) is prefix).1 in
    absurd (let process : ◌≡◌ {A = ℕ} 1 2 = ap who_first same in omega arith)
begins o os (inr (inr is)) them runs prefix =
    let view : ◌≡◌ {A = List ℕ} (0 ∷ 8 ∷ []) (0 ∷ 0 ∷ []) = subst (λ p. Allows (0 ∷ 0 ∷ []) p.action) is runs.0 in
    absurd (let same : ◌≡◌ {A = ℕ} 8 0 = cc in omega arith)

-- No linearization of the longer run has the updates in the order in which they were called.
too_soon : (os : List Operation) → IsLinearization long os →
    IsPrefix (updates (open_first ∷ open_second ∷ [])) (updates os) → ⊥
too_soon [] h prefix =
    let there = h.complete scan scan_took_place (33, refl) in let lt : there.0 < 0 = there.1 in omega arith
too_soon (o ∷ os) h prefix =
    let them = all_weaker (IsOperation long) IsOneOfThem (o ∷ os) one_of_them
    (recursion_from_All (IsOperation long) (o ∷ os) h.took_place) in
    let none = begins o os them.0 them.1 h.runs prefix in
    All-contains (IsNot scan) (o ∷ os) scan (All-from_recursion (IsNot scan) (o ∷ os) none)
    (h.complete scan scan_took_place (33, refl)) refl

-- the items are of the two processes, by a test of each
long_fits : IsValidRun long
long_fits = record {
  all = recursion_from_All (λ x. IsOneOf 2 (who x)) long.items (λ k d lt.
      let one = AllPass-from_list_all (λ x. is_place 2 (who x)) long.items refl k d lt in grind arith);
}

-- A choice that lists both as soon as they are called is not write strong. This is why an update is
-- listed only once it has written.
not_a_choice : (choose : List Item → List Operation) → choose asked ≡ open_first ∷ open_second ∷ [] →
    IsWriteStrongChoice listing_u (square 2) (Some (2 ^ 64)) choose → ⊥
not_a_choice choose is c =
    let short : length (asked ++ rest) < 2 ^ 64 = omega arith in
    too_soon (choose (asked ++ rest)) (c.linearizes (asked ++ rest) short long_fits)
    (subst (λ os. IsPrefix (updates os) (updates (choose (asked ++ rest)))) is
    (c.keeps_updates asked rest short long_fits))
