-- In the worked run of listing U: the items at which its operations take place (`TakesPlaceAt`), and items at which
-- they do not.
use Rattle.std.proofs.Common.{◌≡◌, ℕ, ◌<◌, ◌≤◌, true, false, List, [], ◌∷◌, ◌++◌, Some, None, refl, arith}
use Rattle.std.specs.List.{AllZip}
use Rattle.std.specs.List.Sorted.{IsNonDecreasing}
use Rattle.std.proofs.lemmas.List.Elements.{All-from_recursion}
use Rattle.std.proofs.lemmas.List.Kept.{AllPairs-cons}
use Rattle.snap_runs.proofs.Common.{Call, Scan, Update, Run}
use Rattle.snap_runs.specs.Linearization.{IsLinearization}
use Rattle.snap_runs.specs.Operation.{Sets, Sees, Operation, IsOperation}
use Rattle.snap_runs.specs.Placement.{TakesPlaceAt, IsPlacedLinearization}
use Rattle.snap_runs.proofs.Placing.{non_decreasing}
use Rattle.snap_runs.proofs.Worked as worked
use Rattle.snap_runs.proofs.Worked.{none_ended, takes_place}
use Rattle.snap_runs_of_u.specs.Promises.{run_of}
use Rattle.snap_single.proofs.Samples.{times}
use Rattle.snap_single.proofs.LinearSample.{run, scan, first_update, second_update, linearized}
use Rattle.snap_single.proofs.LinearSample.{contains, is_linearization}

-- The updates take place at their writes, items 24 and 54; the scan may at each item from 24
-- to 53, where the values are 0 5.
abbrev places : List ℕ
places = 24 ∷ 24 ∷ 54 ∷ []

each_place : AllZip (TakesPlaceAt 32 run) linearized places
each_place = (
  takes_place run 32 first_update 25 24 refl (omega arith) (omega arith) (omega arith) (omega arith, refl),
  (
    takes_place run 32 scan 64 24 refl (omega arith) (omega arith) (omega arith) refl,
    (takes_place run 32 second_update 55 54 refl (omega arith) (omega arith) (omega arith) (omega arith, refl), tt),
  ),
)

later_place : TakesPlaceAt 32 run scan 53
later_place = takes_place run 32 scan 64 53 refl (omega arith) (omega arith) (omega arith) refl

-- no number is below the one before it
pub rising : (a b c : ℕ) → a ≤ b → b ≤ c → IsNonDecreasing (a ∷ b ∷ c ∷ [])
rising a b c ab bc =
    non_decreasing (a ∷ b ∷ c ∷ [])
    (AllPairs-cons (λ x y. x ≤ y) a (b ∷ c ∷ []) (All-from_recursion (λ y. a ≤ y) (b ∷ c ∷ []) (ab, (omega arith, tt)))
    (AllPairs-cons (λ x y. x ≤ y) b (c ∷ []) (All-from_recursion (λ y. b ≤ y) (c ∷ []) (bc, tt))
    (AllPairs-cons (λ x y. x ≤ y) c [] (All-from_recursion (λ y. c ≤ y) [] tt)
    (λ i j d lt short. absurd (omega arith)))))

-- The operations have their places in the linearization.
is_placed : IsPlacedLinearization 32 run linearized places
is_placed = record {
  linearization = is_linearization;
  each = each_place;
  in_order = rising 24 24 54 (omega arith) (omega arith);
  complete = λ o t took at. contains o took;
}

-- No place is before an operation's call, or after its end.
before_its_call : TakesPlaceAt 32 run first_update 7 → ⊥
before_its_call at = let le : 8 ≤ 7 = at.called in omega arith

after_its_end : TakesPlaceAt 32 run first_update 26 → ⊥
after_its_end at = let le : 26 ≤ 25 = at.not_ended 25 refl in omega arith

-- An update takes place where it writes, and not at another of its items.
not_yet_written : TakesPlaceAt 32 run first_update 23 → ⊥
not_yet_written at = let same : false ≡ true = at.happens.1 in cc

-- A scan takes place where its view is what the values are: not before the first update's write,
-- and not after the second one's.
not_yet_seen : TakesPlaceAt 32 run scan 23 → ⊥
not_yet_seen at =
    let view : ◌≡◌ {A = List ℕ} (0 ∷ 0 ∷ []) (0 ∷ 5 ∷ []) = at.happens in let same : ◌≡◌ {A = ℕ} 0 5 = cc in omega arith

seen_no_more : TakesPlaceAt 32 run scan 54 → ⊥
seen_no_more at =
    let view : ◌≡◌ {A = List ℕ} (0 ∷ 6 ∷ []) (0 ∷ 5 ∷ []) = at.happens in let same : ◌≡◌ {A = ℕ} 6 5 = cc in omega arith

-- Two operations out of order: with the scan behind the second update the places fall.
out_of_order : IsPlacedLinearization 32 run (first_update ∷ second_update ∷ scan ∷ []) (24 ∷ 54 ∷ 53 ∷ []) → ⊥
out_of_order h = let le : 54 ≤ 53 = h.in_order 1 2 0 (omega arith) (omega arith) in omega arith

-- The run up to the first update's write: nothing has ended, so the empty list is a linearization.
abbrev written : Run
written = run_of 2 (Call 1 Scan ∷ (times 6 1 ++ (Call 2 (Update 2 5) ∷ times 16 2)))

empty_linearizes : IsLinearization written []
empty_linearizes = record {
  took_place = λ j d lt. absurd (omega arith);
  once = λ i j d lt short. absurd (omega arith);
  complete = none_ended written refl [];
  order = λ j k d lj lk ended. absurd (omega arith);
  runs = tt;
}

-- The open update has its place, and has to be in the linearization.
abbrev pub open_update : Operation
open_update = record { process = 2; call = 8; end = None; action = Sets 2 5 }

open_update_took_place : IsOperation written open_update
open_update_took_place =
    worked.open_update written 2 2 5 8 23 (omega arith, omega arith) (omega arith) (omega arith) refl refl refl refl
    refl

open_place : TakesPlaceAt 32 written open_update 24
open_place = record {
  called = omega arith;
  within = omega arith;
  not_ended = λ e is. absurd (cc);
  happens = (omega arith, refl);
}

missing : (places : List ℕ) → IsPlacedLinearization 32 written [] places → ⊥
missing places h =
    let there = h.complete open_update 24 open_update_took_place open_place in
    let lt : there.0 < 0 = there.1 in
    omega arith

-- Two scans that overlap and see the same: each takes place at each item from 2 to 15.
abbrev two_scans : Run
two_scans = run_of 2 (Call 1 Scan ∷ Call 2 Scan ∷ (times 13 1 ++ times 13 2))

abbrev one : Operation
one = record { process = 1; call = 1; end = Some 15; action = Sees (0 ∷ 0 ∷ []) }

abbrev other : Operation
other = record { process = 2; call = 2; end = Some 28; action = Sees (0 ∷ 0 ∷ []) }

each_falling : AllZip (TakesPlaceAt 32 two_scans) (one ∷ other ∷ []) (5 ∷ 4 ∷ [])
each_falling = (
  takes_place two_scans 32 one 15 5 refl (omega arith) (omega arith) (omega arith) refl,
  (takes_place two_scans 32 other 28 4 refl (omega arith) (omega arith) (omega arith) refl, tt),
)

-- Operations that stand in a list against the order of their places are not placed.
falling : IsPlacedLinearization 32 two_scans (one ∷ other ∷ []) (5 ∷ 4 ∷ []) → ⊥
falling h = let le : 5 ≤ 4 = h.in_order 0 1 0 (omega arith) (omega arith) in omega arith
