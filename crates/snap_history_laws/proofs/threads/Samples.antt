-- What two threads are told, by hand: process 1 updates the only word to 5 and is told of the end, and then process 2
-- scans. A scan that is answered 5 leaves it linearizable, and one that is answered 0 does not.
use Rattle.std.proofs.Common.{◌≡◌, ℕ, zero, suc, ◌<◌, ◌⊎◌, inl, inr, List, [], ◌∷◌, length, slice_index_or, nat_eq}
use Rattle.std.proofs.Common.{if◌then◌else◌, Option, Some, None, refl, sym, ◌∙◌, arith}
use Rattle.std.proofs.lemmas.List.{get_or_default}
use Rattle.std.proofs.lemmas.List.Elements.{All-from_recursion, All-head, All-tail, All-weaker}
use Rattle.std.specs.List.{All, Contains}
use Rattle.snap_semantics.specs.declared.process.Item.TheVariants.{Call, Step}
use Rattle.snap_semantics.specs.declared.process.Op.{Op}
use Rattle.snap_semantics.specs.declared.process.Op.TheVariants.{Scan, Update}
use Rattle.snap_semantics.specs.declared.process.Outcome.{Outcome}
use Rattle.snap_semantics.specs.declared.process.Outcome.TheVariants.{Answered, Called, Finished, Stepped}
use Rattle.snap_runs.specs.Linearization.{Allows, RunsFrom, after}
use Rattle.snap_runs.specs.Operation.{Action, EndedBefore, Operation, Sees, Sets}
use Rattle.snap_judge.proofs.ExplainedLists.{contains_cases, contains_none}
use Rattle.snap_live.specs.Turns.{own_turn}
use Rattle.snap_live.specs.declared.seat_state.OwnTurn.{OwnTurn}
use Rattle.snap_history_laws.specs.threads.Told.{IsEnd, IsLinearizableAsTold, IsToldLinearization, IsToldOperation}
use Rattle.snap_history_laws.specs.threads.Told.{IsToldOutcome, Told, WasTold}

-- turns of process 1: items 1 to 3; and of process 2, which is answered a value of the word: items 4 to 6
abbrev pub updater : List OwnTurn
updater = own_turn 1 (Call 1 (Update 1 5)) Called ∷ own_turn 2 (Step 1) Stepped ∷ own_turn 3 (Step 1) Finished ∷ []

abbrev pub scanner : ℕ → List OwnTurn
scanner seen =
    own_turn 4 (Call 2 Scan) Called ∷ own_turn 5 (Step 2) Stepped ∷ own_turn 6 (Step 2) (Answered (seen ∷ [])) ∷ []

abbrev pub sample : ℕ → Told
sample seen p = if nat_eq p 1 then updater else if nat_eq p 2 then scanner seen else []

-- the operations of the sample
abbrev pub update : Operation
update = record { process = 1; call = 1; end = Some 3; action = Sets 1 5 }

abbrev pub scan : ℕ → Operation
scan seen = record { process = 2; call = 4; end = Some 6; action = Sees (seen ∷ []) }

-- what each thread was told: one call, and one end
call_of_updater : (i c : ℕ) (op : Op) → Contains updater (own_turn c (Call i op) Called) →
    (i ≡ 1) × (c ≡ 1) × (op ≡ Update 1 5)
call_of_updater i c op h = grind arith

end_of_updater : (t : ℕ) (out : Outcome) → IsToldOutcome updater t out → IsEnd out → (t ≡ 3) × (out ≡ Finished)
end_of_updater t out h ends = grind arith

end_of_scanner : (seen t : ℕ) (out : Outcome) → IsToldOutcome (scanner seen) t out → IsEnd out →
    (t ≡ 6) × (out ≡ Answered (seen ∷ []))
end_of_scanner seen t out h ends = grind arith

-- The operations that the threads hear of are the update and the scan, and no others.
finished : IsToldOutcome updater 3 Finished
finished = (Step 1, (2, omega arith, refl))

update_was_told : (seen : ℕ) → IsToldOperation (sample seen) update
update_was_told seen = (
  (0, omega arith, refl),
  omega arith,
  finished,
  λ t out lt less told ends. let end = end_of_updater t out told ends in omega arith,
)

scan_was_told : (seen : ℕ) → IsToldOperation (sample seen) (scan seen)
scan_was_told seen = (
  (0, omega arith, refl),
  omega arith,
  (Step 2, (2, omega arith, refl)),
  λ t out lt less told ends. let end = end_of_scanner seen t out told ends in omega arith,
)

by_updater : (i c : ℕ) (end : Option ℕ) (a : Action) → WasTold updater i c end a →
    (i ≡ 1) × (c ≡ 1) × (end ≡ Some 3) × (a ≡ Sets 1 5)
by_updater i c None (Sets word value) h =
    let call = call_of_updater i c (Update word value) h.0 in absurd (h.1 3 Finished (omega arith) finished tt)
by_updater i c end a h = grind (arith, call_of_updater, end_of_updater)

by_scanner : (seen i c : ℕ) (end : Option ℕ) (a : Action) → WasTold (scanner seen) i c end a →
    (i ≡ 2) × (c ≡ 4) × (end ≡ Some 6) × (a ≡ Sees (seen ∷ []))
by_scanner seen i c end a h = grind arith

pub by_nobody : (i c : ℕ) (end : Option ℕ) (a : Action) → WasTold [] i c end a → ⊥
by_nobody i c end a h = grind arith

abbrev IsOne : ℕ → Operation → Type 0
IsOne seen o = (o ≡ update) ⊎ (o ≡ scan seen)

no_others : (seen : ℕ) (o : Operation) → IsToldOperation (sample seen) o → IsOne seen o
no_others seen o h = grind (arith, by_updater, by_scanner, by_nobody)

-- Where the scan is answered 5, the update and then the scan are a linearization.
abbrev pub in_order : List Operation
in_order = update ∷ scan 5 ∷ []

is_linearization : IsToldLinearization 1 (sample 5) in_order
is_linearization = record {
  took_place = All-from_recursion (IsToldOperation (sample 5)) in_order (update_was_told 5, (scan_was_told 5, tt));
  once = grind arith;
  complete = λ o told ended. elim (no_others 5 o told) [
    | inl is ↦ rw is (0, omega arith, refl)
    | inr is ↦ rw is (1, omega arith, refl)
  ];
  order = grind arith;
  runs = ((omega arith, omega arith), (refl, tt));
}

pub fresh_scan_is_linearizable : IsLinearizableAsTold 1 (sample 5)
fresh_scan_is_linearizable = (in_order, is_linearization)

-- Where no operation changes the values, all see them.
pub still_sees : (values : List ℕ) (os : List Operation) (o : Operation) →
    All (λ (x : Operation). after values x.action ≡ values) os → RunsFrom values os → Contains os o →
    Allows values o.action
still_sees values [] o still runs has = absurd (contains_none o has)
still_sees values (x ∷ os) o still runs has = elim (contains_cases x o os has) [
  | inl is ↦ rw is at runs.0
  | inr later ↦
      still_sees values os o (All-tail (λ (y : Operation). after values y.action ≡ values) x os still)
      (rw (All-head (λ (y : Operation). after values y.action ≡ values) x os still) at runs.1) later
]

-- Where it is answered 0, no list is one: the scan stands behind the update, and there the word is 5.
stays : (o : Operation) → IsOne 0 o → after (5 ∷ []) o.action ≡ 5 ∷ []
stays o (inl is) = rw is
stays o (inr is) = rw is

too_late : (os : List Operation) (v j k : ℕ) → All (IsOne 0) os → RunsFrom (v ∷ []) os →
    slice_index_or os j update ≡ update → j < k → k < length os → slice_index_or os k (scan 0) ≡ scan 0 → ⊥
too_late (o ∷ os) v zero (suc k) one runs is lt within is' =
    let sees : ◌≡◌ {A = List ℕ} (0 ∷ []) (5 ∷ []) =
    still_sees (5 ∷ []) os (scan 0)
    (All-weaker (IsOne 0) (λ (x : Operation). after (5 ∷ []) x.action ≡ 5 ∷ []) stays os (All-tail (IsOne 0) o os one))
    (rw is at runs.1) (k, omega arith, is') in
    absurd (cc)
too_late (o ∷ os) v (suc j) (suc k) one runs is lt within is' = elim (All-head (IsOne 0) o os one) [
  | inl sets ↦
      too_late os 5 j k (All-tail (IsOne 0) o os one) (rw sets at runs.1) is (omega arith) (omega arith) is'
  | inr sees ↦
      too_late os v j k (All-tail (IsOne 0) o os one) (rw sees at runs.1) is (omega arith) (omega arith) is'
]
too_late os v j k one runs is lt within is' = absurd (omega arith)

pub stale_scan_is_not_linearizable : IsLinearizableAsTold 1 (sample 0) → ⊥
stale_scan_is_not_linearizable h =
    let os = h.0 in
    let j = h.1.complete update (update_was_told 0) (3, refl) in
    let k = h.1.complete (scan 0) (scan_was_told 0) (6, refl) in
    let second : slice_index_or os k.0 update ≡ scan 0 = sym (get_or_default os k.0 (scan 0) update k.1) ∙ k.2 in
    let ended : EndedBefore update (scan 0) = (3, refl, omega arith) in
    too_late os 0 j.0 k.0
    (All-weaker (IsToldOperation (sample 0)) (IsOne 0) (no_others 0) os h.1.took_place) h.1.runs j.2
    (h.1.order j.0 k.0 update j.1 k.1 (rw (j.2, second) ended)) k.1 k.2
