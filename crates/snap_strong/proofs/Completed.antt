-- A linearization in which open scans are completed is a linearization
-- without these scans; so what is strongly linearizable is linearizable.
use Rattle.std.proofs.Common.{◌≡◌, ℕ, zero, suc, ◌<◌, ◌⊎◌, Bool, true, false, List, [], ◌∷◌, length, Option, None}
use Rattle.std.proofs.Common.{cond, filter, slice_index_or, replicate, refl, sym, ◌∙◌, ap, subst, arith, inl, inr}
use Rattle.std.specs.List.{All, AllPairs, Contains}
use Rattle.std.proofs.lemmas.List.Elements.{All-filter, filter_passes, recursion_from_All}
use Rattle.std.proofs.lemmas.List.Kept.{AllPairs-filter}
use Rattle.snap_runs.specs.Run.{Run, run_of_items}
use Rattle.snap_runs.specs.Operation.{Action, Sees, Operation, IsOperation, EndedBefore}
use Rattle.snap_runs.specs.Linearization.{after, Allows, RunsFrom, IsLinearization}
use Rattle.snap_runs.proofs.Order.{Pairs, Apart, keeps_order}
use Rattle.snap_strong.specs.StrongLinearization.{IsOpenScan, IsCompleted, IsCompletedLinearization}
use Rattle.snap_strong.specs.StrongLinearization.{StrongIsLinearizable}

-- all but a scan that has not ended
abbrev is_told : Option ℕ → Action → Bool
is_told None (Sees view) = false
is_told _ _ = true

abbrev tells : Operation → Bool
tells o = is_told o.end o.action

abbrev told : List Operation → List Operation
told os = filter tells os

contains_if : (b : Bool) (x : Operation) (xs : List Operation) (o : Operation) →
    Contains xs o ⊎ ((b ≡ true) × (x ≡ o)) → Contains (cond b (x ∷ xs) xs) o
contains_if true x xs o (inl there) = (suc there.0, omega arith, there.2)
contains_if true x xs o (inr first) = (0, omega arith, first.1)
contains_if false x xs o (inl there) = there
contains_if false x xs o (inr first) = absurd (cc)

contains_told : (os : List Operation) (o : Operation) (k : ℕ) → k < length os → slice_index_or os k o ≡ o →
    tells o ≡ true → Contains (told os) o
contains_told [] o k lt at is = absurd (omega arith)
contains_told (x ∷ xs) o zero lt at is = contains_if (tells x) x (told xs) o (inr (ap tells at ∙ is, at))
contains_told (x ∷ xs) o (suc k) lt at is =
    contains_if (tells x) x (told xs) o (inl (contains_told xs o k (omega arith) at is))

-- A scan that is left out changes nothing.
runs_if : (values : List ℕ) (end : Option ℕ) (b : Action) (o : Operation) (os : List Operation) → o.action ≡ b →
    Allows values o.action → RunsFrom (after values b) os →
    RunsFrom values (cond (is_told end b) (o ∷ os) os)
runs_if values None (Sees view) o os is allows rest = rest
runs_if values _ _ o os is allows rest = (allows, subst (λ y. RunsFrom (after values y) os) (sym is) rest)

runs_told : (values : List ℕ) (os : List Operation) → RunsFrom values os → RunsFrom values (told os)
runs_told values [] h = tt
runs_told values (o ∷ os) h =
    runs_if values o.end o.action o (told os) refl h.0 (runs_told (after values o.action) os h.1)

-- what holds of each place and each later one
pairs_from : (R : Operation → Operation → Type 0) (os : List Operation) → AllPairs R os → Pairs R os
pairs_from R [] h = tt
pairs_from R (o ∷ os) h = (
  recursion_from_All (R o) os (λ k d lt. h 0 (suc k) d (omega arith) (omega arith)),
  pairs_from R os (λ i j d lt short. h (suc i) (suc j) d (omega arith) (omega arith)),
)

module _ (r : Run) where
  open_is_untold : (i c : ℕ) (end : Option ℕ) (b : Action) → IsOpenScan r i c end b → is_told end b ≡ true → ⊥
  open_is_untold i c None (Sees view) h is = cc
  open_is_untold i c _ _ h is = h

  told_takes_place : (o : Operation) → IsCompleted r o → tells o ≡ true → IsOperation r o
  told_takes_place o (inl took) is = took
  told_takes_place o (inr h) is = absurd (open_is_untold o.process o.call o.end o.action h is)

  pub told_is_linearization : (os : List Operation) → IsCompletedLinearization r os → IsLinearization r (told os)
  told_is_linearization os h =
      let apart : AllPairs Apart os = λ j k d lt short. (
        h.once j k d lt short,
        λ before. let less : k < j = h.order k j d short (omega arith) before in let no : ⊥ = omega arith in no,
      ) in
      let alone : All (λ o. EndedBefore o o → ⊥) os =
      λ k d lt before. let less : k < k = h.order k k d lt lt before in let no : ⊥ = omega arith in no in
      record {
        took_place = λ k d lt. told_takes_place (slice_index_or (told os) k d)
            (All-filter tells (IsCompleted r) os h.took_place k d lt) (filter_passes tells os k d lt);
        once = AllPairs-filter (λ a b. a.call ≡ b.call → ⊥) tells os h.once;
        complete = λ o took some. let there = h.complete o took some in
            contains_told os o there.0 there.1 there.2 (ap (λ y. is_told y o.action) some.1);
        order =
            keeps_order (told os)
            (recursion_from_All (λ o. EndedBefore o o → ⊥) (told os)
            (All-filter tells (λ o. EndedBefore o o → ⊥) os alone))
            (pairs_from Apart (told os) (AllPairs-filter Apart tells os apart));
        runs = runs_told (replicate r.shape.w 0) os h.runs;
      }

pub strong_is_linearizable_lem : StrongIsLinearizable
strong_is_linearizable_lem source shape most strong items short fits = (
  told (strong.0 items),
  told_is_linearization (run_of_items source shape items) (strong.0 items) (strong.1.linearizes items short fits),
)
