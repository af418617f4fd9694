-- What is found in the runs of a block stands at their places, whichever thread found it and when; and the first of
-- them in which something is found.
use Rattle.std.proofs.Common.{◌≡◌, inl, inr, ℕ, zero, suc, ◌+◌, ◌-◌, ◌<◌, ◌≤◌, true, false, List, [], ◌∷◌}
use Rattle.std.proofs.Common.{Option, Some, None, option_map, is_some, length, map, Vec, Result, Ok, Err, Bor, refl, sym, ap, subst, ◌∙◌, arith}
use Rattle.std.specs.Prelude.{IfOk, MatchResult, slice_index_or}
use Rattle.std.specs.List.{AllZip, Contains, range_with_len}
use Rattle.std.specs.Global.{Global}
use Rattle.rayon.proofs.ToStd.{slice-AllZip}
use Rattle.std.proofs.lemmas.Bool.{cases_lt}
use Rattle.std.proofs.lemmas.List.FromFn.{length-range_with_len}
use Rattle.std.proofs.lemmas.Slice.Zip.{AllZip-long}
use Rattle.snap_semantics.specs.Source.{Source}
use Rattle.snap_chance.specs.Plan.{Plan}
use Rattle.snap_hunt.specs.Finding.{Finds}
use Rattle.snap_hunt.specs.declared.failures.Failure.{Failure}
use Rattle.snap_hunt.specs.declared.failures.Wanted.{Wanted}
use Rattle.snap_hunt.specs.Hunt.{IsFirst, IsFirstIn, NothingBefore, run_of}
use Rattle.snap_hunt.specs.declared.found.Found.{Found}

-- where each answer is a value that is right for what stands at its place, so is each of the values
in_order : {S R : Type 0} (E : Type 0) (Q : S → R → Type 0) (xs : List S) (ys : List R) →
    AllZip {A = S} {B = Result R E} (λ x r. IfOk r (Q x)) xs (map (λ v. Ok v) ys) → AllZip Q xs ys
in_order E Q [] [] h = tt
in_order E Q (x ∷ xs) (y ∷ ys) h = (h.0, in_order E Q xs ys h.1)
in_order E Q _ _ h = absurd h

-- a chain side by side over references that show the items, whose closure has what it reads by another way
pub side_by_side : {P S R E : Type 0} (Q : P → S → R → Type 0) (held read : P) → held ≡ read
    → (seen : List (Bor S)) (xs : List S) → map (λ (z : Bor S). z.now) seen ≡ xs
    → (answers : List (Result R E)) (result : Result (Vec R Global) E)
    → AllZip {A = Bor S} {B = Result R E} (λ z r. IfOk r (Q held z.now)) seen answers
    → MatchResult result (λ v. (ys : List R) × (answers ≡ map (λ v. Ok v) ys) × (v.items ≡ ys))
    (λ e. Contains answers (Err e))
    → IfOk result (λ v. AllZip (Q read) xs v.items)
side_by_side {E = E} Q held read same seen xs shown answers (Ok v) each all =
    let zipped = slice-AllZip seen xs shown (λ x r. IfOk r (Q held x)) answers each in
    rw (← same, all.2) (in_order E (Q held) xs all.0 (rw all.1 at zipped))
side_by_side Q held read same seen xs shown answers (Err e) each all = tt

-- as many as there are numbers
pub as_many : (Q : ℕ → Option Failure → Type 0) (from count : ℕ) (found : List (Option Failure)) →
    AllZip Q (range_with_len from count) found → length found ≡ count
as_many Q from count found h = AllZip-long Q (range_with_len from count) found h ∙ length-range_with_len from count

at_place : (Q : ℕ → Option Failure → Type 0) (from count : ℕ) (found : List (Option Failure)) (j : ℕ) →
    AllZip Q (range_with_len from count) found → j < length found → Q (from + j) (slice_index_or found j None)
at_place Q from count [] j h lt = absurd (omega arith)
at_place Q from zero (o ∷ found) j h lt = absurd h
at_place Q from (suc count) (o ∷ found) zero h lt =
    let e : from ≡ from + zero = omega arith in rw e at h.0
at_place Q from (suc count) (o ∷ found) (suc j) h lt =
    let e : from + 1 + j ≡ from + suc j = omega arith in
    rw e at (at_place Q (from + 1) count found j h.1 (omega arith))

-- nothing is found in a run at whose place nothing stands
nothing_at : (l : Source) (p : Plan) (w : Wanted) (seed from count : ℕ) (found : List (Option Failure)) (j : ℕ) →
    AllZip (λ k o. Finds w (run_of l p seed k) o) (range_with_len from count) found → from ≤ j → j - from < length found
    → slice_index_or found (j - from) None ≡ None → Finds w (run_of l p seed j) None
nothing_at l p w seed from count found j h le lt none =
    let e : from + (j - from) ≡ j = omega arith in
    rw (e, none) at (at_place (λ k o. Finds w (run_of l p seed k) o) from count found (j - from) h lt)

-- the first of them that is a failure is the first run of the block that fails
pub first_of_block : (l : Source) (p : Plan) (w : Wanted) (seed from count : ℕ) (runs : List ℕ)
    (found : List (Option Failure)) (first : Option Found) → runs ≡ range_with_len from count →
    AllZip (λ k o. Finds w (run_of l p seed k) o) runs found → IsFirstIn from found first →
    IsFirst l p w seed from (from + count) first
first_of_block l p w seed from count runs found None is all none = λ j le lt.
    let h = rw is at all in
    let below : j - from < length found =
    omega (arith, as_many (λ k o. Finds w (run_of l p seed k) o) from count found h, le, lt) in
    nothing_at l p w seed from count found j h le below (none (j - from) below)
first_of_block l p w seed from count runs found (Some x) is all first =
    let h = rw is at all in
    let many = as_many (λ k o. Finds w (run_of l p seed k) o) from count found h in (
      omega (arith, first.1),
      omega (arith, first.1, first.2, many),
      λ j le lt.
          let sooner : j - from < first.0 = omega (arith, first.1, le, lt) in
          nothing_at l p w seed from count found j h le (omega (arith, first.2)) (first.4 (j - from) sooner),
      rw (first.1, ← first.3) (at_place (λ m o. Finds w (run_of l p seed m) o) from count found first.0 h first.2),
    )

-- nothing before a block and nothing in it is nothing before its end
pub none_more : (l : Source) (p : Plan) (w : Wanted) (seed from to : ℕ) (r : Option Found) →
    NothingBefore l p w seed 0 from → IsFirst l p w seed from to r → is_some r ≡ false → NothingBefore l p w seed 0 to
none_more l p w seed from to (Some x) none first is = absurd cc
none_more l p w seed from to None none first is = λ j le lt. elim (cases_lt j from) [
  | inl below ↦ none j (omega arith) below
  | inr after ↦ first j after lt
]

-- the first failure of a block, with nothing before it, is the first of all
pub found_first : (l : Source) (p : Plan) (w : Wanted) (seed from to end : ℕ) (r : Option Found) → to ≤ end →
    NothingBefore l p w seed 0 from → IsFirst l p w seed from to r → is_some r ≡ true → IsFirst l p w seed 0 end r
found_first l p w seed from to end None inside none first some = absurd cc
found_first l p w seed from to end (Some x) inside none first some = (
  omega arith,
  omega (arith, first.1, inside),
  λ j zero_le below. elim (cases_lt j from) [
    | inl before ↦ none j (omega arith) before
    | inr after ↦ first.2 j after below
  ],
  first.3,
)

-- one run alone, in which something is found or nothing
pub alone : (l : Source) (p : Plan) (w : Wanted) (seed k : ℕ) (found : Option Failure) →
    Finds w (run_of l p seed k) found →
    IsFirst l p w seed k (k + 1) (option_map (λ f. record { run = k; failure = f }) found)
alone l p w seed k None h = λ j le lt.
    let same : k ≡ j = omega (arith, le, lt) in
    rw same at h
alone l p w seed k (Some f) h = (omega arith, omega arith, λ j le lt. absurd (omega (arith, le, lt)), h)
