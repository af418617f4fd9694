-- An audit has the verdict of each finished scan, and the verdicts' answers rise.
use Rattle.std.proofs.Common.{◌≡◌, ℕ, zero, suc, ◌<◌, ◌≤◌, List, [], ◌∷◌, ◌++◌, length, None, refl, sym, ap}
use Rattle.std.proofs.Common.{subst, ◌∙◌, arith}
use Rattle.std.proofs.lemmas.List.{append-nil}
use Rattle.std.proofs.lemmas.List.Elements.{All-from_recursion, All-nil, All-push}
use Rattle.std.proofs.lemmas.List.Elements.{Contains-append_left, Contains-append_right}
use Rattle.std.proofs.lemmas.List.Quantifiers.{all_pairs_push}
use Rattle.std.specs.List.{All, AllPairs, Contains}
use Rattle.snap_runs.proofs.Common.{who, Outcome, Run, IsValidRun, item}
use Rattle.snap_semantics.specs.declared.process.Outcome.TheVariants as outcome
use Rattle.snap_runs.specs.Audit.{IsOfScan, audit, last_call, verdict_at, verdict_of, verdicts}
use Rattle.snap_runs.specs.Run.{outcome as outcome_at}
use Rattle.snap_runs.specs.Scan.{FinishedScan}
use Rattle.snap_runs.specs.declared.verdict.Verdict.{Verdict}
use Rattle.snap_runs.proofs.Audits.{of_scans}
use Rattle.snap_runs.proofs.Computing.{from_there}
use Rattle.snap_runs.proofs.Operations.{same_scan}
use Rattle.snap_runs.specs.Complete.{AnswersRise, ScansHaveVerdicts}

-- what was found of the first items is found of more
still_found : (r : Run) (v : Verdict) (t u : ℕ) → t ≤ u → Contains (verdicts r t) v → Contains (verdicts r u) v
still_found r v t u le h =
    from_there (λ k. Contains (verdicts r k) v) t u le h
    (λ k low high. Contains-append_left (verdicts r k) (verdict_at r (suc k) (outcome_at r (suc k))) v)

-- an answer has its verdict
found_there : (r : Run) (t : ℕ) (view : List ℕ) → outcome_at r (suc t) ≡ outcome.Answered view →
    (let i = who (item r (suc t)) in
    Contains (verdicts r (suc t)) (verdict_of r i (last_call r i (suc t)) (suc t) view))
found_there r t view is =
    let i = who (item r (suc t)) in
    let v = verdict_of r i (last_call r i (suc t)) (suc t) view in
    let one : Contains (v ∷ []) v = (0, omega arith, refl) in
    Contains-append_right (verdicts r t) (verdict_at r (suc t) (outcome_at r (suc t))) v
    (subst (λ (o : Outcome). Contains (verdict_at r (suc t) o) v) (sym is) one)

-- the verdict of a finished scan
module _ (r : Run) (fits : IsValidRun r) (i c : ℕ) (view : List ℕ) where
  -- an audit contains the verdict of a finished scan
  of_answer : (t : ℕ) → FinishedScan r i None c (suc t) view → Contains (audit r) (verdict_of r i c (suc t) view)
  of_answer t f =
      let j = who (item r (suc t)) in
      let d = last_call r j (suc t) in
      let v = verdict_of r j d (suc t) view in
      let found : Contains (audit r) v =
      still_found r v (suc t) (length r.items) f.scan.last (found_there r t view f.ends.1) in
      let scan : IsOfScan r v =
      subst (IsOfScan r) found.2 (All-from_recursion (IsOfScan r) (audit r) (of_scans r fits) found.0 v found.1) in
      let same = same_scan r fits i j c d (suc t) view scan.view f scan.finished in
      subst (Contains (audit r))
      (ap (λ k. verdict_of r k d (suc t) view) (sym same.0) ∙ ap (λ k. verdict_of r i k (suc t) view) (sym same.1))
      found

  of_finished : (e : ℕ) → FinishedScan r i None c e view → Contains (audit r) (verdict_of r i c e view)
  of_finished zero f = (let lt : c < zero = f.order in absurd (omega (arith, lt)))
  of_finished (suc t) f = of_answer t f

-- each finished scan has its verdict
pub scans_have_verdicts : (r : Run) → ScansHaveVerdicts r
scans_have_verdicts r fits i c e view f = of_finished r fits i c view e f

-- the verdicts of so many items: their answers rise, and none is behind these items
record Rise (vs : List Verdict) (t : ℕ) : Type 0 where
  pairs : AllPairs (λ (v w : Verdict). v.answer < w.answer) vs
  within : All (λ (v : Verdict). v.answer ≤ t) vs

-- one item more, which answers nothing
further : (vs : List Verdict) (t : ℕ) → Rise vs t → Rise (vs ++ []) (suc t)
further vs t h =
    let later : Rise vs (suc t) = record {
      pairs = h.pairs;
      within = λ k d lt. let le = h.within k d lt in omega (arith, le);
    } in
    subst (λ l. Rise l (suc t)) (sym (append-nil vs)) later

-- one item more
one_more : (r : Run) (vs : List Verdict) (t : ℕ) (o : Outcome) → Rise vs t → Rise (vs ++ verdict_at r (suc t) o) (suc t)
one_more r vs t (outcome.Answered view) h =
    let i = who (item r (suc t)) in
    let v = verdict_of r i (last_call r i (suc t)) (suc t) view in
    record {
      pairs =
          all_pairs_push (λ (a b : Verdict). a.answer < b.answer) vs v h.pairs (λ k d lt.
          let le = h.within k d lt in omega (arith, le));
      within =
          All-push (λ (a : Verdict). a.answer ≤ suc t) vs v
          (λ k d lt. let le = h.within k d lt in omega (arith, le)) (omega arith);
    }
one_more r vs t _ h = further vs t h

-- any number of items
rise : (r : Run) (t : ℕ) → Rise (verdicts r t) t
rise r zero = record {
  pairs = λ i j d lt within. absurd (omega (arith, lt, within));
  within = All-nil (λ (v : Verdict). v.answer ≤ 0);
}
rise r (suc t) = one_more r (verdicts r t) t (outcome_at r (suc t)) (rise r t)

-- the answers rise
pub answers_rise : (r : Run) → AnswersRise r
answers_rise r = (rise r (length r.items)).pairs
