-- The line that a certification chooses is that at which updates write, if the listing's first line that writes a
-- word is the only one that changes the values.
use Rattle.std.specs.Prelude.{◌≡◌, ℕ, zero, suc, ◌+◌, ◌<◌, ◌≤◌, ◌⊎◌, true, false, length, Option}
use Rattle.std.specs.Prelude.{Some, None, option_map, refl}
use Rattle.std.proofs.Common.{sym, ◌∙◌, subst, arith, inl, inr}
use Rattle.std.proofs.lemmas.Bool.{cases_Bool}
use Rattle.std.proofs.lemmas.Bool.Decides.{nat_tests}
use Rattle.snap_semantics.specs.declared.process.Activity.{Activity}
use Rattle.snap_runs.specs.LinearizationPoints.{HasLinearizationPoints}
use Rattle.snap_runs.specs.Promises.{ChangesOnlyAt}
use Rattle.snap_runs.specs.Run.{Run, IsValidRun}
use Rattle.snap_certify.specs.Certification.{PointsCertify, at_line, changes, changing_line, executed}
use Rattle.snap_certify.specs.Certification.{putting_line, seen_item, write_line}
use Rattle.snap_certify.proofs.Complete.{is_certified}
use Rattle.snap_certify.proofs.Findings.{values_kept}
use Rattle.snap_certify.proofs.Progressing.{executes_seen}

-- the line that is executed where that is a line
line_of : (line : ℕ) (o : Option Activity) → at_line line o ≡ true → option_map (λ (a : Activity). a.line) o ≡ Some line
line_of line o at = grind (arith, nat_tests)

module _ (r : Run) (line : ℕ) (fits : IsValidRun r) (only : ChangesOnlyAt line r) where
  -- the line of an item that changes the values
  line_there : (t : ℕ) → t < length r.items → changes (seen_item r (suc t)) ≡ true →
      option_map (λ (a : Activity). a.line) (executed (seen_item r (suc t))) ≡ Some line
  line_there t lt changed = elim (only fits t lt) [
    | inl kept ↦ absurd (let e : true ≡ false = sym changed ∙ values_kept (seen_item r (suc t)) kept in cc)
    | inr ex ↦ line_of line (executed (seen_item r (suc t))) (sym (executes_seen r line (suc t)) ∙ ex)
  ]

  -- the line of the first such item
  changing_there : (t more : ℕ) → t + more ≤ length r.items →
      (changing_line r t more ≡ None) ⊎ (changing_line r t more ≡ Some line)
  changing_there t zero le = inl refl
  changing_there t (suc more) le = elim (cases_Bool (changes (seen_item r (suc t)))) [
    | inl is ↦ inr (rw is (line_there t (omega arith) is))
    | inr is ↦ rw is (changing_there (suc t) more (omega arith))
  ]

  pub line_is : putting_line r.source.lines ≡ line → write_line r ≡ line
  line_is puts = elim (changing_there 0 (length r.items) (omega arith)) [
    | inl none ↦ rw none puts
    | inr some ↦ rw some
  ]

pub points_certify : PointsCertify
points_certify line r fits puts has =
    let same = line_is r line fits has.changes_only_at puts in
    (same, is_certified r fits (subst (λ k. HasLinearizationPoints k r) (sym same) has))
