-- A run whose operations have linearization points is certified.
use Rattle.std.specs.Prelude.{◌≡◌, ℕ, zero, suc, ◌-◌, ◌<◌, ◌≤◌, ◌⊎◌, true, false, List, [], ◌∷◌, ◌++◌, length}
use Rattle.std.specs.Prelude.{Option, Some, None, Ok, IsOk, nat_eq, slice_set, refl}
use Rattle.std.specs.List.{AllByRecursion}
use Rattle.std.proofs.Common.{sym, ◌∙◌, ap, arith, inl, inr}
use Rattle.std.proofs.lemmas.Bool.{cases_Bool, false_from_ne_true}
use Rattle.std.proofs.lemmas.Slice.Eq.{bytes_eq-Decides}
use Rattle.std.proofs.Math.Nat.{eq-or-lt_of_le}
use Rattle.snap_semantics.specs.State.{values}
use Rattle.snap_semantics.specs.Table.{who}
use Rattle.snap_semantics.specs.declared.process.Activity.{Activity}
use Rattle.snap_semantics.specs.declared.process.Item.TheVariants.{Call}
use Rattle.snap_semantics.specs.declared.process.Op.TheVariants.{Update}
use Rattle.snap_semantics.specs.declared.process.Outcome.TheVariants as outcome
use Rattle.snap_runs.specs.Audit.{IsLeastPoint, IsOfScan, audit}
use Rattle.snap_runs.specs.LinearizationPoints.{HasLinearizationPoints}
use Rattle.snap_runs.specs.Run.{Run, IsValidRun, state, item, outcome as outcome_at}
use Rattle.snap_runs.specs.Scan.{HasPoint}
use Rattle.snap_runs.specs.Update.{executes}
use Rattle.snap_runs.specs.declared.verdict.Verdict.{Verdict}
use Rattle.snap_runs.proofs.Audits.{of_scans}
use Rattle.snap_runs.proofs.Calls.{finish_ends, item_one}
use Rattle.snap_runs.proofs.Operations.{count_two, counted_item}
use Rattle.snap_certify.specs.Certification.{at_line, certification_of, changes, executed, points, progress, seen_item}
use Rattle.snap_certify.specs.Certification.{write_line, writes}
use Rattle.snap_certify.specs.declared.found.Finding.TheVariants as finding
use Rattle.snap_certify.specs.declared.found.UpdateWrite.{UpdateWrite}
use Rattle.snap_certify.proofs.Findings.{nothing_here, values_kept, writes_here}
use Rattle.snap_certify.proofs.Progressing.{executes_seen, has_written, update_call_is, wrote_at}
use Rattle.snap_certify.proofs.Sound.{found_next, last_under, step_under}

-- what is executed where a line is
at_its_line : (line : ℕ) (o : Option Activity) → at_line line o ≡ true →
    (a : Activity) × (o ≡ Some a) × (nat_eq a.line line ≡ true)
at_its_line line o at = grind arith

-- a point that is there was found
found_point : (r : Run) (c e : ℕ) (view : List ℕ) (o : Option ℕ) → IsLeastPoint r c e view o → HasPoint r c e view →
    (p : ℕ) × (o ≡ Some p)
found_point r c e view (Some p) least has = (p, refl)
found_point r c e view None least has = absurd (least has)

module _ (r : Run) (line : ℕ) (fits : IsValidRun r) (has : HasLinearizationPoints line r) where
  abbrev NothingLacks : ℕ → Type 0
  NothingLacks t =
      (found_next r line fits t ≡ finding.Nothing) ⊎ ((w : UpdateWrite) × (found_next r line fits t ≡ finding.Write w))

  -- an item that executes the line
  executing : (t : ℕ) → t < length r.items → executes r (who (item r (suc t))) line (suc t) ≡ true → NothingLacks t
  executing t lt ex =
      let i = who (item r (suc t)) in
      let p = progress r line i t in
      let one = item_one r fits t lt in
      let there = at_its_line line (executed (seen_item r (suc t))) (sym (executes_seen r line (suc t)) ∙ ex) in
      let a = there.0 in
      let h = has.writes_its_update fits i t one lt ex in
      let word = h.0 in
      let value = h.1 in
      let last : p.call ≡ h.2 = update_call_is r line fits i word value h.2 t h.3 (omega arith) in
      let u = step_under r line fits t a lt there.1 in
      let same : u.call ≡ h.2 = sym (last_under r line fits i t a.op (omega arith) one u) ∙ last in
      let call : Call i a.op ≡ Call i (Update word value) = sym u.is.0 ∙ ap (item r) same ∙ h.3.call in
      let its_op : a.op ≡ Update word value = cc in
      let first : p.wrote ≡ true → ⊥ = λ wrote.
      let x = wrote_at r line i t wrote in
      let two = count_two (executes r i line) h.2 x.0 (suc t) (omega arith) (omega arith) x.3 ex in
      let most = (has.writes_once fits i word value h.2 (suc t) h.3).0 in
      omega arith in
      inr (
        record { process = i; word = word; value = value; call = p.call; item = suc t },
        writes_here line (suc t) (seen_item r (suc t)) p a word value there.1 there.2 its_op
            (false_from_ne_true p.wrote first)
            ((bytes_eq-Decides (values (state r (suc t))) (slice_set (values (state r t)) (word - 1) value)).1 h.6),
      )

  -- an item that does not execute it
  passing : (t : ℕ) → t < length r.items → executes r (who (item r (suc t))) line (suc t) ≡ false → NothingLacks t
  passing t lt quiet =
      let i = who (item r (suc t)) in
      let same : changes (seen_item r (suc t)) ≡ false = elim (has.changes_only_at fits t lt) [
        | inl kept ↦ values_kept (seen_item r (suc t)) kept
        | inr ex ↦ absurd (let e : true ≡ false = sym ex ∙ quiet in cc)
      ] in
      let wrote : outcome_at r (suc t) ≡ outcome.Finished → (progress r line i t).wrote ≡ true = λ out.
      let e = finish_ends r fits t lt out in
      let call = update_call_is r line fits i e.1 e.2 e.0 t e.3 (omega arith) in
      let counted = (has.writes_once fits i e.1 e.2 e.0 (suc t) e.3).1 e.4 (refl, out) in
      let x = counted_item (executes r i line) e.0 (suc t) (omega arith) in
      elim (eq-or-lt_of_le x.2) [
        | inl now ↦ absurd (let f : true ≡ false = sym x.3 ∙ ap (executes r i line) now ∙ quiet in cc)
        | inr less ↦ has_written r line i t x.0 (omega arith) (omega arith) x.3
      ] in
      inl (nothing_here line (suc t) (seen_item r (suc t)) (progress r line i t) (record {
        not_there = sym (executes_seen r line (suc t)) ∙ quiet;
        same = same;
        wrote = wrote;
      }))

  -- all writes are found
  pub writes_found : (t : ℕ) → t ≤ length r.items → (ws : List UpdateWrite) × (writes r line t ≡ Ok ws)
  writes_found zero le = ([], refl)
  writes_found (suc t) le =
      let past = writes_found t (omega arith) in
      let found : NothingLacks t = elim (cases_Bool (executes r (who (item r (suc t))) line (suc t))) [
        | inl ex ↦ executing t (omega arith) ex
        | inr quiet ↦ passing t (omega arith) quiet
      ] in
      elim found [
        | inl none ↦ (past.0, rw (past.1, none))
        | inr some ↦ (past.0 ++ some.0 ∷ [], rw (past.1, some.1))
      ]

  -- all points are found
  pub points_found : (vs : List Verdict) → AllByRecursion (IsOfScan r) vs → points vs ≡ Ok tt
  points_found [] h = refl
  points_found (v ∷ vs) h =
      let x = found_point r v.call v.answer h.0.view v.point h.0.point_is_least
      (has.answers_have_points fits v.process v.call v.answer h.0.view h.0.finished) in
      rw x.1 (points_found vs h.1)

-- a run whose operations have linearization points is certified
pub is_certified : (r : Run) → IsValidRun r → HasLinearizationPoints (write_line r) r → IsOk (certification_of r)
is_certified r fits has =
    rw (
      (writes_found r (write_line r) fits has (length r.items) (omega arith)).1,
      points_found r (write_line r) fits has (audit r) (of_scans r fits),
    )
