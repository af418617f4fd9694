-- A run has a certificate exactly where its operations have linearization points.
use Rattle.std.specs.Prelude.{◌≡◌, ℕ, zero, suc, ◌<◌, ◌≤◌, Bool, true, ◌&&◌, List, length, None, if◌then◌else◌}
use Rattle.std.specs.Prelude.{slice_index_or}
use Rattle.std.specs.List.{AllPairs, Contains}
use Rattle.std.proofs.Common.{sym, ◌∙◌, ap, subst, arith, inl, inr}
use Rattle.std.proofs.lemmas.Bool.{cases_lt, cases_order}
use Rattle.std.proofs.lemmas.List.{get_or_default}
use Rattle.std.proofs.lemmas.List.Elements.{All-contains}
use Rattle.snap_runs.specs.Audit.{audit}
use Rattle.snap_runs.specs.LinearizationPoints.{HasLinearizationPoints, LinearizableByPoints}
use Rattle.snap_runs.specs.Placement.{PlacedByPoints}
use Rattle.snap_runs.specs.Run.{Run, IsValidRun, item}
use Rattle.snap_runs.specs.Scan.{FinishedScan, HasPoint, count}
use Rattle.snap_runs.specs.Update.{executes, IsDone, PendingUpdate}
use Rattle.snap_runs.proofs.Audits.{of_scans}
use Rattle.snap_runs.proofs.Operations.{count_one, counted_item, same_answer, same_scan}
use Rattle.snap_certify.specs.Certificate.{Certificate, CertifiedByPoints, CertifiedHasPlaces}
use Rattle.snap_certify.specs.Certificate.{CertifiedIsLinearizable, HasCertificate, IsCertificate, IsPointOf, IsWriteOf}
use Rattle.snap_certify.specs.Certificate.{UpdateWrite}
use Rattle.snap_certify.specs.Certification.{certificate_of}
use Rattle.snap_certify.proofs.Complete.{points_found, writes_found}
use Rattle.snap_certify.proofs.Sound.{evidence_is}
use Rattle.snap_certify.proofs.Writes.{executed_there, its_write, update_write}

-- where no two items pass a test, at most one does
one_more : (b passes : Bool) (n : ℕ) → n ≤ 1 → (passes ≡ true → 1 ≤ n → ⊥) → (if b && passes then suc n else n) ≤ 1
one_more b passes n few never = grind arith

at_most_one : (test : ℕ → Bool) (c e : ℕ) →
    ((t u : ℕ) → c < t → t < u → u ≤ e → test t ≡ true → test u ≡ true → ⊥) → count test c e ≤ 1
at_most_one test c zero never = omega arith
at_most_one test c (suc e) never =
    one_more _ (test (suc e)) (count test c e)
    (at_most_one test c e (λ t u low less high. never t u low less (omega arith)))
    (λ passes some. let x = counted_item test c e some in
    never x.0 (suc e) x.1 (omega arith) (omega arith) x.3 passes)

-- elements of a list at which the relation fails both ways are one
same_element : {X : Type 0} (R : X → X → Type 0) (xs : List X) (x y : X) → AllPairs R xs → (R x y → ⊥) → (R y x → ⊥) →
    Contains xs x → Contains xs y → x ≡ y
same_element R xs x y pairs not ton has also =
    let there : slice_index_or xs also.0 x ≡ y = get_or_default xs also.0 x y also.1 ∙ also.2 in
    elim (cases_order has.0 also.0) [
      | inl same ↦ sym has.2 ∙ ap (λ k. slice_index_or xs k x) same ∙ there
      | inr (inl less) ↦
          absurd (not (subst (λ z. R z y) has.2 (subst (R (slice_index_or xs has.0 x)) there
          (pairs has.0 also.0 x less also.1))))
      | inr (inr more) ↦
          absurd (ton (subst (λ z. R z x) there (subst (R (slice_index_or xs also.0 x)) has.2
          (pairs also.0 has.0 x more has.1))))
    ]

-- From a certificate, the linearization points.
module _ (line : ℕ) (r : Run) (fits : IsValidRun r) (c : Certificate) (is : IsCertificate line r c) where
  not_twice : (i word value c' e : ℕ) → PendingUpdate r i word value c' e → (t u : ℕ) → c' < t → t < u → u ≤ e →
      executes r i line t ≡ true → executes r i line u ≡ true → ⊥
  not_twice i word value c' e up t u low less high ex ex' =
      let x =
      update_write line r c.writes is.writes_are fits is.executions i word value c' t e up low (omega arith) ex in
      let y =
      update_write line r c.writes is.writes_are fits is.executions i word value c' u e up (omega arith) high ex' in
      let same =
      same_element (λ a b. a.call ≡ b.call → ⊥) c.writes x.0 y.0 is.once (λ differ. differ (x.2 ∙ sym y.2))
      (λ differ. differ (y.2 ∙ sym x.2)) x.1 y.1 in
      let here : t ≡ u = sym x.3 ∙ ap (λ (w : UpdateWrite). w.item) same ∙ y.3 in
      omega arith

  -- an update that has ended has written
  has_written : (i word value c' e : ℕ) → PendingUpdate r i word value c' e → c' < e → IsDone r i e →
      1 ≤ count (executes r i line) c' e
  has_written i word value c' e up lt done =
      let h = is.updates_ended i word value c' e up lt done in
      let w = h.0 in
      let of = All-contains (IsWriteOf line r) c.writes w is.writes_are h.1 in
      let call = sym of.updating.call ∙ ap (item r) h.2 ∙ up.call in
      let his : w.process ≡ i = cc in
      let low : w.call < w.item = of.called in
      let called : w.call ≡ c' = h.2 in
      let high : w.item ≤ e = elim (cases_lt e w.item) [
        | inl less ↦ absurd (of.updating.goes_on e (omega arith) less (subst (λ j. IsDone r j e) (sym his) done))
        | inr le ↦ le
      ] in
      count_one (executes r i line) c' w.item e (omega arith) high
      (subst (λ j. executes r j line w.item ≡ true) his of.executed)

  -- an answered scan has a point
  has_point : (i c' e : ℕ) (view : List ℕ) → FinishedScan r i None c' e view → HasPoint r c' e view
  has_point i c' e view f =
      let h = is.scans_answered i c' e view f in
      let p = h.0 in
      let of = All-contains (IsPointOf r) c.points p is.points_are h.1 in
      let call = sym of.finished.scan.starts.0 ∙ ap (item r) h.2 ∙ f.scan.starts.0 in
      let his : p.process ≡ i = cc in
      let mine : FinishedScan r i None c' p.answer p.view =
      subst (λ u. FinishedScan r i None u p.answer p.view) h.2
      (subst (λ j. FinishedScan r j None p.call p.answer p.view) his of.finished) in
      let ends : p.answer ≡ e = same_answer r i c' p.answer e p.view view mine f in
      let same =
      same_scan r fits i i c' c' e p.view view (subst (λ u. FinishedScan r i None c' u p.view) ends mine) f in
      (p.item, subst (λ u. u ≤ p.item) h.2 of.called, subst (λ u. p.item ≤ u) ends of.answered, of.held ∙ same.2)

has_points : (line : ℕ) (r : Run) → HasCertificate line r → HasLinearizationPoints line r
has_points line r h = record {
  changes_only_at = λ fits t lt. let c = h fits in elim (c.1.changes t lt) [
    | inl same ↦ inl same
    | inr at ↦ inr (executed_there line r c.0.writes c.1.writes_are (suc t) at)
  ];
  writes_its_update = λ fits i t one lt ex. let c = h fits in
      let w = its_write line r c.0.writes c.1.writes_are i (suc t) ex (c.1.executions i t lt ex) in
      (w.word, w.value, w.call, w.is.updating, w.is.called, w.is.is_word, w.is.written);
  writes_once = λ fits i word value c' e up. let c = h fits in
      let few = at_most_one (executes r i line) c' e (not_twice line r fits c.0 c.1 i word value c' e up) in
      (few, λ lt done. let some = has_written line r fits c.0 c.1 i word value c' e up lt done in omega arith);
  answers_have_points = λ fits i c' e view f. let c = h fits in has_point line r fits c.0 c.1 i c' e view f;
}

-- From the linearization points, the certificate that is found.
has_certificate : (line : ℕ) (r : Run) → HasLinearizationPoints line r → HasCertificate line r
has_certificate line r points fits =
    let found = writes_found r line fits points (length r.items) (omega arith) in (
      certificate_of r (record { line = line; writes = found.0; points = audit r }),
      evidence_is r line fits found.0 tt found.1 (points_found r line fits points (audit r) (of_scans r fits)),
    )

pub by_points : CertifiedByPoints
by_points line r = (has_points line r, has_certificate line r)

pub is_linearizable : LinearizableByPoints → CertifiedIsLinearizable
is_linearizable law line r h = law line r (has_points line r h)

pub has_places : PlacedByPoints → CertifiedHasPlaces
has_places law line r h = law line r (has_points line r h)
