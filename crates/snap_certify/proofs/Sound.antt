-- A certified run has a certificate: the line, the writes and the points that its certification gives.
use Rattle.std.specs.Prelude.{◌≡◌, ℕ, zero, suc, ◌-◌, ◌<◌, ◌≤◌, ◌⊎◌, true, List, [], ◌∷◌, ◌++◌, length, map, Some}
use Rattle.std.specs.Prelude.{IfOk, Result, Ok, Err, get_or, slice_set, refl}
use Rattle.std.specs.List.{All, AllByRecursion, AllPairs, Contains}
use Rattle.std.proofs.Common.{sym, ◌∙◌, ap, subst, arith, below_more, inl, inr}
use Rattle.std.proofs.lemmas.List.{get_or-map, length-map}
use Rattle.std.proofs.lemmas.List.Elements.{All-from_recursion, All-map, All-nil, All-push, All-weaker}
use Rattle.std.proofs.lemmas.List.Elements.{Contains-append_left, Contains-push}
use Rattle.std.proofs.lemmas.List.Quantifiers.{all_pairs_push}
use Rattle.std.proofs.lemmas.Result.{IfOk-at_ok}
use Rattle.std.proofs.lemmas.Slice.Eq.{bytes_eq-Decides}
use Rattle.snap_semantics.specs.Answers.{◌>>=◌}
use Rattle.snap_semantics.specs.State.{process_at, values}
use Rattle.snap_semantics.specs.Table.{who}
use Rattle.snap_semantics.specs.declared.process.Activity.{Activity}
use Rattle.snap_semantics.specs.declared.process.Op.{Op}
use Rattle.snap_semantics.specs.declared.process.Op.TheVariants.{Update}
use Rattle.snap_runs.specs.Audit.{IsOfScan, audit, verdict_of}
use Rattle.snap_runs.specs.Run.{Run, IsValidRun, state, before, item, outcome as outcome_at}
use Rattle.snap_runs.specs.Update.{executes, IsDone, PendingUpdate}
use Rattle.snap_runs.specs.declared.verdict.Verdict.{Verdict}
use Rattle.snap_runs.proofs.Audits.{of_scans}
use Rattle.snap_runs.proofs.Calls.{IsEnd, UnderAt, UnderCall, item_one, under}
use Rattle.snap_runs.proofs.Complete.{scans_have_verdicts}
use Rattle.snap_runs.proofs.Operations.{ends_end}
use Rattle.snap_words.specs.Shape.{IsOneOf}
use Rattle.snap_certify.specs.Certificate.{HasWrite, IsCertificate, IsPointOf, IsWriteOf, WritesAtItem}
use Rattle.snap_certify.specs.Certification.{Evidence, at_line, certificate_of, certificate_point, certificate_write}
use Rattle.snap_certify.specs.Certification.{certification_of, executed, found_at, point_of, points, progress}
use Rattle.snap_certify.specs.Certification.{seen_item, with_finding, write_line, writes}
use Rattle.snap_certify.specs.declared.found.Finding.{Finding}
use Rattle.snap_certify.specs.declared.found.Finding.TheVariants as finding
use Rattle.snap_certify.specs.declared.found.Missing.{Missing}
use Rattle.snap_certify.specs.declared.found.UpdateWrite.{UpdateWrite}
use Rattle.snap_certify.proofs.Findings.{found_at_step, quiet, stepping_is, still_values, word_called, writing}
use Rattle.snap_certify.proofs.Progressing.{call_is, executes_seen, has_written, seen_at_line, update_call_is, wrote_at}
use Rattle.snap_certify.proofs.Writes.{update_write}

-- an element of a list, under a function
contains_map : {X Y : Type 0} (f : X → Y) (xs : List X) (x : X) → Contains xs x → Contains (map f xs) (f x)
contains_map f xs x h = (h.0, rw length-map h.1, get_or-map f xs h.0 x (f x) h.1 ∙ ap f h.2)

-- pairs under a function
pairs_map : {X Y : Type 0} (f : X → Y) (R : Y → Y → Type 0) (xs : List X) (x : X) →
    AllPairs (λ a b. R (f a) (f b)) xs → AllPairs R (map f xs)
pairs_map f R xs x pairs i j d less short =
    let lt : j < length xs = rw length-map at short in
    rw (get_or-map f xs i x d (omega arith), get_or-map f xs j x d lt) (pairs i j x less lt)

module _ (r : Run) (line : ℕ) (fits : IsValidRun r) where
  -- what is found at item t + 1
  abbrev pub found_next : ℕ → Finding
  found_next t = found_at line (suc t) (seen_item r (suc t)) (progress r line (who (item r (suc t))) t)

  -- a step of a busy process is under a call, the last one of its process
  pub step_under : (t : ℕ) (a : Activity) → t < length r.items → executed (seen_item r (suc t)) ≡ Some a →
      UnderCall r fits (who (item r (suc t))) a.op t
  step_under t a lt is =
      let i = who (item r (suc t)) in
      subst (UnderAt r fits i t) (stepping_is (item r (suc t)) (process_at (state r t) i).status a
      (found_at_step (seen_item r (suc t)) a is)) (under r fits t i (omega arith) (item_one r fits t lt))

  pub last_under : (i t : ℕ) (o : Op) → t ≤ length r.items → IsOneOf r.shape.n i → (u : UnderCall r fits i o t) →
      (progress r line i t).call ≡ u.call
  last_under i t o le one u =
      call_is r line fits i o u.call t one u.first u.order le u.is
      (λ v lt most ends. u.open_still v lt most ends.0 (ends_end o (outcome_at r v) ends.1))

  -- a write of the run, and the first one of its update
  record IsFirst (w : UpdateWrite) : Type 0 where
    pub is : IsWriteOf line r (certificate_write w)
    pub alone : (v : ℕ) → w.call < v → v < w.item → executes r w.process line v ≡ true → ⊥

  first_write : (t : ℕ) (w : UpdateWrite) → t < length r.items →
      found_next t ≡ finding.Write w → IsFirst w × (w.item ≡ suc t)
  first_write t w lt is =
      let i = who (item r (suc t)) in
      let one = item_one r fits t lt in
      let x = writing line (suc t) (seen_item r (suc t)) (progress r line i t) w is in
      let u : UnderCall r fits i (Update x.word x.value) t =
      subst (λ o. UnderCall r fits i o t) x.op (step_under t x.activity lt x.there) in
      let last = last_under i t (Update x.word x.value) (omega arith) one u in
      rw (x.is, last) (
        record {
          is = record {
            updating = record {
              process = one;
              call = u.is.0;
              called = u.is.1;
              first = u.first;
              order = omega arith;
              last = lt;
              goes_on = λ y more less done. u.open_still y more (omega arith) done.0 (subst IsEnd (sym done.1) tt);
            };
            called = omega arith;
            is_word =
                word_called r.source r.shape (before r u.call) i x.word x.value (process_at (before r u.call) i)
                (rw (u.is.0, outcome_at) at u.is.1);
            executed = executes_seen r line (suc t) ∙ ap (at_line line) x.there ∙ x.line_is;
            written =
                (bytes_eq-Decides (values (state r (suc t))) (slice_set (values (state r t)) (x.word - 1) x.value)).0
                x.now;
          };
          alone = λ y more less ran. let found = has_written r line i t y (omega arith) (omega arith) ran in absurd cc;
        },
        refl,
      )

  -- what is found at an item is known: nothing, or one of these writes
  abbrev Known : List UpdateWrite → ℕ → Type 0
  Known ws u = (found_next u ≡ finding.Nothing) ⊎ ((w : UpdateWrite) × (found_next u ≡ finding.Write w) × Contains ws w)

  -- the writes of the first t items
  record WritesTo (t : ℕ) (ws : List UpdateWrite) : Type 0 where
    pub are : All (λ w. IsFirst w × (w.item ≤ t)) ws
    pub rise : AllPairs (λ (a b : UpdateWrite). a.item < b.item) ws
    pub each : (u : ℕ) → u < t → Known ws u

  writes_more : (t : ℕ) (ws : List UpdateWrite) (f : Finding) → t < length r.items → found_next t ≡ f →
      WritesTo t ws → IfOk (with_finding ws f) (WritesTo (suc t))
  writes_more t ws finding.Nothing lt is past = record {
    are = All-weaker (λ w. IsFirst w × (w.item ≤ t)) (λ w. IsFirst w × (w.item ≤ suc t))
        (λ v h. (h.0, omega arith)) ws past.are;
    rise = past.rise;
    each = λ u less. below_more (Known ws) t past.each (inl is) u (omega arith);
  }
  writes_more t ws (finding.Write w) lt is past =
      let first = first_write t w lt is in
      record {
        are = All-push (λ w. IsFirst w × (w.item ≤ suc t)) ws w
            (All-weaker (λ w. IsFirst w × (w.item ≤ t)) (λ w. IsFirst w × (w.item ≤ suc t))
            (λ v h. (h.0, omega arith)) ws past.are) (first.0, omega arith);
        rise =
            all_pairs_push (λ (a b : UpdateWrite). a.item < b.item) ws w past.rise
            (λ k d short. let h = past.are k d short in omega arith);
        each = λ u less. below_more (Known (ws ++ w ∷ [])) t (λ v early. elim (past.each v early) [
          | inl none ↦ inl none
          | inr some ↦ inr (some.0, some.1, Contains-append_left ws (w ∷ []) some.0 some.2)
        ]) (inr (w, is, Contains-push ws w)) u (omega arith);
      }
  writes_more t ws (finding.Lacks missing) lt is past = tt

  writes_to : (t : ℕ) → t ≤ length r.items → IfOk (writes r line t) (WritesTo t)
  writes_to zero le = record {
    are = All-nil (λ w. IsFirst w × (w.item ≤ 0));
    rise = λ i j d less short. absurd (omega arith);
    each = λ u less. absurd (omega arith);
  }
  writes_to (suc t) le = by (writes r line t) (writes_to t (omega arith))
    where
      by : (x : Result (List UpdateWrite) Missing) → IfOk x (WritesTo t) →
          IfOk (x >>= λ ws. with_finding ws (found_next t)) (WritesTo (suc t))
      by (Ok ws) past = writes_more t ws (found_next t) (omega arith) refl past
      by (Err missing) past = tt

  module _ (ws : List UpdateWrite) (all : WritesTo (length r.items) ws) where
    -- a write that was found at an item
    found_write : (u : ℕ) → u < length r.items →
        (w : UpdateWrite) × (found_next u ≡ finding.Write w) × Contains ws w →
        WritesAtItem (map certificate_write ws) (suc u)
    found_write u lt x =
        (certificate_write x.0, contains_map certificate_write ws x.0 x.2, (first_write u x.0 lt x.1).1)

    -- an item that executes the line has its write
    executed_at : (i u : ℕ) → u < length r.items → executes r i line (suc u) ≡ true →
        WritesAtItem (map certificate_write ws) (suc u)
    executed_at i u lt ex = elim (all.each u lt) [
      | inl none ↦
          let q = quiet line (suc u) (seen_item r (suc u)) (progress r line (who (item r (suc u))) u) none in
          let seen = seen_at_line r line i (suc u) ex in
          absurd cc
      | inr some ↦ found_write u lt some
    ]

    changed_at : (u : ℕ) → u < length r.items →
        (values (state r (suc u)) ≡ values (state r u)) ⊎ WritesAtItem (map certificate_write ws) (suc u)
    changed_at u lt = elim (all.each u lt) [
      | inl none ↦
          let q = quiet line (suc u) (seen_item r (suc u)) (progress r line (who (item r (suc u))) u) none in
          inl (still_values (seen_item r (suc u)) q.same)
      | inr some ↦ inr (found_write u lt some)
    ]

    -- two writes of one update
    not_of_one : (a b : UpdateWrite) → IsFirst a → IsFirst b → a.item < b.item → a.call ≡ b.call → ⊥
    not_of_one a b x y less same =
        let call = sym x.is.updating.call ∙ ap (item r) same ∙ y.is.updating.call in
        let his : a.process ≡ b.process = cc in
        let low : a.call < a.item = x.is.called in
        y.alone a.item (omega arith) less (subst (λ j. executes r j line a.item ≡ true) his x.is.executed)

    writes_are : All (IsWriteOf line r) (map certificate_write ws)
    writes_are = All-map (IsWriteOf line r) certificate_write ws (λ k d lt. (all.are k d lt).0.is)

    -- an update that has ended has executed it
    updates_end : (i word value c e : ℕ) → PendingUpdate r i word value c e → c < e → IsDone r i e →
        HasWrite (map certificate_write ws) c
    updates_end i word value c zero up lt done = absurd (omega arith)
    updates_end i word value c (suc u) up lt done =
        let k = who (item r (suc u)) in
        let call : (progress r line k u).call ≡ c =
        ap (λ j. (progress r line j u).call) done.0 ∙ update_call_is r line fits i word value c u up (omega arith) in
        elim (all.each u (omega arith)) [
          | inl none ↦
              let x = wrote_at r line k u
              ((quiet line (suc u) (seen_item r (suc u)) (progress r line k u) none).wrote done.1) in
              let w =
              update_write line r (map certificate_write ws) writes_are fits executed_at i word value c x.0 (suc u) up
              (omega arith) (omega arith) (subst (λ j. executes r j line x.0 ≡ true) done.0 x.3) in
              (w.0, w.1, w.2)
          | inr some ↦
              let x = writing line (suc u) (seen_item r (suc u)) (progress r line k u) some.0 some.1 in (
                certificate_write some.0,
                contains_map certificate_write ws some.0 some.2,
                ap (λ (w : UpdateWrite). w.call) x.is ∙ call,
              )
        ]

  -- the first of these verdicts has a point, and the others are left
  first_pointed : (v : Verdict) (rest : Result (Unit {0}) Missing) (has : Unit {0}) →
      (point_of v v.point >>= λ x. rest) ≡ Ok has → ((p : ℕ) × (v.point ≡ Some p)) × (rest ≡ Ok has)
  first_pointed v rest has h = grind arith

  all_points : (vs : List Verdict) (has : Unit {0}) → AllByRecursion (IsOfScan r) vs → points vs ≡ Ok has →
      AllByRecursion (λ v. IsPointOf r (certificate_point r v)) vs
  all_points [] has scans pointed = tt
  all_points (v ∷ vs) has scans pointed =
      let x = first_pointed v (points vs) has pointed in
      let least = rw x.0.1 at scans.0.point_is_least in (
        rw x.0.1 (record {
          finished = rw least.2 scans.0.finished;
          called = least.0;
          answered = least.1;
          held = refl;
        }),
        all_points vs has scans.1 x.1,
      )

  pub evidence_is : (ws : List UpdateWrite) (has : Unit {0}) →
      writes r line (length r.items) ≡ Ok ws → points (audit r) ≡ Ok has →
      IsCertificate line r (certificate_of r (record { line = line; writes = ws; points = audit r }))
  evidence_is ws has wrote pointed =
      let all = IfOk-at_ok (WritesTo (length r.items)) wrote (writes_to (length r.items) (omega arith)) in
      record {
        writes_are = writes_are ws all;
        points_are =
            All-map (IsPointOf r) (certificate_point r) (audit r)
            (All-from_recursion (λ v. IsPointOf r (certificate_point r v)) (audit r)
            (all_points (audit r) has (of_scans r fits) pointed));
        once = pairs_map certificate_write (λ a b. a.call ≡ b.call → ⊥) ws
            (record { process = 0; word = 0; value = 0; call = 0; item = 0 })
            (λ i j d less short. not_of_one ws all (get_or ws i d) (get_or ws j d)
            (all.are i d (omega arith)).0 (all.are j d short).0 (all.rise i j d less short));
        executions = executed_at ws all;
        changes = changed_at ws all;
        updates_ended = updates_end ws all;
        scans_answered = λ i c e view f. (
          certificate_point r (verdict_of r i c e view),
          contains_map (certificate_point r) (audit r) (verdict_of r i c e view)
              (scans_have_verdicts r fits i c e view f),
          refl,
        );
      }

-- what was found and judged, where the evidence is made of it
evidence_of : (line : ℕ) (found : Result (List UpdateWrite) Missing) (judged : Result (Unit {0}) Missing)
    (vs : List Verdict) (e : Evidence) → (let x : Result Evidence Missing =
    found >>= λ ws. judged >>= λ has. Ok (record { line = line; writes = ws; points = vs }) in x) ≡ Ok e →
    (found ≡ Ok e.writes) × (judged ≡ Ok tt) × (record { line = line; writes = e.writes; points = vs } ≡ e)
evidence_of line found judged vs e h = grind arith

-- a certified run has its certificate
pub certificate_is : (r : Run) → IsValidRun r → (e : Evidence) → certification_of r ≡ Ok e →
    IsCertificate (write_line r) r (certificate_of r e)
certificate_is r fits e h =
    let x = evidence_of (write_line r) (writes r (write_line r) (length r.items)) (points (audit r)) (audit r) e h in
    subst (λ y. IsCertificate (write_line r) r (certificate_of r y)) x.2
    (evidence_is r (write_line r) fits e.writes tt x.0 x.1)
