-- The operations of a run in which one line writes: what each item that writes and each item that answers belongs to.
use Rattle.std.proofs.Common.{◌≡◌, ℕ, zero, suc, ◌-◌, ◌<◌, ◌≤◌, ◌⊎◌, Bool, true, false, ◌&&◌, List, length, Option}
use Rattle.std.proofs.Common.{Some, None, nat_lt, if◌then◌else◌, slice_set, refl, sym, ◌∙◌, ap, subst, arith, inl, inr}
use Rattle.std.proofs.lemmas.Bool.{cases_eq, cases_lt}
use Rattle.std.proofs.Math.Nat.{eq-or-lt_of_le}
use Rattle.snap_runs.proofs.Common.{IsOneOf, Call, Op, Outcome, process_at, values, who, Run}
use Rattle.snap_runs.proofs.Common.{IsValidRun, state, before, item}
use Rattle.snap_semantics.specs.declared.process.Op.TheVariants as op
use Rattle.snap_semantics.specs.declared.process.Outcome.TheVariants as outcome
use Rattle.snap_runs.specs.Run.{outcome as outcome_at}
use Rattle.snap_runs.specs.Scan.{FinishedScan, steps, count}
use Rattle.snap_runs.specs.Update.{is_at, goes_on, executes, IsDone, PendingUpdate}
use Rattle.snap_runs.specs.LinearizationPoints.{HasLinearizationPoints}
use Rattle.snap_runs.specs.Operation.{Sets, TookPlace}
use Rattle.snap_runs.proofs.Computing.{lt_from, both, neither_less}
use Rattle.snap_runs.proofs.Counting.{count_next}
use Rattle.snap_runs.proofs.Executing.{step_of}
use Rattle.snap_runs.proofs.Calls.{EndsWith, IsEnd, Calls, item_one, one_call, answer_ends}

-- what passes a test is counted
counted : (b : Bool) (x : ℕ) → x ≤ (if b then suc x else x)
counted true x = omega arith
counted false x = omega arith

counted_one : (b : Bool) (x : ℕ) → b ≡ true → (if b then suc x else x) ≡ suc x
counted_one true x h = refl
counted_one false x h = absurd (cc)

-- an item that passes a test is counted, and two such items are both
pub count_one : (test : ℕ → Bool) (c t e : ℕ) → c < t → t ≤ e → test t ≡ true → 1 ≤ count test c e
count_one test c t zero lt le passes = absurd (omega arith)
count_one test c t (suc e) lt le passes =
    let next : count test c (suc e) ≡ (if test (suc e) then suc (count test c e) else count test c e) =
    count_next test c e (omega arith) in
    elim (eq-or-lt_of_le le) [
      | inl same ↦
          (let one = counted_one (test (suc e)) (count test c e) (subst (λ y. test y ≡ true) same passes) in
          omega arith)
      | inr less ↦ (let past = count_one test c t e lt (omega arith) passes in
          let more = counted (test (suc e)) (count test c e) in omega arith)
    ]

pub count_two : (test : ℕ → Bool) (c t e : ℕ) → c < t → t < e → test t ≡ true → test e ≡ true → 2 ≤ count test c e
count_two test c t zero lt le passes again = absurd (omega arith)
count_two test c t (suc e) lt le passes again =
    let past = count_one test c t e lt (omega arith) passes in
    let next : count test c (suc e) ≡ (if test (suc e) then suc (count test c e) else count test c e) =
    count_next test c e (omega arith) in
    let one = counted_one (test (suc e)) (count test c e) again in omega arith

-- where some are counted, there is one
abbrev pub Passing : (ℕ → Bool) → ℕ → ℕ → Type 0
Passing test c e = (t : ℕ) × (c < t) × (t ≤ e) × (test t ≡ true)

passing_next : (test : ℕ → Bool) (c e : ℕ) → Passing test c e → Passing test c (suc e)
passing_next test c e x = (x.0, x.1, omega arith, x.3)

passing_last : (test : ℕ → Bool) (c e n : ℕ) (later passes : Bool) → nat_lt c (suc e) ≡ later → test (suc e) ≡ passes →
    (1 ≤ n → Passing test c e) → 1 ≤ (if later && passes then suc n else n) → Passing test c (suc e)
passing_last test c e n true true is so past more = (suc e, lt_from c (suc e) is, omega arith, so)
passing_last test c e n _ _ is so past more = passing_next test c e (past more)

pub counted_item : (test : ℕ → Bool) (c e : ℕ) → 1 ≤ count test c e → Passing test c e
counted_item test c zero h = absurd (omega arith)
counted_item test c (suc e) h =
    passing_last test c e (count test c e) (nat_lt c (suc e)) (test (suc e)) refl refl
    (λ more. counted_item test c e more) h

-- whether an outcome is an answer, and whether it is the end of an update
abbrev pub Answering : Outcome → Type 0
Answering out = ((view : List ℕ) × (out ≡ outcome.Answered view)) ⊎ ((view : List ℕ) → out ≡ outcome.Answered view → ⊥)

answering : (out : Outcome) → Answering out
answering (outcome.Answered view) = inl (view, refl)
answering other = inr (λ view is. absurd (cc))

finishing : (out : Outcome) → (out ≡ outcome.Finished) ⊎ (out ≡ outcome.Finished → ⊥)
finishing outcome.Finished = inl refl
finishing other = inr (λ is. absurd (cc))

-- how an update ends, and how a scan does
pub ends_done : (word value : ℕ) (out : Outcome) → EndsWith (op.Update word value) out → out ≡ outcome.Finished
ends_done word value outcome.Finished h = refl
ends_done word value other h = absurd h

pub ends_answer : (out : Outcome) → EndsWith op.Scan out → (view : List ℕ) × (out ≡ outcome.Answered view)
ends_answer (outcome.Answered view) h = (view, refl)
ends_answer other h = absurd h

pub ends_end : (o : Op) (out : Outcome) → EndsWith o out → IsEnd out
ends_end op.Scan (outcome.Answered view) h = tt
ends_end (op.Update word value) outcome.Finished h = tt
ends_end o out h = absurd h

module _ (r : Run) where
  pub executes_who : (i line t : ℕ) → executes r i line t ≡ true → i ≡ who (item r t)
  executes_who i line t ex =
      sym (ap who (step_of i (item r t)
      (both (steps i (item r t)) (is_at line (process_at (before r t) i).status && goes_on (outcome_at r t)) ex).0))

  -- an operation ends once
  pub same_done : (i word value word' value' c e e' : ℕ) → PendingUpdate r i word value c e →
      PendingUpdate r i word' value' c e' → c < e → IsDone r i e → c < e' → IsDone r i e' → e ≡ e'
  same_done i word value word' value' c e e' up up' lt done lt' done' =
      neither_less e e' (λ less. up'.goes_on e lt less done) (λ more. up.goes_on e' lt' more done')

  pub same_answer : (i c e e' : ℕ) (view view' : List ℕ) → FinishedScan r i None c e view →
      FinishedScan r i None c e' view' → e ≡ e'
  same_answer i c e e' view view' f f' =
      neither_less e e' (λ less. f'.scan.goes_on e view f.order less f.ends)
      (λ more. f.scan.goes_on e' view' f'.order more f'.ends)

  done_or_not : (i t : ℕ) → IsDone r i t ⊎ (IsDone r i t → ⊥)
  done_or_not i t =
      elim (cases_eq (who (item r t)) i) [
        | inl his ↦ elim (finishing (outcome_at r t)) [
          | inl is ↦ inl (his, is)
          | inr not ↦ inr (λ done. not done.1)
        ]
        | inr other ↦ inr (λ done. other done.0)
      ]

  -- the first end of an update after item c and up to item e, where there is one
  pub record FirstEnd (i c e : ℕ) : Type 0 where
    pub item : ℕ
    pub after : c < item
    pub within : item ≤ e
    pub done : IsDone r i item
    pub first : (t : ℕ) → c < t → t < item → IsDone r i t → ⊥

  first_end : (i c e : ℕ) → FirstEnd i c e ⊎ ((t : ℕ) → c < t → t ≤ e → IsDone r i t → ⊥)
  first_end i c zero = inr (λ t lt le done. omega arith)
  first_end i c (suc e) =
      elim (first_end i c e) [
        | inl x ↦ inl (record {
          item = x.item;
          after = x.after;
          within = (let le : x.item ≤ e = x.within in omega arith);
          done = x.done;
          first = x.first;
        })
        | inr none ↦ elim (cases_lt c (suc e)) [
          | inl lt ↦ elim (done_or_not i (suc e)) [
            | inl done ↦ inl (record {
              item = suc e;
              after = lt;
              within = omega arith;
              done = done;
              first = λ t more less. none t more (omega arith);
            })
            | inr not ↦ inr (λ t more le done. elim (eq-or-lt_of_le le) [
              | inl same ↦ not (subst (IsDone r i) same done)
              | inr less ↦ none t more (omega arith) done
            ])
          ]
          | inr le ↦ inr (λ t more most done. omega arith)
        ]
      ]

  -- an update that is open before item t is open before another item up to which it is not done
  open_to : (i word value c t e : ℕ) → PendingUpdate r i word value c t → c ≤ e → e ≤ length r.items →
      ((u : ℕ) → c < u → u < e → IsDone r i u → ⊥) → PendingUpdate r i word value c e
  open_to i word value c t e up order last goes_on = record {
    process = up.process;
    call = up.call;
    called = up.called;
    first = up.first;
    order = order;
    last = last;
    goes_on = goes_on;
  }

  pub shorter : (i word value c t e : ℕ) → c ≤ t → t ≤ e → PendingUpdate r i word value c e →
      PendingUpdate r i word value c t
  shorter i word value c t e le more up =
      open_to i word value c e t up le (omega arith) (λ u lt less. up.goes_on u lt (omega arith))

  -- the operation of an update that is open before item t
  pub record UpdateOperation (i word value c t : ℕ) : Type 0 where
    pub end : Option ℕ
    pub took_place : TookPlace r i c end (Sets word value)
    pub open_still : (e : ℕ) → end ≡ Some e → t ≤ e

  pub update_operation : (i word value c t : ℕ) → c < t → PendingUpdate r i word value c t →
      UpdateOperation i word value c t
  update_operation i word value c t before up =
      elim (first_end i c (length r.items)) [
        | inl x ↦ record {
          end = Some x.item;
          took_place = (open_to i word value c t x.item up (omega arith) x.within x.first, x.after, x.done);
          open_still = λ e is. let same : x.item ≡ e = cc in
              elim (cases_lt x.item t) [
                | inl less ↦ absurd (up.goes_on x.item x.after less x.done)
                | inr more ↦ omega arith
              ];
        }
        | inr none ↦ record {
          end = None;
          took_place = (
            open_to i word value c t (length r.items) up (omega arith) (omega arith)
                (λ u lt less. none u lt (omega arith)),
            none (length r.items) (omega arith) (omega arith),
          );
          open_still = λ e is. absurd (cc);
        }
      ]

  -- the update of an operation was open before each item up to its end
  pub open_update : (i word value c t : ℕ) (end : Option ℕ) → TookPlace r i c end (Sets word value) → c ≤ t →
      t ≤ length r.items → ((e : ℕ) → end ≡ Some e → t ≤ e) → PendingUpdate r i word value c t
  open_update i word value c t (Some e) took le last open_still =
      shorter i word value c t e le (open_still e refl) took.0
  open_update i word value c t None took le last open_still = shorter i word value c t (length r.items) le last took.0

  -- an update that has not ended has no end
  still_open : (i word value c e : ℕ) → TookPlace r i c (Some e) (Sets word value) →
      TookPlace r i c None (Sets word value) → ⊥
  still_open i word value c e h h' =
      elim (eq-or-lt_of_le h.0.last) [
        | inl same ↦ h'.1 (subst (IsDone r i) same h.2)
        | inr less ↦ h'.0.goes_on e h.1 less h.2
      ]

  -- an update has ended at one item, or has not
  pub same_end : (i word value c : ℕ) (end end' : Option ℕ) → TookPlace r i c end (Sets word value) →
      TookPlace r i c end' (Sets word value) → end ≡ end'
  same_end i word value c (Some e) (Some e') h h' =
      let same : e ≡ e' = same_done i word value word value c e e' h.0 h'.0 h.1 h.2 h'.1 h'.2 in ap (λ y. Some y) same
  same_end i word value c (Some e) None h h' = absurd (still_open i word value c e h h')
  same_end i word value c None (Some e) h h' = absurd (still_open i word value c e h' h)
  same_end i word value c None None h h' = refl

  -- the scan of an answer, and the update of a write, are one
  module _ (fits : IsValidRun r) where
    pub same_scan : (i i' c c' e : ℕ) (view view' : List ℕ) → FinishedScan r i None c e view →
        FinishedScan r i' None c' e view' → (i ≡ i') × (c ≡ c') × (view ≡ view')
    same_scan i i' c c' e view view' f f' =
        let his : i ≡ i' = sym f.ends.0 ∙ f'.ends.0 in
        let starts : Calls r fits i op.Scan c' = subst (λ y. Calls r fits y op.Scan c') (sym his) f'.scan.starts in (
          his,
          one_call r fits i op.Scan op.Scan c c' e f.scan.process f.scan.first f'.scan.first f.order f'.order
              f.scan.last f.scan.starts starts
              (λ u lt less ends.
              let out = ends_answer (outcome_at r u) ends.1 in f.scan.goes_on u out.0 lt less (ends.0, out.1))
              (λ u lt less ends.
              let out = ends_answer (outcome_at r u) ends.1 in f'.scan.goes_on u out.0 lt less (ends.0 ∙ his, out.1)),
          (let e : ◌≡◌ {A = Outcome} (outcome.Answered view) (outcome.Answered view') = sym f.ends.1 ∙ f'.ends.1 in cc),
        )

    pub same_update : (i word value word' value' c c' t : ℕ) → c < t → c' < t → PendingUpdate r i word value c t →
        PendingUpdate r i word' value' c' t → (c ≡ c') × (word ≡ word') × (value ≡ value')
    same_update i word value word' value' c c' t lt lt' up up' =
        let same : c ≡ c' =
        one_call r fits i (op.Update word value) (op.Update word' value') c c' t up.process up.first up'.first lt lt'
        up.last (up.call, up.called) (up'.call, up'.called)
        (λ u more less ends. up.goes_on u more less (ends.0, ends_done word value (outcome_at r u) ends.1))
        (λ u more less ends. up'.goes_on u more less (ends.0, ends_done word' value' (outcome_at r u) ends.1)) in
        let call : Call i (op.Update word value) ≡ Call i (op.Update word' value') =
        sym up.call ∙ ap (item r) same ∙ up'.call in
        (same, cc, cc)

  module _ (line : ℕ) (fits : IsValidRun r) (points : HasLinearizationPoints line r) where
    -- an item that answers a scan, and the scan's point
    pub record AnswerAt (e : ℕ) : Type 0 where
      pub process : ℕ
      pub call : ℕ
      pub view : List ℕ
      pub finished : FinishedScan r process None call e view
      pub point : ℕ
      pub low : call ≤ point
      pub high : point ≤ e
      pub held : values (state r point) ≡ view

    abbrev pub NoAnswer : ℕ → Type 0
    NoAnswer e = (i c : ℕ) (view : List ℕ) → FinishedScan r i None c e view → ⊥

    pub answer_at : (e : ℕ) → AnswerAt e ⊎ NoAnswer e
    answer_at zero = inr (λ i c view f. let lt : c < 0 = f.order in omega arith)
    answer_at (suc t) =
        elim (cases_lt t (length r.items)) [
          | inl lt ↦ elim (answering (outcome_at r (suc t))) [
            | inl a ↦ (let scan = answer_ends r fits t a.0 lt a.1 in
                let i = who (item r (suc t)) in
                let p = points.answers_have_points fits i scan.0 (suc t) a.0 scan.1 in
                inl (record {
                  process = i;
                  call = scan.0;
                  view = a.0;
                  finished = scan.1;
                  point = p.0;
                  low = p.1;
                  high = p.2;
                  held = p.3;
                }))
            | inr not ↦ inr (λ i c view f. not view f.ends.1)
          ]
          | inr ge ↦ inr (λ i c view f. omega arith)
        ]

    -- an item that writes, and the update of which it is the write
    pub record WriteAt (t : ℕ) : Type 0 where
      pub process : ℕ
      pub word : ℕ
      pub value : ℕ
      pub call : ℕ
      pub updating : PendingUpdate r process word value call t
      pub before_it : call < t
      pub is_word : IsOneOf r.shape.w word
      pub executed : executes r process line t ≡ true
      pub written : values (state r t) ≡ slice_set (values (before r t)) (word - 1) value

    -- an item that does not write leaves the values
    pub record NoWrite (t : ℕ) : Type 0 where
      pub none : (i : ℕ) → executes r i line t ≡ true → ⊥
      pub kept : values (state r t) ≡ values (before r t)

    pub write_at : (t : ℕ) → t < length r.items → WriteAt (suc t) ⊎ NoWrite (suc t)
    write_at t h = by_test (executes r (who (item r (suc t))) line (suc t)) refl
      where
        i : ℕ
        i = who (item r (suc t))

        one : IsOneOf r.shape.n (who (item r (suc t)))
        one = item_one r fits t h

        by_test : (b : Bool) → executes r (who (item r (suc t))) line (suc t) ≡ b → WriteAt (suc t) ⊎ NoWrite (suc t)
        by_test true is =
            let w = points.writes_its_update fits (who (item r (suc t))) t one h is in
            inl (record {
              process = who (item r (suc t));
              word = w.0;
              value = w.1;
              call = w.2;
              updating = w.3;
              before_it = w.4;
              is_word = w.5;
              executed = is;
              written = w.6;
            })
        by_test false is =
            inr (record {
              none = λ k ex.
                  let ex2 : executes r (who (item r (suc t))) line (suc t) ≡ true =
                  subst (λ y. executes r y line (suc t) ≡ true) (executes_who k line (suc t) ex) ex in
                  absurd (cc);
              kept = elim (points.changes_only_at fits t h) [
                | inl same ↦ same
                | inr ex ↦ absurd (cc)
              ];
            })
