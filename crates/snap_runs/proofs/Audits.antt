-- Each verdict of an audit is of a finished scan; so it has a point where each finished scan has one.
use Rattle.std.proofs.Common.{◌≡◌, inl, inr, ℕ, zero, suc, ◌+◌, ◌-◌, ◌<◌, ◌≤◌, Bool, true, false, ◌&&◌, List, [], ◌∷◌}
use Rattle.std.proofs.Common.{◌++◌, length, Option, Some, None, nat_eq, if◌then◌else◌, refl, sym, ap, subst, ◌∙◌, arith}
use Rattle.std.specs.Prelude.{IsSome, bytes_eq}
use Rattle.std.proofs.Math.Nat.{eq-or-lt_of_le}
use Rattle.std.proofs.lemmas.Bool.{eqb-true, cases_eq}
use Rattle.std.specs.List.{AllByRecursion}
use Rattle.snap_runs.proofs.Common.{IsOneOf, values, who, Item, Call, Op, Outcome, Run, IsValidRun, state, item}
use Rattle.snap_semantics.specs.declared.process.Op.TheVariants as op
use Rattle.snap_semantics.specs.declared.process.Outcome.TheVariants as outcome
use Rattle.snap_semantics.specs.declared.process.Status.{Status}
use Rattle.snap_runs.proofs.Calls.{Occupied, UnderCall, turn, Calls, EndsAt, occupied, answer_ends}
use Rattle.snap_runs.proofs.Computing.{both, same_number, other_number}
use Rattle.snap_runs.proofs.Operations.{ends_answer, ends_end}
use Rattle.snap_runs.proofs.Transitions.{Transition, calls}
use Rattle.snap_runs.specs.Run.{outcome as outcome_at}
use Rattle.snap_runs.specs.Promises.{HavePoints}
use Rattle.snap_runs.specs.Audit.{is_called, last_call, least_point, verdict_of, verdict_at, verdicts, audit}
use Rattle.snap_runs.specs.Audit.{HasFoundPoint, IsLeastPoint, IsOfScan, VerdictsHavePoints}
use Rattle.snap_runs.specs.declared.verdict.Verdict.{Verdict}

and_false : (b : Bool) (x y : ℕ) → (if b && false then x else y) ≡ y
and_false true x y = refl
and_false false x y = refl

-- an occupied process is not called
uncalled : {s s' : Status} {x : Item} {out : Outcome} (o : Op) → Transition s x out s' → Occupied o s →
    is_called out ≡ false
uncalled o (calls i p line) h = absurd h
uncalled o other h = refl

-- numbers that are found to be equal
equal_numbers : (xs ys : List ℕ) → bytes_eq xs ys ≡ true → xs ≡ ys
equal_numbers [] [] h = refl
equal_numbers (x ∷ xs) (y ∷ ys) h =
    let parts = both (nat_eq x y) (bytes_eq xs ys) h in
    ap (λ z. z ∷ xs) (eqb-true x y parts.0) ∙ ap (λ zs. y ∷ zs) (equal_numbers xs ys parts.1)
equal_numbers _ _ h = absurd cc

-- numbers are equal to themselves
bytes_eq-refl : (xs : List ℕ) → bytes_eq xs xs ≡ true
bytes_eq-refl [] = refl
bytes_eq-refl (x ∷ xs) = ap (λ b. b && bytes_eq xs xs) (same_number x) ∙ bytes_eq-refl xs

-- what is right of the least of so many items
IsLeastOf : Run → List ℕ → ℕ → ℕ → Option ℕ → Type 0
IsLeastOf r view t more None = (u : ℕ) → t ≤ u → u < t + more → values (state r u) ≡ view → ⊥
IsLeastOf r view t more (Some p) =
    (t ≤ p) × (p < t + more) × (values (state r p) ≡ view) × ((u : ℕ) → t ≤ u → u < p → values (state r u) ≡ view → ⊥)

-- an item more before them, after which the values are not the view
one_before : (r : Run) (view : List ℕ) (t more : ℕ) (o : Option ℕ) → (values (state r t) ≡ view → ⊥) →
    IsLeastOf r view (suc t) more o → IsLeastOf r view t (suc more) o
unfolding IsLeastOf
one_before r view t more None other h = λ u low high e. elim (eq-or-lt_of_le low) [
  | inl same ↦ other (subst (λ k. values (state r k) ≡ view) (sym same) e)
  | inr less ↦ h u less (omega (arith, high)) e
]
one_before r view t more (Some p) other h = (
  omega (arith, h.0),
  omega (arith, h.1),
  h.2,
  λ u low high e. elim (eq-or-lt_of_le low) [
    | inl same ↦ other (subst (λ k. values (state r k) ≡ view) (sym same) e)
    | inr less ↦ h.3 u less high e
  ],
)

-- the least point is the least
least_of : (r : Run) (view : List ℕ) (t more : ℕ) → IsLeastOf r view t more (least_point r view t more)
unfolding IsLeastOf
least_of r view t zero = λ u low high e. absurd (omega (arith, low, high))
least_of r view t (suc more) = by_here (bytes_eq (values (state r t)) view) refl (least_of r view (suc t) more)
  where
    by_here : (b : Bool) → bytes_eq (values (state r t)) view ≡ b →
        IsLeastOf r view (suc t) more (least_point r view (suc t) more) →
        IsLeastOf r view t (suc more) (if b then Some t else least_point r view (suc t) more)
    by_here true e rest = (
      omega arith,
      omega arith,
      equal_numbers (values (state r t)) view e,
      λ u low high is. absurd (omega (arith, low, high)),
    )
    by_here false e rest =
        one_before r view t more (least_point r view (suc t) more)
        (λ same. let found : true ≡ false = sym (ap (λ vs. bytes_eq vs view) same ∙ bytes_eq-refl view) ∙ e in cc) rest

-- a least point that is searched for in a scan is the least point of the scan
least_of_scan : (r : Run) (view : List ℕ) (c e : ℕ) (o : Option ℕ) → c ≤ e →
    IsLeastOf r view c (suc (e - c)) o → IsLeastPoint r c e view o
unfolding IsLeastOf
least_of_scan r view c e None order h = λ point.
    h point.0 point.1 (omega (arith, point.1, point.2)) point.3
least_of_scan r view c e (Some p) order h =
    (h.0, omega (arith, h.1, order), h.2, h.3)

module _ (r : Run) (fits : IsValidRun r) where
  -- the last call of a process is the one whose operation has not ended
  last_call_is : (i : ℕ) (o : Op) (c t : ℕ) → IsOneOf r.shape.n i → 0 < c → c ≤ t → t ≤ length r.items →
      Calls r fits i o c → ((u : ℕ) → c < u → u ≤ t → EndsAt r fits i o u → ⊥) → last_call r i t ≡ c
  last_call_is i o c zero one pos le short call still = absurd (omega arith)
  last_call_is i o c (suc t) one pos le short call still =
      let last = last_call r i t in
      elim (eq-or-lt_of_le le) [
        | inl same ↦
            ap (λ (x : Item). if nat_eq (who x) i && is_called (outcome_at r (suc t)) then suc t else last)
            (subst (λ y. item r y ≡ Call i o) same call.0)
            ∙ ap (λ (y : Outcome). if nat_eq i i && is_called y then suc t else last)
            (subst (λ y. outcome_at r y ≡ outcome.Called) same call.1)
            ∙ ap (λ b. if b && true then suc t else last) (same_number i) ∙ sym same
        | inr more ↦ (let before : last ≡ c =
            last_call_is i o c t one pos (omega arith) (omega arith) call (λ u lt le2. still u lt (omega arith)) in
            elim (cases_eq (who (item r (suc t))) i) [
              | inl his ↦
                  ap (λ b. if nat_eq (who (item r (suc t))) i && b then suc t else last)
                  (uncalled o (turn r fits t i (omega arith) one his)
                  (occupied r fits i o c t one pos (omega arith) (omega arith) call
                  (λ u lt le2. still u lt (omega arith))))
                  ∙ and_false (nat_eq (who (item r (suc t))) i) (suc t) last ∙ before
              | inr other ↦
                  ap (λ b. if b && is_called (outcome_at r (suc t)) then suc t else last)
                  (other_number (who (item r (suc t))) i other) ∙ before
            ])
      ]

  pub last_call_under : (i : ℕ) (o : Op) (t : ℕ) → IsOneOf r.shape.n i → t ≤ length r.items →
      (u : UnderCall r fits i o t) → last_call r i t ≡ u.call
  last_call_under i o t one short u =
      last_call_is i o u.call t one u.first u.order short u.is
      (λ v after until ends. u.open_still v after until ends.0 (ends_end o (outcome_at r v) ends.1))

  -- the verdict of an answered scan
  one_verdict : (t : ℕ) (o : Outcome) → t < length r.items → outcome_at r (suc t) ≡ o →
      AllByRecursion (IsOfScan r) (verdict_at r (suc t) o)
  one_verdict t (outcome.Answered view) lt is =
      let i = who (item r (suc t)) in
      let found = answer_ends r fits t view lt is in
      let c = found.0 in
      let scan = found.1.scan in
      let before : last_call r i (suc t) ≡ c =
      ap (λ (y : Outcome). if nat_eq i i && is_called y then suc t else last_call r i t) is
      ∙ and_false (nat_eq i i) (suc t) (last_call r i t)
      ∙ last_call_is i op.Scan c t scan.process scan.first (omega arith) (omega arith) scan.starts
      (λ u after until ends. let a = ends_answer (outcome_at r u) ends.1 in
      scan.goes_on u a.0 after (omega arith) (ends.0, a.1)) in
      let verdict : IsOfScan r (verdict_of r i c (suc t) view) = record {
        view = view;
        finished = found.1;
        point_is = refl;
        point_is_least =
            least_of_scan r view c (suc t) (least_point r view c (suc (suc t - c))) (omega (arith, found.1.order))
            (least_of r view c (suc (suc t - c)));
        collects_are = refl;
      } in
      (subst (λ k. IsOfScan r (verdict_of r i k (suc t) view)) (sym before) verdict, tt)
  one_verdict t _ lt is = tt

  -- of two lists
  join_all : (xs ys : List Verdict) → AllByRecursion (IsOfScan r) xs → AllByRecursion (IsOfScan r) ys →
      AllByRecursion (IsOfScan r) (xs ++ ys)
  join_all [] ys a b = b
  join_all (x ∷ xs) ys a b = (a.0, join_all xs ys a.1 b)

  -- of the first items
  all_verdicts : (t : ℕ) → t ≤ length r.items → AllByRecursion (IsOfScan r) (verdicts r t)
  all_verdicts zero le = tt
  all_verdicts (suc t) le =
      join_all (verdicts r t) _ (all_verdicts t (omega arith)) (one_verdict t (outcome_at r (suc t)) (omega arith) refl)

  -- each verdict is of a finished scan
  pub of_scans : AllByRecursion (IsOfScan r) (audit r)
  of_scans = all_verdicts (length r.items) (omega arith)

-- a point that is there is found
found_by : (r : Run) (view : List ℕ) (t u more : ℕ) → t ≤ u → u < t + more → values (state r u) ≡ view →
    IsSome (least_point r view t more)
found_by r view t u zero low high h = absurd (omega (arith, low, high))
found_by r view t u (suc more) low high h = elim (eq-or-lt_of_le low) [
  | inl same ↦
      let hit : bytes_eq (values (state r t)) view ≡ true =
      ap (λ k. bytes_eq (values (state r k)) view) same ∙ ap (λ xs. bytes_eq xs view) h ∙ bytes_eq-refl view in
      subst (λ b. IsSome (if b then Some t else least_point r view (suc t) more)) (sym hit) refl
  | inr less ↦
      found_later (bytes_eq (values (state r t)) view) (found_by r view (suc t) u more less (omega (arith, high)) h)
]
  where
    found_later : (b : Bool) → IsSome (least_point r view (suc t) more) →
        IsSome (if b then Some t else least_point r view (suc t) more)
    found_later true h = refl
    found_later false h = h

-- the point of a finished scan is found
point_found : (r : Run) (v : Verdict) → HavePoints r → IsValidRun r → IsOfScan r v → HasFoundPoint v
point_found r v points fits h =
    let p = points fits v.process None v.call v.answer h.view h.finished in
    subst (λ (o : Option ℕ). IsSome o) (sym h.point_is)
    (found_by r h.view v.call p.0 (suc (v.answer - v.call)) p.1 (omega (arith, p.1, p.2)) p.3)

-- of each verdict
all_found : (r : Run) (vs : List Verdict) → HavePoints r → IsValidRun r → AllByRecursion (IsOfScan r) vs →
    AllByRecursion HasFoundPoint vs
all_found r [] points fits h = tt
all_found r (v ∷ vs) points fits h = (point_found r v points fits h.0, all_found r vs points fits h.1)

-- where each finished scan has a point, each verdict has one
pub verdicts_have_points : (r : Run) → HavePoints r → VerdictsHavePoints r
verdicts_have_points r points fits = all_found r (audit r) points fits (of_scans r fits)
