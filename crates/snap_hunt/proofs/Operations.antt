-- `StepsAreOfOperations`: a failure of too many steps is that of an operation of the run, and where an operation
-- takes too many, one is found.
use Rattle.std.proofs.Common.{◌≡◌, ◌⊎◌, inl, inr, ℕ, zero, suc, ◌<◌, ◌≤◌, Bool, true, false, ◌&&◌, length}
use Rattle.std.proofs.Common.{Option, Some, None, nat_lt, refl, sym, ap, subst, ◌∙◌, arith}
use Rattle.std.proofs.Math.Nat.{eq-or-lt_of_le}
use Rattle.std.proofs.lemmas.Grind.{common_steps}
use Rattle.snap_words.specs.Shape.{IsOneOf}
use Rattle.snap_semantics.specs.declared.process.Item.{Item}
use Rattle.snap_semantics.specs.declared.process.Item.TheVariants.{Step, Call, Crash}
use Rattle.snap_semantics.specs.declared.process.Op.{Op}
use Rattle.snap_semantics.specs.declared.process.Op.TheVariants as op
use Rattle.snap_semantics.specs.declared.process.Outcome.{Outcome}
use Rattle.snap_semantics.specs.declared.process.Status.{Status}
use Rattle.snap_semantics.specs.Rules.{or_else}
use Rattle.snap_semantics.specs.Table.{who}
use Rattle.snap_runs.specs.Audit.{is_called, last_call}
use Rattle.snap_runs.specs.Run.{IsValidRun, Run, item, outcome}
use Rattle.snap_runs.specs.Scan.{PendingScan, count, is_not_skipped, own_steps, steps, takes_step}
use Rattle.snap_runs.specs.Update.{PendingUpdate}
use Rattle.snap_runs.proofs.Audits.{last_call_under}
use Rattle.snap_runs.proofs.Calls.{Calls, EndsAt, UnderAt, UnderCall, item_one, one_call, turn, under}
use Rattle.snap_runs.proofs.Computing.{both, lt_from, same_number}
use Rattle.snap_runs.proofs.Executing.{step_of}
use Rattle.snap_runs.proofs.Operations.{ends_answer, ends_done, ends_end}
use Rattle.snap_runs.proofs.Transitions.{Transition, goes, answers, finishes, traps}
use Rattle.snap_hunt.specs.Firsts.{asks_update, first_found}
use Rattle.snap_hunt.specs.declared.failures.Failure.{Failure}
use Rattle.snap_hunt.specs.declared.failures.Failure.TheVariants as failure
use Rattle.snap_hunt.specs.declared.failures.OwnSteps.{OwnSteps}
use Rattle.snap_hunt.specs.Failing.{many_steps, overrun, overrun_at, steps_since_call}
use Rattle.snap_hunt.specs.Operations.{IsOfOperation, IsUnderWay, StepsAreOfOperations, TakesMore}

pub one_of : (a b : Option Failure) (f : Failure) → or_else a b ≡ Some f → (a ≡ Some f) ⊎ (b ≡ Some f)
one_of None b f e = inr e
one_of (Some g) b f e = inl e

-- what comes first of many, and that nothing does
pub found_at : (find : ℕ → Option Failure) (n : ℕ) (f : Failure) → first_found find n ≡ Some f →
    (t : ℕ) × (t < n) × (find (suc t) ≡ Some f)
found_at find zero f e = absurd cc
found_at find (suc n) f e = elim (one_of (first_found find n) (find (suc n)) f e) [
  | inl sooner ↦ let found = found_at find n f sooner in (found.0, omega arith, found.2)
  | inr last ↦ (n, omega arith, last)
]

none_at : (find : ℕ → Option Failure) (n t : ℕ) → first_found find n ≡ None → t < n → find (suc t) ≡ None
none_at find zero t e lt = absurd (omega arith)
none_at find (suc n) t e lt = grind (arith, none_at find n t)

-- where no more than so many are counted up to each item that passes, no more are counted
count_most : (test : ℕ → Bool) (c e k : ℕ) →
    ((u : ℕ) → u < e → c < suc u → test (suc u) ≡ true → count test c (suc u) ≤ k) → count test c e ≤ k
count_most test c zero k few = omega arith
count_most test c (suc e) k few =
    grind (arith, few e, count_most test c e k (λ u lt. few u (omega arith)), common_steps)

pub overrun_some : (most i t : ℕ) (b : Bool) (own : OwnSteps) (f : Failure) → overrun most i t b own ≡ Some f →
    (b ≡ true) × (most < own.count) × (f ≡ failure.ManySteps i t own)
overrun_some most i t b own f e = grind (arith, common_steps)

overrun_none : (most i t : ℕ) (b : Bool) (own : OwnSteps) → overrun most i t b own ≡ None → b ≡ true →
    own.count ≤ most
overrun_none most i t b own none so = grind (arith, common_steps)

module _ (r : Run) (valid : IsValidRun r) where
  -- The operation in which a process takes a step, which is no call.
  stepping : {s s' : Status} {x : Item} {out : Outcome} (i t : ℕ) → Transition s x out s' → x ≡ Step i →
      is_not_skipped out ≡ true → UnderAt r valid i t s →
      (is_called out ≡ false) × (o : Op) × UnderCall r valid i o t
  stepping i t (goes k a line link) is taken u = (refl, a.op, u)
  stepping i t (answers k a view e) is taken u = (refl, a.op, u)
  stepping i t (finishes k a word value e) is taken u = (refl, a.op, u)
  stepping i t (traps k a cause) is taken u = (refl, a.op, u)
  stepping i t _ is taken u = absurd cc

  -- A step is one of the operation that was called last.
  stepped : (i t : ℕ) → IsOneOf r.shape.n i → t < length r.items → takes_step r i (suc t) ≡ true →
      (o : Op) × (u : UnderCall r valid i o t) × (last_call r i (suc t) ≡ u.call)
  stepped i t one lt takes =
      let parts = both (steps i (item r (suc t))) (is_not_skipped (outcome r (suc t))) takes in
      let is = step_of i (item r (suc t)) parts.0 in
      let found =
      stepping i t (turn r valid t i lt one (ap who is)) is parts.1 (under r valid t i (omega arith) one) in
      (found.1, found.2, cc (same_number i, last_call_under r valid i found.1 t one (omega arith) found.2))

  -- an operation under a call is under way
  under_way : (i t : ℕ) (o : Op) → IsOneOf r.shape.n i → t < length r.items → (u : UnderCall r valid i o t) →
      IsUnderWay r i u.call (suc t) (asks_update (item r u.call))
  under_way i t op.Scan one lt u = rw u.is.0 (record {
    process = one;
    starts = u.is;
    first = u.first;
    order = omega arith;
    last = omega arith;
    goes_on = λ y v later sooner ends. u.open_still y later (omega arith) ends.0 (rw ends.1 tt);
  })
  under_way i t (op.Update word value) one lt u = rw u.is.0 (
    word,
    value,
    record {
      process = one;
      call = u.is.0;
      called = u.is.1;
      first = u.first;
      order = omega arith;
      last = omega arith;
      goes_on = λ y later sooner ends. u.open_still y later (omega arith) ends.0 (rw ends.1 tt);
    },
  )

  -- what is said of an item is of an operation
  over_at : (most t : ℕ) (f : Failure) → t < length r.items → overrun_at r most (suc t) ≡ Some f →
      IsOfOperation r most f
  over_at most t f lt e =
      let i = who (item r (suc t)) in
      let own = steps_since_call r i (suc t) in
      let found = overrun_some most i (suc t) (takes_step r i (suc t)) own f e in
      let one = item_one r valid t lt in
      let s = stepped i t one lt found.0 in
      record {
        process = i;
        item = suc t;
        own = own;
        is = found.2;
        takes = record { under_way = rw s.2 (under_way i t s.0 one lt s.1); more = found.1 };
        counts = refl;
        step = found.0;
      }

  -- an operation that takes more is found
  found_more : (most i c t : ℕ) (o : Op) → IsOneOf r.shape.n i → 0 < c →
      c ≤ t → t ≤ length r.items → Calls r valid i o c →
      ((u : ℕ) → c < u → u < t → EndsAt r valid i o u → ⊥) → many_steps most r ≡ None → own_steps r i c t ≤ most
  found_more most i c t o one pos le few call still none = count_most (takes_step r i) c t most (λ u lt after takes.
      let s = stepped i u one (omega arith) takes in
      let same : last_call r i (suc u) ≡ c =
      s.2 ∙ sym (one_call r valid i o s.0 c s.1.call (suc u) one pos s.1.first after (omega (arith, s.1.order))
      (omega arith) call s.1.is (λ v later sooner ends. still v later (omega arith) ends)
      (λ v later sooner ends. s.1.open_still v later (omega arith) ends.0 (ends_end s.0 (outcome r v) ends.1))) in
      let is = step_of i (item r (suc u)) (both (steps i (item r (suc u))) (is_not_skipped (outcome r (suc u))) takes).0 in
      subst (λ k. own_steps r i k (suc u) ≤ most) same (overrun_none most i (suc u) (takes_step r i (suc u)) (steps_since_call r i (suc u))
      (subst (λ k. overrun most k (suc u) (takes_step r k (suc u)) (steps_since_call r k (suc u)) ≡ None) (ap who is)
      (none_at (overrun_at r most) (length r.items) u none (omega arith))) takes))

  finds_more : (most i c t : ℕ) (update : Bool) → TakesMore r most i c t update → many_steps most r ≡ None → ⊥
  finds_more most i c t false h none =
      let p = h.under_way in
      let few : own_steps r i c t ≤ most =
      found_more most i c t op.Scan p.process p.first p.order p.last p.starts
      (λ u after until ends. let e = ends_answer (outcome r u) ends.1 in p.goes_on u e.0 after until (ends.0, e.1))
      none in
      omega (arith, h.more)
  finds_more most i c t true h none =
      let word = h.under_way.0 in
      let value = h.under_way.1 in
      let p = h.under_way.2 in
      let few : own_steps r i c t ≤ most =
      found_more most i c t (op.Update word value) p.process p.first p.order p.last (p.call, p.called)
      (λ u after until ends. p.goes_on u after until (ends.0, ends_done word value (outcome r u) ends.1)) none in
      omega (arith, h.more)

pub steps_are_of_operations : StepsAreOfOperations
steps_are_of_operations r most valid = (
  λ f e. let found = found_at (overrun_at r most) (length r.items) f e in
      over_at r valid most found.0 f found.1 found.2,
  finds_more r valid most,
)
