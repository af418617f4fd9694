-- `Progress` of a process, as a certification keeps it: which call was its last one, and whether it has executed the
-- line of writes since.
use Rattle.std.specs.Prelude.{◌≡◌, ℕ, zero, suc, ◌<◌, ◌≤◌, Bool, true, false, ◌&&◌, ◌||◌, length, None, nat_eq}
use Rattle.std.specs.Prelude.{if◌then◌else◌, refl}
use Rattle.std.proofs.Common.{sym, ◌∙◌, ap, subst, arith, inl, inr}
use Rattle.std.proofs.lemmas.Bool.{or_cases, or_left, or_right}
use Rattle.std.proofs.lemmas.Bool.Decides.{nat_tests}
use Rattle.std.proofs.Math.Nat.{eq-or-lt_of_le}
use Rattle.snap_words.specs.Shape.{IsOneOf}
use Rattle.snap_semantics.specs.State.{process_at}
use Rattle.snap_semantics.specs.Table.{who}
use Rattle.snap_semantics.specs.declared.process.Item.{Item}
use Rattle.snap_semantics.specs.declared.process.Op.{Op}
use Rattle.snap_semantics.specs.declared.process.Op.TheVariants.{Update}
use Rattle.snap_semantics.specs.declared.process.Outcome.{Outcome}
use Rattle.snap_semantics.specs.declared.process.Outcome.TheVariants as outcome
use Rattle.snap_semantics.specs.declared.process.Status.{Status}
use Rattle.snap_semantics.specs.declared.process.Status.TheVariants.{Idle}
use Rattle.snap_runs.specs.Run.{Run, IsValidRun, before, item, outcome as outcome_at}
use Rattle.snap_runs.specs.Scan.{steps}
use Rattle.snap_runs.specs.Update.{is_at, goes_on, executes, PendingUpdate}
use Rattle.snap_runs.proofs.Calls.{Calls, EndsAt, Occupied, occupied, turn}
use Rattle.snap_runs.proofs.Operations.{ends_done, executes_who}
use Rattle.snap_runs.proofs.Transitions.{Transition, calls}
use Rattle.snap_certify.specs.Certification.{at_line, executed, progress, progress_after, seen_item, stepping}
use Rattle.snap_certify.specs.declared.found.Progress.{Progress}
use Rattle.snap_certify.specs.declared.found.SeenItem.{SeenItem}

-- a step that executes a line, where it goes on or traps
seen_executes : (line : ℕ) (x : Item) (s : Status) (on : Bool) →
    (steps (who x) x && (is_at line s && on)) ≡ at_line line (if on then stepping x s else None)
seen_executes line x s on = grind (arith, nat_tests)

-- a call finds its process idle
call_finds : {s s' : Status} {x : Item} {out : Outcome} → Transition s x out s' → out ≡ outcome.Called → s ≡ Idle
call_finds (calls k p line) out = refl
call_finds other out = absurd cc

-- what an item of process k leaves of the progress of process i: where it is a call of that process, another item of
-- it, which executes the line or does not, or none
next_by : (P : Progress → Type 0) (line t i k : ℕ) (x : SeenItem) (p : Progress) (ran : Bool) →
    (k ≡ i → ran ≡ at_line line (executed x)) →
    (k ≡ i → x.outcome ≡ outcome.Called → P (record { call = suc t; wrote = false })) →
    (k ≡ i → (x.outcome ≡ outcome.Called → ⊥) → P (record { call = p.call; wrote = p.wrote || ran })) →
    ((k ≡ i → ⊥) → P p) → P (if nat_eq k i then progress_after line (suc t) x p else p)
next_by P line t i k x p ran is call own other = grind (arith, nat_tests)

module _ (r : Run) (line : ℕ) where
  -- an item executes the line where it is seen to
  pub executes_seen : (t : ℕ) → executes r (who (item r t)) line t ≡ at_line line (executed (seen_item r t))
  executes_seen t =
      seen_executes line (item r t) (process_at (before r t) (who (item r t))).status (goes_on (outcome_at r t))

  -- where a process executes it, it is seen to
  pub seen_at_line : (i t : ℕ) → executes r i line t ≡ true → at_line line (executed (seen_item r t)) ≡ true
  seen_at_line i t ex =
      sym (executes_seen t) ∙ subst (λ k. executes r k line t ≡ true) (executes_who r i line t ex) ex

  -- what the next item leaves of a process's progress
  next_progress : (P : Progress → Type 0) (i t : ℕ) →
      (who (item r (suc t)) ≡ i → outcome_at r (suc t) ≡ outcome.Called → P (record { call = suc t; wrote = false })) →
      (who (item r (suc t)) ≡ i → (outcome_at r (suc t) ≡ outcome.Called → ⊥) → P (record {
        call = (progress r line i t).call;
        wrote = (progress r line i t).wrote || executes r i line (suc t);
      })) →
      ((who (item r (suc t)) ≡ i → ⊥) → P (progress r line i t)) → P (progress r line i (suc t))
  next_progress P i t =
      next_by P line t i (who (item r (suc t))) (seen_item r (suc t)) (progress r line i t) (executes r i line (suc t))
      (λ his. subst (λ k. executes r k line (suc t) ≡ at_line line (executed (seen_item r (suc t)))) his
      (executes_seen (suc t)))

  -- the last call is not after the item
  pub call_past : (i t : ℕ) → (progress r line i t).call ≤ t
  call_past i zero = omega arith
  call_past i (suc t) =
      let past = call_past i t in
      next_progress (λ p. p.call ≤ suc t) i t (λ his is. omega arith) (λ his not. omega arith) (λ other. omega arith)

  -- the item at which a process has executed the line since its last call
  abbrev pub Wrote : ℕ → ℕ → ℕ → Type 0
  Wrote i c t = (u : ℕ) × (c < u) × (u ≤ t) × (executes r i line u ≡ true)

  wrote_longer : (i c t : ℕ) → Wrote i c t → Wrote i c (suc t)
  wrote_longer i c t h = (h.0, h.1, omega arith, h.3)

  -- who has executed the line since his last call did so at an item
  pub wrote_at : (i t : ℕ) → (progress r line i t).wrote ≡ true → Wrote i (progress r line i t).call t
  wrote_at i zero = λ h. absurd cc
  wrote_at i (suc t) =
      let p = progress r line i t in
      let past = call_past i t in
      next_progress (λ p. p.wrote ≡ true → Wrote i p.call (suc t)) i t (λ his is h. absurd cc)
      (λ his not h. elim (or_cases p.wrote (executes r i line (suc t)) h) [
        | inl wrote ↦ wrote_longer i p.call t (wrote_at i t wrote)
        | inr now ↦ (suc t, omega arith, omega arith, now)
      ])
      (λ other h. wrote_longer i p.call t (wrote_at i t h))

  -- a process that executes the line at an item since its call has written
  pub has_written : (i t u : ℕ) → (progress r line i t).call < u → u ≤ t → executes r i line u ≡ true →
      (progress r line i t).wrote ≡ true
  has_written i zero u = λ lt le ex. absurd (omega arith)
  has_written i (suc t) u =
      next_progress (λ p. p.call < u → u ≤ suc t → executes r i line u ≡ true → p.wrote ≡ true) i t
      (λ his is lt le ex. absurd (omega arith))
      (λ his not lt le ex. elim (eq-or-lt_of_le le) [
        | inl same ↦
            or_right (progress r line i t).wrote (executes r i line (suc t)) (rw same at ex)
        | inr less ↦
            or_left (progress r line i t).wrote (executes r i line (suc t)) (has_written i t u lt (omega arith) ex)
      ])
      (λ other lt le ex. elim (eq-or-lt_of_le le) [
        | inl same ↦ absurd (other (sym (executes_who r i line (suc t) (rw same at ex))))
        | inr less ↦ has_written i t u lt (omega arith) ex
      ])

  -- while an operation goes on, its call is the last one
  pub call_is : (fits : IsValidRun r) (i : ℕ) (o : Op) (c t : ℕ) → IsOneOf r.shape.n i →
      0 < c → c ≤ t → t ≤ length r.items → Calls r fits i o c →
      ((u : ℕ) → c < u → u ≤ t → EndsAt r fits i o u → ⊥) → (progress r line i t).call ≡ c
  call_is fits i o c zero one pos le short call still = absurd (omega arith)
  call_is fits i o c (suc t) one pos le short call still = elim (eq-or-lt_of_le le) [
    | inl same ↦
        next_progress (λ p. p.call ≡ c) i t (λ his is. sym same)
        (λ his not. absurd (not (rw same at call.1)))
        (λ other. absurd (other (ap who (rw same at call.0))))
    | inr less ↦
        let open_still : (u : ℕ) → c < u → u ≤ t → EndsAt r fits i o u → ⊥ =
        λ u lt most. still u lt (omega arith) in
        let past = call_is fits i o c t one pos (omega arith) (omega arith) call open_still in
        next_progress (λ p. p.call ≡ c) i t
        (λ his is.
        let busy = occupied r fits i o c t one pos (omega arith) (omega arith) call open_still in
        absurd (subst (Occupied o) (call_finds (turn r fits t i (omega arith) one his) is) busy))
        (λ his not. past) (λ other. past)
  ]

  -- while an update is pending, its call is
  pub update_call_is : (fits : IsValidRun r) (i word value c t : ℕ) → PendingUpdate r i word value c (suc t) → c ≤ t →
      (progress r line i t).call ≡ c
  update_call_is fits i word value c t up le =
      call_is fits i (Update word value) c t up.process up.first le (omega arith) (up.call, up.called)
      (λ v less most ends.
      up.goes_on v less (omega arith) (ends.0, ends_done word value (outcome_at r v) ends.1))
