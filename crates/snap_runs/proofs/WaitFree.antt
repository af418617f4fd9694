-- Where no process traps, a call has as many turns as it takes steps, up to a crash, so that bounds on steps are
-- bounds on turns.
use Rattle.std.proofs.Common.{◌≡◌, ℕ, zero, suc, ◌<◌, ◌≤◌, Bool, true, false, ◌&&◌, ◌⊎◌, length, Option, None, nat_lt}
use Rattle.std.proofs.Common.{if◌then◌else◌, refl, sym, ◌∙◌, ap, subst, arith, inl, inr}
use Rattle.snap_runs.proofs.Common.{IsOneOf, Activity, Item, Step, Op, Outcome, process_at, who, Run}
use Rattle.snap_runs.proofs.Common.{IsValidRun, state, item, outcome}
use Rattle.snap_semantics.specs.declared.process.Op.TheVariants as op
use Rattle.snap_semantics.specs.declared.process.Outcome.TheVariants as outcomes
use Rattle.snap_semantics.specs.declared.process.Reason.TheVariants as reason
use Rattle.snap_semantics.specs.declared.process.Status.{Status}
use Rattle.snap_semantics.specs.declared.process.Status.TheVariants.{Idle, Busy, Trapped, Crashed}
use Rattle.snap_semantics.specs.Table.{step, done}
use Rattle.snap_runs.specs.Scan.{count, steps, is_not_skipped, takes_step, own_steps}
use Rattle.snap_runs.specs.Update.{PendingUpdate}
use Rattle.snap_runs.specs.Promises.{HasTrapped, NeverTraps, StepsAtMost}
use Rattle.snap_runs.specs.WaitFree.{is_alive, turns, IsWaitFree}
use Rattle.snap_runs.proofs.Calls.{Occupied, Calls, EndsAt, status, occupied, turn, is_not_skipped_there}
use Rattle.snap_runs.proofs.Computing.{lt_from, and_when}
use Rattle.snap_runs.proofs.Executing.{step_of}
use Rattle.snap_runs.proofs.Operations.{ends_done, ends_answer}

-- tests that agree at each item count the same
pub same_counts : (test other : ℕ → Bool) (c e : ℕ) → ((t : ℕ) → c < t → t ≤ e → test t ≡ other t) →
    count test c e ≡ count other c e
same_counts test other c zero h = refl
same_counts test other c (suc e) h =
    at_last (nat_lt c (suc e)) refl (same_counts test other c e (λ t lt le. h t lt (omega arith)))
  where
    at_last : (b : Bool) → nat_lt c (suc e) ≡ b → count test c e ≡ count other c e →
        (if b && test (suc e) then suc (count test c e) else count test c e)
        ≡ (if b && other (suc e) then suc (count other c e) else count other c e)
    at_last true is past =
        ap (λ y. if y then suc (count test c e) else count test c e) (h (suc e) (lt_from c (suc e) is) (omega arith))
        ∙ ap (λ y. if other (suc e) then suc y else y) past
    at_last false is past = past

-- a turn that is not skipped is one of a process that has not crashed
alive : (out : Outcome) → is_not_skipped out ≡ true → is_alive out ≡ is_not_skipped out
alive (outcomes.Skipped why) h = absurd (cc)
alive _ h = refl

-- who is occupied and has not trapped is busy or has crashed
busy_then : (o : Op) (s : Status) → Occupied o s → (HasTrapped s → ⊥) →
    ((a : Activity) × (s ≡ Busy a)) ⊎ ((was : Option Activity) × (s ≡ Crashed was))
busy_then o Idle h not_trapped = absurd h
busy_then o (Busy a) h not_trapped = inl (a, refl)
busy_then o (Trapped cause a) h not_trapped = absurd (not_trapped tt)
busy_then o (Crashed was) h not_trapped = inr (was, refl)

module _ (r : Run) (fits : IsValidRun r) (safe : NeverTraps r) where
  -- a step of a process that has crashed is skipped
  crashed_step : (i t : ℕ) (was : Option Activity) → item r (suc t) ≡ Step i → status r fits t i ≡ Crashed was →
      outcome r (suc t) ≡ outcomes.Skipped reason.Crashed
  crashed_step i t was is at =
      ap (λ (y : Item). (done r.source r.shape (state r t) y).1) is
      ∙ ap (λ (y : Status). (step r.source r.shape (state r t) i (process_at (state r t) i) y).1) at

  -- while a call is open, no turn of its process is skipped before it crashes
  turn_counts : (i : ℕ) (o : Op) (c t : ℕ) → IsOneOf r.shape.n i → 0 < c → c < t → t ≤ length r.items →
      Calls r fits i o c → ((u : ℕ) → c < u → u < t → EndsAt r fits i o u → ⊥) →
      (steps i (item r t) && is_alive (outcome r t)) ≡ takes_step r i t
  turn_counts i o c zero one pos lt short call still = absurd (omega arith)
  turn_counts i o c (suc t) one pos lt short call still =
      and_when (steps i (item r (suc t))) (is_alive (outcome r (suc t))) (is_not_skipped (outcome r (suc t))) (λ his.
      let step = step_of i (item r (suc t)) his in
      let there = occupied r fits i o c t one pos (omega arith) (omega arith) call
      (λ u more le ends. still u more (omega arith) ends) in
      elim (busy_then o (status r fits t i) there (safe fits i t one (omega arith))) [
        | inl busy ↦
            alive (outcome r (suc t))
            (is_not_skipped_there i busy.0 (turn r fits t i (omega arith) one (ap who step)) busy.1 step)
        | inr stopped ↦
            (let out = crashed_step i t stopped.0 step stopped.1 in ap is_alive out ∙ sym (ap is_not_skipped out))
      ])

  turns_are_steps : (i : ℕ) (o : Op) (c e : ℕ) → IsOneOf r.shape.n i → 0 < c → e ≤ length r.items → Calls r fits i o c →
      ((u : ℕ) → c < u → u < e → EndsAt r fits i o u → ⊥) → turns r i c e ≡ own_steps r i c e
  turns_are_steps i o c e one pos short call still =
      same_counts (λ t. steps i (item r t) && is_alive (outcome r t)) (takes_step r i) c e
      (λ t lt le.
      turn_counts i o c t one pos lt (omega arith) call (λ u more less ends. still u more (omega arith) ends))

pub wait_free : (scan_steps update_steps : ℕ) (r : Run) → NeverTraps r → StepsAtMost scan_steps r →
    (IsValidRun r → (i word value c e : ℕ) → PendingUpdate r i word value c e → own_steps r i c e ≤ update_steps) →
    IsWaitFree scan_steps update_steps r
wait_free scan_steps update_steps r safe scans updates fits = record {
  scans = λ i c e scan.
      subst (λ y. y ≤ scan_steps)
      (sym (turns_are_steps r fits safe i op.Scan c e scan.process scan.first scan.last scan.starts
      (λ u lt less ends. let out = ends_answer (outcome r u) ends.1 in scan.goes_on u out.0 lt less (ends.0, out.1))))
      (scans fits i None c e scan);
  updates = λ i word value c e up.
      subst (λ y. y ≤ update_steps)
      (sym (turns_are_steps r fits safe i (op.Update word value) c e up.process up.first up.last (up.call, up.called)
      (λ u lt less ends. up.goes_on u lt less (ends.0, ends_done word value (outcome r u) ends.1))))
      (updates fits i word value c e up);
}
