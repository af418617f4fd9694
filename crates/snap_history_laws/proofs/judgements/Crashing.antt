-- A call finds its process idle. A process that has crashed stays so, and nothing of it ends any more.
use Rattle.std.proofs.Common.{◌≡◌, ℕ, zero, suc, ◌<◌, ◌≤◌, length, refl, arith, inl, inr}
use Rattle.std.proofs.lemmas.Bool.{cases_eq}
use Rattle.std.proofs.Math.Nat.{eq-or-lt_of_le}
use Rattle.snap_words.specs.Shape.{IsOneOf}
use Rattle.snap_semantics.specs.Table.{who}
use Rattle.snap_semantics.specs.declared.process.Item.{Item}
use Rattle.snap_semantics.specs.declared.process.Outcome.{Outcome}
use Rattle.snap_semantics.specs.declared.process.Outcome.TheVariants as outcomes
use Rattle.snap_semantics.specs.declared.process.Status.{Status}
use Rattle.snap_semantics.specs.declared.process.Status.TheVariants.{Idle, Crashed}
use Rattle.snap_runs.specs.Run.{IsValidRun, Run, item, outcome}
use Rattle.snap_runs.proofs.Calls.{other_turn, status, turn}
use Rattle.snap_runs.proofs.Transitions.{Transition, calls, crashes, skipped}
use Rattle.snap_history_laws.specs.threads.Told.{IsEnd}

pub finds_idle : {s s' : Status} {x : Item} {out : Outcome} → Transition s x out s' → out ≡ outcomes.Called → s ≡ Idle
finds_idle (calls k p line) out = refl
finds_idle other out = absurd (cc)

abbrev HasCrashed : Status → Type 0
HasCrashed (Crashed was) = Unit {0}
HasCrashed _ = ⊥

has_crashed : {s s' : Status} {x : Item} {out : Outcome} → Transition s x out s' → out ≡ outcomes.Crashed →
    HasCrashed s'
has_crashed (crashes k s was) out = tt
has_crashed other out = absurd (cc)

stays_crashed : {s s' : Status} {x : Item} {out : Outcome} → Transition s x out s' → HasCrashed s → HasCrashed s'
stays_crashed (skipped s x why may) h = h
stays_crashed (crashes k s was) h = tt
stays_crashed other h = absurd h

ends_nothing : {s s' : Status} {x : Item} {out : Outcome} → Transition s x out s' → HasCrashed s → IsEnd out → ⊥
ends_nothing (skipped s x why may) h ends = ends
ends_nothing (crashes k s was) h ends = ends
ends_nothing other h ends = h

module _ (r : Run) (fits : IsValidRun r) (i : ℕ) (one : IsOneOf r.shape.n i) (u : ℕ) (some : 0 < u)
    (his : who (item r u) ≡ i) (is : outcome r u ≡ outcomes.Crashed) where
  crashed : (t : ℕ) → u ≤ t → t ≤ length r.items → HasCrashed (status r fits t i)
  crashed zero le short = absurd (omega arith)
  crashed (suc t) le short = elim (eq-or-lt_of_le le) [
    | inl same ↦ has_crashed (turn r fits t i short one (rw same at his)) (rw same at is)
    | inr less ↦ (let past = crashed t (omega arith) (omega arith) in
        elim (cases_eq (who (item r (suc t))) i) [
          | inl mine ↦ stays_crashed (turn r fits t i short one mine) past
          | inr other ↦ rw (other_turn r fits t i short one other) past
        ])
  ]

  -- Nothing of a process ends once it has crashed.
  pub no_end_after_crash : (t : ℕ) → u < t → t ≤ length r.items → who (item r t) ≡ i → IsEnd (outcome r t) → ⊥
  no_end_after_crash zero less short ours ends = omega arith
  no_end_after_crash (suc t) less short ours ends =
      ends_nothing (turn r fits t i short one ours) (crashed t (omega arith) (omega arith)) ends
