-- What a look tells a seat whose ticket is served (`Taken`), and the slot that a seat holds with all of the record
-- (`front`).
use Rattle.std.proofs.Common.{◌≡◌, ℕ, ◌∷◌, refl, sym, ap, ◌∙◌, Option, Some, eqb, eq-eqb, ne_eqb, inl, inr}
use Rattle.std.proofs.lemmas.Bool.{cases_eq}
use Rattle.std.specs.Prelude.{MatchBool}
use Rattle.atomic_table.specs.Table.{Step, rest}
use Rattle.snap_live.specs.declared.seat_state.Stage.TheVariants.{Waits}
use Rattle.snap_runs.specs.Run.{Run}
use Rattle.snap_live.specs.Turns.{run_of}
use Rattle.snap_live.specs.SeatStates.{ticket_of, grip_of}
use Rattle.snap_live.specs.Rule.{Mine, Looked, Taken, HasAll}

-- what a look told, by the test on what it found
pub told : (st : Step (Option Run)) (m n : Mine) (t r : ℕ) → m.0.stage ≡ Waits t → Looked st m r n →
    MatchBool (eqb r t) (Taken t m n) (n ≡ m)
told st m n t r waiting l = elim (cases_eq r t) [
  | inl same ↦ (let got = l.0 (ap ticket_of waiting ∙ ap (λ (k : ℕ). Some k) (sym same)) in
      rw (eq-eqb r t same, ← same, got.2) (refl, refl, got.1))
  | inr other ↦ rw (ne_eqb r t other) (l.1 (λ mine.
      let e : Some t ≡ Some r = sym (ap ticket_of waiting) ∙ mine in let e' : t ≡ r = cc in other (sym e')))
]

-- the slot that a seat holds
pub front : (n : Mine) → HasAll n → (old : Option Run) × (n.1 ≡ (0, old) ∷ rest n.1)
front n has =
    let h : Option Run = Some (run_of n.0.base (grip_of n.0.stage)) in
    (h, ap (λ (x : Mine). x.1) has ∙ ap (λ (x : Mine). (0, h) ∷ rest x.1) (sym has))
