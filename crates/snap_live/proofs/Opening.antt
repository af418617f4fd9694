-- A new desk's table satisfies the `TableInvariant`; and a turn, as the seat that made it is seen by callers.
use Rattle.std.proofs.Common.{◌≡◌, ℕ, zero, suc, ◌≤◌, ◌^◌, List, [], ◌∷◌, ◌++◌, length, refl, sym, ap, ◌∙◌}
use Rattle.std.proofs.Common.{arith, true, false, Some, None}
use mathlib.Core.Option.{some, some-injective, some-ne-none}
use Rattle.atomic_table.specs.Table.{opening}
use Rattle.atomic_table.specs.Seated.{TableId}
use Rattle.snap_semantics.specs.declared.process.Item.{Item}
use Rattle.snap_live.specs.declared.seat_state.Setting.{Setting}
use Rattle.snap_semantics.specs.declared.process.Outcome.{Outcome}
use Rattle.snap_live.specs.declared.seat_state.SeatState.{SeatState}
use Rattle.snap_runs.specs.Run.{Run}
use Rattle.snap_live.specs.Turns.{run_of, own_turn}
use Rattle.snap_live.specs.SeatStates.{own, with_turn, newcomer, turns_in}
use Rattle.snap_live.specs.Rule.{At, TableInvariant, OwnTurns, Mine}
use Rattle.snap_live.specs.Shown.{SeatView, IsTurn}
use Rattle.snap_live.specs.Turned.{Turned}
use Rattle.snap_live.proofs.Parts.{table}
use Rattle.snap_live.proofs.Runs.{prefix_more}

abbrev pub seat_view : TableId → Mine → ℕ → ℕ → SeatView
seat_view z m p a = record {
  desk = record { id = z; base = m.0.base };
  process = p;
  asked = a;
  seen = m.0.seen;
  own = turns_in m.0.owns;
}

pub turns_seat : (z z' : TableId) (m n : Mine) (p a a' number : ℕ) (item : Item) (outcome : Outcome)
    → Turned m item number outcome n → m.0.owns ≡ own p (turns_in m.0.owns) ∷ []
    → IsTurn (seat_view z m p a) (seat_view z' n p a') item number outcome
turns_seat z z' m n p a a' number item outcome t owns =
    let h : List Item = t.found ++ item ∷ [] in
    let d = own_turn (length h) item outcome in
    let own_is : turns_in (with_turn m.0.owns d) ≡ turns_in m.0.owns ++ d ∷ [] = rw owns in
    let turns : OwnTurns m.0.base h (with_turn m.0.owns d) = rw t.seat at t.turns in
    let first : OwnTurns m.0.base h (own p (turns_in m.0.owns ++ d ∷ []) ∷ []) = rw owns at turns in
    rw t.seat (record {
      more = prefix_more m.0.seen t.found (item ∷ []) t.more;
      last = (t.found, refl);
      numbered = t.numbered;
      few = t.few;
      answered = t.answered;
      own = own_is ∙ ap (λ (k : ℕ). turns_in m.0.owns ++ own_turn k item outcome ∷ []) (sym t.numbered);
      turns = rw owns first.0;
    })

-- the table at the start

alone : (v u : SeatState) (i : ℕ) → At (v ∷ []) i u → (i ≡ 0) × (v ≡ u)
alone v u zero e = (refl, some-injective v u e)
alone v u (suc i) e = absurd (some-ne-none u (sym e))

only : (P : ℕ → SeatState → Type 0) (v : SeatState) → P 0 v → (i : ℕ) (u : SeatState) → At (v ∷ []) i u → P i u
only P v p i u e = let here = alone v u i e in rw (here.0, ← here.1) p

pub opens : (base : Setting) → base.shape.n ≤ 2 ^ 16 →
    TableInvariant base (opening (0 ∷ 0 ∷ 0 ∷ 0 ∷ []) (Some (let h : Run = run_of base [] in h) ∷ []) (newcomer base))
opens base small =
    let v = newcomer base in
    table {log = []} {next = 0} {serving = 0} {count = 0} {home = some (Some (run_of base []))}
    (record {
      apart = λ i j u x ati atj t p q. (alone v u i ati).0 ∙ sym (alone v x j atj).0;
      within = only _ v (λ t (nay : None ≡ Some t). absurd (cc));
      served = only _ v (λ (nay : false ≡ true). absurd (cc));
      waiting = refl;
      drawn = refl;
      holder = only _ v (omega arith);
      each_drawn = only _ v (omega arith);
    })
    (record {
      counted = refl;
      few = omega arith;
      small = small;
      one_may_name = λ i j u x ati atj p q. (alone v u i ati).0 ∙ sym (alone v x j atj).0;
      knows = only _ v (λ _. refl);
      named = only _ v (λ p (nay : ⊥). absurd nay);
      differ = λ i j u x ati atj p a b. (alone v u i ati).0 ∙ sym (alone v x j atj).0;
    })
    (record {
      at_home = λ _. refl;
      grips = only _ v (λ (nay : false ≡ true). absurd (cc));
      of_base = only _ v (λ _. refl);
    })
    (record {
      seen = only _ v ([], refl);
      olds = only _ v tt;
      owned = only _ v tt;
      strangers = λ p _. refl;
      longest = (0, v, refl, refl);
    })
    refl
    refl
