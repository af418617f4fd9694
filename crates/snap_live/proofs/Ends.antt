-- The end of a desk, where one seat has all processes: the record lies in the table's slot, begins with what the seat
-- has seen and has just its turns.
use Rattle.std.proofs.Common.{◌≡◌, ℕ, ◌≤◌, List, [], ◌∷◌, length, refl, sym, ap, ◌∙◌}
use Rattle.std.proofs.Common.{inl, arith, true, false, Option, Some}
use mathlib.Core.Option.{Option as Maybe, some, some-injective}
use mathlib.Core.List.{IsPrefix}
use lib.ListN.{get_elem?}
use Rattle.atomic_table.specs.Table.{Final, Seen}
use Rattle.snap_semantics.specs.declared.process.Item.{Item}
use Rattle.snap_live.specs.declared.seat_state.Setting.{Setting}
use Rattle.snap_live.specs.declared.seat_state.SeatState.{SeatState}
use Rattle.snap_live.specs.declared.seat_state.Own.{Own}
use Rattle.snap_live.specs.declared.seat_state.Stage.{Stage}
use Rattle.snap_live.specs.declared.seat_state.Stage.TheVariants.{Idle}
use Rattle.snap_runs.specs.Run.{Run}
use Rattle.snap_live.specs.SeatStates.{tickets_of, is_served}
use Rattle.snap_live.specs.Turns.{run_of, setting_of}
use Rattle.snap_live.specs.Rule.{At, Tickets, Processes, TableInvariant, HasProcess, OwnTurns}
use Rattle.snap_live.proofs.Lists.{one_view}
use Rattle.snap_live.proofs.Parts.{is_false}

a_process : (os : List Own) → 1 ≤ length os → (p : ℕ) × HasProcess p os
a_process [] le = absurd (omega arith)
a_process (o ∷ os) le = (o.process, inl refl)

served_one : (s : Stage) → is_served s ≡ true → tickets_of s ≡ 1
served_one s served = grind arith

-- where a seat between turns has all processes, no seat is served
nobody_served : (base : Setting) (next serving count id : ℕ) (v : SeatState) (views : List SeatState) →
    At views id v → v.stage ≡ Idle → ((p : ℕ) → 1 ≤ p → p ≤ base.shape.n → HasProcess p v.owns)
    → Tickets next serving views → Processes base count views
    → (i : ℕ) (u : SeatState) → At views i u → is_served u.stage ≡ false
nobody_served base next serving count id v views at idle every g q i u ati = is_false (is_served u.stage) (λ yes'.
    let one : tickets_of u.stage ≡ 1 = served_one u.stage yes' in
    let some_process = a_process u.owns (let h = g.holder i u ati in omega arith) in
    let b = q.named i u ati some_process.0 some_process.1 in
    let f = q.few in
    let same : i ≡ id =
    q.differ i id u v ati at some_process.0 some_process.1 (every some_process.0 b.0 (omega arith)) in
    let e : u ≡ v = one_view views same ati at in
    let clash : true ≡ false = sym yes' ∙ ap (λ (x : SeatState). is_served x.stage) e ∙ ap is_served idle in
    absurd (cc))

-- the record is at home, begins with what the seat has seen, and has just its turns
pub settles : (base : Setting) (id : ℕ) (v : SeatState) (ws : List ℕ) (xs : List (Option Run)) (y : Option Run) →
    v.stage ≡ Idle → ((p : ℕ) → 1 ≤ p → p ≤ base.shape.n → HasProcess p v.owns)
    → Final (Seen (TableInvariant base) id v) ws xs → get_elem? xs 0 ≡ some y
    → (log : List Item) × (y ≡ Some (run_of base log)) × IsPrefix v.seen log × OwnTurns base log v.owns
settles base id v ws xs y idle every f found =
    let s = f.0 in let g = f.1.0 in let at = f.1.1 in
    let home =
    g.slot.at_home (nobody_served base g.next g.serving g.count id v s.views at idle every g.tickets g.processes) in
    let h : Option Run = Some (run_of base g.log) in
    let there : get_elem? s.homes 0 ≡ some (some h) =
    ap (λ (l : List (Maybe (Option Run))). get_elem? l 0) g.homes ∙ ap (λ (x : Maybe (Option Run)). some x) home in
    (g.log, some-injective y h (sym found ∙ f.4 0 h there), g.lists.seen id v at, g.lists.owned id v at)

-- the record that was taken out of the slot
pub kept_is : (base : Setting) (id : ℕ) (v : SeatState) (ws : List ℕ)
    (xs : List (Option Run)) (y : Option Run) (kept : Run)
    → v.stage ≡ Idle → ((p : ℕ) → 1 ≤ p → p ≤ base.shape.n → HasProcess p v.owns)
    → Final (Seen (TableInvariant base) id v) ws xs → get_elem? xs 0 ≡ some y → y ≡ Some kept
    → (setting_of kept ≡ base) × IsPrefix v.seen kept.items × OwnTurns base kept.items v.owns
kept_is base id v ws xs y kept idle every f found is =
    let st = settles base id v ws xs y idle every f found in
    let taken = st.1 in
    let same : kept ≡ run_of base st.0 = cc in rw same (refl, st.2, st.3)
