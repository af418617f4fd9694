-- The moves that a scan of M sees are visible steps since its start, with at most one double collect ended since.
use Rattle.snap_runs.proofs.Computing.{same_from, raised_only}
use Rattle.snap_runs.proofs.Places.{for_each_at}
use Rattle.std.specs.Prelude.{◌≡◌, ℕ, zero, suc, ◌+◌, ◌<◌, ◌≤◌, ◌⊎◌, true, List, length, Option, nat_eq, refl}
use Rattle.std.proofs.Common.{sym, ◌∙◌, ap, subst, arith, inl, inr}
use Rattle.std.proofs.lemmas.Bool.{cases_eq}
use Rattle.snap_runs.proofs.Common.{process_at, Item, Step, state, Run, IsValidRun}
use Rattle.snap_semantics.specs.State.{value_at, Locals}
use Rattle.snap_semantics.specs.State as definitions
use Rattle.snap_runs.specs.Scan.{PendingScan}
use Rattle.snap_runs.specs.Update.{executes}
use Rattle.snap_runs.specs.Promises.{ObservedMove}
use Rattle.snap_runs.proofs.Algorithm.{At, typed_at, item_at, Mode}
use Rattle.snap_runs.proofs.Embedding as embed
use Rattle.snap_runs.proofs.Executing as executing
use Rattle.snap_runs.proofs.Moves as moves
use Rattle.snap_runs.proofs.Scans.{Execution}
use Rattle.snap_runs_of_m.specs.ListingM as names
use Rattle.snap_runs_of_m.specs.Promises.{run_of, IsVisibleStep, RecentVisibleStep, MovesAreVisibleSteps}
use Rattle.snap_runs_of_m.proofs.Algorithm.{Registers, Process, L31, L32, L52, L55, L57, place, move, counted}
use Rattle.snap_runs_of_m.proofs.Algorithm.{after_52, lines, algorithm}
use Rattle.snap_runs_of_m.proofs.Collect.{events}
use Rattle.snap_runs_of_m.proofs.Counters.{item_counters}
use Rattle.snap_runs_of_m.proofs.Stage.{Row}
use Rattle.snap_runs_of_m.proofs.Count.{Count, counted_row}
use Rattle.snap_runs_of_m.proofs.Writes.{raised_there, raised_at_there, raised_at_elsewhere}
use Rattle.snap_runs_of_m.proofs.Flows.{numbered, listed}
use Rattle.snap_runs_of_m.proofs.Runs.{state_at, registers_at, execution, stage_of, counts_of}
use Rattle.snap_runs.proofs.Steady.{Steady, fits_of}
use Rattle.snap_runs.proofs.Calm.{calm_list, steady_of, calm as calm_run}
use Rattle.snap_runs.proofs.CalmItems.{at_executes, locals_before, scan_to, same_collects}
use Rattle.snap_runs.proofs.CalmPromises as calm

module _ (n w : ℕ) (items : List Item) (some : 0 < w) (fits : Steady (run_of n w items)) where
  abbrev pub at : ℕ → ℕ → Process
  at t i = typed_at (algorithm n w) (state_at n w items t) i

  abbrev run : Execution (algorithm n w) lines
  run = execution n w items some fits

  -- what process a does at line 52 or 57 is an event of process j that process i can see, or leaves j's events
  line_57 : (v a i j : ℕ) (d : Mode) → v < length items → item_at items v ≡ Step a → (at v a).control ≡ At d L57 →
      IsVisibleStep (run_of n w items) i j (suc v)
      ⊎ (events (registers_at n w items (suc v)) j i ≡ events (registers_at n w items v) j i)
  line_57 v a i j d h is there =
      elim (cases_eq j a) [
        | inl same ↦
            inl (inl (subst (λ y. executes (run_of n w items) y 57 (suc v) ≡ true) (sym same)
            (executing.line_executes (algorithm n w) items fits run.does v a 57 d L57 h is there refl)))
        | inr other ↦
            inr (ap (λ (m : Registers). events m j i)
            (executing.memory_next (algorithm n w) items fits run.does v a d L57 is there)
            ∙ ap (λ x. x + (registers_at n w items v).answers j i)
            (raised_there (registers_at n w items v).writes a j other))
      ]

  line_52 : (v a i j : ℕ) (d : Mode) → v < length items → item_at items v ≡ Step a → (at v a).control ≡ At d L52 →
      IsVisibleStep (run_of n w items) i j (suc v)
      ⊎ (events (registers_at n w items (suc v)) j i ≡ events (registers_at n w items v) j i)
  line_52 v a i j d h is there =
      let m = registers_at n w items v in
      let p = (at v a).variables in
      let after : registers_at n w items (suc v) ≡ after_52 a m p =
      executing.memory_next (algorithm n w) items fits run.does v a d L52 is there in
      elim (cases_eq j a) [
        | inl same ↦ elim (cases_eq i p.j) [
          | inl his ↦ (let counter : value_at names.j (process_at (state (run_of n w items) v) a).locals.scalars 0
              ≡ p.j =
              ap (λ (q : definitions.Process). value_at names.j q.locals.scalars 0)
              (embed.process_at_is (algorithm n w) items fits run.does v a (omega arith)
              (executing.one_of (algorithm n w) items fits run.does v a h is)) in
              let E : ℕ → Type 0 = λ y. (executes (run_of n w items) y 52 (suc v) ≡ true)
              × (value_at names.j (process_at (state (run_of n w items) v) y).locals.scalars 0 ≡ i) in
              inl (inr (subst E (sym same) (
                executing.line_executes (algorithm n w) items fits run.does v a 52 d L52 h is there refl,
                counter ∙ sym his,
              ))))
          | inr other ↦
              inr (ap (λ (x : Registers). events x j i) after
              ∙ ap (λ y. m.writes j + y) (raised_at_elsewhere m.answers a p.j j i other))
        ]
        | inr other ↦
            inr (ap (λ (x : Registers). events x j i) after
            ∙ ap (λ y. m.writes j + y) (raised_at_there m.answers a p.j j i other))
      ]

  item_does : (v i j : ℕ) → v < length items →
      IsVisibleStep (run_of n w items) i j (suc v)
      ⊎ (events (registers_at n w items (suc v)) j i ≡ events (registers_at n w items v) j i)
  item_does v i j h =
      elim (item_counters n w (suc v) (state_at n w items v) (item_at items v)) [
        | inl same ↦
            inr (ap (λ (f : ℕ → ℕ). f j + (registers_at n w items (suc v)).answers j i) same.0
            ∙ ap (λ (f : ℕ → ℕ → ℕ). (registers_at n w items v).writes j + f j i) same.1)
        | inr r ↦ elim r.special [
          | inl at52 ↦ line_52 v r.process i j r.mode h r.item (r.control ∙ ap (λ y. At r.mode y) at52)
          | inr behind ↦ elim behind [
            | inl at55 ↦
                inr (ap (λ (m : Registers). events m j i) (executing.memory_next (algorithm n w) items fits run.does v
                r.process r.mode L55 r.item (r.control ∙ ap (λ y. At r.mode y) at55)))
            | inr at57 ↦ line_57 v r.process i j r.mode h r.item (r.control ∙ ap (λ y. At r.mode y) at57)
          ]
        ]
      ]

  pub move_is_event : (i j : ℕ) (link : Option ℕ) (c t : ℕ) → PendingScan (run_of n w items) i link c (suc t) → c ≤ t →
      ObservedMove (run_of n w items) 31 names.moved i j (suc t) →
      RecentVisibleStep (run_of n w items) i j c (suc t)
  move_is_event i j link c t scan le move =
      let r = run_of n w items in
      let one = scan.process in
      let short : suc t ≤ length items = scan.last in
      let seen =
      moves.observed (algorithm n w) lines (listed n w) run (numbered n w) 31 L31 L32
      (λ me p. counted_row n p) names.moved refl (λ me d m p. refl) i j t (omega arith) one move in
      let q = at t i in
      let p = q.variables in
      let stage = stage_of n w items some fits t i seen.mode L31 (omega arith) one seen.control in
      let row : Row n w i (registers_at n w items) q.auxiliary.round t p.g p.h p.d p.a p.b (w + 1) = stage.2 in
      let grows : place p.moved j < counted p j =
      subst (λ y. place p.moved j < y) (for_each_at n (counted p) p.moved j move.process) seen.grows in
      let marked : place p.d j ≡ 1 =
      same_from (place p.d j) 1 (raised_only (nat_eq (place p.d j) 1) (place p.moved j) grows) in
      let counts : Count n w p q.auxiliary.own q.auxiliary.collects q.auxiliary.tested L31 =
      counts_of n w items some fits t i seen.mode L31 (omega arith) one seen.control in
      let event =
      moves.recent (algorithm n w) lines (listed n w) run (IsVisibleStep (run_of n w items) i j)
      (λ y. events (registers_at n w items y) j i) (λ v h. item_does v i j h) i link c t seen.mode L31 scan le
      seen.control refl counts.3 (row.moved j move.process marked) in
      record {
        item = event.item;
        after_start = event.after_start;
        before_move = event.before_move;
        event = event.event;
        recent = event.recent;
      }

-- a move that a scan sees is an event, stated of a run
abbrev MoveIsVisibleStep : Run → Type 0
MoveIsVisibleStep r =
    IsValidRun r → (i j : ℕ) (link : Option ℕ) (c t : ℕ) → PendingScan r i link c t → c < t →
    ObservedMove r 31 names.moved i j t → RecentVisibleStep r i j c t

steady_moves_are_visible : (n w : ℕ) (items : List Item) → Steady (run_of n w items) → 0 < w →
    MoveIsVisibleStep (run_of n w items)
steady_moves_are_visible n w items fits some whole i j link c zero scan lt move = absurd (omega arith)
steady_moves_are_visible n w items fits some whole i j link c (suc t) scan lt move =
    move_is_event n w items some fits i j link c t scan (omega arith) move

event_from : (r : Run) → IsValidRun r → (i j t : ℕ) → 0 < t → t ≤ length r.items →
    IsVisibleStep (calm_run r) i j t → IsVisibleStep r i j t
event_from r fits i j t pos h (inl wrote) = inl (sym (at_executes r fits j 57 t pos h) ∙ wrote)
event_from r fits i j t pos h (inr answered) = inr (
  sym (at_executes r fits j 52 t pos h) ∙ answered.0,
  sym (ap (λ (l : Locals). value_at names.j l.scalars 0) (locals_before r t j)) ∙ answered.1,
)

pub moves_are_visible_steps_lem : MovesAreVisibleSteps
moves_are_visible_steps_lem n w items some fits i j link c t scan lt move =
    let r = run_of n w items in
    let last : t ≤ length items = scan.last in
    let e = steady_moves_are_visible n w (calm_list r) (steady_of r fits) some
    (fits_of (calm_run r) (steady_of r fits)) i j link c t
    (scan_to r fits i link c t scan) lt (calm.observed_to r fits 31 names.moved i j t (omega arith) last move) in
    let after_start : c < e.item = e.after_start in
    let before_move : e.item < t = e.before_move in
    record {
      item = e.item;
      after_start = after_start;
      before_move = before_move;
      event = event_from r fits i j e.item (omega arith) (omega arith) e.event;
      recent = subst (λ y. y ≤ 1) (same_collects r fits i e.item t last) e.recent;
    }
