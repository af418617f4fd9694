-- The parts of the `TableInvariant` of a desk (tickets, processes, slot, lists) still hold where one `SeatState`
-- changes.
use Rattle.std.proofs.Common.{◌≡◌, ◌≢◌, ℕ, ◌*◌, ◌≤◌, ◌^◌, List, [], ◌∷◌, length, set, sym, ap, ◌∙◌, arith}
use Rattle.std.proofs.Common.{Bool, true, false, Option, Some}
use mathlib.Core.Option.{Option as Maybe}
use mathlib.Core.Logic.{dite}
use mathlib.Core.List.{IsPrefix}
use native.Mathlib.Decide.{ℕ_discrete}
use Rattle.atomic_table.specs.Table.{State}
use Rattle.atomic_table.proofs.Lists.{set_else}
use Rattle.snap_semantics.specs.declared.process.Item.{Item}
use Rattle.snap_live.specs.declared.seat_state.Setting.{Setting}
use Rattle.snap_live.specs.declared.seat_state.SeatState.{SeatState}
use Rattle.snap_runs.specs.Run.{Run}
use Rattle.snap_live.specs.SeatStates.{ticket_of, tickets_of, is_served, grip_of}
use Rattle.snap_live.specs.Rule.{total, At, Tickets, Processes, Slot, Lists, HasProcess, OwnTurns, AllPrefix}
use Rattle.snap_live.specs.Rule.{TableInvariant}
use Rattle.snap_live.proofs.Lists.{each_set, each_kept, only_kept, one_kept, total_set, total_le, at_self, one_view}
use Rattle.snap_live.proofs.Runs.{prefix_chain}

pub is_false : (b : Bool) → (b ≡ true → ⊥) → b ≡ false
is_false b nay = grind arith

-- the next ticket is far below 2 ^ 64
pub next_small : {base : Setting} {next serving count : ℕ} {views : List SeatState} → Tickets next serving views →
    Processes base count views → next ≤ 2 ^ 48
next_small {views = views} g p =
    let s : total (λ (v : SeatState). v.draws) views ≤ 2 ^ 32 * total (λ (v : SeatState). length v.owns) views =
    total_le (λ (v : SeatState). v.draws) (λ (v : SeatState). length v.owns) (2 ^ 32) views g.each_drawn in
    omega (arith, s, g.drawn, p.counted, p.few, p.small)

pub same_tickets : {next serving : ℕ} {views : List SeatState} (id : ℕ) {v : SeatState} (w : SeatState) →
    At views id v → ticket_of w.stage ≡ ticket_of v.stage → tickets_of w.stage ≡ tickets_of v.stage
    → w.draws ≡ v.draws → length w.owns ≡ length v.owns → (is_served w.stage ≡ true → ticket_of w.stage ≡ Some serving)
    → Tickets next serving views → Tickets next serving (set views id w)
same_tickets {views = views} id {v} w at ticket tickets drawn ps ok g = record {
  apart = only_kept views id g.apart at (λ t mine. sym ticket ∙ mine);
  within = each_kept views g.within (λ t mine. g.within id v at t (sym ticket ∙ mine));
  served = each_kept views g.served ok;
  waiting = omega (arith, total_set (λ (u : SeatState). tickets_of u.stage) views id w at, g.waiting);
  drawn = omega (arith, total_set (λ (u : SeatState). u.draws) views id w at, g.drawn);
  holder = each_kept views g.holder (omega (arith, g.holder id v at));
  each_drawn = each_kept views g.each_drawn (omega (arith, g.each_drawn id v at));
}

-- one view changes and stays of the same processes
pub same_processes : {base : Setting} {count : ℕ} {views : List SeatState} (id : ℕ) {v : SeatState} (w : SeatState) →
    At views id v → length w.owns ≡ length v.owns → ((p : ℕ) → HasProcess p w.owns → HasProcess p v.owns) →
    w.may_name ≡ v.may_name → w.named ≡ v.named
    → Processes base count views → Processes base count (set views id w)
same_processes {views = views} id {v} w at len sub os ns g = record {
  counted = omega (arith, total_set (λ (u : SeatState). length u.owns) views id w at, g.counted);
  few = g.few;
  small = g.small;
  one_may_name = one_kept views id g.one_may_name at (λ mine. sym os ∙ mine);
  knows = each_kept views g.knows (λ mine. ns ∙ g.knows id v at (sym os ∙ mine));
  named = each_kept views g.named (λ p has. g.named id v at p (sub p has));
  differ = only_kept views id g.differ at sub;
}

-- one view changes, and is not served before or after
pub same_slot : {base : Setting} {log : List Item} {home : Maybe (Option Run)} {views : List SeatState} (id : ℕ)
    {v : SeatState} (w : SeatState) → At views id v → is_served v.stage ≡ false → is_served w.stage ≡ false
    → (w.alive ≡ true → w.base ≡ base)
    → Slot base log home views → Slot base log home (set views id w)
same_slot {views = views} id {v} w at idle idle' of_base g = record {
  at_home = λ quiet. g.at_home (λ i u ati. dite (ℕ_discrete i id)
      (λ e. ap (λ (x : SeatState). is_served x.stage) (one_view views e ati at) ∙ idle)
      (λ ne. quiet i u (set_else views id i w ne ∙ ati)));
  grips = each_kept views g.grips (λ yes. absurd (cc));
  of_base = each_kept views g.of_base of_base;
}

-- one view changes and is served, and no other grips what it should not
pub served_slot : {base : Setting} {log log' : List Item} {home home' : Maybe (Option Run)} {views : List SeatState}
    (id : ℕ) {v : SeatState} (w : SeatState) → At views id v → is_served w.stage ≡ true
    → ((j : ℕ) (u : SeatState) → j ≢ id → At views j u → is_served u.stage ≡ true → grip_of u.stage ≡ log')
    → grip_of w.stage ≡ log' → (w.alive ≡ true → w.base ≡ base)
    → Slot base log home views → Slot base log' home' (set views id w)
served_slot {views = views} id w at served others grips of_base g = record {
  at_home = λ quiet.
      let clash : true ≡ false = sym served ∙ quiet id w (at_self views id w at) in absurd (cc);
  grips = each_set views others (λ _. grips);
  of_base = each_kept views g.of_base of_base;
}

-- one view changes, and has seen no less
pub same_lists : {base : Setting} {count : ℕ} {log : List Item} {views : List SeatState} (id : ℕ) {v : SeatState}
    (w : SeatState) → At views id v → IsPrefix w.seen log → (v.seen ≡ log → w.seen ≡ log) →
    AllPrefix w.olds w.seen → OwnTurns base log w.owns
    → Lists base count log views → Lists base count log (set views id w)
same_lists {views = views} id w at begins more olds owned g = record {
  seen = each_kept views g.seen begins;
  olds = each_kept views g.olds olds;
  owned = each_kept views g.owned owned;
  strangers = g.strangers;
  longest = let l = g.longest in
      dite (ℕ_discrete l.0 id)
      (λ e. (id, w, at_self views id w at, more (ap (λ (x : SeatState). x.seen) (one_view views (sym e) at l.2) ∙ l.3)))
      (λ ne. (l.0, l.1, set_else views id l.0 w ne ∙ l.2, l.3));
}

-- a table of these parts
pub table : {base : Setting} {s : State (Option Run) SeatState} {log : List Item} {next serving count : ℕ}
    {home : Maybe (Option Run)} → Tickets next serving s.views → Processes base count s.views
    → Slot base log home s.views → Lists base count log s.views → s.words ≡ length log ∷ next ∷ serving ∷ count ∷ []
    → s.homes ≡ home ∷ [] → TableInvariant base s
table {log = log} {next = next} {serving = serving} {count = count} {home = home} tickets processes slot lists words
    homes = record {
      log = log;
      next = next;
      serving = serving;
      count = count;
      home = home;
      words = words;
      homes = homes;
      tickets = tickets;
      processes = processes;
      slot = slot;
      lists = lists;
    }

pub olds_longer : (os : List (List Item)) (xs ys : List Item) → IsPrefix xs ys → AllPrefix os xs → AllPrefix os ys
olds_longer [] xs ys p all = tt
olds_longer (o ∷ os) xs ys p all = (prefix_chain o xs ys all.0 p, olds_longer os xs ys p all.1)

-- nobody is served beside the seat that has the ticket
pub others_wait : {next serving : ℕ} {views : List SeatState} {id : ℕ} {v : SeatState} → At views id v →
    ticket_of v.stage ≡ Some serving → Tickets next serving views
    → (i : ℕ) (u : SeatState) → i ≢ id → At views i u → is_served u.stage ≡ false
others_wait {serving = serving} {id = id} {v = v} at mine g i u ne ati =
    is_false (is_served u.stage) (λ yes. ne (g.apart i id u v ati at serving (g.served i u ati yes) mine))
