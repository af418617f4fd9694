-- Each step on the desk's table (draw, look, publish, catch up, serve, name, split, tell) keeps the `TableInvariant`.
use Rattle.std.proofs.Common.{◌≡◌, ◌≢◌, ℕ, ◌+◌, ◌*◌, ◌<◌, ◌≤◌, ◌%◌, ◌^◌, List, [], ◌∷◌, ◌++◌, length, set, refl, sym}
use Rattle.std.proofs.Common.{ap, ◌∙◌, ⊎_elim, inl, inr, arith, true, false, Option, Some, None, mod-eq_of_lt}
use mathlib.Core.Option.{Option as Maybe, some, none}
use mathlib.Core.Logic.{dite}
use mathlib.Core.List.{IsPrefix}
use native.Mathlib.Decide.{ℕ_discrete}
use lib.ListN.{get_elem?}
use Rattle.atomic_table.specs.Table.{keeps, takes, gives, Allows, Splits, step}
use Rattle.atomic_table.proofs.Lists.{at_longer}
use Rattle.snap_semantics.specs.declared.process.Item.{Item}
use Rattle.snap_live.specs.declared.seat_state.Setting.{Setting}
use Rattle.snap_semantics.specs.declared.process.Outcome.{Outcome}
use Rattle.snap_live.specs.declared.seat_state.SeatState.{SeatState}
use Rattle.snap_live.specs.declared.seat_state.Own.{Own}
use Rattle.snap_live.specs.declared.seat_state.OwnTurn.{OwnTurn}
use Rattle.snap_live.specs.declared.seat_state.Stage.TheVariants.{Idle, Waits, Served}
use Rattle.snap_runs.specs.Run.{Run}
use Rattle.snap_semantics.specs.Table.{who}
use Rattle.snap_live.specs.Turns.{run_of, last_outcome, own_turn}
use Rattle.snap_live.specs.SeatStates.{ticket_of, tickets_of, is_served, grip_of, waits, serves, rests, names, stays}
use Rattle.snap_live.specs.SeatStates.{comes, own, publishes, longer_grip, with_turn, catches_up, tells, turns_in}
use Rattle.snap_live.specs.Rule.{At, Tickets, Processes, Slot, Lists, TableInvariant, HasProcess, OwnTurns}
use Rattle.snap_live.specs.Rule.{Mine, Drew, Looked, ServedOut, NamedProcess, Published, CaughtUp, Told, HasAll}
use Rattle.snap_live.proofs.Lists.{each_set, each_kept, only_set, only_kept, one_kept, each_end, only_end, one_end}
use Rattle.snap_live.proofs.Lists.{total_set, total_end, at_self, one_view}
use Rattle.snap_live.proofs.Runs.{turns_of-mine, turns_of-other, prefix_same, prefix_more}
use Rattle.snap_live.proofs.Parts.{next_small, same_tickets, same_processes, same_slot, served_slot}
use Rattle.snap_live.proofs.Parts.{same_lists, table, olds_longer, others_wait}

abbrev Homes : Type 0
Homes = List (Maybe (Option Run))

-- draw

draws_tickets : {next serving : ℕ} {views : List SeatState} (id : ℕ) {v : SeatState} → At views id v → v.stage ≡ Idle →
    v.draws < 2 ^ 32 * length v.owns
    → Tickets next serving views → Tickets (next + 1) serving (set views id (waits v next))
draws_tickets {next = next} {views = views} id {v} at idle room g =
    let w = waits v next in
    let unticketed : tickets_of v.stage ≡ 0 = ap tickets_of idle in
    record {
      apart =
          only_set views g.apart (λ t (mine : Some next ≡ Some t) j x ne atj theirs.
          let lt = (g.within j x atj t theirs).1 in let e : next ≡ t = cc in omega arith);
      within =
          each_set views (λ j u ne atj t has. let b = g.within j u atj t has in (b.0, omega arith))
          (λ t (mine : Some next ≡ Some t). let e : next ≡ t = cc in let s = g.waiting in (omega arith, omega arith));
      served = each_kept views g.served (λ (nay : false ≡ true). absurd (cc));
      waiting = omega (arith, total_set (λ (u : SeatState). tickets_of u.stage) views id w at, g.waiting);
      drawn = omega (arith, total_set (λ (u : SeatState). u.draws) views id w at, g.drawn);
      holder = each_kept views g.holder (omega arith);
      each_drawn = each_kept views g.each_drawn (omega arith);
    }

pub draws_as : (base : Setting) (slots id : ℕ) (m : Mine) → m.1 ≡ [] → m.0.stage ≡ Idle →
    m.0.draws < 2 ^ 32 * length m.0.owns
    → Allows (TableInvariant base) slots id m 1 (λ n. (n + 1) % 2 ^ 64) (Drew (step slots 1 1 0 none) m)
draws_as base slots id m _ idle room s g _ at _ =
    let w = waits m.0 g.next in
    let small : g.next ≤ 2 ^ 48 = next_small g.tickets g.processes in
    let wrap : (g.next + 1) % 2 ^ 64 ≡ g.next + 1 = mod-eq_of_lt (omega arith) in
    let l = g.lists in
    rw g.words (
      w,
      keeps,
      tt,
      table
          (draws_tickets id at idle room g.tickets)
          (same_processes id w at refl (λ p h. h) refl refl g.processes)
          (same_slot id w at (ap is_served idle) refl (g.slot.of_base id m.0 at) g.slot)
          (same_lists id w at (l.seen id m.0 at) (λ e. e) (l.olds id m.0 at) (l.owned id m.0 at) l)
          (ap (λ (n : ℕ). length g.log ∷ n ∷ g.serving ∷ g.count ∷ []) wrap)
          g.homes,
      refl,
    )

-- look

pub looks_as : (base : Setting) (slots id : ℕ) (m : Mine) (t : ℕ) → m.1 ≡ [] → m.0.alive ≡ true → m.0.stage ≡ Waits t
    → Allows (TableInvariant base) slots id m 2 (λ n. n) (Looked (step slots 2 0 0 none) m)
looks_as base slots id m t bare alive waiting s g _ at _ =
    let v = m.0 in
    let has : ticket_of v.stage ≡ Some t = ap ticket_of waiting in
    let idle : is_served v.stage ≡ false = ap is_served waiting in
    let l = g.lists in
    let b : v.base ≡ base = g.slot.of_base id v at alive in
    rw g.words (dite (ℕ_discrete g.serving t)
    (λ (turn : g.serving ≡ t).
    let w = serves v g.serving g.log in
    let mine : ticket_of v.stage ≡ Some g.serving = has ∙ ap (λ (k : ℕ). Some k) (sym turn) in
    let h : Run = run_of base g.log in
    let got = g.slot.at_home (λ i u ati. dite (ℕ_discrete i id)
    (λ e. ap (λ (x : SeatState). is_served x.stage) (one_view s.views e ati at) ∙ idle)
    (λ ne. others_wait at mine g.tickets i u ne ati)) in (
      w,
      takes 0 (Some h),
      ap (λ (hs : Homes). get_elem? hs 0) g.homes ∙ ap (λ (x : Maybe (Option Run)). some x) got,
      table
          (same_tickets id w at (sym mine) (ap tickets_of (sym waiting)) refl refl (λ _. refl) g.tickets)
          (same_processes id w at refl (λ p h. h) refl refl g.processes)
          (served_slot id w at refl (λ j u _ atj. g.slot.grips j u atj) refl (g.slot.of_base id v at) g.slot)
          (same_lists id w at (l.seen id v at) (λ e. e) (l.olds id v at) (l.owned id v at) l)
          refl
          (ap (λ (hs : Homes). set hs 0 none) g.homes),
      (
        (λ _. (g.log, l.seen id v at, λ k. (w, (0, Some (run_of (sym b k) g.log)) ∷ bare k))),
        λ nay. absurd (nay mine),
      ),
    ))
    (λ (ne : g.serving ≢ t). (
      v,
      keeps,
      tt,
      table
          (same_tickets id v at refl refl refl refl (g.tickets.served id v at) g.tickets)
          (same_processes id v at refl (λ p h. h) refl refl g.processes)
          (same_slot id v at idle idle (g.slot.of_base id v at) g.slot)
          (same_lists id v at (l.seen id v at) (λ e. e) (l.olds id v at) (l.owned id v at) l)
          refl
          g.homes,
      (
        (λ (mine : ticket_of v.stage ≡ Some g.serving).
            let e : Some t ≡ Some g.serving = sym has ∙ mine in let e' : t ≡ g.serving = cc in absurd (ne (sym e'))),
        λ _. refl,
      ),
    )))

-- publish

-- the turns of processes that the item is not of
others_turns : (base : Setting) (log : List Item) (x : Item) (os : List Own) → (HasProcess (who x) os → ⊥) →
    OwnTurns base log os → OwnTurns base (log ++ x ∷ []) os
others_turns base log x [] apart all = tt
others_turns base log x (o ∷ os) apart all = (
  all.0 ∙ sym (turns_of-other base o.process log x (λ e. apart (inl (sym e)))),
  others_turns base log x os (λ h. apart (inr h)) all.1,
)

publishes_lists : {base : Setting} {count : ℕ} {log : List Item} {views : List SeatState} (id : ℕ) {v : SeatState}
    (w : SeatState) (x : Item) → At views id v → Processes base count views
    → HasProcess (who x) v.owns → w.seen ≡ log ++ x ∷ [] → w.olds ≡ v.olds → OwnTurns base (log ++ x ∷ []) w.owns
    → Lists base count log views → Lists base count (log ++ x ∷ []) (set views id w)
publishes_lists {base = base} {log = log} {views = views} id {v} w x at p has sees olds owned g =
    let begins : IsPrefix v.seen w.seen = rw sees (prefix_more v.seen log (x ∷ []) (g.seen id v at)) in record {
      seen =
          each_set views (λ j u ne atj. prefix_more u.seen log (x ∷ []) (g.seen j u atj))
          (rw sees (prefix_same (log ++ x ∷ [])));
      olds = each_kept views g.olds (rw olds (olds_longer v.olds v.seen w.seen begins (g.olds id v at)));
      owned =
          each_set views (λ j u ne atj. others_turns base log x u.owns
          (λ theirs. ne (p.differ j id u v atj at (who x) theirs has)) (g.owned j u atj))
          owned;
      strangers =
          λ q above. let known = p.named id v at (who x) has in
          turns_of-other base q log x (λ e. absurd (omega arith)) ∙ g.strangers q above;
      longest = (id, w, at_self views id w at, sees);
    }

mine_turns : (base : Setting) (log : List Item) (x : Item) (os : List Own) (ts : List OwnTurn) →
    os ≡ own (who x) ts ∷ [] → OwnTurns base log os
    → OwnTurns base (log ++ x ∷ [])
    (with_turn os (own_turn (length (log ++ x ∷ [])) x (last_outcome base (log ++ x ∷ []))))
mine_turns base log x os ts e all =
    let new = own_turn (length (log ++ x ∷ [])) x (last_outcome base (log ++ x ∷ [])) in
    let a : OwnTurns base log (own (who x) ts ∷ []) = rw e at all in
    rw e (ap (λ (us : List OwnTurn). us ++ new ∷ []) a.0 ∙ sym (turns_of-mine base (who x) log x refl), tt)

same_count : (os : List Own) (d : OwnTurn) → length (with_turn os d) ≡ length os
same_count os d = grind arith

same_owners : (os : List Own) (d : OwnTurn) (p : ℕ) → HasProcess p (with_turn os d) → HasProcess p os
same_owners os d p h = grind arith

-- a step publishes, where it is named after an item and an outcome that equal these
pub publishes_as : (base : Setting) (slots id : ℕ) (m : Mine) (t len : ℕ) (x x' : Item)
    (o o' : Outcome) → x ≡ x' → o ≡ o'
    → m.0.alive ≡ true → m.0.stage ≡ Served t (grip_of m.0.stage) → m.0.owns ≡ own (who x) (turns_in m.0.owns) ∷ [] →
    len ≡ length (grip_of m.0.stage ++ x ∷ []) → o ≡ last_outcome m.0.base (grip_of m.0.stage ++ x ∷ [])
    → Allows (TableInvariant base) slots id m 0 (λ _. len) (λ _. Published x' o' (step slots 0 len 0 none) m len)
publishes_as base slots id m t len x x' o o' same_item same_outcome alive served owns is_len is_last s g _ at _ =
    let v = m.0 in
    let w = publishes v x o in
    let grip : List Item = grip_of v.stage in
    let new : List Item = grip ++ x ∷ [] in
    let yes : is_served v.stage ≡ true = ap is_served served in
    let mine : ticket_of v.stage ≡ Some g.serving = g.tickets.served id v at yes in
    let b : v.base ≡ base = g.slot.of_base id v at alive in
    let log_is : g.log ≡ grip = sym (g.slot.grips id v at yes) in
    let l : Lists base g.count grip s.views = rw log_is at g.lists in
    let d = own_turn (length new) x o in
    let o_is : o ≡ last_outcome base new = is_last ∙ ap (λ (z : Setting). last_outcome z new) b in
    let stage_is : w.stage ≡ Served t new = ap (λ z. longer_grip z x) served in
    let has_own : HasProcess (who x) v.owns = rw owns (inl refl) in
    let owned : OwnTurns base new w.owns =
    rw o_is (mine_turns base grip x v.owns (turns_in v.owns) owns (l.owned id v at)) in
    rw (g.words, ← same_item, ← same_outcome) (
      w,
      keeps,
      tt,
      table
          (same_tickets id w at (ap ticket_of stage_is ∙ sym (ap ticket_of served))
          (ap tickets_of stage_is ∙ sym (ap tickets_of served)) refl (same_count v.owns d)
          (λ _. ap ticket_of stage_is ∙ sym (ap ticket_of served) ∙ mine) g.tickets)
          (same_processes id w at (same_count v.owns d) (same_owners v.owns d) refl refl g.processes)
          (served_slot id w at (ap is_served stage_is)
          (λ j u ne atj theirs. let clash : true ≡ false =
          sym theirs ∙ others_wait at mine g.tickets j u ne atj in absurd (cc))
          (ap grip_of stage_is) (g.slot.of_base id v at) g.slot)
          (publishes_lists id w x at g.processes has_own refl refl owned l)
          (ap (λ (n : ℕ). n ∷ g.next ∷ g.serving ∷ g.count ∷ []) is_len)
          g.homes,
      (refl, rw b owned),
    )

-- catch up

pub catches : (base : Setting) (slots id : ℕ) (m : Mine) (t len : ℕ) (grip : List Item)
    → m.0.alive ≡ true → m.0.stage ≡ Served t grip → len ≡ length grip
    → Allows (TableInvariant base) slots id m 0 (λ _. len) (λ _. CaughtUp (step slots 0 len 0 none) m len)
catches base slots id m t len grip alive served is_len s g _ at _ =
    let v = m.0 in
    let w = catches_up v in
    let yes : is_served v.stage ≡ true = ap is_served served in
    let sees : w.seen ≡ g.log = g.slot.grips id v at yes in
    let mine : ticket_of v.stage ≡ Some g.serving = g.tickets.served id v at yes in
    let b : v.base ≡ base = g.slot.of_base id v at alive in
    let l = g.lists in
    let begins : IsPrefix v.seen w.seen = rw sees (l.seen id v at) in
    let len_is : len ≡ length g.log = is_len ∙ ap (λ (k : List Item). length k) (sym (ap grip_of served) ∙ sees) in
    rw g.words (
      w,
      keeps,
      tt,
      table
          (same_tickets id w at refl refl refl refl (λ _. mine) g.tickets)
          (same_processes id w at refl (λ p h. h) refl refl g.processes)
          (served_slot id w at yes (λ j u _ atj. g.slot.grips j u atj) sees (g.slot.of_base id v at) g.slot)
          (same_lists id w at (rw sees (prefix_same g.log)) (λ _. sees)
          (olds_longer v.olds v.seen w.seen begins (l.olds id v at)) (l.owned id v at) l)
          (ap (λ (n : ℕ). n ∷ g.next ∷ g.serving ∷ g.count ∷ []) len_is)
          g.homes,
      (refl, rw (b, sees) (l.owned id v at)),
    )

-- serve

serves_tickets : {next serving : ℕ} {views : List SeatState} (id : ℕ) {v : SeatState} → At views id v →
    is_served v.stage ≡ true → tickets_of v.stage ≡ 1
    → Tickets next serving views → Tickets next (serving + 1) (set views id (rests v))
serves_tickets {serving = serving} {views = views} id {v} at served one g =
    let w = rests v in
    let mine : ticket_of v.stage ≡ Some serving = g.served id v at served in
    record {
      apart = only_set views g.apart (λ t (nay : None ≡ Some t). absurd (cc));
      within =
          each_set views (λ j u ne atj t has. let b = g.within j u atj t has in
          let other : t ≢ serving =
          λ e. ne (g.apart j id u v atj at serving (has ∙ ap (λ (k : ℕ). Some k) e) mine) in (omega arith, b.1))
          (λ t (nay : None ≡ Some t). absurd (cc));
      served =
          each_set views (λ j u ne atj yes. absurd (ne (g.apart j id u v atj at serving (g.served j u atj yes) mine)))
          (λ (nay : false ≡ true). absurd (cc));
      waiting = omega (arith, total_set (λ (u : SeatState). tickets_of u.stage) views id w at, g.waiting);
      drawn = omega (arith, total_set (λ (u : SeatState). u.draws) views id w at, g.drawn);
      holder = each_kept views g.holder (omega arith);
      each_drawn = each_kept views g.each_drawn (g.each_drawn id v at);
    }

pub serves_all : (base : Setting) (slots id : ℕ) (m : Mine) (t : ℕ) → m.0.alive ≡ true →
    m.0.stage ≡ Served t (grip_of m.0.stage) → HasAll m
    → Allows (TableInvariant base) slots id m 2 (λ n. (n + 1) % 2 ^ 64) (ServedOut (step slots 2 1 0 none) m)
serves_all base slots id m t alive served has s g _ at _ =
    let v = m.0 in
    let w = rests v in
    let yes : is_served v.stage ≡ true = ap is_served served in
    let mine : ticket_of v.stage ≡ Some g.serving = g.tickets.served id v at yes in
    let small : g.next ≤ 2 ^ 48 = next_small g.tickets g.processes in
    let b = g.tickets.within id v at g.serving mine in
    let wrap : (g.serving + 1) % 2 ^ 64 ≡ g.serving + 1 = mod-eq_of_lt (omega arith) in
    let h : Run = run_of v.base (grip_of v.stage) in
    let out : m.1 ≡ (0, Some h) ∷ [] = ap (λ (x : Mine). x.1) has in
    let slot : Slot base g.log (some (Some h)) (set s.views id w) = record {
      at_home = λ _. λ k. some (Some (run_of (g.slot.of_base id v at alive k) (g.slot.grips id v at yes k)));
      grips = each_kept s.views g.slot.grips (λ (nay : false ≡ true). absurd (cc));
      of_base = each_kept s.views g.slot.of_base (g.slot.of_base id v at);
    } in
    let l = g.lists in
    rw (g.words, out) (
      w,
      gives,
      tt,
      table
          (serves_tickets id at yes (ap tickets_of served) g.tickets)
          (same_processes id w at refl (λ p h. h) refl refl g.processes)
          slot
          (same_lists id w at (l.seen id v at) (λ e. e) (l.olds id v at) (l.owned id v at) l)
          (ap (λ (n : ℕ). length g.log ∷ g.next ∷ n ∷ g.count ∷ []) wrap)
          (ap (λ (hs : Homes). set hs 0 (some (Some h))) g.homes),
      refl,
    )

-- name

names_tickets : {next serving : ℕ} {views : List SeatState} (id p : ℕ) {v : SeatState} → At views id v → v.owns ≡ []
    → v.draws ≡ 0 → v.stage ≡ Idle → Tickets next serving views → Tickets next serving (set views id (names v p))
names_tickets {views = views} id p {v} at empty fresh idle g =
    let w = names v p in record {
      apart = only_kept views id g.apart at (λ t mine. mine);
      within = each_kept views g.within (g.within id v at);
      served = each_kept views g.served (g.served id v at);
      waiting = omega (arith, total_set (λ (u : SeatState). tickets_of u.stage) views id w at, g.waiting);
      drawn = omega (arith, total_set (λ (u : SeatState). u.draws) views id w at, g.drawn);
      holder = each_kept views g.holder (omega (arith, ap tickets_of idle));
      each_drawn = each_kept views g.each_drawn (omega arith);
    }

names_processes : {base : Setting} {count : ℕ} {views : List SeatState} (id : ℕ) {v : SeatState} → At views id v →
    v.may_name ≡ true → v.owns ≡ [] → v.named < base.shape.n
    → Processes base count views → Processes base (count + 1) (set views id (names v (v.named + 1)))
names_processes {count = count} {views = views} id {v} at opens empty room g =
    let w = names v (v.named + 1) in
    let known : v.named ≡ count = g.knows id v at opens in
    let none_yet : length v.owns ≡ 0 = ap (λ (os : List Own). length os) empty in
    let same : (p : ℕ) → HasProcess p w.owns → p ≡ count + 1 =
    λ p. ⊎_elim (λ (e : p ≡ v.named + 1). omega arith) (λ (f : ⊥). absurd f) in
    record {
      counted = omega (arith, total_set (λ (u : SeatState). length u.owns) views id w at, g.counted);
      few = omega arith;
      small = g.small;
      one_may_name = one_kept views id g.one_may_name at (λ mine. mine);
      knows =
          each_set views (λ j u ne atj theirs. absurd (ne (g.one_may_name j id u v atj at theirs opens)))
          (λ _. omega arith);
      named =
          each_set views (λ j u ne atj p has. let b = g.named j u atj p has in (b.0, omega arith))
          (λ p has. let e = same p has in (omega arith, omega arith));
      differ =
          only_set views g.differ (λ p mine j x ne atj theirs.
          let e = same p mine in let b = g.named j x atj p theirs in omega arith);
    }

more_named : {base : Setting} {count : ℕ} {log : List Item} {views : List SeatState} → Lists base count log views →
    Lists base (count + 1) log views
more_named g = record {
  seen = g.seen;
  olds = g.olds;
  owned = g.owned;
  strangers = (λ p above. g.strangers p (omega arith));
  longest = g.longest;
}

pub names_as : (base : Setting) (slots id : ℕ) (m : Mine) → m.1 ≡ [] → m.0.stage ≡ Idle → m.0.draws ≡ 0 →
    m.0.owns ≡ [] → m.0.may_name ≡ true → m.0.alive ≡ true → m.0.named < m.0.base.shape.n
    → Allows (TableInvariant base) slots id m 3 (λ n. (n + 1) % 2 ^ 64) (NamedProcess (step slots 3 1 0 none) m)
names_as base slots id m _ idle fresh empty opens alive room s g _ at _ =
    let v = m.0 in
    let w = names v (v.named + 1) in
    let b : v.base.shape.n ≡ base.shape.n = ap (λ (z : Setting). z.shape.n) (g.slot.of_base id v at alive) in
    let few = g.processes.few in let small = g.processes.small in
    let known : v.named ≡ g.count = g.processes.knows id v at opens in
    let wrap : (g.count + 1) % 2 ^ 64 ≡ g.count + 1 = mod-eq_of_lt (omega arith) in
    let l = g.lists in
    rw g.words (
      w,
      keeps,
      tt,
      table
          (names_tickets id (v.named + 1) at empty fresh idle g.tickets)
          (names_processes id at opens empty (omega arith) g.processes)
          (same_slot id w at (ap is_served idle) (ap is_served idle) (g.slot.of_base id v at) g.slot)
          (more_named (same_lists id w at (l.seen id v at) (λ e. e) (l.olds id v at)
          (sym (l.strangers (v.named + 1) (omega arith)), tt) l))
          (ap (λ (n : ℕ). length g.log ∷ g.next ∷ g.serving ∷ n ∷ []) wrap)
          g.homes,
      refl,
    )

-- split

comes_tickets : {next serving : ℕ} {views : List SeatState} (v : SeatState) → Tickets next serving views →
    Tickets next serving (views ++ comes v ∷ [])
comes_tickets {views = views} v g =
    let w = comes v in
    record {
      apart = only_end views g.apart (λ t (nay : None ≡ Some t). absurd (cc));
      within = each_end views g.within (λ t (nay : None ≡ Some t). absurd (cc));
      served = each_end views g.served (λ (nay : false ≡ true). absurd (cc));
      waiting = omega (arith, total_end (λ (u : SeatState). tickets_of u.stage) views w, g.waiting);
      drawn = omega (arith, total_end (λ (u : SeatState). u.draws) views w, g.drawn);
      holder = each_end views g.holder (omega arith);
      each_drawn = each_end views g.each_drawn (omega arith);
    }

splits_processes : {base : Setting} {count : ℕ} {views : List SeatState} (id : ℕ) {v : SeatState} → At views id v →
    Processes base count views → Processes base count (set views id (stays v) ++ comes v ∷ [])
splits_processes {views = views} id {v} at g =
    let l = stays v in let left = set views id l in
    -- where the seat may name, nobody else in the left list may
    let quiet : (i : ℕ) (u : SeatState) → At left i u → u.may_name ≡ true → v.may_name ≡ true → ⊥ =
    each_set views (λ j u ne atj theirs mine. ne (g.one_may_name j id u v atj at theirs mine))
    (λ (nay : false ≡ true) _. absurd (cc)) in
    record {
      counted =
          let e = total_end (λ (u : SeatState). length u.owns) left (comes v) in
          omega (arith, total_set (λ (u : SeatState). length u.owns) views id l at, g.counted);
      few = g.few;
      small = g.small;
      one_may_name =
          one_end left (one_kept views id g.one_may_name at (λ (nay : false ≡ true). absurd (cc)))
          (λ mine j x atj theirs. quiet j x atj theirs mine);
      knows =
          each_end left (each_kept views g.knows (λ (nay : false ≡ true). absurd (cc))) (λ mine. g.knows id v at mine);
      named = each_end left (each_kept views g.named (g.named id v at)) (λ p (nay : ⊥). absurd nay);
      differ = only_end left (only_kept views id g.differ at (λ p mine. mine)) (λ p (nay : ⊥). absurd nay);
    }

comes_slot : {base : Setting} {log : List Item} {home : Maybe (Option Run)} {views : List SeatState} (v : SeatState) →
    (v.alive ≡ true → v.base ≡ base) → Slot base log home views → Slot base log home (views ++ comes v ∷ [])
comes_slot {views = views} v b g = record {
  at_home = λ quiet. g.at_home (λ i u ati. quiet i u (at_longer views (comes v ∷ []) i u ati));
  grips = each_end views g.grips (λ (nay : false ≡ true). absurd (cc));
  of_base = each_end views g.of_base b;
}

comes_lists : {base : Setting} {count : ℕ} {log : List Item} {views : List SeatState} (v : SeatState) →
    IsPrefix v.seen log → Lists base count log views → Lists base count log (views ++ comes v ∷ [])
comes_lists {views = views} v begins g = record {
  seen = each_end views g.seen begins;
  olds = each_end views g.olds tt;
  owned = each_end views g.owned tt;
  strangers = g.strangers;
  longest = let l = g.longest in (l.0, l.1, at_longer views (comes v ∷ []) l.0 l.1 l.2, l.3);
}

pub splits : (base : Setting) (id : ℕ) (v : SeatState) → v.stage ≡ Idle →
    Splits (TableInvariant base) id v (stays v) (comes v)
splits base id v idle s g at =
    let w = stays v in
    let l = g.lists in
    table
    (comes_tickets v (same_tickets id w at refl refl refl refl (g.tickets.served id v at) g.tickets))
    (splits_processes id at g.processes)
    (comes_slot v (g.slot.of_base id v at)
    (same_slot id w at (ap is_served idle) (ap is_served idle) (g.slot.of_base id v at) g.slot))
    (comes_lists v (l.seen id v at)
    (same_lists id w at (l.seen id v at) (λ e. e) (l.olds id v at) (l.owned id v at) l))
    g.words
    g.homes

-- tell

pub tells_it : (base : Setting) (slots id : ℕ) (m : Mine) → m.0.stage ≡ Idle →
    Allows (TableInvariant base) slots id m 0 (λ n. n) (Told (step slots 0 0 0 none) m)
tells_it base slots id m idle s g _ at _ =
    let v = m.0 in let w = tells v in let l = g.lists in
    rw g.words (
      w,
      keeps,
      tt,
      table
          (same_tickets id w at refl refl refl refl (g.tickets.served id v at) g.tickets)
          (same_processes id w at refl (λ p h. h) refl refl g.processes)
          (same_slot id w at (ap is_served idle) (ap is_served idle) (g.slot.of_base id v at) g.slot)
          (same_lists id w at (l.seen id v at) (λ e. e) tt (l.owned id v at) l)
          refl
          g.homes,
      (refl, l.olds id v at),
    )
