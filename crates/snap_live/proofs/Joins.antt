-- Joining two seats of a desk into one (`both`) keeps the `TableInvariant`: the seat knows the longer history, and
-- the turns of both.
use Rattle.std.proofs.Common.{◌≡◌, ◌≢◌, ◌⊎◌, ℕ, ◌+◌, ◌≤◌, List, [], ◌∷◌, ◌++◌, length, set, take, refl, sym, ap, ◌∙◌}
use Rattle.std.proofs.Common.{⊎_elim, inl, inr, arith, Bool, true, false, Option, Some, None, length-append}
use Rattle.std.proofs.Math.Seq.{take-append_seam}
use Rattle.std.proofs.lemmas.List.{take_all}
use Rattle.std.proofs.lemmas.List.Prefix.{front_fits}
use mathlib.Core.Option.{Option as Maybe}
use mathlib.Core.Logic.{dite}
use mathlib.Core.List.{IsPrefix}
use native.Mathlib.Decide.{ℕ_discrete}
use Rattle.atomic_table.specs.Table.{Joins}
use Rattle.atomic_table.proofs.Lists.{set_else}
use Rattle.snap_semantics.specs.declared.process.Item.{Item}
use Rattle.snap_live.specs.declared.seat_state.Setting.{Setting}
use Rattle.snap_live.specs.declared.seat_state.SeatState.{SeatState}
use Rattle.snap_live.specs.declared.seat_state.Own.{Own}
use Rattle.snap_live.specs.declared.seat_state.Stage.TheVariants.{Idle}
use Rattle.snap_runs.specs.Run.{Run}
use Rattle.snap_live.specs.SeatStates.{ticket_of, tickets_of, is_served, longer, both, nobody}
use Rattle.snap_live.specs.Rule.{total, At, Tickets, Processes, Slot, Lists, TableInvariant, HasProcess, OwnTurns}
use Rattle.snap_live.proofs.Lists.{each_set, total_set, at_self, one_view}
use Rattle.snap_live.proofs.Runs.{prefix_same, prefix_shorter}
use Rattle.snap_live.proofs.Parts.{table}

-- the longer of two beginnings of one list

-- what holds of both lists, each where it is the longer
longer_by : (P : List Item → Type 0) (xs ys : List Item) → (length xs ≤ length ys → P ys) →
    (length ys ≤ length xs → P xs) → P (longer xs ys)
longer_by P xs ys right left = grind arith

longer_begins : (xs ys l : List Item) → IsPrefix xs l → IsPrefix ys l → IsPrefix (longer xs ys) l
longer_begins xs ys l p q = longer_by (λ k. IsPrefix k l) xs ys (λ _. q) (λ _. p)

longer_left : (xs ys l : List Item) → IsPrefix xs l → IsPrefix ys l → IsPrefix xs (longer xs ys)
longer_left xs ys l p q = longer_by (IsPrefix xs) xs ys (prefix_shorter xs ys l p q) (λ _. prefix_same xs)

longer_right : (xs ys l : List Item) → IsPrefix xs l → IsPrefix ys l → IsPrefix ys (longer xs ys)
longer_right xs ys l p q = longer_by (IsPrefix ys) xs ys (λ _. prefix_same ys) (prefix_shorter ys xs l q p)

pub prefix_length : (xs ys : List Item) → IsPrefix xs ys → length xs ≤ length ys
prefix_length xs ys p = front_fits ys xs p.0 (sym p.1)

-- beginnings of each other are one list
prefix_both : (xs ys : List Item) → IsPrefix xs ys → IsPrefix ys xs → xs ≡ ys
prefix_both xs ys p q =
    sym (take-append_seam xs p.0) ∙ ap (take (length xs)) p.1 ∙ take_all (length xs) ys (prefix_length ys xs q)

-- a list of views in which one takes in another

module _ (views : List SeatState) (id other : ℕ) (b z : SeatState) (apart : other ≢ id) where
  abbrev joined : List SeatState
  joined = set (set views id b) other z

  each_join : {P : ℕ → SeatState → Type 0} → ((j : ℕ) (u : SeatState) → j ≢ id → j ≢ other → At views j u → P j u) →
      P id b → P other z → (j : ℕ) (u : SeatState) → At joined j u → P j u
  each_join {P} others mine spent =
      each_set (set views id b)
      (λ j u nej atj. each_set {P = λ j u. j ≢ other → P j u} views (λ j u nei at' neo. others j u nei neo at')
      (λ _. mine) j u atj nej)
      spent

  -- each t is still of one view alone where it is not of the joined view and of another, and not of the spent one
  only_join : {K : ℕ → SeatState → Type 0}
      → ((i j : ℕ) (u x : SeatState) → At views i u → At views j x → (t : ℕ) → K t u → K t x → i ≡ j)
      → ((t : ℕ) → K t b → (j : ℕ) (x : SeatState) → j ≢ id → j ≢ other → At views j x → K t x → ⊥)
      → ((t : ℕ) → K t z → ⊥)
      → (i j : ℕ) (u x : SeatState) → At joined i u → At joined j x → (t : ℕ) → K t u → K t x → i ≡ j
  only_join {K} old mine spent i j u x ati atj t =
      each_join {P = λ i u. K t u → K t x → i ≡ j}
      (λ i u nei neo at. each_join {P = λ j x. K t u → K t x → i ≡ j} (λ j x _ _ at'. old i j u x at at' t)
      (λ theirs yours. absurd (mine t yours i u nei neo at theirs)) (λ _ nay. absurd (spent t nay)) j x atj)
      (each_join {P = λ j x. K t b → K t x → id ≡ j}
      (λ j x nej neo at' yours theirs. absurd (mine t yours j x nej neo at' theirs)) (λ p q. refl)
      (λ _ nay. absurd (spent t nay)) j x atj)
      (λ nay. absurd (spent t nay))
      i u ati

  total_join : (f : SeatState → ℕ) {v w : SeatState} → At views id v → At (set views id b) other w →
      total f joined + f w + f v ≡ total f views + f b + f z
  total_join f at at' = omega (arith, total_set f views id b at, total_set f (set views id b) other z at')

has_append : (p : ℕ) (xs ys : List Own) → HasProcess p (xs ++ ys) → HasProcess p xs ⊎ HasProcess p ys
has_append p [] ys h = inr h
has_append p (x ∷ xs) ys (inl same) = inl (inl same)
has_append p (x ∷ xs) ys (inr more) = elim (has_append p xs ys more) [
  | inl left ↦ inl (inr left)
  | inr right ↦ inr right
]

own_append : (base : Setting) (log : List Item) (xs ys : List Own) → OwnTurns base log xs →
    OwnTurns base log ys → OwnTurns base log (xs ++ ys)
own_append base log [] ys a b = b
own_append base log (x ∷ xs) ys a b = (a.0, own_append base log xs ys a.1 b)

module _ (views : List SeatState) (id other : ℕ) (v w : SeatState) (apart : other ≢ id) (idle : v.stage ≡ Idle)
    (idle' : w.stage ≡ Idle) (at : At views id v) (at' : At (set views id (both v w)) other w) where
  abbrev result : List SeatState
  result = joined views id other (both v w) nobody apart

  w_at : At views other w
  w_at = sym (set_else views id other (both v w) apart) ∙ at'

  -- what holds of each view still does where the joined seat and the spent one have it
  each_still : {P : ℕ → SeatState → Type 0} → ((j : ℕ) (u : SeatState) → At views j u → P j u) → P id (both v w) →
      P other nobody → (j : ℕ) (u : SeatState) → At result j u → P j u
  each_still old = each_join views id other (both v w) nobody apart (λ j u _ _ atj. old j u atj)

  join_tickets : {next serving : ℕ} → Tickets next serving views → Tickets next serving result
  join_tickets g =
      let b = both v w in
      let bare : ticket_of v.stage ≡ None = ap ticket_of idle in
      let zero_v : tickets_of v.stage ≡ 0 = ap tickets_of idle in
      let zero_w : tickets_of w.stage ≡ 0 = ap tickets_of idle' in
      let p = g.each_drawn id v at in
      let q = g.each_drawn other w w_at in
      let e = length-append v.owns w.owns in
      record {
        apart =
            only_join views id other b nobody apart g.apart
            (λ t mine. let e : None ≡ Some t = sym bare ∙ mine in absurd (cc))
            (λ t (nay : None ≡ Some t). absurd (cc));
        within = each_still g.within (g.within id v at) (λ t (nay : None ≡ Some t). absurd (cc));
        served = each_still g.served (g.served id v at) (λ (nay : false ≡ true). absurd (cc));
        waiting =
            let s = total_join views id other b nobody apart (λ (u : SeatState). tickets_of u.stage) at at' in
            omega (arith, s, g.waiting);
        drawn =
            let s = total_join views id other b nobody apart (λ (u : SeatState). u.draws) at at' in
            omega (arith, s, g.drawn);
        holder = each_still g.holder (omega arith) (omega arith);
        each_drawn = each_still g.each_drawn (omega arith) (omega arith);
      }

  join_processes : {base : Setting} {count : ℕ} → Processes base count views → Processes base count result
  join_processes g =
      let b = both v w in
      record {
        counted =
            let s = total_join views id other b nobody apart (λ (u : SeatState). length u.owns) at at' in
            omega (arith, s, g.counted, length-append v.owns w.owns);
        few = g.few;
        small = g.small;
        one_may_name =
            λ i j u x ati atj. only_join views id other b nobody apart {K = λ _ y. y.may_name ≡ true}
            (λ i j u x ati atj _. g.one_may_name i j u x ati atj)
            (λ _ mine j x nej _ atj theirs. nej (g.one_may_name j id x v atj at theirs mine))
            (λ _ (nay : false ≡ true). absurd (cc)) i j u x ati atj 0;
        knows = each_still g.knows (g.knows id v at) (λ (nay : false ≡ true). absurd (cc));
        named =
            each_still g.named
            (λ p has. ⊎_elim (g.named id v at p) (g.named other w w_at p) (has_append p v.owns w.owns has))
            (λ p (nay : ⊥). absurd nay);
        differ =
            only_join views id other b nobody apart g.differ
            (λ p mine j x nej neo atj theirs.
            ⊎_elim (λ (h : HasProcess p v.owns). nej (g.differ j id x v atj at p theirs h))
            (λ (h : HasProcess p w.owns). neo (g.differ j other x w atj w_at p theirs h))
            (has_append p v.owns w.owns mine))
            (λ p (nay : ⊥). absurd nay);
      }

  join_slot : {base : Setting} {log : List Item} {home : Maybe (Option Run)} →
      Slot base log home views → Slot base log home result
  join_slot g =
      let b = both v w in
      let served : SeatState → Bool = λ x. is_served x.stage in
      record {
        at_home = λ quiet. g.at_home (λ i u ati. dite (ℕ_discrete i id)
            (λ e. ap served (one_view views e ati at) ∙ ap is_served idle)
            (λ nei. dite (ℕ_discrete i other)
            (λ e. ap served (one_view views e ati w_at) ∙ ap is_served idle')
            (λ neo. quiet i u (set_else (set views id b) other i nobody neo ∙ (set_else views id i b nei ∙ ati)))));
        grips = each_still g.grips (g.grips id v at) (λ (nay : false ≡ true). absurd (cc));
        of_base = each_still g.of_base (g.of_base id v at) (λ (nay : false ≡ true). absurd (cc));
      }

  join_lists : {base : Setting} {count : ℕ} {log : List Item} → Lists base count log views →
      Lists base count log result
  join_lists {base = base} {log = log} g =
      let b = both v w in
      let p = g.seen id v at in
      let q = g.seen other w w_at in
      let begins = longer_begins v.seen w.seen log p q in
      let left = longer_left v.seen w.seen log p q in
      let right = longer_right v.seen w.seen log p q in
      let b_at : At result id b =
      set_else (set views id b) other id nobody (λ e. apart (sym e)) ∙ at_self views id b at in
      -- where one of the two has seen all, so has the joined seat
      let all_seen : (u : SeatState) → u.seen ≡ log → IsPrefix u.seen b.seen → b.seen ≡ log =
      λ u all more. prefix_both b.seen log begins (rw all at more) in
      record {
        seen = each_still g.seen begins (log, refl);
        olds = each_still g.olds (left, (right, tt)) tt;
        owned = each_still g.owned (own_append base log v.owns w.owns (g.owned id v at) (g.owned other w w_at)) tt;
        strangers = g.strangers;
        longest = let l = g.longest in
            dite (ℕ_discrete l.0 id)
            (λ e. (id, b, b_at, all_seen v (ap (λ (x : SeatState). x.seen) (one_view views (sym e) at l.2) ∙ l.3) left))
            (λ nei. dite (ℕ_discrete l.0 other)
            (λ e.
            (id, b, b_at, all_seen w (ap (λ (x : SeatState). x.seen) (one_view views (sym e) w_at l.2) ∙ l.3) right))
            (λ neo.
            (l.0, l.1, set_else (set views id b) other l.0 nobody neo ∙ (set_else views id l.0 b nei ∙ l.2), l.3)));
      }

pub joins : (base : Setting) (id other : ℕ) (v w : SeatState) → v.stage ≡ Idle → w.stage ≡ Idle →
    Joins (TableInvariant base) id v other w (both v w) nobody
joins base id other v w idle idle' s g at apart at' =
    table
    (join_tickets s.views id other v w apart idle idle' at at' g.tickets)
    (join_processes s.views id other v w apart idle idle' at at' g.processes)
    (join_slot s.views id other v w apart idle idle' at at' g.slot)
    (join_lists s.views id other v w apart idle idle' at at' g.lists)
    g.words
    g.homes
