-- The turns of a process that a thread is told of a run, `told_in`, are the items of that process, each with its
-- number and outcome, and nothing else.
use Rattle.std.proofs.Common.{◌≡◌, ℕ, zero, suc, ◌+◌, ◌<◌, ◌≤◌, ◌⊎◌, inl, inr, Bool, true, false, List, []}
use Rattle.std.proofs.Common.{length, drop, drop-cons, add-one, nat_eq, eq-eqb, eqb-true, refl, sym, ap, ◌∙◌, subst}
use Rattle.std.proofs.Common.{arith}
use Rattle.std.proofs.lemmas.List.{drop_all}
use Rattle.std.specs.List.{Contains}
use Rattle.snap_semantics.specs.Table.{who}
use Rattle.snap_semantics.specs.declared.process.Item.{Item}
use Rattle.snap_semantics.specs.declared.process.Item.TheVariants.{Step}
use Rattle.snap_semantics.specs.declared.process.Outcome.{Outcome}
use Rattle.snap_runs.specs.Run.{Run, state, item, outcome}
use Rattle.snap_runs.proofs.Embedding.{next_state}
use Rattle.snap_judge.proofs.ExplainedLists.{contains_cases, contains_head, contains_none, contains_tail}
use Rattle.snap_live.specs.Turns.{own_turn, put_if, setting_of, turns_from}
use Rattle.snap_live.specs.declared.seat_state.OwnTurn.{OwnTurn}
use Rattle.snap_history_laws.specs.threads.Told.{told_in}

-- what a list contains to which a turn is put if this is asked
put_cases : (mine : Bool) (v u : OwnTurn) (us : List OwnTurn) → Contains (put_if mine v us) u →
    ((mine ≡ true) × (v ≡ u)) ⊎ Contains us u
put_cases true v u us has = elim (contains_cases v u us has) [
  | inl same ↦ inl (refl, same)
  | inr more ↦ inr more
]
put_cases false v u us has = inr has

kept : (mine : Bool) (v u : OwnTurn) (us : List OwnTurn) → Contains us u → Contains (put_if mine v us) u
kept true v u us has = contains_tail v u us has
kept false v u us has = has

module _ (r : Run) (p : ℕ) where
  -- the turns behind the first t items
  abbrev later : ℕ → List OwnTurn
  later t = turns_from (setting_of r) (state r t) t p (drop t r.items)

  -- the turn of item s + 1
  abbrev pub turn_at : ℕ → OwnTurn
  turn_at s = own_turn (suc s) (item r (suc s)) (outcome r (suc s))

  next_turn : (t : ℕ) → t < length r.items →
      later t ≡ put_if (nat_eq p (who (item r (suc t)))) (turn_at t) (later (suc t))
  next_turn t lt = rw (drop-cons r.items t (Step 0) lt, next_state r t lt, add-one)

  no_turns : (t : ℕ) → length r.items ≤ t → later t ≡ []
  no_turns t le = ap (turns_from (setting_of r) (state r t) t p) (drop_all t r.items le)

  -- a turn of the process, of an item of the run
  pub record IsTurnAt (u : OwnTurn) : Type 0 where
    pub place : ℕ
    pub within : place < length r.items
    pub mine : p ≡ who (item r (suc place))
    pub is : u ≡ turn_at place

  -- each turn is one of an item
  told_later : (t more : ℕ) (u : OwnTurn) → t + more ≡ length r.items → Contains (later t) u → IsTurnAt u
  told_later t zero u e has = absurd (contains_none u (rw (no_turns t (omega arith)) at has))
  told_later t (suc more) u e has =
      let lt : t < length r.items = omega arith in
      let mine = nat_eq p (who (item r (suc t))) in
      elim (put_cases mine (turn_at t) u (later (suc t)) (rw (next_turn t lt) at has)) [
        | inl here ↦ record { place = t; within = lt; mine = eqb-true p (who (item r (suc t))) here.0; is = sym here.1 }
        | inr past ↦ told_later (suc t) more u (omega arith) past
      ]

  pub told_is : (u : OwnTurn) → Contains (told_in r p) u → IsTurnAt u
  told_is u has = told_later 0 (length r.items) u (omega arith) has

  -- each item of the process has its turn
  there : (t s more : ℕ) → t + more ≡ s → s < length r.items → p ≡ who (item r (suc s)) → Contains (later t) (turn_at s)
  there t s zero e lt mine =
      let here : s ≡ t = omega arith in
      subst (λ k. Contains (later k) (turn_at s)) here
      (rw (next_turn s lt, eq-eqb p (who (item r (suc s))) mine) (contains_head (turn_at s) (later (suc s))))
  there t s (suc more) e lt mine =
      rw (next_turn t (omega arith))
      (kept (nat_eq p (who (item r (suc t)))) (turn_at t) (turn_at s) (later (suc t))
      (there (suc t) s more (omega arith) lt mine))

  pub told_there : (s : ℕ) → s < length r.items → p ≡ who (item r (suc s)) → Contains (told_in r p) (turn_at s)
  told_there s lt mine = there 0 s s (omega arith) lt mine

  -- what the turn of a number is
  pub record IsOfItem (n : ℕ) (x : Item) (o : Outcome) : Type 0 where
    pub some : 0 < n
    pub within : n ≤ length r.items
    pub mine : who (item r n) ≡ p
    pub item_is : item r n ≡ x
    pub outcome_is : outcome r n ≡ o

  pub of_item : (n : ℕ) (x : Item) (o : Outcome) → Contains (told_in r p) (own_turn n x o) → IsOfItem n x o
  of_item n x o has =
      let u = told_is (own_turn n x o) has in
      let place : n ≡ suc u.place = ap (λ (t : OwnTurn). t.number) u.is in
      record {
        some = omega arith;
        within = (let below = u.within in omega arith);
        mine = ap (λ k. who (item r k)) place ∙ sym u.mine;
        item_is = ap (item r) place ∙ sym (ap (λ (t : OwnTurn). t.item) u.is);
        outcome_is = ap (outcome r) place ∙ sym (ap (λ (t : OwnTurn). t.outcome) u.is);
      }

  pub with_item : (n : ℕ) (x : Item) (o : Outcome) → IsOfItem n x o → Contains (told_in r p) (own_turn n x o)
  with_item zero x o is = absurd (omega arith)
  with_item (suc s) x o is = rw (← is.item_is, ← is.outcome_is) (told_there s (omega arith) (sym is.mine))
