-- The updates that a run has written, in the order of their writes.
use Rattle.std.specs.Prelude.{◌≡◌, ℕ, zero, suc, ◌<◌, ◌≤◌, ◌⊎◌, true, List, [], ◌∷◌, ◌++◌}
use Rattle.std.proofs.Common.{sym, ◌∙◌, ap, subst, arith, inl, inr}
use Rattle.std.proofs.Math.Nat.{eq-or-lt_of_le}
use Rattle.std.proofs.lemmas.List.{append-nil, append_assoc}
use Rattle.snap_runs.specs.Run.{Run, IsValidRun}
use Rattle.snap_runs.specs.Operation.{Operation}
use Rattle.snap_runs.specs.Update.{executes, PendingUpdate}
use Rattle.snap_runs.specs.WriteStrong.{UpdateCall, update_call, updates, IsPrefix}
use Rattle.snap_runs.proofs.Operations.{executes_who, same_update}

-- one more operation at the end
pub updates_push : (os : List Operation) (o : Operation) →
    updates (os ++ o ∷ []) ≡ updates os ++ update_call o.process o.call o.action
updates_push [] o = append-nil (update_call o.process o.call o.action)
updates_push (x ∷ os) o =
    ap (λ y. update_call x.process x.call x.action ++ y) (updates_push os o)
    ∙ sym (append_assoc (update_call x.process x.call x.action) (updates os) (update_call o.process o.call o.action))

-- a list begins with itself, and with what its beginning begins with
pub prefix_refl : (xs : List UpdateCall) → IsPrefix xs xs
prefix_refl xs = ([], append-nil xs)

pub prefix_trans : (xs ys zs : List UpdateCall) → IsPrefix xs ys → IsPrefix ys zs → IsPrefix xs zs
prefix_trans xs ys zs p q = (p.0 ++ q.0, sym (append_assoc xs p.0 q.0) ∙ ap (λ l. l ++ q.0) p.1 ∙ q.1)

same_update_call : (u v : UpdateCall) → u.process ≡ v.process → u.call ≡ v.call →
    u.word ≡ v.word → u.value ≡ v.value → u ≡ v
same_update_call u v p c w x = λ i. record { process = p i; call = c i; word = w i; value = x i }

module _ (line : ℕ) (r : Run) where
  -- an update writes at item t
  pub record WritesAt (t : ℕ) (u : UpdateCall) : Type 0 where
    pub executed : executes r u.process line t ≡ true
    pub before_it : u.call < t
    pub updating : PendingUpdate r u.process u.word u.value u.call t

  -- what item t adds
  abbrev pub AddsAt : ℕ → List UpdateCall → List UpdateCall → Type 0
  AddsAt t past us =
      ((u : UpdateCall) × WritesAt t u × (us ≡ past ++ u ∷ []))
      ⊎ (((i : ℕ) → executes r i line t ≡ true → ⊥) × (us ≡ past))

  -- the updates that have written by item t
  abbrev pub WrittenUpTo : ℕ → List UpdateCall → Type 0
  WrittenUpTo zero us = us ≡ []
  WrittenUpTo (suc t) us = (past : List UpdateCall) × WrittenUpTo t past × AddsAt (suc t) past us

  -- no two updates write at one item
  same_write : IsValidRun r → (t : ℕ) (u v : UpdateCall) → WritesAt t u → WritesAt t v → u ≡ v
  same_write fits t u v a b =
      let his : u.process ≡ v.process =
      executes_who r u.process line t a.executed ∙ sym (executes_who r v.process line t b.executed) in
      let his_update : PendingUpdate r u.process v.word v.value v.call t =
      subst (λ y. PendingUpdate r y v.word v.value v.call t) (sym his) b.updating in
      let same =
      same_update r fits u.process u.word u.value v.word v.value u.call v.call t a.before_it
      b.before_it a.updating his_update in
      same_update_call u v his same.0 same.1 same.2

  same_next : IsValidRun r → (t : ℕ) (past past' us us' : List UpdateCall) → past ≡ past' →
      AddsAt t past us → AddsAt t past' us' → us ≡ us'
  same_next fits t past past' us us' same (inl x) (inl y) =
      x.2 ∙ ap (λ l. l ++ x.0 ∷ []) same ∙ ap (λ u. past' ++ u ∷ []) (same_write fits t x.0 y.0 x.1 y.1) ∙ sym y.2
  same_next fits t past past' us us' same (inl x) (inr y) = absurd (y.0 x.0.process x.1.executed)
  same_next fits t past past' us us' same (inr x) (inl y) = absurd (x.0 y.0.process y.1.executed)
  same_next fits t past past' us us' same (inr x) (inr y) = x.1 ∙ same ∙ sym y.1

  pub same_written : IsValidRun r → (t : ℕ) (us us' : List UpdateCall) → WrittenUpTo t us → WrittenUpTo t us' → us ≡ us'
  same_written fits zero us us' h h' = h ∙ sym h'
  same_written fits (suc t) us us' h h' =
      same_next fits (suc t) h.0 h'.0 us us' (same_written fits t h.0 h'.0 h.1 h'.1) h.2 h'.2

  -- what has been written by a later item begins with what has been by an earlier one
  abbrev Earlier : ℕ → List UpdateCall → Type 0
  Earlier t us = (past : List UpdateCall) × WrittenUpTo t past × IsPrefix past us

  pub earlier : (t u : ℕ) (us : List UpdateCall) → t ≤ u → WrittenUpTo u us → Earlier t us
  earlier t zero us le h =
      (us, subst (λ y. WrittenUpTo y us) (let same : 0 ≡ t = omega arith in same) h, prefix_refl us)
  earlier t (suc u) us le h =
      elim (eq-or-lt_of_le le) [
        | inl same ↦ (us, subst (λ y. WrittenUpTo y us) (sym same) h, prefix_refl us)
        | inr less ↦
            (let x = earlier t u h.0 (omega arith) h.1 in (x.0, x.1, prefix_trans x.0 h.0 us x.2 (begins h.0 us h.2)))
      ]
    where
      begins : (past us : List UpdateCall) → AddsAt (suc u) past us → IsPrefix past us
      begins past us (inl x) = (x.0 ∷ [], sym x.2)
      begins past us (inr x) = ([], append-nil past ∙ sym x.1)
