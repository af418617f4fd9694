-- The writes of a certificate (`IsWriteOf`): each is one of the process of its item, and of the update under which that
-- process is there.
use Rattle.std.specs.Prelude.{◌≡◌, ℕ, zero, suc, ◌<◌, ◌≤◌, true, List, length, refl}
use Rattle.std.specs.List.{All, Contains}
use Rattle.std.proofs.Common.{sym, ◌∙◌, ap, subst, arith}
use Rattle.std.proofs.lemmas.List.Elements.{All-contains}
use Rattle.snap_semantics.specs.Table.{who}
use Rattle.snap_runs.specs.Run.{Run, IsValidRun, item}
use Rattle.snap_runs.specs.Update.{executes, PendingUpdate}
use Rattle.snap_runs.proofs.Operations.{executes_who, same_update, shorter}
use Rattle.snap_certify.specs.Certificate.{IsWriteOf, UpdateWrite, WritesAtItem}

module _ (line : ℕ) (r : Run) (ws : List UpdateWrite) (are : All (IsWriteOf line r) ws) where
  -- the process of an item that has one of these writes executes the line there
  pub executed_there : (t : ℕ) → WritesAtItem ws t → executes r (who (item r t)) line t ≡ true
  executed_there t at =
      let w = at.0 in
      let ex = (All-contains (IsWriteOf line r) ws w are at.1).executed in
      subst (λ u. executes r (who (item r u)) line u ≡ true) at.2
      (subst (λ i. executes r i line w.item ≡ true) (executes_who r w.process line w.item ex) ex)

  -- the write of an item at which process i executes the line
  pub record ItsWrite (i t : ℕ) : Type 0 where
    pub word : ℕ
    pub value : ℕ
    pub call : ℕ
    pub is : IsWriteOf line r (record { process = i; word = word; value = value; call = call; item = t })
    pub among : Contains ws (record { process = i; word = word; value = value; call = call; item = t })

  pub its_write : (i t : ℕ) → executes r i line t ≡ true → WritesAtItem ws t → ItsWrite i t
  its_write i t ex at =
      let w = at.0 in
      let is = All-contains (IsWriteOf line r) ws w are at.1 in
      let his : w.process ≡ i =
      executes_who r w.process line w.item is.executed ∙ ap (λ u. who (item r u)) at.2
      ∙ sym (executes_who r i line t ex) in
      let there : w.item ≡ t = at.2 in
      let same : w ≡ record { process = i; word = w.word; value = w.value; call = w.call; item = t } =
      rw (← his, ← there) in
      record {
        word = w.word;
        value = w.value;
        call = w.call;
        is = subst (IsWriteOf line r) same is;
        among = subst (Contains ws) same at.1;
      }

  -- where each item that executes the line has its write, so has an update that executes it
  pub update_write : IsValidRun r →
      ((i t : ℕ) → t < length r.items → executes r i line (suc t) ≡ true → WritesAtItem ws (suc t)) →
      (i word value c t e : ℕ) → PendingUpdate r i word value c e → c < t → t ≤ e → executes r i line t ≡ true →
      (w : UpdateWrite) × Contains ws w × (w.call ≡ c) × (w.item ≡ t)
  update_write fits executions i word value c zero e up low high ex = absurd (omega arith)
  update_write fits executions i word value c (suc t) e up low high ex =
      let w = its_write i (suc t) ex (executions i t (omega arith) ex) in
      let same =
      same_update r fits i w.word w.value word value w.call c (suc t) w.is.called low w.is.updating
      (shorter r i word value c (suc t) e (omega arith) high up) in
      (record { process = i; word = w.word; value = w.value; call = w.call; item = suc t }, w.among, same.0, refl)
