-- Each operation of a run has a call among the items, and two operations with the same call are one.
use Rattle.std.proofs.Common.{◌≡◌, ℕ, ◌<◌, ◌≤◌, List, length, Option, Some, None, sym, ◌∙◌, ap, subst, arith}
use Rattle.snap_runs.proofs.Common.{Call, Op, Outcome, Answered, Run, item, outcome}
use Rattle.snap_semantics.specs.declared.process.Op.TheVariants as op
use Rattle.snap_runs.specs.Operation.{Action, Sets, Sees, Operation, TookPlace, IsOperation}
use Rattle.snap_runs.proofs.Operations.{same_end, same_answer}

module _ (r : Run) where
  -- what it was called for
  abbrev asked_for : Action → Op
  asked_for (Sets word value) = op.Update word value
  asked_for (Sees view) = op.Scan

  asks : (a : Action) (i c : ℕ) (end : Option ℕ) → TookPlace r i c end a → item r c ≡ Call i (asked_for a)
  asks (Sets word value) i c (Some e) took = took.0.call
  asks (Sets word value) i c None took = took.0.call
  asks (Sees view) i c (Some e) took = took.scan.starts.0
  asks (Sees view) i c None took = absurd took

  same_scan : (i c : ℕ) (view view' : List ℕ) (end end' : Option ℕ) → TookPlace r i c end (Sees view) →
      TookPlace r i c end' (Sees view') → (end ≡ end') × (view ≡ view')
  same_scan i c view view' (Some e) (Some e') took took' =
      let ends : e ≡ e' = same_answer r i c e e' view view' took took' in
      let out : ◌≡◌ {A = Outcome} (Answered view) (Answered view') =
      sym took.ends.1 ∙ ap (outcome r) ends ∙ took'.ends.1 in
      (ap (λ y. Some y) ends, cc)
  same_scan i c view view' None end' took took' = absurd took
  same_scan i c view view' (Some e) None took took' = absurd took'

  same_call : (a a' : Action) (i i' c c' : ℕ) (end end' : Option ℕ) →
      TookPlace r i c end a → TookPlace r i' c' end' a' → Call i (asked_for a) ≡ Call i' (asked_for a') → c ≡ c' →
      ◌≡◌ {A = Operation} (record { process = i; call = c; end = end; action = a })
      (record { process = i'; call = c'; end = end'; action = a' })
  same_call (Sets word value) (Sets word' value') i i' c c' end end' took took' call same =
      let his : i' ≡ i = cc in
      let the_word : word' ≡ word = cc in
      let the_value : value' ≡ value = cc in
      let its : TookPlace r i c end' (Sets word value) =
      subst (λ (A : Type 0). A)
      (λ k. TookPlace r (his k) (sym same k) end' (Sets (the_word k) (the_value k))) took' in
      let ends = same_end r i word value c end end' took its in cc
  same_call (Sees view) (Sees view') i i' c c' end end' took took' call same =
      let his : i' ≡ i = cc in
      let its : TookPlace r i c end' (Sees view') =
      subst (λ (A : Type 0). A) (λ k. TookPlace r (his k) (sym same k) end' (Sees view')) took' in
      let seen = same_scan i c view view' end end' took its in cc
  same_call _ _ i i' c c' end end' took took' call same = absurd (cc)

  pub one_operation : (o o' : Operation) → IsOperation r o → IsOperation r o' → o.call ≡ o'.call → o ≡ o'
  one_operation o o' took took' same =
      same_call o.action o'.action o.process o'.process o.call o'.call o.end o'.end took took'
      (sym (asks o.action o.process o.call o.end took) ∙ ap (item r) same
      ∙ asks o'.action o'.process o'.call o'.end took') same

  -- an item of the run called it
  pub record Called (i c : ℕ) : Type 0 where
    pub asked : Op
    pub first : 0 < c
    pub last : c ≤ length r.items
    pub is : item r c ≡ Call i asked

  called_by : (a : Action) (i c : ℕ) (end : Option ℕ) → TookPlace r i c end a → Called i c
  called_by (Sets word value) i c (Some e) took =
      record { asked = op.Update word value; first = took.0.first; last = omega arith; is = took.0.call }
  called_by (Sets word value) i c None took =
      record { asked = op.Update word value; first = took.0.first; last = took.0.order; is = took.0.call }
  called_by (Sees view) i c (Some e) took =
      record { asked = op.Scan; first = took.scan.first; last = omega arith; is = took.scan.starts.0 }
  called_by (Sees view) i c None took = absurd took

  pub has_call : (o : Operation) → IsOperation r o → Called o.process o.call
  has_call o took = called_by o.action o.process o.call o.end took
