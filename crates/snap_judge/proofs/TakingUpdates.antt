-- An update that is taken, and the scans behind it.
use Rattle.std.proofs.Common.{◌≡◌, ℕ, ◌-◌, List, [], ◌∷◌, ◌++◌, length, get_or, refl, sym, ◌∙◌, ap, subst, arith}
use Rattle.std.proofs.Math.ListN.{set}
use Rattle.std.proofs.lemmas.List.{length-append}
use Rattle.snap_words.specs.Shape.{IsOneOf}
use Rattle.snap_runs.specs.Operation.{Sets}
use Rattle.snap_runs.specs.Linearization.{Allows, after}
use Rattle.snap_judge.specs.declared.config.Step.{Step as KeptStep}
use Rattle.snap_judge.specs.declared.config.Slot.TheVariants as kept_slot
use Rattle.snap_judge.specs.declared.config.Config.{Config}
use Rattle.snap_judge.specs.Kept.{GoesOn, IsConfig, called_at}
use Rattle.snap_judge.specs.Choices.{HasTaken}
use Rattle.snap_judge.proofs.Goes.{grown, still_config, taken_can, took}

pub has_taken : (steps : List KeptStep) (order order' : List ℕ) (c mid c' : Config) (p j word value : ℕ) →
    mid.position ≡ c.position → mid.values.items ≡ set c.values.items (word - 1) value →
    mid.slots.items ≡ set c.slots.items p (kept_slot.Taken j) → IsOneOf (length c.values.items) word →
    get_or c.slots.items p kept_slot.Free ≡ kept_slot.Open j → (called_at steps j).action ≡ Sets word value →
    IsConfig steps c → GoesOn steps (order ++ j ∷ []) mid order' c' → HasTaken steps p order c order' c'
has_taken steps order order' c mid c' p j word value position values slots is_word is act fits goes = record {
  config = λ k. goes.config (mid_config k);
  reached = λ k r. goes.reached (mid_config k)
      (took steps order c mid p j position values' slots k is (subst (Allows c.values.items) (sym act) is_word) r);
  explained = λ k can. let both : kept_slot.Open can.0 ≡ kept_slot.Open j = sym can.1 ∙ is in
      let index : can.0 ≡ j = cc in goes.explained (mid_config k)
      (taken_can steps order c mid p j position values' slots k is (rw index at can.2));
  grows = grown order (order ++ j ∷ []) order' (j ∷ [], refl) goes.grows;
  longer = (let whole : length order' ≡ length ((order ++ j ∷ []) ++ goes.grows.0) = ap length goes.grows.1 in
      let last = length-append (order ++ j ∷ []) goes.grows.0 in
      let first = length-append order (j ∷ []) in omega (arith, whole, last, first));
}
  where
    values' : mid.values.items ≡ after c.values.items (called_at steps j).action
    values' = values ∙ sym (ap (after c.values.items) act)

    mid_config : IsConfig steps c → IsConfig steps mid
    mid_config k = still_config steps order c mid p j position values' slots k is
