-- What need not take place now, as the program sees it.
use Rattle.std.proofs.Common.{◌≡◌, ℕ, suc, ◌-◌, ◌<◌, ◌≤◌, List, [], length, get_or}
use Rattle.std.proofs.Common.{refl, sym, ◌∙◌, ap, subst, arith, map}
use Rattle.std.proofs.lemmas.List.{get_or_past}
use Rattle.snap_words.specs.Shape.{IsOneOf}
use Rattle.snap_runs.specs.Operation.{Sets, Sees, Operation}
use Rattle.snap_judge.specs.declared.config.Step.{Step as KeptStep}
use Rattle.snap_judge.specs.declared.config.Step.TheVariants as kept_step
use Rattle.snap_judge.specs.declared.config.Slot.{Slot as KeptSlot}
use Rattle.snap_judge.specs.declared.config.Slot.TheVariants as kept_slot
use Rattle.snap_judge.specs.declared.config.Config.{Config}
use Rattle.snap_judge.specs.declared.operation.Action.{Action as KeptAction}
use Rattle.snap_judge.specs.declared.operation.Action.TheVariants as kept_action
use Rattle.snap_judge.specs.Steps.{Free, Open, Taken}
use Rattle.snap_judge.specs.Kept.{AreSteps, IsSettled, called_at, slot_of, action_of, HasWord, IsStepOf}
use Rattle.snap_judge.specs.Kept.{called_by, step_of_kept}
use Rattle.snap_judge.specs.Choices.{IsAlone, IsUnwanted, NotNowAt, Scans, Updates, Wants}
use Rattle.snap_judge.proofs.SearchSlots.{at, one_open}
use Rattle.snap_judge.proofs.Goes.{slot_at, kept_not_free}

-- What is open as the definitions have it is open as the program keeps it.
open_kept : (steps : List KeptStep) (s : KeptSlot) (o : Operation) → slot_of steps s ≡ Open o →
    (j : ℕ) × (s ≡ kept_slot.Open j) × (called_at steps j ≡ o)
open_kept steps kept_slot.Free o e = absurd (let no : Free ≡ Open o = e in cc)
open_kept steps (kept_slot.Open j) o e = (j, refl, one_open (Open (called_at steps j)) (called_at steps j) o refl e)
open_kept steps (kept_slot.Taken j) o e = absurd (let no : Taken (called_at steps j) ≡ Open o = e in cc)

pub kept_at : (steps : List KeptStep) (slots : List KeptSlot) (q : ℕ) (o : Operation) →
    at (map (slot_of steps) slots) q ≡ Open o →
    (j : ℕ) × (get_or slots q kept_slot.Free ≡ kept_slot.Open j) × (called_at steps j ≡ o)
kept_at steps slots q o e = open_kept steps (get_or slots q kept_slot.Free) o (sym (slot_at steps slots q) ∙ e)

-- a word that is set is there
word_is : (n w : ℕ) (a : KeptAction) (word value : ℕ) → HasWord w a → action_of a ≡ Sets word value → IsOneOf w word
word_is n w (kept_action.Sets word' value') word value has e =
    let both : Sets word' value' ≡ Sets word value = e in let same : word' ≡ word = cc in subst (IsOneOf w) same has
word_is n w (kept_action.Sees view) word value has e = absurd (let no : Sees view.now ≡ Sets word value = e in cc)

step_word : (n w : ℕ) (x : KeptStep) (word value : ℕ) → IsStepOf n w x →
    (called_by (step_of_kept x)).action ≡ Sets word value → IsOneOf w word
step_word n w (kept_step.Calls o) word value is e = word_is n w o.action word value is.1 e
step_word n w (kept_step.Ends i) word value is e = absurd (let no : Sees [] ≡ Sets word value = e in cc)
step_word n w kept_step.Waits word value is e = absurd (let no : Sees [] ≡ Sets word value = e in cc)

pub set_word : (n w : ℕ) (steps : List KeptStep) (j word value : ℕ) → AreSteps n w steps →
    (called_at steps j).action ≡ Sets word value → IsOneOf w word
set_word n w steps j word value are e = step_word n w (get_or steps j kept_step.Waits) word value (are j) e

-- An update waits that is not of the process that ends, has no rival, and is not wanted.
pub update_waits : (steps : List KeptStep) (c : Config) (ending p j word value : ℕ) →
    AreSteps (length c.slots.items) (length c.values.items) steps →
    get_or c.slots.items p kept_slot.Free ≡ kept_slot.Open j → (called_at steps j).action ≡ Sets word value →
    (p ≡ ending → ⊥) → IsAlone steps c p word → IsUnwanted steps c word value → NotNowAt steps c ending p
update_waits steps c ending p j word value are is act apart alone unwanted j' is' =
    let index : j ≡ j' = cc in
    Updates word value (subst (λ (m : ℕ). (called_at steps m).action ≡ Sets word value) index act)
    (λ e. apart (let same : p ≡ suc ending - 1 = e in omega (arith, same)))
    (record {
      is_word = set_word (length c.slots.items) (length c.values.items) steps j word value are act;
      alone = λ q o word' value' at_q act' same.
          (let k = kept_at steps c.slots.items q o at_q in
          let act'' : (called_at steps k.0).action ≡ Sets word' value' = ap (λ (y : Operation). y.action) k.2 ∙ act' in
          let w' = set_word (length c.slots.items) (length c.values.items) steps k.0 word' value' are act'' in
          let w = set_word (length c.slots.items) (length c.values.items) steps j word value are act in
          let lo : 0 < word = w.0 in let lo' : 0 < word' = w'.0 in
          let one : word' ≡ word = omega (arith, lo, lo', same) in
          alone q k.0 value' k.1 (subst (λ (u : ℕ). (called_at steps k.0).action ≡ Sets u value') one act''));
      unwanted = λ q s at_q wants.
          (let k = kept_at steps c.slots.items q s at_q in
          unwanted q k.0 k.1 (subst (Wants (word - 1) value) (sym k.2) wants));
    })

-- A scan waits, since each that could take place has.
pub scan_waits : (steps : List KeptStep) (c : Config) (ending p : ℕ) → IsSettled steps c →
    ((j : ℕ) → get_or c.slots.items p kept_slot.Free ≡ kept_slot.Open j →
    (view : List ℕ) × ((called_at steps j).action ≡ Sees view)) → NotNowAt steps c ending p
scan_waits steps c ending p settled scans j is =
    let scan = scans j is in
    Scans scan.0 scan.1 (λ same. settled p j is (scan.1 ∙ ap Sees same))

-- Where nothing is open, nothing needs to take place.
pub past_waits : (steps : List KeptStep) (c : Config) (ending p : ℕ) → length c.slots.items ≤ p →
    NotNowAt steps c ending p
past_waits steps c ending p past j is =
    absurd (kept_not_free (get_or c.slots.items p kept_slot.Free) j is (get_or_past c.slots.items p kept_slot.Free past))
