-- A `Record` does the first items of a list one after another: its run has then these items more (`with_items`).
use Rattle.std.proofs.Common.{◌≡◌, ℕ, zero, suc, ◌+◌, ◌<◌, ◌≤◌, List, [], ◌∷◌, ◌++◌, length}
use Rattle.std.proofs.Common.{take, drop, sym, ap, ◌∙◌, append_assoc, arith}
use Rattle.std.proofs.lemmas.List.{take_all}
use Rattle.snap_semantics.specs.declared.process.Item.{Item}
use Rattle.snap_runs.specs.Run.{Run}
use Rattle.snap_record.specs.Longer.{with_item, with_items}

-- of these items, of which so many are asked for, the first k are done, and the others are left
pub record Doing (r : Run) (xs : List Item) (count k : ℕ) (now : Run) (left : List Item) : Type 0 where
  pub few : k ≤ count
  pub done : now ≡ with_items r (take k xs)
  pub left_are : left ≡ drop k xs

-- the first k items and the next one
next_taken : (xs : List Item) (k : ℕ) (x : Item) (rest : List Item) → x ∷ rest ≡ drop k xs →
    (take k xs ++ x ∷ [] ≡ take (k + 1) xs) × (rest ≡ drop (k + 1) xs)
next_taken xs k x rest h =
    (let e : suc k ≡ k + 1 =
    omega arith in let t = by_place xs k h in (t.0 ∙ ap (λ m. take m xs) e, t.1 ∙ ap (λ m. drop m xs) e))
  where
    by_place : (xs : List Item) (k : ℕ) → x ∷ rest ≡ drop k xs →
        (take k xs ++ x ∷ [] ≡ take (suc k) xs) × (rest ≡ drop (suc k) xs)
    by_place [] zero h = absurd cc
    by_place [] (suc k) h = absurd cc
    by_place (y ∷ ys) zero h = (cc, cc)
    by_place (y ∷ ys) (suc k) h = let t = by_place ys k h in (ap (λ l. y ∷ l) t.0, t.1)

-- one more is done
pub one_done : (r : Run) (xs : List Item) (count k : ℕ) (now now' : Run) (left left' : List Item) (x : Item) →
    Doing r xs count k now left → k < count → left ≡ x ∷ left' → now' ≡ with_item now x →
    Doing r xs count (k + 1) now' left'
one_done r xs count k now now' left left' x h lt next is =
    let t = next_taken xs k x left' (sym next ∙ h.left_are) in
    record {
      few = omega (arith, lt);
      done =
          is ∙ ap (λ (y : Run). with_item y x) h.done
          ∙ ap (λ (l : List Item). let made : Run = record { source = r.source; shape = r.shape; items = l } in made)
          (append_assoc r.items (take k xs) (x ∷ []) ∙ ap (λ l. r.items ++ l) t.0);
      left_are = t.1;
    }

-- none is left
nothing_left : (xs : List Item) (k : ℕ) → [] ≡ drop k xs → length xs ≤ k
nothing_left [] k h = omega arith
nothing_left (x ∷ xs) zero h = absurd cc
nothing_left (x ∷ xs) (suc k) h = let e = nothing_left xs k h in omega (arith, e)

-- all are done where none is left
pub all_done : (r : Run) (xs : List Item) (count k : ℕ) (now : Run) (left : List Item) → Doing r xs count k now left →
    left ≡ [] → now ≡ with_items r (take count xs)
all_done r xs count k now left h none =
    let few = nothing_left xs k (sym none ∙ h.left_are) in
    let le = h.few in
    h.done ∙ ap (with_items r) (take_all k xs few ∙ sym (take_all count xs (omega (arith, few, le))))
