-- The values of the words are set one after another to those after an item, and a `Change` is noted where a value
-- differs.
use Rattle.std.proofs.Common.{Option, Some, None, ◌≡◌, ℕ, zero, suc, ◌+◌, ◌-◌, ◌<◌, ◌≤◌, List, [], ◌∷◌, ◌++◌, length}
use Rattle.std.proofs.Common.{take, drop, get_or, map, slice_set, if◌then◌else◌}
use Rattle.std.proofs.Common.{refl, sym, ap, ◌∙◌, arith, append_assoc}
use Rattle.std.proofs.lemmas.Bool.{lt-ltb}
use Rattle.std.proofs.lemmas.List.{take_all, length-append, length-drop, length-take-le}
use Rattle.std.specs.Prelude.{option_map, slice_get}
use Rattle.snap_words.specs.Word.{Word}
use Rattle.snap_words.specs.declared.address.Bank.TheVariants as bank
use Rattle.snap_semantics.specs.Readers.{contents, WordContents}
use Rattle.snap_semantics.specs.State.{Memory}
use Rattle.snap_record.specs.History.{change_at, changes_to}
use Rattle.snap_record.specs.declared.history.Change.{Change}

-- a value that is set again
pub value_again : (xs : List ℕ) (k v : ℕ) → get_or xs k 0 ≡ v → k < length xs → slice_set xs k v ≡ xs
value_again [] k v e lt = absurd (omega (arith, lt))
value_again (x ∷ xs) zero v e lt = ap (λ y. y ∷ xs) (sym e)
value_again (x ∷ xs) (suc k) v e lt = ap (λ l. x ∷ l) (value_again xs k v e (omega (arith, lt)))

-- a place that is not yet set
pub value_there : (old new : List ℕ) (k : ℕ) → k < length old → length old ≡ length new →
    get_or (take k new ++ drop k old) k 0 ≡ get_or old k 0
value_there [] new k lt len = absurd (omega (arith, lt))
value_there (x ∷ old) [] k lt len = absurd (omega (arith, len))
value_there (x ∷ old) (y ∷ new) zero lt len = refl
value_there (x ∷ old) (y ∷ new) (suc k) lt len = value_there old new k (omega (arith, lt)) (omega (arith, len))

-- once a place is set, one more is new
pub value_set : (old new : List ℕ) (k : ℕ) → k < length old → length old ≡ length new →
    slice_set (take k new ++ drop k old) k (get_or new k 0) ≡ take (suc k) new ++ drop (suc k) old
value_set [] new k lt len = absurd (omega (arith, lt))
value_set (x ∷ old) [] k lt len = absurd (omega (arith, len))
value_set (x ∷ old) (y ∷ new) zero lt len = refl
value_set (x ∷ old) (y ∷ new) (suc k) lt len =
    ap (λ l. y ∷ l) (value_set old new k (omega (arith, lt)) (omega (arith, len)))

-- the changes from a place on
pub changes_from : (t p k : ℕ) (old new : List ℕ) → k < length old → length old ≡ length new →
    changes_to t p (drop k old) (drop k new)
    ≡ change_at t p (get_or old k 0) (get_or new k 0) ++ changes_to t (p + 1) (drop (suc k) old) (drop (suc k) new)
changes_from t p k [] new lt len = absurd (omega (arith, lt))
changes_from t p k (x ∷ old) [] lt len = absurd (omega (arith, len))
changes_from t p zero (x ∷ old) (y ∷ new) lt len = refl
changes_from t p (suc k) (x ∷ old) (y ∷ new) lt len =
    changes_from t p k old new (omega (arith, lt)) (omega (arith, len))

module _ (t : ℕ) (old new : List ℕ) (len : length old ≡ length new) where
  -- the values up to place k, and the changes noted, of which those from there on are to come
  pub record Noted (k : ℕ) (now : List ℕ) (done start : List Change) : Type 0 where
    pub now_is : now ≡ take k new ++ drop k old
    pub changes_are : done ++ changes_to t k (drop k old) (drop k new) ≡ start ++ changes_to t 0 old new

  -- one place more
  pub one_noted : (k v : ℕ) (now now' : List ℕ) (done done' start : List Change) → k < length old → v ≡ get_or new k 0 →
      now' ≡ slice_set now k v → done' ≡ done ++ change_at t k (get_or now k 0) v → Noted k now done start →
      Noted (k + 1) now' done' start
  one_noted k v now now' done done' start lt is set more h =
      let there : get_or now k 0 ≡ get_or old k 0 = ap (λ l. get_or l k 0) h.now_is ∙ value_there old new k lt len in
      let next : suc k ≡ k + 1 = omega arith in
      let rest = changes_to t (k + 1) (drop (suc k) old) (drop (suc k) new) in
      record {
        now_is =
            set ∙ ap (λ l. slice_set l k v) h.now_is
            ∙ ap (slice_set (take k new ++ drop k old) k) is ∙ value_set old new k lt len
            ∙ ap (λ m. take m new ++ drop m old) next;
        changes_are =
            ap (λ m. done' ++ changes_to t (k + 1) (drop m old) (drop m new)) (sym next)
            ∙ ap (λ d. d ++ rest)
            (more ∙ ap (λ x. done ++ change_at t k x v) there ∙ ap (λ y. done ++ change_at t k (get_or old k 0) y) is)
            ∙ append_assoc done (change_at t k (get_or old k 0) (get_or new k 0)) rest
            ∙ ap (λ c. done ++ c) (sym (changes_from t k k old new lt len))
            ∙ h.changes_are;
      }

  -- behind the end nothing is left
  drop_end : {A : Type 0} (xs : List A) (k : ℕ) → length xs ≤ k → drop k xs ≡ []
  drop_end [] zero h = refl
  drop_end [] (suc k) h = refl
  drop_end (x ∷ xs) zero h = absurd (omega (arith, h))
  drop_end (x ∷ xs) (suc k) h = drop_end xs k (omega (arith, h))

  -- nothing more
  append_none : {A : Type 0} (xs : List A) → xs ++ [] ≡ xs
  append_none [] = refl
  append_none (x ∷ xs) = ap (λ l. x ∷ l) (append_none xs)

  -- all places
  pub all_noted : (k : ℕ) (now : List ℕ) (done start : List Change) → length new ≤ k → Noted k now done start →
      (now ≡ new) × (done ≡ start ++ changes_to t 0 old new)
  all_noted k now done start all h =
      let gone : drop k old ≡ [] = drop_end old k (omega (arith, len, all)) in (
        h.now_is ∙ ap (λ l. take k new ++ l) gone ∙ append_none (take k new) ∙ take_all k new all,
        sym (append_none done) ∙ ap (λ l. done ++ changes_to t k l (drop k new)) (sym gone) ∙ h.changes_are,
      )

  -- there are as many values as before
  pub noted_length : (k : ℕ) (now : List ℕ) (done start : List Change) → k ≤ length new →
      Noted k now done start → length now ≡ length old
  noted_length k now done start le h =
      let taken = length-take-le k new le in
      let left = length-drop k old in
      ap length h.now_is ∙ length-append (take k new) (drop k old)
      ∙ (let e : length (take k new) + length (drop k old) ≡ length old = omega (arith, taken, left, le, len) in e)

-- the datum of the word at a place
datum_there : (words : List Word) (k : ℕ) (w : Word) → slice_get words k ≡ Some w →
    w.datum ≡ get_or (map (λ (x : Word). x.datum) words) k 0
datum_there [] k w h = absurd cc
datum_there (x ∷ words) zero w h = let same : w ≡ x = cc in ap (λ (y : Word). y.datum) same
datum_there (x ∷ words) (suc k) w h = datum_there words k w h

same_word : (o : Option Word) (w : Word) → option_map (λ x. WordContents x) o ≡ Some (WordContents w) → o ≡ Some w
same_word (Some x) w h = cc
same_word None w h = absurd cc

-- what is read of register R with index i, which counts from 1, is the word at place k
read_word : (m : Memory) (i k : ℕ) → i ≡ k + 1 →
    contents m bank.R i 0 ≡ option_map (λ x. WordContents x) (slice_get m.words k)
read_word m i k at =
    let place : i - 1 ≡ k = omega (arith, at) in
    ap (λ b. option_map (λ x. WordContents x) (if b then slice_get m.words (i - 1) else None))
    (lt-ltb 0 i (omega (arith, at)))
    ∙ ap (λ j. option_map (λ x. WordContents x) (slice_get m.words j)) place

pub datum_read : (m : Memory) (i k : ℕ) (w : Word) → i ≡ k + 1 → contents m bank.R i 0 ≡ Some (WordContents w) →
    w.datum ≡ get_or (map (λ (x : Word). x.datum) m.words) k 0
datum_read m i k w at h = datum_there m.words k w (same_word (slice_get m.words k) w (sym (read_word m i k at) ∙ h))
