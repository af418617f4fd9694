-- The printed text of changes between two texts: a line added at the
-- end, one removed, or one replaced, and then the other changes.
use Rattle.std.proofs.Common.{◌≡◌, ℕ, ◌+◌, List, [], ◌∷◌, ◌++◌, Bool, true, false}
use Rattle.std.proofs.Common.{if◌then◌else◌, refl, ap, sym, ◌∙◌, append_assoc}
use Rattle.std.specs.Prelude.{bytes_eq, codes}
use Rattle.snap_text.specs.Changes.{Replaced, added_from, change_text, changes_from, changes_text, line_with}
use Rattle.snap_text.specs.Changes.{removed_from, replaced_text, text_between}

added_anywhere : (j k : ℕ) (ys : List (List ℕ)) → changes_text (added_from j ys) ≡ changes_text (added_from k ys)
added_anywhere j k [] = refl
added_anywhere j k (y ∷ ys) = ap (λ t. line_with (codes "+ ") y ++ t) (added_anywhere (j + 1) (k + 1) ys)

removed_anywhere : (j k : ℕ) (xs : List (List ℕ)) → changes_text (removed_from j xs) ≡ changes_text (removed_from k xs)
removed_anywhere j k [] = refl
removed_anywhere j k (x ∷ xs) = ap (λ t. line_with (codes "- ") x ++ t) (removed_anywhere (j + 1) (k + 1) xs)

-- the text does not say at which place it begins
anywhere : (j k : ℕ) (xs ys : List (List ℕ)) → changes_text (changes_from j xs ys) ≡ changes_text (changes_from k xs ys)
anywhere j k [] ys = added_anywhere j k ys
anywhere j k (x ∷ xs) [] = removed_anywhere j k (x ∷ xs)
anywhere j k (x ∷ xs) (y ∷ ys) = by_case (bytes_eq x y) (anywhere (j + 1) (k + 1) xs ys) where
  by_case : (b : Bool) → changes_text (changes_from (j + 1) xs ys) ≡ changes_text (changes_from (k + 1) xs ys) →
      changes_text (if b then changes_from (j + 1) xs ys else Replaced j x y ∷ changes_from (j + 1) xs ys)
      ≡ changes_text (if b then changes_from (k + 1) xs ys else Replaced k x y ∷ changes_from (k + 1) xs ys)
  by_case true behind = behind
  by_case false behind = ap (λ t. change_text (Replaced j x y) ++ t) behind

-- a line more at the end, or one less
pub one_added : (ys : List (List ℕ)) (y : List ℕ) →
    text_between [] (y ∷ ys) ≡ line_with (codes "+ ") y ++ text_between [] ys
one_added ys y = ap (λ t. line_with (codes "+ ") y ++ t) (added_anywhere 1 0 ys)

pub one_removed : (xs : List (List ℕ)) (x : List ℕ) →
    text_between (x ∷ xs) [] ≡ line_with (codes "- ") x ++ text_between xs []
one_removed [] x = refl
one_removed (z ∷ xs) x = ap (λ t. line_with (codes "- ") x ++ t) (removed_anywhere 1 0 (z ∷ xs))

-- a line in the place of another, or of itself
pub one_replaced : (xs ys : List (List ℕ)) (x y : List ℕ) →
    text_between (x ∷ xs) (y ∷ ys) ≡ replaced_text x y ++ text_between xs ys
one_replaced xs ys x y = by_case (bytes_eq x y) where
  by_case : (b : Bool) → changes_text (if b then changes_from 1 xs ys else Replaced 0 x y ∷ changes_from 1 xs ys)
      ≡ (if b then [] else line_with (codes "- ") x ++ line_with (codes "+ ") y) ++ text_between xs ys
  by_case true = anywhere 1 0 xs ys
  by_case false = ap (λ t. change_text (Replaced 0 x y) ++ t) (anywhere 1 0 xs ys)

-- what was added to a text, before what is still to be added
pub then_added : (old now t whole said rest : List ℕ) → now ≡ old ++ said → whole ≡ said ++ rest →
    t ≡ rest → now ++ t ≡ old ++ whole
then_added old now t whole said rest e f g =
    ap (λ u. u ++ t) e ∙ ap (λ u. (old ++ said) ++ u) g ∙ append_assoc old said rest ∙ ap (λ u. old ++ u) (sym f)
