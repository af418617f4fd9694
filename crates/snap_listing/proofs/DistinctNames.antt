-- Names of a listing of which none stands twice (`AreDistinct`), and one name more that is none of them.
use Rattle.std.proofs.Common.{◌≡◌, ℕ, Bool, true, false, List, [], ◌∷◌, ◌++◌, bytes_eq, refl, sym}
use Rattle.std.proofs.lemmas.Bool.{or_parts, or_from}
use Rattle.std.proofs.lemmas.Slice.Eq.{bytes_eq-Decides}
use Rattle.std.specs.Cmp.Lexicographic.{same_text}
use Rattle.snap_semantics.specs.IsListing.{AreDistinct}
use Rattle.snap_semantics.specs.Source.{Name}
use Rattle.snap_semantics.specs.Uses.{is_among}

-- names are compared alike from both sides
pub other_by : (x y : List ℕ) (b : Bool) → bytes_eq x y ≡ b → bytes_eq y x ≡ false → b ≡ false
other_by x y true h e =
    let p : y ≡ x = sym (same_text x y (sym h)) in
    let q : bytes_eq y x ≡ true = (bytes_eq-Decides y x).1 p in
    cc (q, e)
other_by x y false h e = refl

among_snoc : (x w : Name) (xs : List Name) → is_among x xs ≡ false → bytes_eq x w ≡ false →
    is_among x (xs ++ w ∷ []) ≡ false
among_snoc x w [] e f = or_from (bytes_eq x w) false f refl
among_snoc x w (y ∷ ys) e f =
    let apart = or_parts (bytes_eq x y) (is_among x ys) e in
    or_from (bytes_eq x y) (is_among x (ys ++ w ∷ [])) apart.0 (among_snoc x w ys apart.1 f)

-- one name more, which none of them is
pub distinct_snoc : (xs : List Name) (w : Name) → AreDistinct xs → is_among w xs ≡ false → AreDistinct (xs ++ w ∷ [])
distinct_snoc [] w d e = (refl, tt)
distinct_snoc (x ∷ xs) w d e =
    let apart = or_parts (bytes_eq w x) (is_among w xs) e in
    (among_snoc x w xs d.0 (other_by x w (bytes_eq x w) refl apart.0), distinct_snoc xs w d.1 apart.1)
