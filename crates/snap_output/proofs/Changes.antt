-- Changed lines between two reports that are put together from parts are those of the parts, for traces of runs.
use Rattle.std.proofs.Common.{◌≡◌, ℕ, List, [], ◌∷◌, ◌++◌, length, refl, sym, append_assoc, arith}
use Rattle.std.proofs.lemmas.Slice.Eq.{bytes_eq-Decides}
use Rattle.snap_text.specs.Changes.{Change, put_all, replaced_text, text_between}
use Rattle.snap_text.proofs.Printing.{one_replaced}

-- behind as many lines on both sides
pub apart : (xs ys more less : List (List ℕ)) → length xs ≡ length ys →
    text_between (xs ++ more) (ys ++ less) ≡ text_between xs ys ++ text_between more less
apart [] [] more less e = refl
apart (x ∷ xs) (y ∷ ys) more less e =
    rw (one_replaced (xs ++ more) (ys ++ less) x y, one_replaced xs ys x y, apart xs ys more less (omega (arith, e)))
    (sym (append_assoc (replaced_text x y) (text_between xs ys) (text_between more less)))
apart _ _ more less e = absurd (omega (arith, e))

same_line : (x : List ℕ) → replaced_text x x ≡ []
same_line x = rw ((bytes_eq-Decides x x).1 refl) refl

-- nothing changed
pub same : (xs : List (List ℕ)) → text_between xs xs ≡ []
same [] = refl
same (x ∷ xs) = rw (one_replaced xs xs x x, same_line x) (same xs)

-- lines that came behind others
pub came : (xs ys : List (List ℕ)) → text_between xs (xs ++ ys) ≡ text_between [] ys
came [] ys = refl
came (x ∷ xs) ys = rw (one_replaced xs (xs ++ ys) x x, same_line x) (came xs ys)

-- changes after others
pub put_after : (cs ds : List Change) (lines : List (List ℕ)) → put_all (cs ++ ds) lines ≡ put_all ds (put_all cs lines)
put_after [] ds lines = refl
put_after (c ∷ cs) ds lines = put_after cs ds _
