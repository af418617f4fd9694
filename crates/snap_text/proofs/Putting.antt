-- The changes between two texts, put into the old lines, make the new ones, also after lines that are new already.
use Rattle.std.proofs.Common.{◌≡◌, ℕ, ◌+◌, ◌≤◌, List, [], ◌∷◌, ◌++◌, length, take, drop, Bool, true, false}
use Rattle.std.proofs.Common.{if◌then◌else◌, refl, ap, sym, ◌∙◌, subst, append_assoc, append-nil, arith}
use Rattle.std.proofs.lemmas.Grind.{common_steps}
use Rattle.std.proofs.lemmas.Option.{slice_get_past}
use Rattle.std.proofs.lemmas.Slice.Eq.{bytes_eq-Decides}
use Rattle.std.specs.Prelude.{bytes_eq}
use Rattle.std.specs.List.{AllByRecursion}
use Rattle.snap_text.specs.Changes.{Replaced, added_from, changes_from, put_all, removed_from}
use Rattle.snap_text.specs.ChangeLaws.{IsReal}
use Rattle.snap_text.proofs.Places.{dropped, found, one_more, taken}

put_added : (k : ℕ) (lines ys : List (List ℕ)) → put_all (added_from k ys) lines ≡ lines ++ ys
put_added k lines [] = sym (append-nil lines)
put_added k lines (y ∷ ys) = put_added (k + 1) (lines ++ y ∷ []) ys ∙ append_assoc lines (y ∷ []) ys

take_long : (n : ℕ) (zs : List (List ℕ)) → length zs ≤ n → take n zs ≡ zs
take_long n zs short = grind (arith, common_steps, short)

-- lines behind the end are gone already
put_gone : (k : ℕ) (lines xs : List (List ℕ)) → length lines ≤ k → put_all (removed_from k xs) lines ≡ lines
put_gone k lines [] h = refl
put_gone k lines (x ∷ xs) h =
    let more : length lines ≤ k + 1 = omega (arith, h) in
    ap (put_all (removed_from (k + 1) xs)) (take_long k lines h) ∙ put_gone (k + 1) lines xs more

put_removed : (k : ℕ) (front xs : List (List ℕ)) → length front ≡ k → put_all (removed_from k xs) (front ++ xs) ≡ front
put_removed k front [] e = append-nil front
put_removed k front (x ∷ xs) e =
    let short : length front ≤ k + 1 = omega (arith, e) in
    ap (put_all (removed_from (k + 1) xs)) (taken front (x ∷ xs) k e) ∙ put_gone (k + 1) front xs short

-- behind lines that are the new ones already
pub put_from : (k : ℕ) (front xs ys : List (List ℕ)) → length front ≡ k →
    put_all (changes_from k xs ys) (front ++ xs) ≡ front ++ ys
put_from k front [] ys e = ap (put_all (added_from k ys)) (append-nil front) ∙ put_added k front ys
put_from k front (x ∷ xs) [] e = put_removed k front (x ∷ xs) e ∙ sym (append-nil front)
put_from k front (x ∷ xs) (y ∷ ys) e =
    by_case (bytes_eq x y) (λ same. (bytes_eq-Decides x y).0 same)
    (λ z. put_from (k + 1) (front ++ z ∷ []) xs ys (one_more front z k e))
  where
    behind : ((z : List ℕ) → put_all (changes_from (k + 1) xs ys) ((front ++ z ∷ []) ++ xs) ≡ (front ++ z ∷ []) ++ ys) →
        (z : List ℕ) → put_all (changes_from (k + 1) xs ys) (front ++ z ∷ xs) ≡ front ++ z ∷ ys
    behind rest z =
        ap (put_all (changes_from (k + 1) xs ys)) (sym (append_assoc front (z ∷ []) xs)) ∙ rest z
        ∙ append_assoc front (z ∷ []) ys

    by_case : (b : Bool) → (b ≡ true → x ≡ y) →
        ((z : List ℕ) → put_all (changes_from (k + 1) xs ys) ((front ++ z ∷ []) ++ xs) ≡ (front ++ z ∷ []) ++ ys) →
        put_all (if b then changes_from (k + 1) xs ys else Replaced k x y ∷ changes_from (k + 1) xs ys)
        (front ++ x ∷ xs) ≡ front ++ y ∷ ys
    by_case true same rest = behind rest x ∙ ap (λ z. front ++ z ∷ ys) (same refl)
    by_case false same rest =
        ap (λ zs. put_all (changes_from (k + 1) xs ys) (zs ++ y ∷ drop (k + 1) (front ++ x ∷ xs)))
        (taken front (x ∷ xs) k e)
        ∙ ap (λ zs. put_all (changes_from (k + 1) xs ys) (front ++ y ∷ zs)) (dropped front x xs k e) ∙ behind rest y

real_added : (k : ℕ) (olds front ys : List (List ℕ)) → length olds ≤ k → length front ≡ k →
    AllByRecursion (IsReal olds (front ++ ys)) (added_from k ys)
real_added k olds front [] short e = tt
real_added k olds front (y ∷ ys) short e =
    let more : length olds ≤ k + 1 = omega (arith, short) in (
      (slice_get_past olds k short, found front y ys k e),
      subst (λ zs. AllByRecursion (IsReal olds zs) (added_from (k + 1) ys)) (append_assoc front (y ∷ []) ys)
          (real_added (k + 1) olds (front ++ y ∷ []) ys more (one_more front y k e)),
    )

real_removed : (k : ℕ) (front xs news : List (List ℕ)) → length news ≤ k → length front ≡ k →
    AllByRecursion (IsReal (front ++ xs) news) (removed_from k xs)
real_removed k front [] news short e = tt
real_removed k front (x ∷ xs) news short e =
    let more : length news ≤ k + 1 = omega (arith, short) in (
      (found front x xs k e, slice_get_past news k short),
      subst (λ zs. AllByRecursion (IsReal zs news) (removed_from (k + 1) xs)) (append_assoc front (x ∷ []) xs)
          (real_removed (k + 1) (front ++ x ∷ []) xs news more (one_more front x k e)),
    )

-- behind as many lines on both sides
pub real_from : (k : ℕ) (front fore xs ys : List (List ℕ)) → length front ≡ k → length fore ≡ k →
    AllByRecursion (IsReal (front ++ xs) (fore ++ ys)) (changes_from k xs ys)
real_from k front fore [] ys e f =
    let short : length front ≤ k = omega (arith, e) in
    subst (λ zs. AllByRecursion (IsReal zs (fore ++ ys)) (added_from k ys)) (sym (append-nil front))
    (real_added k front fore ys short f)
real_from k front fore (x ∷ xs) [] e f =
    let short : length fore ≤ k = omega (arith, f) in
    subst (λ zs. AllByRecursion (IsReal (front ++ x ∷ xs) zs) (removed_from k (x ∷ xs))) (sym (append-nil fore))
    (real_removed k front (x ∷ xs) fore short e)
real_from k front fore (x ∷ xs) (y ∷ ys) e f =
    by_case (bytes_eq x y) (λ same. (bytes_eq-Decides x y).1 same)
    (real_from (k + 1) (front ++ x ∷ []) (fore ++ y ∷ []) xs ys (one_more front x k e) (one_more fore y k f))
  where
    behind : AllByRecursion (IsReal ((front ++ x ∷ []) ++ xs) ((fore ++ y ∷ []) ++ ys)) (changes_from (k + 1) xs ys) →
        AllByRecursion (IsReal (front ++ x ∷ xs) (fore ++ y ∷ ys)) (changes_from (k + 1) xs ys)
    behind rest =
        subst (λ zs. AllByRecursion (IsReal zs (fore ++ y ∷ ys)) (changes_from (k + 1) xs ys))
        (append_assoc front (x ∷ []) xs)
        (subst (λ zs. AllByRecursion (IsReal ((front ++ x ∷ []) ++ xs) zs) (changes_from (k + 1) xs ys))
        (append_assoc fore (y ∷ []) ys) rest)

    differ : false ≡ true → ⊥
    differ h = absurd cc

    by_case : (b : Bool) → (x ≡ y → b ≡ true) →
        AllByRecursion (IsReal ((front ++ x ∷ []) ++ xs) ((fore ++ y ∷ []) ++ ys)) (changes_from (k + 1) xs ys) →
        AllByRecursion (IsReal (front ++ x ∷ xs) (fore ++ y ∷ ys))
        (if b then changes_from (k + 1) xs ys else Replaced k x y ∷ changes_from (k + 1) xs ys)
    by_case true same rest = behind rest
    by_case false same rest = ((found front x xs k e, found fore y ys k f, λ equal. differ (same equal)), behind rest)
