-- What a line names is declared, and so it is a name.
use Rattle.std.proofs.Common.{◌≡◌, ◌||◌, ◌++◌, Bool, true, false, List, [], ◌∷◌, Some, None, bytes_eq, if◌then◌else◌}
use Rattle.std.proofs.Common.{refl, sym, subst}
use Rattle.std.specs.Cmp.Lexicographic.{same_text}
use Rattle.std.specs.List.{AllByRecursion}
use Rattle.snap_semantics.specs.declared.text.Sort.{Sort}
use Rattle.snap_semantics.specs.declared.text.Sort.TheVariants as sort
use Rattle.snap_semantics.specs.IsListing.{IsName}
use Rattle.snap_semantics.specs.Listing.{all_names}
use Rattle.snap_semantics.specs.RightUses.{IsRight}
use Rattle.snap_semantics.specs.Source.{Name, Source}
use Rattle.snap_semantics.specs.Uses.{Use, Named, is_among, sort_of}
use Rattle.snap_listing.proofs.AgainTerms.{IsNamed, Names}
use Rattle.snap_listing.proofs.Alls.{all_first, all_rest}

sort_by : (L : Type 0) (a b c d : Bool) (k : Sort) → (a ≡ true → L) → (b ≡ true → L) → (c ≡ true → L) → (d ≡ true → L) →
    (if a then Some sort.Scalar else if b then Some sort.Row else if c then Some sort.Words
    else if d then Some sort.View else None) ≡ Some k → L
sort_by L true b c d k f g h i e = f refl
sort_by L false true c d k f g h i e = g refl
sort_by L false false true d k f g h i e = h refl
sort_by L false false false true k f g h i e = i refl
sort_by L false false false false k f g h i e = absurd cc

name_by : (x y : Name) (ys : List Name) (b : Bool) → bytes_eq x y ≡ b → IsName y →
    ((is_among x ys ≡ true) → IsName x) → (b || is_among x ys) ≡ true → IsName x
name_by x y ys true h n g e = subst IsName (sym (same_text x y (sym h))) n
name_by x y ys false h n g e = g e

among_name : (x : Name) (ys : List Name) → AllByRecursion IsName ys → is_among x ys ≡ true → IsName x
among_name x [] h e = absurd cc
among_name x (y ∷ ys) h e = name_by x y ys (bytes_eq x y) refl h.0 (among_name x ys h.1) e

-- what is declared is a name
declared_name : (s : Source) (wanted : Sort) (x : Name) → AllByRecursion IsName (all_names s) →
    sort_of s x ≡ Some wanted → IsName x
declared_name s wanted x all e =
    let rows = all_rest IsName s.scalars (s.rows ++ (s.words ++ s.views)) all in
    let words = all_rest IsName s.rows (s.words ++ s.views) rows in
    sort_by (IsName x) (is_among x s.scalars) (is_among x s.rows) (is_among x s.words) (is_among x s.views) wanted
    (among_name x s.scalars (all_first IsName s.scalars (s.rows ++ (s.words ++ s.views)) all))
    (among_name x s.rows (all_first IsName s.rows (s.words ++ s.views) rows))
    (among_name x s.words (all_first IsName s.words s.views words))
    (among_name x s.views (all_rest IsName s.words s.views words)) e

use_named : (s : Source) (u : Use) → AllByRecursion IsName (all_names s) → IsRight s u → IsNamed u
use_named s (Named wanted x) all e = declared_name s wanted x all e
use_named s _ all e = tt

pub uses_named : (s : Source) (us : List Use) → AllByRecursion IsName (all_names s) →
    AllByRecursion (IsRight s) us → Names us
uses_named s [] all h = tt
uses_named s (u ∷ us) all h = (use_named s u all h.0, uses_named s us all h.1)
