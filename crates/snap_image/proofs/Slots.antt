-- The slots of an image: the place of a name among the names of its sort, which are declared once.
use Rattle.std.proofs.Common.{◌≡◌, ℕ, ◌+◌, ◌≤◌, zero, suc, Bool, true, false, ◌||◌, List, [], ◌∷◌, ◌++◌, length}
use Rattle.std.proofs.Common.{Option, Some, None, bytes_eq, if◌then◌else◌, refl, sym, ap, ◌∙◌, subst, arith}
use Rattle.std.specs.Cmp.Lexicographic.{same_text}
use Rattle.std.proofs.lemmas.Bool.{or_parts, or_left, or_right}
use Rattle.std.proofs.lemmas.List.Folds.{list_any-append}
use Rattle.std.proofs.lemmas.Slice.Eq.{bytes_eq-Decides}
use Rattle.std.specs.List.{slice_get}
use Rattle.snap_semantics.specs.declared.text.Sort.{Sort}
use Rattle.snap_semantics.specs.declared.text.Sort.TheVariants as sort
use Rattle.snap_image.specs.Image.{slot}
use Rattle.snap_semantics.specs.IsListing.{AreDistinct}
use Rattle.snap_semantics.specs.Listing.{all_names}
use Rattle.snap_semantics.specs.Source.{Name, Source}
use Rattle.snap_semantics.specs.Uses.{is_among}
use Rattle.snap_image.proofs.SaidForms.{Slots}

pub same_name : (x y : Name) → bytes_eq x y ≡ true → x ≡ y
same_name x y e = same_text x y (sym e)

pub name_same : (x y : Name) → x ≡ y → bytes_eq x y ≡ true
name_same x y e = (bytes_eq-Decides x y).1 e

some_is : (x y : Name) → (let o : Option Name = Some x in o) ≡ Some y → x ≡ y
some_is x y e = cc

at_among : (xs : List Name) (b : ℕ) (x : Name) → slice_get xs b ≡ Some x → is_among x xs ≡ true
at_among [] b x e = absurd cc
at_among (y ∷ ys) zero x e = or_left (bytes_eq x y) (is_among x ys) (name_same x y (sym (some_is y x e)))
at_among (y ∷ ys) (suc b) x e = or_right (bytes_eq x y) (is_among x ys) (at_among ys b x e)

-- a name that is among these is not one that is not
other : (x y : Name) (ys : List Name) (q : Bool) → bytes_eq x y ≡ q → is_among y ys ≡ false →
    is_among x ys ≡ true → q ≡ false
other x y ys true p f t =
    let e : y ≡ x = sym (same_name x y p) in
    let g : is_among x ys ≡ false = subst (λ (z : Name). is_among z ys ≡ false) e f in
    absurd cc
other x y ys false p f t = refl

slot_back : (xs : List Name) → AreDistinct xs → (b : ℕ) (x : Name) → slice_get xs b ≡ Some x → slot xs x ≡ b
slot_back [] d b x e = absurd cc
slot_back (y ∷ ys) d zero x e = ap (λ (q : Bool). if q then 0 else slot ys x + 1) (name_same x y (sym (some_is y x e)))
slot_back (y ∷ ys) d (suc b) x e =
    let h : slot ys x ≡ b = slot_back ys d.1 b x e in
    let g : slot ys x + 1 ≡ suc b = omega (arith, h) in
    ap (λ (q : Bool). if q then 0 else slot ys x + 1) (other x y ys (bytes_eq x y) refl d.0 (at_among ys b x e)) ∙ g

within_by : (b : Bool) (k n : ℕ) → k ≤ n → (if b then 0 else k + 1) ≤ suc n
within_by true k n le = omega arith
within_by false k n le = omega (arith, le)

pub slot_within : (names : List Name) (x : Name) → slot names x ≤ length names
slot_within [] x = omega arith
slot_within (n ∷ ns) x = within_by (bytes_eq x n) (slot ns x) (length ns) (slot_within ns x)

pub distinct_first : (xs ys : List Name) → AreDistinct (xs ++ ys) → AreDistinct xs
distinct_first [] ys d = tt
distinct_first (x ∷ xs) ys d = (
  (or_parts (is_among x xs) (is_among x ys) (sym (list_any-append (bytes_eq x) xs ys) ∙ d.0)).0,
  distinct_first xs ys d.1,
)

pub distinct_rest : (xs ys : List Name) → AreDistinct (xs ++ ys) → AreDistinct ys
distinct_rest [] ys d = d
distinct_rest (x ∷ xs) ys d = distinct_rest xs ys d.1

-- a name of those behind is none of these
pub apart : (xs ys : List Name) (x : Name) → AreDistinct (xs ++ ys) → is_among x ys ≡ true → is_among x xs ≡ false
apart [] ys x d t = refl
apart (z ∷ zs) ys x d t =
    let later : is_among x (zs ++ ys) ≡ true =
    list_any-append (bytes_eq x) zs ys ∙ or_right (is_among x zs) (is_among x ys) t in
    let p : bytes_eq x z ≡ false = other x z (zs ++ ys) (bytes_eq x z) refl d.0 later in
    ap (λ (q : Bool). q || is_among x zs) p ∙ apart zs ys x d.1 t

abbrev pub sorted : Bool → Bool → Bool → Bool → Option Sort
sorted a b c d =
    if a then Some sort.Scalar else if b then Some sort.Row else if c then Some sort.Words
    else if d then Some sort.View else None

rows_sorted : (a b c d : Bool) → a ≡ false → b ≡ true → sorted a b c d ≡ Some sort.Row
rows_sorted a b c d e f = rw (e, f)

words_sorted : (a b c d : Bool) → a ≡ false → b ≡ false → c ≡ true → sorted a b c d ≡ Some sort.Words
words_sorted a b c d e f g = rw (e, f, g)

views_sorted : (a b c d : Bool) → a ≡ false → b ≡ false → c ≡ false → d ≡ true → sorted a b c d ≡ Some sort.View
views_sorted a b c d e f g h = rw (e, f, g, h)

scalars_sorted : (a b c d : Bool) → a ≡ true → sorted a b c d ≡ Some sort.Scalar
scalars_sorted a b c d e = rw e

among_left : (x : Name) (xs ys : List Name) → is_among x xs ≡ true → is_among x (xs ++ ys) ≡ true
among_left x xs ys t = list_any-append (bytes_eq x) xs ys ∙ or_left (is_among x xs) (is_among x ys) t

among_right : (x : Name) (xs ys : List Name) → is_among x ys ≡ true → is_among x (xs ++ ys) ≡ true
among_right x xs ys t = list_any-append (bytes_eq x) xs ys ∙ or_right (is_among x xs) (is_among x ys) t

-- where all names are distinct, a slot's name has that slot, and is of its sort
pub slots_of : (s : Source) → AreDistinct (all_names s) → Slots s
slots_of s d =
    let a = s.scalars in
    let b = s.rows in
    let c = s.words in
    let v = s.views in
    let db = distinct_rest a (b ++ (c ++ v)) d in
    let dc = distinct_rest b (c ++ v) db in
    let dv = distinct_rest c v dc in
    record {
      scalars = λ k x e. (
        slot_back a (distinct_first a (b ++ (c ++ v)) d) k x e,
        scalars_sorted (is_among x a) (is_among x b) (is_among x c) (is_among x v) (at_among a k x e),
      );
      rows = λ k x e.
          let t = at_among b k x e in (
            slot_back b (distinct_first b (c ++ v) db) k x e,
            rows_sorted (is_among x a) (is_among x b) (is_among x c) (is_among x v)
                (apart a (b ++ (c ++ v)) x d (among_left x b (c ++ v) t)) t,
          );
      words = λ k x e.
          let t = at_among c k x e in
          let u = among_left x c v t in (
            slot_back c (distinct_first c v dc) k x e,
            words_sorted (is_among x a) (is_among x b) (is_among x c) (is_among x v)
                (apart a (b ++ (c ++ v)) x d (among_right x b (c ++ v) u)) (apart b (c ++ v) x db u) t,
          );
      views = λ k x e.
          let t = at_among v k x e in
          let u = among_right x c v t in (
            slot_back v dv k x e,
            views_sorted (is_among x a) (is_among x b) (is_among x c) (is_among x v)
                (apart a (b ++ (c ++ v)) x d (among_right x b (c ++ v) u)) (apart b (c ++ v) x db u)
                (apart c v x dc t) t,
          );
    }
