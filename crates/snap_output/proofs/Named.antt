-- The locals of a process by their slots: a value that a name has is set at the slot of the name.
use Rattle.std.proofs.Common.{◌≡◌, ℕ, zero, suc, true, false, List, [], ◌∷◌, ◌++◌, bytes_eq, slice_set, zip}
use Rattle.std.proofs.Common.{nat_eq, refl, sym, ap, ◌∙◌, subst, append-nil, arith}
use Rattle.std.proofs.lemmas.Bool.{and_parts, false≢true, ne_eqb, or_parts}
use Rattle.std.proofs.lemmas.Bool.Decides.{same_from_decides, Decides-like}
use Rattle.std.proofs.lemmas.Slice.Eq.{bytes_eq-Decides}
use Rattle.std.specs.List.{AllByRecursion, list_all}
use Rattle.snap_words.specs.Word.{Word}
use Rattle.snap_semantics.specs.IsListing.{AreDistinct, IsListing, IsName}
use Rattle.snap_semantics.specs.Source.{Name, Source}
use Rattle.snap_semantics.specs.State.{Locals, NameMap, value_at, with_value}
use Rattle.snap_semantics.specs.Token.{is_letter}
use Rattle.snap_semantics.specs.Uses.{is_among}
use Rattle.snap_listing.proofs.Alls.{all_rest}
use Rattle.snap_asm_program.specs.NamedLines.{AreNames, name_at}
use Rattle.snap_asm_program.proofs.Names.{names_of_rows, names_of_scalars, names_of_views, names_of_words}
use Rattle.snap_machine.specs.Undo.{Place, Scalar, Number, Row, LocalWord, LocalView, put_local}
use Rattle.snap_machine.specs.Configuration.{HasLocals}
use Rattle.snap_machine.proofs.Values.{with_same}
use Rattle.snap_output.proofs.Owned.{IsPlain}

-- the names of a map are the first ones of these
abbrev pub IsNamed : {A : Type 0} → List Name → NameMap A → Type 0
IsNamed ns [] = Unit {0}
IsNamed [] (e ∷ es) = ⊥
IsNamed (n ∷ ns) (e ∷ es) = (e.0 ≡ n) × IsNamed ns es

named_zip : {A : Type 0} (ns : List Name) (vs : List A) → IsNamed ns (zip ns vs)
named_zip [] vs = tt
named_zip (n ∷ ns) [] = tt
named_zip (n ∷ ns) (v ∷ vs) = (refl, named_zip ns vs)

-- as before a value was set
named_before : {A : Type 0} (ns : List Name) (x : Name) (v : A) (es : NameMap A) → IsNamed ns (with_value x v es) →
    IsNamed ns es
named_before ns x v [] h = tt
named_before [] x v (e ∷ es) h = grind arith
named_before (n ∷ ns) x v (e ∷ es) h = grind (arith, named_before ns x v es)

bytes_eq-sym : (x y : Name) → bytes_eq x y ≡ bytes_eq y x
bytes_eq-sym x y =
    same_from_decides _ _ (bytes_eq-Decides x y)
    (Decides-like _ (λ (e : y ≡ x). sym e) (λ (e : x ≡ y). sym e) (bytes_eq-Decides y x))

-- a name at a slot among these is not one that stands apart
other_name : (ns : List Name) (k : ℕ) (n : Name) → is_among n ns ≡ false → bytes_eq [] n ≡ false →
    bytes_eq (name_at ns k) n ≡ false
other_name [] k n h e = e
other_name (y ∷ ns) zero n h e = bytes_eq-sym y n ∙ (or_parts (bytes_eq n y) (is_among n ns) h).0
other_name (y ∷ ns) (suc k) n h e = other_name ns k n (or_parts (bytes_eq n y) (is_among n ns) h).1 e

-- the value of the name at a slot, set
pub with_slot : {A : Type 0} (ns : List Name) (es : NameMap A) (k : ℕ) (v : A) → AreDistinct ns →
    is_among [] ns ≡ false → IsNamed ns es → with_value (name_at ns k) v es ≡ slice_set es k (name_at ns k, v)
with_slot ns [] k v d z h = refl
with_slot [] (e ∷ es) k v d z h = absurd h
with_slot (n ∷ ns) (e ∷ es) zero v d z h =
    rw ((bytes_eq-Decides n e.0).1 (sym h.0)) (ap (λ x. (x, v) ∷ es) h.0)
with_slot (n ∷ ns) (e ∷ es) (suc k) v d z h =
    let apart = or_parts (bytes_eq [] n) (is_among [] ns) z in
    rw (ap (bytes_eq (name_at ns k)) h.0 ∙ other_name ns k n d.0 apart.0)
    (ap (λ fs. e ∷ fs) (with_slot ns es k v d.1 apart.1 h.1))

-- what it has, set
pub slot_has : {A : Type 0} (ns : List Name) (es : NameMap A) (k : ℕ) (d : A) → AreNames ns → IsNamed ns es →
    es ≡ slice_set es k (name_at ns k, value_at (name_at ns k) es d)
slot_has ns es k d names h =
    sym (with_same (name_at ns k) d es)
    ∙ with_slot ns es k (value_at (name_at ns k) es d) names.distinct names.not_empty h

-- letters are no line feeds
letter_plain : (b : ℕ) → is_letter b ≡ true → nat_eq b 10 ≡ false
letter_plain b h = ne_eqb b 10 (λ e. false≢true (rw e at h))

letters_plain : (x : Name) → list_all is_letter x ≡ true → IsPlain x
letters_plain [] h = refl
letters_plain (b ∷ x) h =
    let first = and_parts (is_letter b) (list_all is_letter x) h in
    rw (letter_plain b first.0) (letters_plain x first.1)

names_plain : (xs ys : List Name) → AllByRecursion IsName (xs ++ ys) → AllByRecursion IsPlain xs
names_plain [] ys h = tt
names_plain (x ∷ xs) ys h = (letters_plain x h.0.0.1, names_plain xs ys h.1)

-- the names of a sort, and values that have the first ones of them
pub record AreGood {A : Type 0} (ns : List Name) (es : NameMap A) : Type 0 where
  pub names : AreNames ns
  pub plain : AllByRecursion IsPlain ns
  pub named : IsNamed ns es

good_zip : {A : Type 0} (ns : List Name) (vs : List A) → AreNames ns → AllByRecursion IsPlain ns →
    AreGood ns (zip ns vs)
good_zip ns vs names plain = record { names = names; plain = plain; named = named_zip ns vs }

good_before : {A : Type 0} (ns : List Name) (x : Name) (v : A) (es : NameMap A) → AreGood ns (with_value x v es) →
    AreGood ns es
good_before ns x v es h = record { names = h.names; plain = h.plain; named = named_before ns x v es h.named }

-- the locals of a listing by sort
pub record IsSorted (s : Source) (l : Locals) : Type 0 where
  pub scalars : AreGood s.scalars l.scalars
  pub rows : AreGood s.rows l.rows
  pub words : AreGood s.words l.words
  pub views : AreGood s.views l.views

sorted_as : (s : Source) (a : List ℕ) (b : List (List ℕ)) (c : List (List Word)) (d : List (List ℕ)) → IsListing s →
    IsSorted s
    (record { scalars = zip s.scalars a; rows = zip s.rows b; words = zip s.words c; views = zip s.views d })
sorted_as s a b c d h =
    let of_rows = all_rest IsName s.scalars _ h.names in
    let of_words = all_rest IsName s.rows _ of_rows in
    let of_views = all_rest IsName s.words _ of_words in
    record {
      scalars = good_zip s.scalars a (names_of_scalars s h) (names_plain s.scalars _ h.names);
      rows = good_zip s.rows b (names_of_rows s h) (names_plain s.rows _ of_rows);
      words = good_zip s.words c (names_of_words s h) (names_plain s.words _ of_words);
      views =
          good_zip s.views d (names_of_views s h)
          (names_plain s.views [] (subst (AllByRecursion IsName) (sym (append-nil s.views)) of_views));
    }

pub sorted : (s : Source) (l : Locals) → IsListing s → HasLocals s l → IsSorted s l
sorted s l rules h = subst (IsSorted s) (sym h.are) (sorted_as s h.scalars h.rows h.words h.views rules)

-- before a place was put back
pub sorted_before : (s : Source) (p : Place) (l : Locals) → IsSorted s (put_local s p l) → IsSorted s l
sorted_before s (Scalar k v) l h = search good_before
sorted_before s (Number k p v) l h = search good_before
sorted_before s (Row k r) l h = search good_before
sorted_before s (LocalWord k p x) l h = search good_before
sorted_before s (LocalView k v) l h = search good_before
sorted_before s _ l h = h

-- the names of locals have no line feeds
pub entries_plain : {A : Type 0} (ns : List Name) (es : NameMap A) → AreGood ns es →
    AllByRecursion (λ (e : Name × A). IsPlain e.0) es
entries_plain ns es h = each ns es h.plain h.named
  where
    each : {A : Type 0} (ns : List Name) (es : NameMap A) → AllByRecursion IsPlain ns → IsNamed ns es →
        AllByRecursion (λ (e : Name × A). IsPlain e.0) es
    each ns [] h k = tt
    each [] (e ∷ es) h k = absurd k
    each {A} (n ∷ ns) (e ∷ es) h k = (subst IsPlain (sym k.0) h.0, each ns es h.1 k.1)
