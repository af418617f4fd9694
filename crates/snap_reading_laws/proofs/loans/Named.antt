-- The value of a name, where the value of another name, or its own, has been set.
use Rattle.std.proofs.Common.{◌≡◌, ◌≢◌, ℕ, true, false, List, [], ◌∷◌, bytes_eq, get_or, length, set}
use Rattle.std.proofs.Common.{refl, sym, ◌∙◌, inl, inr}
use Rattle.std.proofs.lemmas.Bool.{cases_Bool, false_from_ne_true}
use Rattle.std.proofs.lemmas.List.{get_or-set_other, nil_from_length}
use Rattle.std.proofs.lemmas.Slice.Eq.{bytes_eq-Decides}
use Rattle.snap_semantics.specs.Source.{Name}
use Rattle.snap_semantics.specs.State.{NameMap, value_at, with_value}

-- names that are told apart
names_differ : (x y : Name) → bytes_eq x y ≡ false → x ≢ y
names_differ x y away = λ same. let yes : bytes_eq x y ≡ true = (bytes_eq-Decides x y).1 same in absurd cc

-- the value of another name is set
pub with_other : {A : Type 0} (x y : Name) (v d : A) (es : NameMap A) → bytes_eq x y ≡ false →
    value_at y (with_value x v es) d ≡ value_at y es d
with_other x y v d [] away = refl
with_other x y v d (e ∷ es) away = elim (cases_Bool (bytes_eq x e.0)) [
  | inl one ↦
      let apart : bytes_eq y e.0 ≡ false = false_from_ne_true (bytes_eq y e.0) (λ two.
      names_differ x y away ((bytes_eq-Decides x e.0).0 one ∙ sym ((bytes_eq-Decides y e.0).0 two))) in
      rw (one, apart) refl
  | inr other ↦ rw (other, with_other x y v d es away) refl
]

-- a name that has a list is set to another of this length
pub with_there : {A : Type 0} (x : Name) (v : List A) (es : NameMap (List A)) →
    length (value_at x es []) ≡ length v → value_at x (with_value x v es) [] ≡ v
with_there x v [] long = sym (nil_from_length v (sym long))
with_there x v (e ∷ es) long = elim (cases_Bool (bytes_eq x e.0)) [
  | inl is ↦ rw (is, is) refl
  | inr other ↦ rw (other, other) (with_there x v es (rw other at long))
]

-- a fact of the new value and of the old one
with_either : {A : Type 0} (P : A → Type 0) (x : Name) (v d : A) (es : NameMap A) → P v → P (value_at x es d) →
    P (value_at x (with_value x v es) d)
with_either P x v d [] new old = old
with_either P x v d (e ∷ es) new old = elim (cases_Bool (bytes_eq x e.0)) [
  | inl is ↦ rw (is, is) new
  | inr other ↦ rw (other, other) (with_either P x v d es new (rw other at old))
]

-- another place of a list that a name has is set
pub with_other_place : {A : Type 0} (x : Name) (k n : ℕ) (v d : A) (es : NameMap (List A)) → n ≢ k →
    get_or (value_at x (with_value x (set (value_at x es []) k v) es) []) n d ≡ get_or (value_at x es []) n d
with_other_place {A} x k n v d es other =
    let old : List A = value_at x es [] in
    with_either (λ (xs : List A). get_or xs n d ≡ get_or old n d) x (set old k v) [] es
    (get_or-set_other old k n v d other) refl
