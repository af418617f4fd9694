-- Undoing a write: a named value, or an element of a list, that was set to another value is set back to the one that
-- it had.
use Rattle.std.proofs.Common.{◌≡◌, ℕ, ◌<◌, ◌≤◌, ◌⊎◌, Bool, true, false, List, [], ◌∷◌, bytes_eq, get_or, set, length}
use Rattle.std.proofs.Common.{slice_get, Some, None, Result, Ok, Err, IfOk, if◌then◌else◌, refl, sym, ap, ◌∙◌, inl, inr}
use Rattle.std.proofs.lemmas.List.{get_or-set_same, set-get_or, set-set, set_past}
use Rattle.std.proofs.lemmas.Bool.{cases_lt}
use Rattle.std.proofs.lemmas.Option.{slice_get_cases}
use Rattle.snap_semantics.specs.Source.{Name}
use Rattle.snap_semantics.specs.State.{NameMap, value_at, with_value}

-- a value that a name has is set
pub with_same : {A : Type 0} (x : Name) (d : A) (es : NameMap A) → with_value x (value_at x es d) es ≡ es
with_same x d [] = refl
with_same {A} x d (e ∷ es) =
    elim (bytes_eq x e.0) as (λ b. (if b then (e.0, if b then e.1 else value_at x es d) ∷ es
    else e ∷ with_value x (if b then e.1 else value_at x es d) es) ≡ e ∷ es) [
      | true ↦ refl
      | false ↦ ap (λ (fs : NameMap A). e ∷ fs) (with_same x d es)
    ]

-- a value is set after another, made from it
pub with_changed : {A : Type 0} (x : Name) (f : A → A) (v d : A) (es : NameMap A) →
    with_value x (f (value_at x (with_value x v es) d)) (with_value x v es) ≡ with_value x (f v) es
with_changed x f v d [] = refl
with_changed {A} x f v d (e ∷ es) = by_name (bytes_eq x e.0) refl (with_changed x f v d es) where
  by_name : (b : Bool) → bytes_eq x e.0 ≡ b → with_value x (f (value_at x (with_value x v es) d)) (with_value x v es)
      ≡ with_value x (f v) es → with_value x (f (value_at x (if b then (e.0, v) ∷ es else e ∷ with_value x v es) d))
      (if b then (e.0, v) ∷ es else e ∷ with_value x v es) ≡ (if b then (e.0, f v) ∷ es else e ∷ with_value x (f v) es)
  by_name true is more =
      ap (λ c. if c then (e.0, f (if c then v else value_at x es d)) ∷ es
      else (e.0, v) ∷ with_value x (f (if c then v else value_at x es d)) es) is
  by_name false is more =
      ap (λ c. if c then (e.0, f (if c then e.1 else value_at x (with_value x v es) d)) ∷ with_value x v es
      else e ∷ with_value x (f (if c then e.1 else value_at x (with_value x v es) d)) (with_value x v es)) is
      ∙ ap (λ (fs : NameMap A). e ∷ fs) more

-- the value that a name had is put back
pub with_back : {A : Type 0} (x : Name) (v d : A) (es : NameMap A) →
    with_value x (value_at x es d) (with_value x v es) ≡ es
with_back x v d es = with_changed x (λ w. value_at x es d) v d es ∙ with_same x d es

-- a place of a list that a name has is put back
pub place_back : {A : Type 0} (x : Name) (k : ℕ) (v d : A) (es : NameMap (List A)) →
    with_value x (set (value_at x (with_value x (set (value_at x es []) k v) es) []) k (get_or (value_at x es []) k d))
    (with_value x (set (value_at x es []) k v) es) ≡ es
place_back {A} x k v d es =
    let old : List A = value_at x es [] in
    with_changed x (λ xs. set xs k (get_or old k d)) (set old k v) [] es
    ∙ ap (λ (xs : List A). with_value x xs es) (set-set old k v (get_or old k d) ∙ set-get_or old k d)
    ∙ with_same x [] es

pub place_same : {A : Type 0} (x : Name) (k : ℕ) (d : A) (es : NameMap (List A)) →
    with_value x (set (value_at x es []) k (get_or (value_at x es []) k d)) es ≡ es
place_same {A} x k d es =
    ap (λ (xs : List A). with_value x xs es) (set-get_or (value_at x es []) k d) ∙ with_same x [] es

-- a place of a list is put back
pub set_back : {A : Type 0} (xs : List A) (k : ℕ) (v d : A) → set (set xs k v) k (get_or xs k d) ≡ xs
set_back xs k v d = set-set xs k v (get_or xs k d) ∙ set-get_or xs k d

-- an element that was set is changed
set_changed : {A : Type 0} (f : A → A) (xs : List A) (k : ℕ) (v d : A) →
    set (set xs k v) k (f (get_or (set xs k v) k d)) ≡ set xs k (f v)
set_changed {A} f xs k v d = by_place (cases_lt k (length xs)) where
  by_place : (k < length xs) ⊎ (length xs ≤ k) → set (set xs k v) k (f (get_or (set xs k v) k d)) ≡ set xs k (f v)
  by_place (inl h) =
      set-set xs k v (f (get_or (set xs k v) k d)) ∙ ap (λ (y : A). set xs k (f y)) (get_or-set_same xs k v d h)
  by_place (inr h) =
      set-set xs k v (f (get_or (set xs k v) k d))
      ∙ set_past xs k (f (get_or (set xs k v) k d)) h ∙ sym (set_past xs k (f v) h)

-- a place of a row is put back
pub row_back : (rows : List (List ℕ)) (k l x : ℕ) →
    set (set rows k (set (get_or rows k []) l x)) k
    (set (get_or (set rows k (set (get_or rows k []) l x)) k []) l (get_or (get_or rows k []) l 0)) ≡ rows
row_back rows k l x =
    let row : List ℕ = get_or rows k [] in
    set_changed (λ r. set r l (get_or row l 0)) rows k (set row l x) []
    ∙ ap (λ (r : List ℕ). set rows k r) (set_back row l x 0) ∙ set-get_or rows k []

pub row_same : (rows : List (List ℕ)) (k l : ℕ) →
    set rows k (set (get_or rows k []) l (get_or (get_or rows k []) l 0)) ≡ rows
row_same rows k l = ap (λ (r : List ℕ). set rows k r) (set-get_or (get_or rows k []) l 0) ∙ set-get_or rows k []

-- what is not found lies past the end
pub none_past : {A : Type 0} (xs : List A) (k : ℕ) → slice_get xs k ≡ None → length xs ≤ k
none_past {A} xs k is = by_place (slice_get_cases xs k).1 where
  by_place : ((x : A) × (k < length xs) × (slice_get xs k ≡ Some x) × (get_or xs k x ≡ x))
      ⊎ ((length xs ≤ k) × (slice_get xs k ≡ None)) → length xs ≤ k
  by_place (inl (x, h, some, read)) = absurd (let wrong : None ≡ Some x = sym is ∙ some in cc)
  by_place (inr (h, none)) = h

-- a fact of each answer follows from another
pub when_ok : {A E : Type 0} {P Q : A → Type 0} (r : Result A E) → ((x : A) → P x → Q x) → IfOk r P → IfOk r Q
when_ok (Ok x) f h = f x h
when_ok (Err e) f h = h
