-- Two texts that differ in one part alone (`Differs`): the parts before it and behind it are the same.
use Rattle.std.proofs.Common.{◌≡◌, ℕ, zero, suc, ◌+◌, List, [], ◌∷◌, ◌++◌, Option, Some, None, slice_get, slice_set}
use Rattle.std.proofs.Common.{refl, sym, ap, ◌∙◌, append_assoc, append-nil, subst, arith}
use Rattle.std.specs.List.{AllByRecursion}
use Rattle.snap_output.proofs.Wholes.{feeds, feeds_both}
use Rattle.snap_output.proofs.Splits.{AreJoined, IsInOrder, all_are}

-- parts with as many lines
pub record IsLike (P : List ℕ → Type 0) (m m' : List ℕ) : Type 0 where
  pub mine : P m
  pub mine' : P m'
  pub same : feeds m ≡ feeds m'

-- an old text and a new one around a part, where all other parts are texts of a sort
pub record Differs (P : List ℕ → Type 0) (old new m m' : List ℕ) : Type 0 where
  pub front : List ℕ
  pub rest : List ℕ
  pub front_is : P front
  pub rest_is : P rest
  pub old_is : old ≡ front ++ (m ++ rest)
  pub new_is : new ≡ front ++ (m' ++ rest)
  pub alike : IsLike P m m'

-- texts that differ in parts with as many lines have as many lines
pub differ_feeds : {P : List ℕ → Type 0} {a a' m m' : List ℕ} → Differs P a a' m m' → feeds a ≡ feeds a'
differ_feeds {m = m} {m' = m'} h =
    ap feeds h.old_is
    ∙ feeds_both h.front h.front (m ++ h.rest) (m' ++ h.rest) refl (feeds_both m m' h.rest h.rest h.alike.same refl)
    ∙ sym (ap feeds h.new_is)

-- the parts by other names
pub differ_as : {P : List ℕ → Type 0} {a a' m m' n n' : List ℕ} → Differs P a a' m m' → m ≡ n → m' ≡ n' →
    Differs P a a' n n'
differ_as {P} {a} {a'} {m' = m'} {n = n} h e e' = subst (Differs P a a' n) e' (subst (λ t. Differs P a a' t m') e h)

-- the element at a place, where there is one
abbrev pub at : {A : Type 0} → (A → List ℕ) → Option A → List ℕ
at f None = []
at f (Some x) = f x

module _ {P : List ℕ → Type 0} (joins : AreJoined P) where
  -- one text in the place of another
  pub itself : {m m' : List ℕ} → P m → P m' → feeds m ≡ feeds m' → Differs P m m' m m'
  itself {m} {m'} h h' e = record {
    front = [];
    rest = [];
    front_is = joins.none;
    rest_is = joins.none;
    old_is = sym (append-nil m);
    new_is = sym (append-nil m');
    alike = record { mine = h; mine' = h'; same = e };
  }

  -- a part of a part
  pub within : (f r : List ℕ) {a a' b b' c c' : List ℕ} → P f → P r → Differs P b b' c c' → a ≡ f ++ (b ++ r) →
      a' ≡ f ++ (b' ++ r) → Differs P a a' c c'
  within f r {c = c} {c' = c'} hf hr h e e' =
      record {
        front = f ++ h.front;
        rest = h.rest ++ r;
        front_is = joins.join hf h.front_is;
        rest_is = joins.join h.rest_is hr;
        old_is = e ∙ ap (λ t. f ++ (t ++ r)) h.old_is ∙ regroup h.front c h.rest;
        new_is = e' ∙ ap (λ t. f ++ (t ++ r)) h.new_is ∙ regroup h.front c' h.rest;
        alike = h.alike;
      }
    where
      regroup : (x m y : List ℕ) → f ++ ((x ++ (m ++ y)) ++ r) ≡ (f ++ x) ++ (m ++ (y ++ r))
      regroup x m y = simp append_assoc

  -- nothing differs
  pub stays : {t : List ℕ} → P t → Differs P t t [] []
  stays {t} h = within t [] h joins.none (itself joins.none joins.none refl) (sym (append-nil t)) (sym (append-nil t))

  -- one of four parts
  pub in_first : {a a' b c d m m' : List ℕ} → P b → P c → P d → Differs P a a' m m' →
      Differs P (((a ++ b) ++ c) ++ d) (((a' ++ b) ++ c) ++ d) m m'
  in_first {b = b} {c = c} {d = d} hb hc hd h =
      within [] (b ++ (c ++ d)) joins.none (joins.join hb (joins.join hc hd)) h
      (simp append_assoc) (simp append_assoc)

  pub in_second : {a b b' c d m m' : List ℕ} → P a → P c → P d → Differs P b b' m m' →
      Differs P (((a ++ b) ++ c) ++ d) (((a ++ b') ++ c) ++ d) m m'
  in_second {a} {c = c} {d = d} ha hc hd h =
      within a (c ++ d) ha (joins.join hc hd) h (simp append_assoc) (simp append_assoc)

  pub in_third : {a b c c' d m m' : List ℕ} → P a → P b → P d → Differs P c c' m m' →
      Differs P (((a ++ b) ++ c) ++ d) (((a ++ b) ++ c') ++ d) m m'
  in_third {a} {b} {d = d} ha hb hd h =
      within (a ++ b) d (joins.join ha hb) hd h (simp append_assoc) (simp append_assoc)

  pub in_fourth : {a b c d d' m m' : List ℕ} → P a → P b → P c → Differs P d d' m m' →
      Differs P (((a ++ b) ++ c) ++ d) (((a ++ b) ++ c) ++ d') m m'
  in_fourth {a} {b} {c} ha hb hc h =
      within ((a ++ b) ++ c) [] (joins.join (joins.join ha hb) hc) joins.none h
      (simp append-nil) (simp append-nil)

-- lists whose elements have texts of a sort
module _ {A : Type 0} {P : List ℕ → Type 0} (joins : AreJoined P) {f : ℕ → A → List ℕ} {F : ℕ → List A → List ℕ}
    (order : IsInOrder f F) (Good : A → Type 0) (each : (n : ℕ) (x : A) → Good x → P (f n x)) (h : A → List ℕ) where
  -- elements that differ in a part, the first of which has number n
  abbrev DiffersAt : ℕ → A → A → Type 0
  DiffersAt n v w = Differs P (f n v) (f n w) (h v) (h w)

  set_differs : (n j : ℕ) (xs : List A) (v w : A) → AllByRecursion Good xs → DiffersAt (n + j) v w →
      Differs P (F n (slice_set xs j v)) (F n (slice_set xs j w)) (at h (slice_get (slice_set xs j v) j))
      (at h (slice_get (slice_set xs j w) j))
  set_differs n j [] v w good d = stays joins (all_are joins order Good each n [] tt)
  set_differs n zero (x ∷ xs) v w good d =
      let e : n + 0 ≡ n = omega arith in
      within joins [] (F (n + 1) xs) joins.none (all_are joins order Good each (n + 1) xs good.1)
      (subst (λ k. DiffersAt k v w) e d) (order.more n v xs) (order.more n w xs)
  set_differs n (suc j) (x ∷ xs) v w good d =
      let e : n + suc j ≡ n + 1 + j = omega arith in
      within joins (f n x) [] (each n x good.0) joins.none
      (set_differs (n + 1) j xs v w good.1 (subst (λ k. DiffersAt k v w) e d))
      (simp append-nil (order.more n x (slice_set xs j v))) (simp append-nil (order.more n x (slice_set xs j w)))

  -- one element of a list differs, in a part of it
  pub one_differs : (n j : ℕ) (xs : List A) {old new : List A} (v w : A) → AllByRecursion Good xs →
      old ≡ slice_set xs j v → new ≡ slice_set xs j w → DiffersAt (n + j) v w →
      Differs P (F n old) (F n new) (at h (slice_get old j)) (at h (slice_get new j))
  one_differs n j xs v w good e e' d = rw (e, e') (set_differs n j xs v w good d)
