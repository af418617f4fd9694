-- Lists of `SeatState`s in which one changes or one is added: what holds of each, of each two, and of their totals.
use Rattle.std.proofs.Common.{◌≡◌, ◌≢◌, ◌⊎◌, ℕ, zero, suc, ◌+◌, ◌*◌, ◌≤◌, List, [], ◌∷◌, ◌++◌, length, set, refl, sym}
use Rattle.std.proofs.Common.{ap, ◌∙◌, subst, ⊎_elim, inl, inr, arith}
use mathlib.Core.Option.{some, some-ne-none, some-injective}
use lib.ListN.{get_elem?}
use Rattle.atomic_table.proofs.Lists.{at_set}
use Rattle.snap_live.specs.declared.seat_state.SeatState.{SeatState}
use Rattle.snap_live.specs.Rule.{total, At}

pub each_set : {P : ℕ → SeatState → Type 0} (views : List SeatState) {id : ℕ} {w : SeatState} →
    ((j : ℕ) (u : SeatState) → j ≢ id → At views j u → P j u) → P id w
    → (j : ℕ) (u : SeatState) → At (set views id w) j u → P j u
each_set {P} views {id} {w} others mine j u e =
    ⊎_elim
    (λ (t : (j ≡ id) × (w ≡ u)). subst (λ (x : SeatState). P j x) t.1 (subst (λ (k : ℕ). P k w) (sym t.0) mine))
    (λ (t : (j ≢ id) × (get_elem? views j ≡ some u)). others j u t.0 t.1)
    (at_set views id j w u e)

-- what holds of each view still does where the new one has it
pub each_kept : {P : ℕ → SeatState → Type 0} (views : List SeatState) {id : ℕ} {w : SeatState} →
    ((j : ℕ) (u : SeatState) → At views j u → P j u) → P id w
    → (j : ℕ) (u : SeatState) → At (set views id w) j u → P j u
each_kept views old = each_set views (λ j u ne at. old j u at)

-- each t is still of one view alone where it is not of the new view and of another
pub only_set : {K : ℕ → SeatState → Type 0} (views : List SeatState) {id : ℕ} {w : SeatState} →
    ((i j : ℕ) (u x : SeatState) → At views i u → At views j x → (t : ℕ) → K t u → K t x → i ≡ j)
    → ((t : ℕ) → K t w → (j : ℕ) (x : SeatState) → j ≢ id → At views j x → K t x → ⊥)
    → (i j : ℕ) (u x : SeatState) → At (set views id w) i u → At (set views id w) j x → (t : ℕ) → K t u → K t x → i ≡ j
only_set {K} views {id} {w} old mine i j u x ati atj t =
    each_set {P = λ i u. K t u → K t x → i ≡ j} views
    (λ i u nei at. each_set {P = λ j x. K t u → K t x → i ≡ j} views (λ j x nej at'. old i j u x at at' t)
    (λ theirs yours. absurd (mine t yours i u nei at theirs)) j x atj)
    (each_set {P = λ j x. K t w → K t x → id ≡ j} views
    (λ j x nej at' yours theirs. absurd (mine t yours j x nej at' theirs)) (λ p q. refl) j x atj)
    i u ati

-- the same of what the new view has only where the old one had it
pub only_kept : {K : ℕ → SeatState → Type 0} (views : List SeatState) (id : ℕ) {v w : SeatState} →
    ((i j : ℕ) (u x : SeatState) → At views i u → At views j x → (t : ℕ) → K t u → K t x → i ≡ j)
    → At views id v → ((t : ℕ) → K t w → K t v)
    → (i j : ℕ) (u x : SeatState) → At (set views id w) i u → At (set views id w) j x → (t : ℕ) → K t u → K t x → i ≡ j
only_kept views id {v} old at sub =
    only_set views old (λ t mine j x ne atj theirs. ne (old j id x v atj at t theirs (sub t mine)))

pub one_kept : {K : SeatState → Type 0} (views : List SeatState) (id : ℕ) {v w : SeatState} →
    ((i j : ℕ) (u x : SeatState) → At views i u → At views j x → K u → K x → i ≡ j) → At views id v → (K w → K v)
    → (i j : ℕ) (u x : SeatState) → At (set views id w) i u → At (set views id w) j x → K u → K x → i ≡ j
one_kept {K} views id old at sub i j u x ati atj =
    only_kept {K = λ _. K} views id (λ i j u x ati atj _. old i j u x ati atj) at (λ _. sub) i j u x ati atj 0

pub at_end : (l : List SeatState) (a b : SeatState) (j : ℕ) → At (l ++ a ∷ []) j b →
    (At l j b) ⊎ ((j ≡ length l) × (a ≡ b))
at_end [] a b zero e = inr (refl, some-injective a b e)
at_end [] a b (suc j) e = absurd (some-ne-none b (sym e))
at_end (x ∷ xs) a b zero e = inl e
at_end (x ∷ xs) a b (suc j) e =
    ⊎_elim (λ (t : At xs j b). inl t) (λ (t : (j ≡ length xs) × (a ≡ b)). inr (ap suc t.0, t.1)) (at_end xs a b j e)

pub each_end : {P : ℕ → SeatState → Type 0} (views : List SeatState) {w : SeatState} →
    ((j : ℕ) (u : SeatState) → At views j u → P j u) → P (length views) w
    → (j : ℕ) (u : SeatState) → At (views ++ w ∷ []) j u → P j u
each_end views {w} others mine j u e = elim (at_end views w u j e) [
  | inl before ↦ others j u before
  | inr here ↦ rw (here.0, ← here.1) mine
]

pub only_end : {K : ℕ → SeatState → Type 0} (views : List SeatState) {w : SeatState} →
    ((i j : ℕ) (u x : SeatState) → At views i u → At views j x → (t : ℕ) → K t u → K t x → i ≡ j)
    → ((t : ℕ) → K t w → (j : ℕ) (x : SeatState) → At views j x → K t x → ⊥)
    → (i j : ℕ) (u x : SeatState) → At (views ++ w ∷ []) i u → At (views ++ w ∷ []) j x
    → (t : ℕ) → K t u → K t x → i ≡ j
only_end {K} views {w} old mine i j u x ati atj t =
    each_end {P = λ i u. K t u → K t x → i ≡ j} views
    (λ i u at. each_end {P = λ j x. K t u → K t x → i ≡ j} views (λ j x at'. old i j u x at at' t)
    (λ theirs yours. absurd (mine t yours i u at theirs)) j x atj)
    (each_end {P = λ j x. K t w → K t x → length views ≡ j} views
    (λ j x at' yours theirs. absurd (mine t yours j x at' theirs)) (λ p q. refl) j x atj)
    i u ati

pub one_end : {K : SeatState → Type 0} (views : List SeatState) {w : SeatState} →
    ((i j : ℕ) (u x : SeatState) → At views i u → At views j x → K u → K x → i ≡ j)
    → (K w → (j : ℕ) (x : SeatState) → At views j x → K x → ⊥)
    → (i j : ℕ) (u x : SeatState) → At (views ++ w ∷ []) i u → At (views ++ w ∷ []) j x → K u → K x → i ≡ j
one_end {K} views old mine i j u x ati atj =
    only_end {K = λ _. K} views (λ i j u x ati atj _. old i j u x ati atj) (λ _. mine) i j u x ati atj 0

-- the total after a change of one view
pub total_set : (f : SeatState → ℕ) (views : List SeatState) (id : ℕ) {v : SeatState} (w : SeatState) → At views id v →
    total f (set views id w) + f v ≡ total f views + f w
total_set f [] id {v} w e = absurd (some-ne-none v (sym e))
total_set f (x ∷ xs) zero {v} w e = omega (arith, ap f (some-injective x v e))
total_set f (x ∷ xs) (suc id) w e = omega (arith, total_set f xs id w e)

pub total_end : (f : SeatState → ℕ) (views : List SeatState) (w : SeatState) →
    total f (views ++ w ∷ []) ≡ total f views + f w
total_end f [] w = omega arith
total_end f (x ∷ xs) w = omega (arith, total_end f xs w)

-- where f is at most k times g at each view, so are the totals
pub total_le : (f g : SeatState → ℕ) (k : ℕ) (views : List SeatState) →
    ((i : ℕ) (v : SeatState) → At views i v → f v ≤ k * g v) → total f views ≤ k * total g views
total_le f g k [] each = omega arith
total_le f g k (x ∷ xs) each =
    let here : f x ≤ k * g x = each 0 x refl in
    let more : total f xs ≤ k * total g xs = total_le f g k xs (λ i v at. each (suc i) v at) in omega arith

pub at_self : (views : List SeatState) (id : ℕ) {v : SeatState} (w : SeatState) → At views id v →
    At (set views id w) id w
at_self [] id {v} w e = absurd (some-ne-none v (sym e))
at_self (x ∷ xs) zero w e = refl
at_self (x ∷ xs) (suc id) w e = at_self xs id w e

pub one_view : (views : List SeatState) {i j : ℕ} {u v : SeatState} → i ≡ j → At views i u → At views j v → u ≡ v
one_view views {u = u} {v = v} e a b = some-injective u v (sym a ∙ ap (get_elem? views) e ∙ b)
