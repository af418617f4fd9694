-- Two words of one register of B, one of them later (`IsLaterWord`): each
-- write turns the toggle, so that equal toggles are two writes apart.
use Rattle.std.proofs.Common.{◌≡◌, ℕ, ◌+◌, ◌<◌, ◌≤◌, ◌⊎◌, List, sym, ap, subst, arith, inl, inr}
use Rattle.snap_runs.proofs.Common.{IsOneOf, Word}
use Rattle.snap_runs.proofs.Held.{word_at}

-- y is x, or a later word of the same register; where both have the same toggle, there were two writes
abbrev pub IsLaterWord : Word → Word → Type 0
IsLaterWord x y = ((x.seq < y.seq) × (x.toggle ≡ y.toggle → x.seq + 2 ≤ y.seq)) ⊎ (x ≡ y)

pub follows_trans : (x y z : Word) → IsLaterWord x y → IsLaterWord y z → IsLaterWord x z
follows_trans x y z (inl p) (inl q) =
    let a : x.seq < y.seq = p.0 in
    let b : y.seq < z.seq = q.0 in
    inl (omega arith, λ e. omega arith)
follows_trans x y z (inl p) (inr q) = subst (λ (w : Word). IsLaterWord x w) q (inl p)
follows_trans x y z (inr p) q = subst (λ (w : Word). IsLaterWord w z) (sym p) q

pub follows_seq : (x y : Word) → IsLaterWord x y → x.seq ≤ y.seq
follows_seq x y (inl p) = omega (arith, p.0)
follows_seq x y (inr p) = omega (arith, ap (λ (w : Word). w.seq) p)

-- a word that is no later is the same
pub same_word : (x y : Word) → IsLaterWord x y → y.seq ≤ x.seq → x ≡ y
same_word x y (inl p) le = absurd (omega (arith, p.0))
same_word x y (inr p) le = p

-- a later word with the same toggle is two writes later
pub toggled : (x y : Word) → IsLaterWord x y → x.seq < y.seq → x.toggle ≡ y.toggle → x.seq + 2 ≤ y.seq
toggled x y (inl p) lt e = p.1 e
toggled x y (inr p) lt e = absurd (omega (arith, ap (λ (w : Word). w.seq) p))

-- words with equal counts that stand so are one
pub squeezed : (a mid b : Word) → IsLaterWord a mid → IsLaterWord mid b → b.seq ≤ a.seq → mid ≡ b
squeezed a mid b p q e =
    let le : a.seq ≤ mid.seq = follows_seq a mid p in same_word mid b q (omega arith)

-- each word of the memory stays or is written anew
abbrev pub Grows : ℕ → List Word → List Word → Type 0
Grows n m m' = (k : ℕ) → IsOneOf n k → IsLaterWord (word_at m k) (word_at m' k)
