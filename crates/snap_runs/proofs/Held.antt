-- `Held`: a view that was the values of the words at some state of a run; `Beside`
-- and `Lent`: a view that stood in a word which was written at least twice since.
use Rattle.std.proofs.Common.{◌≡◌, ℕ, ◌+◌, ◌-◌, ◌<◌, ◌≤◌, ◌⊎◌, Bool, true, false, List, take, length, map}
use Rattle.std.proofs.Common.{slice_index_or, if◌then◌else◌, sym, ◌∙◌, ap, subst, arith, inl, inr}
use Rattle.std.proofs.lemmas.List.{get_or-take, ext_get_or, length-take-le}
use Rattle.snap_runs.proofs.Common.{IsOneOf, Word, no_word}

abbrev pub word_at : List Word → ℕ → Word
word_at ws k = slice_index_or ws (k - 1) no_word

abbrev pub data_of : List Word → List ℕ
data_of m = map (λ (x : Word). x.datum) m

abbrev pub seq_at : List Word → ℕ → ℕ
seq_at m k = (word_at m k).seq

-- the values were these at some state from lo to t
abbrev pub Held : (ℕ → List Word) → ℕ → ℕ → List ℕ → Type 0
Held history t lo v = (u : ℕ) × (lo ≤ u) × (u ≤ t) × (data_of (history u) ≡ v)

pub held_wider : (history : ℕ → List Word) (t t' lo lo' : ℕ) (v : List ℕ) → t ≤ t' → lo' ≤ lo →
    Held history t lo v → Held history t' lo' v
held_wider history t t' lo lo' v e f h = (h.0, omega arith, omega arith, h.3)

-- after two writes or more since item lo this view stood beside a word of process k
abbrev pub Beside : (ℕ → List Word) → ℕ → ℕ → ℕ → List ℕ → Type 0
Beside history t lo k v =
    (u : ℕ) × (lo ≤ u) × (u ≤ t) × (seq_at (history lo) k + 2 ≤ seq_at (history u) k)
    × ((word_at (history u) k).view ≡ v)

pub beside_wider : (history : ℕ → List Word) (t t' lo k : ℕ) (v : List ℕ) → t ≤ t' →
    Beside history t lo k v → Beside history t' lo k v
beside_wider history t t' lo k v e h = (h.0, h.1, omega arith, h.3, h.4)

pub beside_now : (history : ℕ → List Word) (t lo k : ℕ) (words : List Word) → history t ≡ words → lo ≤ t →
    seq_at (history lo) k + 2 ≤ seq_at words k → Beside history t lo k (word_at words k).view
beside_now history t lo k words now le two = (
  t,
  le,
  omega arith,
  subst (λ ws. seq_at (history lo) k + 2 ≤ seq_at ws k) (sym now) two,
  ap (λ ws. (word_at ws k).view) now,
)

-- a view was held by the words, and stood beside a word
abbrev pub Lent : (ℕ → List Word) → ℕ → ℕ → ℕ → List ℕ → Type 0
Lent history t lo k v = Held history t lo v × Beside history t lo k v

pub lent_wider : (history : ℕ → List Word) (t t' lo k : ℕ) (v : List ℕ) → t ≤ t' →
    Lent history t lo k v → Lent history t' lo k v
lent_wider history t t' lo k v e h =
    (held_wider history t t' lo lo v e (omega arith) h.0, beside_wider history t t' lo k v e h.1)

-- the words at item t are the words now
pub at_most_now : (history : ℕ → List Word) (words : List Word) (t : ℕ) → history t ≡ words → (k : ℕ) →
    seq_at (history t) k ≤ seq_at words k
at_most_now history words t now k =
    let e : seq_at (history t) k ≡ seq_at words k = ap (λ w. seq_at w k) now in
    omega arith

pub at_least_now : (history : ℕ → List Word) (words : List Word) (t : ℕ) → history t ≡ words → (k : ℕ) →
    seq_at words k ≤ seq_at (history t) k
at_least_now history words t now k =
    let e : seq_at (history t) k ≡ seq_at words k = ap (λ w. seq_at w k) now in
    omega arith

-- the words at some round are not later than the words now, also where a line starts another round
pub opened_next : (n : ℕ) (history : ℕ → List Word) (words : List Word) (again : Bool) (t round : ℕ) →
    history t ≡ words → ((k : ℕ) → IsOneOf n k → seq_at (history round) k ≤ seq_at words k) →
    (k : ℕ) → IsOneOf n k → seq_at (history (if again then t else round)) k ≤ seq_at words k
opened_next n history words true t round now h k i = at_most_now history words t now k
opened_next n history words false t round now h k i = h k i

-- y is x, or a later word of the same register
abbrev pub WordBefore : Word → Word → Type 0
WordBefore x y = (x.seq < y.seq) ⊎ (x ≡ y)

pub before_trans : (x y z : Word) → WordBefore x y → WordBefore y z → WordBefore x z
before_trans x y z (inl p) (inl q) = inl (omega arith)
before_trans x y z (inl p) (inr q) = inl (subst (λ (w : Word). x.seq < w.seq) q p)
before_trans x y z (inr p) q = subst (λ (w : Word). WordBefore w z) (sym p) q

pub before_seq : (x y : Word) → WordBefore x y → x.seq ≤ y.seq
before_seq x y (inl p) = omega arith
before_seq x y (inr p) = let e : x.seq ≡ y.seq = ap (λ (w : Word). w.seq) p in omega arith

-- words with equal sequence numbers that stand so are one
pub squeezed : (a mid b : Word) → WordBefore a mid → WordBefore mid b → a.seq ≡ b.seq → mid ≡ b
squeezed a mid b (inl p) (inl q) e = absurd (omega arith)
squeezed a mid b (inr p) (inl q) e = absurd (let s : a.seq ≡ mid.seq = ap (λ (w : Word). w.seq) p in omega arith)
squeezed a mid b _ (inr q) e = q

-- each word of the memory stays or is written anew
abbrev pub Grows : ℕ → List Word → List Word → Type 0
Grows n m m' = (k : ℕ) → IsOneOf n k → WordBefore (word_at m k) (word_at m' k)

pub same_data : (n : ℕ) (m b : List Word) → length m ≡ n → n ≤ length b →
    ((k : ℕ) → IsOneOf n k → word_at m k ≡ word_at b k) → data_of m ≡ data_of (take n b)
same_data n m b len more h =
    let len_b : length (take n b) ≡ n = length-take-le n b more in
    ap data_of (ext_get_or no_word m (take n b) (len ∙ sym len_b) (λ i lt.
    let at : i + 1 - 1 ≡ i = omega arith in
    ap (λ k. slice_index_or m k no_word) (sym at) ∙ h (i + 1) (omega arith, omega arith)
    ∙ ap (λ k. slice_index_or b k no_word) at
    ∙ sym (get_or-take n b i no_word (omega arith))))
