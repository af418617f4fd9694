-- A passed test of B: the data of the second collect were the values at a state between the two collects.
use Rattle.std.proofs.Common.{◌≡◌, ℕ, ◌+◌, ◌≤◌, true, take, length, map, arith}
use Rattle.snap_runs.proofs.Common.{IsOneOf, places_to, all_true}
use Rattle.snap_runs.proofs.Held.{word_at, Held, data_of, seq_at, same_data}
use Rattle.snap_runs.proofs.Places.{all_pass}
use Rattle.snap_runs_of_b.proofs.Algorithm.{Words, Variables, place, agree}
use Rattle.snap_runs_of_b.proofs.Collect.{Second, Between, Agreed, agreed, agreed_of, copies_follow}
use Rattle.snap_runs_of_b.proofs.Follow.{follows_seq, squeezed}

-- a passed test: both copies of a word have equal counts
pub equal_counts : (n i : ℕ) (history : ℕ → Words) (t since round : ℕ) (words : Words) (p : Variables) →
    Between n i history t since round words p.g p.marks p.a p.b (n + 1) →
    all_true (map (agree i p) (places_to n)) ≡ true → (k : ℕ) → IsOneOf n k → seq_at p.a k ≡ seq_at p.b k
equal_counts n i history t since round words p h test k ik =
    let s : Second n i history t since round words p.g p.marks p.a p.b (n + 1) (history h.0) = h.3 in
    let says : Agreed i p k = agreed_of i p k (all_pass (agree i p) 1 n test k (omega arith) (omega arith)) in
    let follows = copies_follow n i history t since round words p h k ik in
    let le : seq_at p.a k ≤ seq_at p.b k = follows_seq (word_at p.a k) (word_at p.b k) follows in
    let ge : seq_at p.b k ≤ seq_at p.a k =
    agreed (word_at p.a k) (word_at p.b k) (place p.marks k) (place p.g k) i follows (s.first k ik).marked
    (s.read k ik (omega arith)).late
    says.handshake_b (let same : (word_at p.a k).toggle ≡ (word_at p.b k).toggle = omega arith in same) in
    omega arith

-- where the test passes, the second collect is the words between the collects
pub passed : (n i : ℕ) (history : ℕ → Words) (t since round : ℕ) (words : Words) (p : Variables) →
    ((u : ℕ) → u ≤ t → length (history u) ≡ n) → n ≤ length p.b →
    Between n i history t since round words p.g p.marks p.a p.b (n + 1) →
    all_true (map (agree i p) (places_to n)) ≡ true → Held history t since (data_of (take n p.b))
passed n i history t since round words p lengths len h test =
    let s : Second n i history t since round words p.g p.marks p.a p.b (n + 1) (history h.0) = h.3 in (
      h.0,
      h.1,
      h.2,
      same_data n (history h.0) p.b (lengths h.0 h.2) len (λ k ik.
          let equal : seq_at p.a k ≡ seq_at p.b k = equal_counts n i history t since round words p h test k ik in
          squeezed (word_at p.a k) (word_at (history h.0) k) (word_at p.b k) (s.first k ik).before
          (s.read k ik (omega arith)).after (omega arith)),
    )
