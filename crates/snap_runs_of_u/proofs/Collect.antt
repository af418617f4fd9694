-- The two collects of a double collect of U, and what a scan learns of them.
use Rattle.std.proofs.Common.{◌≡◌, ℕ, ◌+◌, ◌-◌, ◌<◌, ◌≤◌, Bool, true, false, not, List, take, length, map, slice_index}
use Rattle.std.proofs.Common.{slice_set, nat_eq, if◌then◌else◌, refl, sym, ◌∙◌, ap, subst, arith, inl, inr}
use Rattle.std.proofs.lemmas.Bool.{cases_eq}
use Rattle.std.proofs.lemmas.Grind.{get_or-set_at}
use Rattle.std.proofs.lemmas.List.{get_or-set_other}
use Rattle.snap_runs.proofs.Common.{IsOneOf, Word, no_word, places_to, all_true}
use Rattle.snap_runs.proofs.Held.{word_at, Held, Lent, beside_now, data_of, seq_at, WordBefore, squeezed, same_data}
use Rattle.snap_runs.proofs.Computing.{same_from, differs}
use Rattle.snap_runs.proofs.Places.{all_pass}
use Rattle.snap_runs_of_u.proofs.Algorithm.{Words, Variables, compared, agree}

-- In all that follows `history u` are the words after u items, t is the number of items so far and `words` the words
-- now; `since` is the item that started the scan, and `round` the item that started its double collect.

-- the writes of process k up to the scan's start, and the moves of k that it has seen since
abbrev pub floor : Words → List ℕ → ℕ → ℕ
floor base moved k = seq_at base k + slice_index moved (k - 1)

-- Every move that the scan has seen is a write since its start.
abbrev pub Low : ℕ → Words → Words → List ℕ → Type 0
Low n base words moved = (k : ℕ) → IsOneOf n k → floor base moved k ≤ seq_at words k

-- a word of the first collect: not older than the moves that were seen, nor than the double
-- collect, and `now` is not older
pub record FirstCopy (base opening : Words) (moved : List ℕ) (copy now : Words) (k : ℕ) : Type 0 where
  pub moves : floor base moved k ≤ seq_at copy k
  pub fresh : seq_at opening k ≤ seq_at copy k
  pub before : WordBefore (word_at copy k) (word_at now k)

-- The first collect has come to place j.
abbrev pub First : ℕ → Words → Words → Words → List ℕ → Words → ℕ → Type 0
First n base opening words moved a j = (k : ℕ) → IsOneOf n k → k < j → FirstCopy base opening moved a words k

-- The view beside the second or a later write since the scan's start was the values at some state since.
abbrev pub Viewed : ℕ → (ℕ → Words) → ℕ → ℕ → Words → Type 0
Viewed n history t since words =
    (k : ℕ) → IsOneOf n k → seq_at (history since) k + 2 ≤ seq_at words k → Held history t since (word_at words k).view

-- The second collect has come to place j; `between` are the words at a state between the two collects.
pub record Second (n : ℕ) (history : ℕ → Words) (t since round : ℕ) (words : Words) (moved : List ℕ) (a b : Words)
    (j : ℕ) (between : Words) : Type 0 where
  -- the first collect was before
  pub first : (k : ℕ) → IsOneOf n k → FirstCopy (history since) (history round) moved a between k
  -- the second collect was after it, and the words now are not older
  pub read : (k : ℕ) → IsOneOf n k → k < j →
      WordBefore (word_at between k) (word_at b k) × WordBefore (word_at b k) (word_at words k)
  pub now : (k : ℕ) → IsOneOf n k → WordBefore (word_at between k) (word_at words k)
  -- the views that the second collect read are as those of the registers
  pub views : (k : ℕ) → IsOneOf n k → k < j → seq_at (history since) k + 2 ≤ seq_at b k →
      Lent history t since k (word_at b k).view

-- Between the two collects there is a state, since the scan's start.
abbrev pub Between : ℕ → (ℕ → Words) → ℕ → ℕ → ℕ → Words → List ℕ → Words → Words → ℕ → Type 0
Between n history t since round words moved a b j =
    (u : ℕ) × (since ≤ u) × (u ≤ t) × Second n history t since round words moved a b j (history u)

-- The double collect has failed and its moves are counted.
pub record Gained (n : ℕ) (history : ℕ → Words) (t since : ℕ) (words : Words)
    (moved : List ℕ) (b : Words) : Type 0 where
  -- every move is a write that the second collect saw
  pub low : (k : ℕ) → IsOneOf n k → floor (history since) moved k ≤ seq_at b k
  -- the words now are not older than the second collect
  pub before : (k : ℕ) → IsOneOf n k → WordBefore (word_at b k) (word_at words k)
  -- the views that it read are as those of the registers
  pub views : (k : ℕ) → IsOneOf n k → seq_at (history since) k + 2 ≤ seq_at b k →
      Lent history t since k (word_at b k).view

-- a first copy has the same word and the same number of moves
same_copy : (base opening : Words) (moved : List ℕ) (x y now : Words) (k : ℕ) → word_at x k ≡ word_at y k →
    FirstCopy base opening moved x now k → FirstCopy base opening moved y now k
same_copy base opening moved x y now k e h = record {
  moves = subst (λ (w : Word). floor base moved k ≤ w.seq) e h.moves;
  fresh = subst (λ (w : Word). seq_at opening k ≤ w.seq) e h.fresh;
  before = subst (λ (w : Word). WordBefore w (word_at now k)) e h.before;
}

-- line 12 reads one more word
pub first_more : (n : ℕ) (base opening words : Words) (moved : List ℕ) (a : Words) (j : ℕ) →
    IsOneOf n j → n ≤ length a → Low n base words moved →
    ((k : ℕ) → IsOneOf n k → seq_at opening k ≤ seq_at words k) → First n base opening words moved a j →
    First n base opening words moved (slice_set a (j - 1) (word_at words j)) (j + 1)
first_more n base opening words moved a j i len low opened h k ik lt =
    elim (cases_eq k j) [
      | inl same ↦ same_copy base opening moved words (slice_set a (j - 1) (word_at words j)) words k
          (ap (word_at words) same
          ∙ sym (get_or-set_at a (j - 1) (k - 1) (word_at words j) no_word (omega arith) (omega arith)))
          (record { moves = low k ik; fresh = opened k ik; before = inr refl })
      | inr other ↦ same_copy base opening moved a (slice_set a (j - 1) (word_at words j)) words k
          (sym (get_or-set_other a (j - 1) (k - 1) (word_at words j) no_word (λ same. other (omega arith))))
          (h k ik (omega arith))
    ]

-- when the first collect is done, the words of now stand between the collects
pub second_starts : (n : ℕ) (history : ℕ → Words) (t since round : ℕ) (words : Words) (moved : List ℕ) (a b : Words) →
    history t ≡ words → since ≤ t →
    First n (history since) (history round) words moved a (n + 1) → Between n history t since round words moved a b 1
second_starts n history t since round words moved a b now le h =
    let P : Words → Type 0 = λ between. Second n history t since round words moved a b 1 between in
    let here : P words = record {
      first = λ k i. h k i (omega arith);
      read = λ k i lt. absurd (omega arith);
      now = λ k i. inr refl;
      views = λ k i lt. absurd (omega arith);
    } in
    (t, le, omega arith, subst P (sym now) here)

-- line 14 reads one more word
pub second_more : (n : ℕ) (history : ℕ → Words) (t since round : ℕ) (words : Words) (moved : List ℕ)
    (a b : Words) (j : ℕ) → IsOneOf n j → n ≤ length b → history t ≡ words → since ≤ t →
    Viewed n history t since words → Between n history t since round words moved a b j →
    Between n history t since round words moved a (slice_set b (j - 1) (word_at words j)) (j + 1)
second_more n history t since round words moved a b j i len now le v h =
    let s : Second n history t since round words moved a b j (history h.0) = h.3 in (
      h.0,
      h.1,
      h.2,
      record {
        first = s.first;
        now = s.now;
        read = λ k ik lt.
            let P : Word → Type 0 = λ w. WordBefore (word_at (history h.0) k) w × WordBefore w (word_at words k) in
            elim (cases_eq k j) [
              | inl same ↦
                  subst P (sym (get_or-set_at b (j - 1) (k - 1) (word_at words j) no_word (omega arith) (omega arith)))
                  (subst (λ x. WordBefore (word_at (history h.0) k) (word_at words x)
                  × WordBefore (word_at words x) (word_at words k)) same (s.now k ik, inr refl))
              | inr other ↦
                  subst P
                  (sym (get_or-set_other b (j - 1) (k - 1) (word_at words j) no_word (λ same. other (omega arith))))
                  (s.read k ik (omega arith))
            ];
        views = λ k ik lt.
            let P : Word → Type 0 = λ w. seq_at (history since) k + 2 ≤ w.seq → Lent history t since k w.view in
            elim (cases_eq k j) [
              | inl same ↦
                  subst P (sym (get_or-set_at b (j - 1) (k - 1) (word_at words j) no_word (omega arith) (omega arith)))
                  (subst (λ x. P (word_at words x)) same
                  (λ more. (v k ik more, beside_now history t since k words now le more)))
              | inr other ↦
                  subst P
                  (sym (get_or-set_other b (j - 1) (k - 1) (word_at words j) no_word (λ same. other (omega arith))))
                  (s.views k ik (omega arith))
            ];
      },
    )

-- a passed test: the second collect is the words between the collects
pub passed : (n : ℕ) (history : ℕ → Words) (t since round : ℕ) (words : Words) (p : Variables) →
    ((u : ℕ) → u ≤ t → length (history u) ≡ n) → n ≤ length p.b →
    Between n history t since round words p.moved p.a p.b (n + 1) → all_true (map (agree p) (places_to n)) ≡ true →
    Held history t since (data_of (take n p.b))
passed n history t since round words p lengths len h test =
    let s : Second n history t since round words p.moved p.a p.b (n + 1) (history h.0) = h.3 in (
      h.0,
      h.1,
      h.2,
      same_data n (history h.0) p.b (lengths h.0 h.2) len (λ k i.
          squeezed (word_at p.a k) (word_at (history h.0) k) (word_at p.b k)
          (s.first k i).before (s.read k i (omega arith)).0
          (let same : compared (word_at p.a k) ≡ compared (word_at p.b k) =
          same_from (compared (word_at p.a k)) (compared (word_at p.b k))
          (all_pass (agree p) 1 n test k (omega arith) (omega arith)) in omega arith)),
    )

-- a failed test counted: a process that is seen to move has written
pub gained_at : (f x y : ℕ) (b : Bool) (v : ℕ) → nat_eq x y ≡ b → f + v ≤ x → x ≤ y →
    f + (if not b then v + 1 else v) ≤ y
gained_at f x y true v e low le = omega arith
gained_at f x y false v e low le = omega (arith, differs x y e le)
