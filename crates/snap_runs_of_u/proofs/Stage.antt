-- How far a scan of U has come at each line, and that each line takes it on.
use Rattle.std.specs.Prelude.{◌≡◌, ℕ, ◌+◌, ◌-◌, ◌≤◌, max, List, take, length, map, nat_lt, if◌then◌else◌, refl}
use Rattle.std.proofs.Common.{subst, arith}
use Rattle.std.proofs.lemmas.List.{length-set}
use Rattle.snap_runs.proofs.Common.{places_to, all_true, first_true, IsOneOf}
use Rattle.snap_runs.proofs.Algorithm.{Mode, Scanning, Updating, To, Begin, Answer, Finish}
use Rattle.snap_runs.proofs.Computing.{not_lt, same_from, either, whether}
use Rattle.snap_runs.proofs.Held.{word_at, Held, held_wider, Beside, beside_wider, Lent, lent_wider, data_of, seq_at}
use Rattle.snap_runs.proofs.Held.{before_trans, before_seq, Grows}
use Rattle.snap_runs.proofs.Places.{for_each_at, first_found}
use Rattle.snap_runs_of_u.proofs.Algorithm.{Words, Move, Variables, ProgramCounter, L10, L11, L12, L13, L14, L15, L16}
use Rattle.snap_runs_of_u.proofs.Algorithm.{L17, L18, L19, L21, L22, L23, L24, L30, L31, L32, L33, move, first_to}
use Rattle.snap_runs_of_u.proofs.Algorithm.{agree, limit, moved_at, counted, at_limit, IsLineOf, restarts, writes}
use Rattle.snap_runs_of_u.proofs.Collect.{floor, Low, First, Viewed, Second, Between, Gained, first_more}
use Rattle.snap_runs_of_u.proofs.Collect.{second_starts, second_more, passed, gained_at}
use Rattle.snap_runs_of_u.proofs.Control.{VariablesAt}

module _ (n : ℕ) (history : ℕ → Words) (t since round : ℕ) (words : Words) (p : Variables) where
  -- How far a scan has come at each line. Nothing is known at line 10; from line 11 to 17 and at line 19 every move
  -- that it has seen is a write since its start (Low).
  abbrev pub Stage : ProgramCounter → Type 0
  Stage L10 = Unit {0}
  Stage L11 = Low n (history since) words p.moved
  -- the first collect has come to place j, and goes on
  Stage L12 = Low n (history since) words p.moved × First n (history since) (history round) words p.moved p.a p.j
  Stage L13 = Low n (history since) words p.moved × First n (history since) (history round) words p.moved p.a (p.j + 1)
  -- the second collect has come to place j, and goes on; there is a state between the two collects
  Stage L14 = Low n (history since) words p.moved × Between n history t since round words p.moved p.a p.b p.j
  Stage L15 = Low n (history since) words p.moved × Between n history t since round words p.moved p.a p.b (p.j + 1)
  -- both collects are done
  Stage L16 = Low n (history since) words p.moved × Between n history t since round words p.moved p.a p.b (n + 1)
  Stage L17 = Low n (history since) words p.moved × Between n history t since round words p.moved p.a p.b (n + 1)
  -- the double collect has failed, and its moves are counted
  Stage L18 = Gained n history t since words p.moved p.b
  -- no process has moved up to the limit
  Stage L19 = Low n (history since) words p.moved
  -- the double collect has passed: the second copies were the values at some state since the scan's start; then so is s
  Stage L21 = Held history t since (data_of (take n p.b))
  Stage L22 = Held history t since p.s
  -- process j has moved up to the limit, so that the view beside its second write will do; then s is that view
  Stage L23 = Gained n history t since words p.moved p.b × (moved_at p p.j ≡ limit)
  Stage L24 = Held history t since p.s × ((k : ℕ) × IsOneOf n k × Beside history t since k p.s)
  -- an update has no view yet, then that of its embedded scan, until it has written it
  Stage L30 = Unit {0}
  Stage L31 = Held history t since p.s
  Stage L32 = Held history t since p.s
  Stage L33 = Unit {0}

module _ (n : ℕ) (history : ℕ → Words) (t since round : ℕ) where
  -- What a line leaves is the stage of the next one; a scan's answer was held since its start.
  abbrev pub StageMove : Move → Type 0
  StageMove (To d words p k) = Stage n history t since round words p k
  StageMove (Begin d p k) = k ≡ L10
  StageMove (Answer v) = Held history t since v
  StageMove Finish = Unit {0}

-- what is known of every process, at whichever line it stands
pub record Known (n me : ℕ) (history : ℕ → Words) (t since round : ℕ) (words : Words) (d : Mode) (p : Variables)
    (k : ProgramCounter) : Type 0 where
  -- there are n words at every state, and those of state t are the words now
  pub lengths : (u : ℕ) → u ≤ t → length (history u) ≡ n
  pub now : history t ≡ words
  -- the clauses of the invariant that hold at every line
  pub since_le : since ≤ t
  pub length_a : length p.a ≡ max n n
  pub length_b : length p.b ≡ max n n
  pub low : (k : ℕ) → IsOneOf n k → seq_at (history since) k ≤ seq_at words k
  pub opened : (k : ℕ) → IsOneOf n k → seq_at (history round) k ≤ seq_at words k
  pub views : Viewed n history t since words
  pub line : IsLineOf me d k
  pub keeps : VariablesAt n p k

-- between the collects a process has written no less than the first copy says, and no more than the second one
pub copies_grow : (n : ℕ) (history : ℕ → Words) (t since round : ℕ) (words : Words) (p : Variables) →
    Between n history t since round words p.moved p.a p.b (n + 1) →
    (k : ℕ) → IsOneOf n k → seq_at p.a k ≤ seq_at p.b k
copies_grow n history t since round words p h k i =
    let s : Second n history t since round words p.moved p.a p.b (n + 1) (history h.0) = h.3 in
    before_seq (word_at p.a k) (word_at p.b k)
    (before_trans (word_at p.a k) (word_at (history h.0) k) (word_at p.b k)
    (s.first k i).before (s.read k i (omega arith)).0)

module _ (n me : ℕ) (history : ℕ → Words) (t since round : ℕ) (words : Words) where
  -- each line takes the scan on; a line that starts another double collect does so at item t
  pub stage_move : (d : Mode) (p : Variables) (k : ProgramCounter) → Known n me history t since round words d p k →
      Stage n history t since round words p k →
      StageMove n history t since (if restarts k then t else round) (move n me d words p k)
  stage_move d p L10 known h =
      λ k i. rw (for_each_at n (λ k. 0) p.moved k i)
      (omega (arith, known.low k i))
  stage_move d p L11 known h = (h, λ k i lt. absurd (omega arith))
  stage_move d p L12 known h = (
    h.0,
    first_more n (history since) (history round) words p.moved p.a p.j known.keeps.0
        (omega (arith, known.length_a)) h.0 known.opened h.1,
  )
  stage_move d p L13 known h =
      either (StageMove n history t since round) (nat_lt p.j n) _ _ (λ b. h)
      (λ b. (
        h.0,
        second_starts n history t since round words p.moved p.a p.b known.now known.since_le
            (λ k i lt. h.1 k i (omega (arith, not_lt p.j n b))),
      ))
  stage_move d p L14 known h =
      let len : length p.b ≡ max n n = known.length_b in (
        h.0,
        second_more n history t since round words p.moved p.a p.b p.j known.keeps.0
            (omega arith) known.now known.since_le known.views h.1,
      )
  stage_move d p L15 known h =
      either (StageMove n history t since round) (nat_lt p.j n) _ _ (λ b. h)
      (λ b. (
        h.0,
        subst (λ x. Between n history t since round words p.moved p.a p.b (x + 1))
            (let ge : n ≤ p.j = not_lt p.j n b in let e : p.j ≡ n = omega (arith, known.keeps.0) in e) h.1,
      ))
  stage_move d p L16 known h =
      either (StageMove n history t since round) (all_true (map (agree p) (places_to n))) _ _
      (λ b. passed n history t since round words p known.lengths (omega (arith, known.length_b)) h.1 b) (λ b. h)
  stage_move d p L17 known h =
      let s : Second n history t since round words p.moved p.a p.b (n + 1) (history h.1.0) = h.1.3 in
      record {
        low = λ k i.
            rw (for_each_at n (counted p) p.moved k i)
            (gained_at (seq_at (history since) k) (seq_at p.a k) (seq_at p.b k) (agree p k)
            (moved_at p k) refl (s.first k i).moves
            (copies_grow n history t since round words p h.1 k i));
        before = λ k i. (s.read k i (omega arith)).1;
        views = λ k i. s.views k i (omega arith);
      }
  stage_move d p L18 known h =
      whether (StageMove n history t since round) (first_to d words p) (first_true 1 (map (at_limit p) (places_to n)))
      (λ e k i. omega (arith, h.low k i, before_seq (word_at p.b k) (word_at words k) (h.before k i)))
      (λ k e. (
        record { low = h.low; before = h.before; views = h.views },
        same_from (moved_at p k) limit (first_found 1 n (at_limit p) k e).2,
      ))
  stage_move d p L19 known h = let one : p.j ≡ 1 = known.keeps.0 in (h, λ k i lt. absurd (omega arith))
  stage_move d p L21 known h = h
  stage_move (Updating w x) p L22 known h = absurd known.line
  stage_move d p L22 known h = h
  stage_move d p L23 known h =
      let g : Gained n history t since words p.moved p.b = h.0 in
      let l : floor (history since) p.moved p.j ≤ seq_at p.b p.j = g.low p.j known.keeps in
      let lent : Lent history t since p.j (word_at p.b p.j).view = g.views p.j known.keeps (omega (arith, h.1)) in
      (lent.0, (p.j, known.keeps, lent.1))
  stage_move (Updating w x) p L24 known h = absurd known.line
  stage_move d p L24 known h = h.0
  stage_move (Updating w x) p L30 known h = refl
  stage_move d p L30 known h = absurd known.line
  stage_move d p L31 known h = h
  stage_move d p L32 known h = tt
  stage_move d p L33 known h = tt

-- Time passes and other processes write.
pub low_kept : (n : ℕ) (base words words' : Words) (moved : List ℕ) → Grows n words words' →
    Low n base words moved → Low n base words' moved
low_kept n base words words' moved g h k i =
    omega (arith, h k i, before_seq (word_at words k) (word_at words' k) (g k i))

pub first_kept : (n : ℕ) (base opening words words' : Words) (moved : List ℕ) (a : Words) (j : ℕ) →
    Grows n words words' → First n base opening words moved a j → First n base opening words' moved a j
first_kept n base opening words words' moved a j g h k i lt = record {
  moves = (h k i lt).moves;
  fresh = (h k i lt).fresh;
  before = before_trans (word_at a k) (word_at words k) (word_at words' k) (h k i lt).before (g k i);
}

module _ (n : ℕ) (history : ℕ → Words) (t t' since : ℕ) where
  pub between_kept : (round : ℕ) (words words' : Words) (moved : List ℕ) (a b : Words) (j : ℕ) → t ≤ t' →
      Grows n words words' → Between n history t since round words moved a b j →
      Between n history t' since round words' moved a b j
  between_kept round words words' moved a b j le g h =
      let s : Second n history t since round words moved a b j (history h.0) = h.3 in (
        h.0,
        h.1,
        omega arith,
        record {
          first = s.first;
          read =
              λ k i lt. let r = s.read k i lt in
              (r.0, before_trans (word_at b k) (word_at words k) (word_at words' k) r.1 (g k i));
          now = λ k i. before_trans (word_at (history h.0) k) (word_at words k) (word_at words' k) (s.now k i) (g k i);
          views = λ k i lt more. lent_wider history t t' since k (word_at b k).view le (s.views k i lt more);
        },
      )

  pub gained_kept : (words words' : Words) (moved : List ℕ) (b : Words) → t ≤ t' → Grows n words words' →
      Gained n history t since words moved b → Gained n history t' since words' moved b
  gained_kept words words' moved b le g h = record {
    low = h.low;
    before = λ k i. before_trans (word_at b k) (word_at words k) (word_at words' k) (h.before k i) (g k i);
    views = λ k i more. lent_wider history t t' since k (word_at b k).view le (h.views k i more);
  }

held_on : (history : ℕ → Words) (t t' since : ℕ) (v : List ℕ) → t ≤ t' → Held history t since v →
    Held history t' since v
held_on history t t' since v le h = held_wider history t t' since since v le (omega arith) h

ruleset still = (low_kept, first_kept, between_kept, gained_kept, held_on)

module _ (n : ℕ) (history : ℕ → Words) (t t' since round : ℕ) (words words' : Words) (p : Variables) where
  pub stage_kept : (k : ProgramCounter) → t ≤ t' → Grows n words words' → Stage n history t since round words p k →
      Stage n history t' since round words' p k
  stage_kept L24 le g h = (
    held_on history t t' since p.s le h.0,
    (h.1.0, h.1.1, beside_wider history t t' since h.1.0 p.s le h.1.2),
  )
  stage_kept k le g h = search still

-- The copies have all places, and c is the number of writes so far, one ahead at line 32.
abbrev pub Sized : ℕ → ℕ → Variables → ProgramCounter → Type 0
Sized n s p k = (length p.a ≡ max n n) × (length p.b ≡ max n n) × (p.c ≡ s + writes k)

abbrev pub SizedMove : ℕ → ℕ → Move → Type 0
SizedMove n s (To d m p k) = Sized n s p k
SizedMove n s (Begin d p k) = Sized n s p k
SizedMove n s (Answer v) = Unit {0}
SizedMove n s Finish = Unit {0}

module _ (n me s : ℕ) where
  pub sized_move : (d : Mode) (m : Words) (p : Variables) (k : ProgramCounter) → IsLineOf me d k → Sized n s p k →
      SizedMove n (s + writes k) (move n me d m p k)
  sized_move d m p L12 doable h = omega (arith, length-set p.a (p.j - 1) (word_at m p.j))
  sized_move (Updating w x) m p L30 doable h = omega arith
  sized_move d m p L13 doable h =
      either (SizedMove n (s + 0)) (nat_lt p.j n) _ _ (λ b. omega arith) (λ b. omega arith)
  sized_move d m p L14 doable h = omega (arith, length-set p.b (p.j - 1) (word_at m p.j))
  sized_move d m p L15 doable h =
      either (SizedMove n (s + 0)) (nat_lt p.j n) _ _ (λ b. omega arith) (λ b. omega arith)
  sized_move d m p L16 doable h =
      either (SizedMove n (s + 0)) (all_true (map (agree p) (places_to n))) _ _ (λ b. omega arith) (λ b. omega arith)
  sized_move d m p L18 doable h =
      whether (SizedMove n (s + 0)) (first_to d m p) (first_true 1 (map (at_limit p) (places_to n)))
      (λ e. omega arith) (λ k e. omega arith)
  sized_move Scanning m p L22 doable h = tt
  sized_move (Updating w x) m p L22 doable h = tt
  sized_move Scanning m p L24 doable h = tt
  sized_move (Updating w x) m p L24 doable h = tt
  sized_move d m p k doable h = omega arith
