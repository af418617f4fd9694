-- How far a scan of B has come at each line, and that each line takes it on.
use Rattle.std.proofs.Common.{◌≡◌, ℕ, zero, suc, ◌+◌, ◌-◌, ◌≤◌, max, true, false, List, take, length, map, nat_eq}
use Rattle.std.proofs.Common.{nat_lt, if◌then◌else◌, slice_set, refl, sym, ◌∙◌, subst, arith, inl, inr}
use Rattle.std.proofs.lemmas.Bool.{cases_eq}
use Rattle.std.proofs.lemmas.List.{length-set}
use Rattle.snap_runs.proofs.Common.{IsOneOf, Word, places_to, all_true, first_true}
use Rattle.snap_runs.proofs.Algorithm.{Mode, Scanning, Updating, To, Begin, Answer, Finish}
use Rattle.snap_runs.proofs.Computing.{not_lt, same_from, either, whether}
use Rattle.snap_runs.proofs.Held.{word_at, Held, held_wider, Beside, beside_wider, Lent, lent_wider, data_of, seq_at}
use Rattle.snap_runs.proofs.Places.{for_each_at, first_found}
use Rattle.snap_runs_of_b.proofs.Algorithm.{Words, Registers, Move, Variables, ProgramCounter, L10, L11, L12, L13, L14}
use Rattle.snap_runs_of_b.proofs.Algorithm.{L15, L16, L17, L18, L19, L20, L21, L22, L23, L25, L26, L27, L28, L40, L41}
use Rattle.snap_runs_of_b.proofs.Algorithm.{L42, L43, L44, L45, L46, L47, move, first_to, handshake_at, answer, flipped}
use Rattle.snap_runs_of_b.proofs.Algorithm.{agree, limit, moved_at, counted, at_limit, IsLineOf, restarts, writes}
use Rattle.snap_runs_of_b.proofs.Control.{VariablesAt, Sized}
use Rattle.snap_runs_of_b.proofs.Lines.{Bits, SaysBits}
use Rattle.snap_runs_of_b.proofs.Follow.{IsLaterWord, follows_trans, follows_seq, Grows}
use Rattle.snap_runs_of_b.proofs.Collect.{floor, Low, Drawn, Put, PutTo, Late, First, Viewed, Second, Between, Gained}
use Rattle.snap_runs_of_b.proofs.Collect.{word_set, place_set, place_kept, put_drawn, just_drawn, put_more, first_more}
use Rattle.snap_runs_of_b.proofs.Collect.{second_starts, second_more, copies_follow, moved_since, gained_at}
use Rattle.snap_runs_of_b.proofs.PassedTests.{passed}

-- The copy of the word at place j was read since the double collect's start.
abbrev pub Copied : Words → Words → Words → ℕ → Type 0
Copied opening words a j = (seq_at opening j ≤ seq_at a j) × IsLaterWord (word_at a j) (word_at words j)

-- how far the handshake has come: the places below this one
abbrev pub reach : ℕ → Variables → ProgramCounter → ℕ
reach n p L12 = p.j
reach n p L13 = p.j
reach n p L14 = p.j
reach n p L15 = p.j + 1
reach n p L16 = n + 1
reach n p L17 = n + 1
reach n p L18 = n + 1
reach n p L19 = n + 1
reach n p L20 = n + 1
reach n p L21 = n + 1
reach n p _ = 0

module _ (n i : ℕ) (history : ℕ → Words) (t since round : ℕ) (words : Words) (p : Variables) where
  -- How far a scan has come at each line.
  abbrev pub Stage : ProgramCounter → Type 0
  -- a double collect starts no earlier than its scan
  Stage L10 = (k : ℕ) → IsOneOf n k → seq_at (history since) k ≤ seq_at (history round) k
  -- every move that the scan has seen is a write between its start and the start of this
  -- double collect (Low), up to line 21
  Stage L11 = Low n (history since) (history round) p.moved
  -- the bits for the places below j are put; the copy of word j is read, its bit drawn, then put
  Stage L12 = Low n (history since) (history round) p.moved × PutTo n (history round) words p.g p.marks i p.j
  Stage L13 =
      Low n (history since) (history round) p.moved × PutTo n (history round) words p.g p.marks i p.j
      × Copied (history round) words p.a p.j
  Stage L14 =
      Low n (history since) (history round) p.moved × PutTo n (history round) words p.g p.marks i p.j
      × Drawn (history round) words p.g i p.j
  Stage L15 = Low n (history since) (history round) p.moved × PutTo n (history round) words p.g p.marks i (p.j + 1)
  -- all bits are put; the first collect has come to place j, and goes on
  Stage L16 =
      Low n (history since) (history round) p.moved × PutTo n (history round) words p.g p.marks i (n + 1)
      × First n (history round) words p.marks p.a p.j
  Stage L17 =
      Low n (history since) (history round) p.moved × PutTo n (history round) words p.g p.marks i (n + 1)
      × First n (history round) words p.marks p.a (p.j + 1)
  -- the second collect has come to place j, and goes on; there is a state between the two collects
  Stage L18 =
      Low n (history since) (history round) p.moved × PutTo n (history round) words p.g p.marks i (n + 1)
      × Between n i history t since round words p.g p.marks p.a p.b p.j
  Stage L19 =
      Low n (history since) (history round) p.moved × PutTo n (history round) words p.g p.marks i (n + 1)
      × Between n i history t since round words p.g p.marks p.a p.b (p.j + 1)
  -- both collects are done
  Stage L20 =
      Low n (history since) (history round) p.moved × Between n i history t since round words p.g p.marks p.a p.b (n + 1)
  Stage L21 =
      Low n (history since) (history round) p.moved × Between n i history t since round words p.g p.marks p.a p.b (n + 1)
  -- the double collect has failed, and its moves are counted
  Stage L22 = Gained n history t since words p.moved p.b
  -- no process has moved up to the limit
  Stage L23 = Low n (history since) words p.moved
  -- the double collect has passed: the second copies were the values at some state since the scan's start; then so is s
  Stage L25 = Held history t since (data_of (take n p.b))
  Stage L26 = Held history t since p.s
  -- process j has moved up to the limit, so that the view beside its second write will do; then so does s
  Stage L27 = Gained n history t since words p.moved p.b × (moved_at p p.j ≡ limit)
  Stage L28 = Held history t since p.s × ((k : ℕ) × IsOneOf n k × Beside history t since k p.s)
  -- an update has no view yet, then that of its embedded scan, until it has written it
  Stage L40 = Unit {0}
  Stage L41 = Unit {0}
  Stage L42 = Unit {0}
  Stage L43 = Unit {0}
  Stage L44 = Unit {0}
  Stage L45 = Held history t since p.s
  Stage L46 = Held history t since p.s
  Stage L47 = Unit {0}

module _ (n i : ℕ) (history : ℕ → Words) (t since round : ℕ) where
  -- What a line leaves is the stage of the next one; a scan's answer was held since its start.
  abbrev pub StageMove : Move → Type 0
  StageMove (To d m p k) = Stage n i history t since round m.words p k
  StageMove (Begin d p k) = k ≡ L10
  StageMove (Answer v) = Held history t since v
  StageMove Finish = Unit {0}

-- what is known of every process, at whichever line it stands
pub record Known (n i : ℕ) (history : ℕ → Words) (t since round : ℕ) (words : Words) (d : Mode) (p : Variables)
    (k : ProgramCounter) : Type 0 where
  -- there are n words at every state, and those of state t are the words now
  pub lengths : (u : ℕ) → u ≤ t → length (history u) ≡ n
  pub now : history t ≡ words
  -- the clauses of the invariant that hold at every line
  pub since_le : since ≤ t
  pub sized : Sized n p
  pub low : (k : ℕ) → IsOneOf n k → seq_at (history since) k ≤ seq_at words k
  pub opened : (k : ℕ) → IsOneOf n k → seq_at (history round) k ≤ seq_at words k
  pub views : Viewed n history t since words
  pub late : Late n words p.g p.marks i (reach n p k)
  pub line : IsLineOf i d k
  pub keeps : VariablesAt n i p k

module _ (n i : ℕ) (history : ℕ → Words) (t since round : ℕ) where
  -- each line takes the scan on; a line that starts another double collect does so at item t
  pub stage_move : (d : Mode) (m : Registers) (p : Variables) (k : ProgramCounter) →
      Known n i history t since round m.words d p k → Stage n i history t since round m.words p k →
      StageMove n i history t since (if restarts k then t else round) (move n i d m p k)
  stage_move d m p L10 known h =
      λ k ik. rw (for_each_at n (λ k. 0) p.moved k ik)
      (omega (arith, h k ik))
  stage_move d m p L11 known h = (h, λ k ik lt. absurd (omega arith))
  stage_move d m p L12 known h =
      let one : IsOneOf n p.j = known.keeps.0 in
      let set : word_at (slice_set p.a (p.j - 1) (word_at m.words p.j)) p.j ≡ word_at m.words p.j =
      word_set p.a p.j p.j (word_at m.words p.j) one.0 (omega (arith, known.sized.0)) refl in (
        h.0,
        h.1,
        subst (λ (w : Word). (seq_at (history round) p.j ≤ w.seq) × IsLaterWord w (word_at m.words p.j)) (sym set)
            (known.opened p.j one, inr refl),
      )
  stage_move d m p L13 known h =
      let one : IsOneOf n p.j = known.keeps.0 in (
        h.0,
        put_drawn n (history round) m.words p.g p.marks i p.j (handshake_at (word_at p.a p.j) i) one h.1,
        just_drawn n (history round) m.words p.g p.a i p.j one (omega (arith, known.sized.2)) h.2.0 h.2.1,
      )
  stage_move d m p L14 known h =
      let len : length p.marks ≡ max n n = known.sized.4 in
      let one : IsOneOf n p.j = known.keeps.0 in
      (h.0, put_more n (history round) m.words p.g p.marks i p.j one (omega arith) (known.opened p.j one) h.2 h.1)
  stage_move d m p L15 known h =
      either (StageMove n i history t since round) (nat_lt p.j n) _ _ (λ b. h)
      (λ b.
      (h.0, λ k ik lt. h.1 k ik (omega (arith, not_lt p.j n b)), λ k ik lt. absurd (omega arith)))
  stage_move d m p L16 known h =
      let len : length p.a ≡ max n n = known.sized.0 in
      (h.0, h.1, first_more n (history round) m.words p.g p.marks i p.a p.j known.keeps.0 (omega arith) h.1 h.2)
  stage_move d m p L17 known h =
      either (StageMove n i history t since round) (nat_lt p.j n) _ _ (λ b. h)
      (λ b. (
        h.0,
        h.1,
        second_starts n i history t since round m.words p.g p.marks p.a p.b known.now known.since_le
            (λ k ik lt. h.2 k ik (omega (arith, not_lt p.j n b))),
      ))
  stage_move d m p L18 known h =
      let len : length p.b ≡ max n n = known.sized.1 in (
        h.0,
        h.1,
        second_more n i history t since round m.words p.g p.marks p.a p.b p.j known.keeps.0
            (omega arith) known.now known.since_le known.views h.1 known.late h.2,
      )
  stage_move d m p L19 known h =
      either (StageMove n i history t since round) (nat_lt p.j n) _ _ (λ b. h)
      (λ b. (
        h.0,
        subst (λ x. Between n i history t since round m.words p.g p.marks p.a p.b (x + 1))
            (let ge : n ≤ p.j = not_lt p.j n b in let e : p.j ≡ n = omega (arith, known.keeps.0) in e) h.2,
      ))
  stage_move d m p L20 known h =
      either (StageMove n i history t since round) (all_true (map (agree i p) (places_to n))) _ _
      (λ b. passed n i history t since round m.words p known.lengths (omega (arith, known.sized.1)) h.1 b) (λ b. h)
  stage_move d m p L21 known h =
      let s : Second n i history t since round m.words p.g p.marks p.a p.b (n + 1) (history h.1.0) = h.1.3 in
      record {
        low = λ k ik.
            let first = s.first k ik in
            let le : seq_at p.a k ≤ seq_at p.b k =
            follows_seq (word_at p.a k) (word_at p.b k) (copies_follow n i history t since round m.words p h.1 k ik) in
            rw (for_each_at n (counted i p) p.moved k ik)
            (gained_at (seq_at (history since) k) (seq_at (history round) k) (seq_at p.b k) (moved_at p k)
            (agree i p k) (h.0 k ik) (omega (arith, first.marked, first.fresh))
            (moved_since n i history t since round m.words p h.1 k ik));
        before = λ k ik. (s.read k ik (omega arith)).before;
        views = λ k ik. s.views k ik (omega arith);
      }
  stage_move d m p L22 known h =
      whether (StageMove n i history t since round) (first_to d m p) (first_true 1 (map (at_limit p) (places_to n)))
      (λ e k ik. omega (arith, h.low k ik, follows_seq (word_at p.b k) (word_at m.words k) (h.before k ik)))
      (λ k e. (
        record { low = h.low; before = h.before; views = h.views },
        same_from (moved_at p k) limit (first_found 1 n (at_limit p) k e).2,
      ))
  stage_move d m p L23 known h =
      let one : p.j ≡ 1 = known.keeps.0 in
      (subst (λ words. Low n (history since) words p.moved) (sym known.now) h, λ k ik lt. absurd (omega arith))
  stage_move d m p L25 known h = h
  stage_move (Updating word value) m p L26 known h = absurd known.line
  stage_move d m p L26 known h = h
  stage_move d m p L27 known h =
      let g : Gained n history t since m.words p.moved p.b = h.0 in
      let l : floor (history since) p.moved p.j ≤ seq_at p.b p.j = g.low p.j known.keeps in
      let lent : Lent history t since p.j (word_at p.b p.j).view = g.views p.j known.keeps (omega (arith, h.1)) in
      (lent.0, (p.j, known.keeps, lent.1))
  stage_move (Updating word value) m p L28 known h = absurd known.line
  stage_move d m p L28 known h = h.0
  stage_move d m p L43 known h = either (StageMove n i history t since round) (nat_lt p.j n) _ _ (λ b. tt) (λ b. tt)
  stage_move (Updating word value) m p L44 known h = refl
  stage_move d m p L44 known h = absurd known.line
  stage_move d m p L45 known h = h
  stage_move d m p k known h = tt

-- Time passes and other processes write.
pub low_kept : (n : ℕ) (base words words' : Words) (moved : List ℕ) → Grows n words words' →
    Low n base words moved → Low n base words' moved
low_kept n base words words' moved g h k ik =
    omega (arith, h k ik, follows_seq (word_at words k) (word_at words' k) (g k ik))

module _ (n : ℕ) (opening words words' : Words) where
  drawn_kept : (g : List ℕ) (i k : ℕ) → IsOneOf n k → Grows n words words' → Drawn opening words g i k →
      Drawn opening words' g i k
  drawn_kept g i k ik grows h = record {
    word = h.word;
    fresh = h.fresh;
    before = follows_trans h.word (word_at words k) (word_at words' k) h.before (grows k ik);
    says = h.says;
  }

  put_kept : (g marks : List ℕ) (i j : ℕ) → Grows n words words' → PutTo n opening words g marks i j →
      PutTo n opening words' g marks i j
  put_kept g marks i j grows h k ik lt =
      let old : Put opening words g marks i k = h k ik lt in
      record {
        drawn = drawn_kept g i k ik grows old.drawn;
        fresh = old.fresh;
        before = omega (arith, old.before, follows_seq (word_at words k) (word_at words' k) (grows k ik));
      }

  first_kept : (marks : List ℕ) (a : Words) (j : ℕ) → Grows n words words' → First n opening words marks a j →
      First n opening words' marks a j
  first_kept marks a j grows h k ik lt = record {
    fresh = (h k ik lt).fresh;
    marked = (h k ik lt).marked;
    before = follows_trans (word_at a k) (word_at words k) (word_at words' k) (h k ik lt).before (grows k ik);
  }

between_kept : (n i : ℕ) (history : ℕ → Words) (t t' since round : ℕ) (words words' : Words)
    (g marks : List ℕ) (a b : Words) (j : ℕ) → t ≤ t' → Grows n words words' →
    Between n i history t since round words g marks a b j → Between n i history t' since round words' g marks a b j
between_kept n i history t t' since round words words' g marks a b j le grows h =
    let s : Second n i history t since round words g marks a b j (history h.0) = h.3 in (
      h.0,
      h.1,
      omega arith,
      record {
        first = s.first;
        read = λ k ik lt. record {
          after = (s.read k ik lt).after;
          before =
              follows_trans (word_at b k) (word_at words k) (word_at words' k) (s.read k ik lt).before (grows k ik);
          late = (s.read k ik lt).late;
          same = (s.read k ik lt).same;
        };
        now =
            λ k ik.
            follows_trans (word_at (history h.0) k) (word_at words k) (word_at words' k) (s.now k ik) (grows k ik);
        views = λ k ik lt more. lent_wider history t t' since k (word_at b k).view le (s.views k ik lt more);
      },
    )

gained_kept : (n : ℕ) (history : ℕ → Words) (t t' since : ℕ) (words words' : Words) (moved : List ℕ) (b : Words) →
    t ≤ t' → Grows n words words' → Gained n history t since words moved b → Gained n history t' since words' moved b
gained_kept n history t t' since words words' moved b le grows h = record {
  low = h.low;
  before = λ k ik. follows_trans (word_at b k) (word_at words k) (word_at words' k) (h.before k ik) (grows k ik);
  views = λ k ik more. lent_wider history t t' since k (word_at b k).view le (h.views k ik more);
}

-- lines 13 and 14 speak of place j
abbrev pub IsLinePlace : ℕ → Variables → ProgramCounter → Type 0
IsLinePlace n p L13 = IsOneOf n p.j
IsLinePlace n p L14 = IsOneOf n p.j
IsLinePlace n p _ = Unit {0}

pub line_place : (n i : ℕ) (p : Variables) (k : ProgramCounter) → VariablesAt n i p k → IsLinePlace n p k
line_place n i p L13 h = h.0
line_place n i p L14 h = h.0
line_place n i p k h = tt

held_on : (history : ℕ → Words) (t t' since : ℕ) (v : List ℕ) → t ≤ t' → Held history t since v →
    Held history t' since v
held_on history t t' since v le h = held_wider history t t' since since v le (omega arith) h

ruleset still = (low_kept, drawn_kept, put_kept, first_kept, between_kept, gained_kept, held_on)

module _ (n i : ℕ) (history : ℕ → Words) (t t' since round : ℕ) (words words' : Words) (p : Variables) where
  pub stage_kept : (k : ProgramCounter) → t ≤ t' → Grows n words words' → IsLinePlace n p k →
      Stage n i history t since round words p k → Stage n i history t' since round words' p k
  stage_kept L13 le g one h = (
    h.0,
    put_kept n (history round) words words' p.g p.marks i p.j g h.1,
    (h.2.0, follows_trans (word_at p.a p.j) (word_at words p.j) (word_at words' p.j) h.2.1 (g p.j one)),
  )
  stage_kept L28 le g one h = (
    held_on history t t' since p.s le h.0,
    (h.1.0, h.1.1, beside_wider history t t' since h.1.0 p.s le h.1.2),
  )
  stage_kept k le g one h = search still

-- The lengths of the copies and the rows, the bits for the readers, and the toggle: it is the word's, but for line 46.
abbrev pub IsToggle : ℕ → ℕ → ℕ → Type 0
IsToggle zero toggle t = t ≡ toggle
IsToggle (suc ahead) toggle t = t ≡ toggle → ⊥

abbrev pub Toggled : ℕ → Variables → ProgramCounter → Type 0
Toggled toggle p k = IsToggle (writes k) toggle p.t

module _ (n toggle : ℕ) where
  abbrev pub Fit : Variables → ProgramCounter → Type 0
  Fit p k = Sized n p × SaysBits n p × Toggled toggle p k

  abbrev pub FitMove : Move → Type 0
  FitMove (To d m p k) = Fit p k
  FitMove (Begin d p k) = Fit p k
  FitMove (Answer v) = Unit {0}
  FitMove Finish = Unit {0}

bits_set : (n : ℕ) (row : List ℕ) (j v : ℕ) → IsOneOf n j → n ≤ length row → v ≤ 1 → Bits n row →
    Bits n (slice_set row (j - 1) v)
bits_set n row j v one len bit h k ik =
    elim (cases_eq k j) [
      | inl same ↦ subst (λ x. x ≤ 1) (sym (place_set row j k v one.0 (omega arith) same)) bit
      | inr other ↦ subst (λ x. x ≤ 1) (sym (place_kept row j k v one.0 ik.0 other)) (h k ik)
    ]

-- the answer to a bit is another bit
pub answer_bit : (x : ℕ) → answer x ≤ 1
answer_bit x = either (λ v. v ≤ 1) (nat_eq x 0) 1 0 (λ b. omega arith) (λ b. omega arith)

pub answer_differs : (x : ℕ) → answer x ≡ x → ⊥
answer_differs x e = elim (nat_eq x 0) as (λ b. nat_eq x 0 ≡ b → (if b then 1 else 0) ≡ x → ⊥) [
  | true ↦ λ is one. let z : x ≡ 0 = same_from x 0 is in absurd (omega arith)
  | false ↦ λ is none. absurd (let z : nat_eq 0 0 ≡ false = subst (λ y. nat_eq y 0 ≡ false) (sym none) is in cc)
] refl e

-- a toggle that is flipped is the other one
pub flipped_bit : (t : ℕ) → t ≤ 1 → flipped t ≤ 1
flipped_bit zero h = omega arith
flipped_bit (suc zero) h = omega arith
flipped_bit (suc (suc t)) h = absurd (omega arith)

flipped_differs : (t : ℕ) → t ≤ 1 → flipped t ≡ t → ⊥
flipped_differs zero h e = absurd (omega arith)
flipped_differs (suc zero) h e = absurd (omega arith)
flipped_differs (suc (suc t)) h e = absurd (omega arith)

module _ (n i toggle : ℕ) where
  pub fit_move : (d : Mode) (m : Registers) (p : Variables) (k : ProgramCounter) → IsLineOf i d k →
      VariablesAt n i p k → writes k ≡ 0 → Fit n toggle p k → FitMove n toggle (move n i d m p k)
  fit_move d m p L12 s keeps quiet h = assumption (length-set p.a (p.j - 1) (word_at m.words p.j) ∙ h.0.0)
  fit_move (Updating word value) m p L44 s keeps quiet h = h
  fit_move d m p L13 s keeps quiet h =
      assumption (length-set p.g (p.j - 1) (handshake_at (word_at p.a p.j) i) ∙ h.0.2)
  fit_move d m p L14 s keeps quiet h = assumption (length-set p.marks (p.j - 1) (seq_at m.words p.j) ∙ h.0.4)
  fit_move d m p L15 s keeps quiet h = either (FitMove n toggle) (nat_lt p.j n) _ _ (λ b. h) (λ b. h)
  fit_move d m p L16 s keeps quiet h = assumption (length-set p.a (p.j - 1) (word_at m.words p.j) ∙ h.0.0)
  fit_move d m p L17 s keeps quiet h = either (FitMove n toggle) (nat_lt p.j n) _ _ (λ b. h) (λ b. h)
  fit_move d m p L18 s keeps quiet h = assumption (length-set p.b (p.j - 1) (word_at m.words p.j) ∙ h.0.1)
  fit_move d m p L19 s keeps quiet h = either (FitMove n toggle) (nat_lt p.j n) _ _ (λ b. h) (λ b. h)
  fit_move d m p L20 s keeps quiet h =
      either (FitMove n toggle) (all_true (map (agree i p) (places_to n))) _ _ (λ b. h) (λ b. h)
  fit_move d m p L22 s keeps quiet h =
      whether (FitMove n toggle) (first_to d m p) (first_true 1 (map (at_limit p) (places_to n))) (λ e. h) (λ k e. h)
  fit_move Scanning m p L26 s keeps quiet h = tt
  fit_move (Updating word value) m p L26 s keeps quiet h = tt
  fit_move Scanning m p L28 s keeps quiet h = tt
  fit_move (Updating word value) m p L28 s keeps quiet h = tt
  fit_move d m p L42 s keeps quiet h =
      assumption (
        length-set p.f (p.j - 1) (answer p.x) ∙ h.0.3,
        bits_set n p.f p.j (answer p.x) keeps (omega (arith, h.0.3)) (answer_bit p.x) h.1.1,
      )
  fit_move d m p L43 s keeps quiet h = either (FitMove n toggle) (nat_lt p.j n) _ _ (λ b. h) (λ b. h)
  fit_move d m p L44 s keeps quiet h = absurd s
  fit_move d m p L45 s keeps quiet h =
      (h.0, (flipped_bit p.t h.1.0, h.1.1), λ e. flipped_differs p.t h.1.0 (e ∙ sym h.2))
  fit_move d m p L46 s keeps quiet h = absurd (omega arith)
  fit_move d m p L47 s keeps quiet h = tt
  fit_move d m p k s keeps quiet h = h
