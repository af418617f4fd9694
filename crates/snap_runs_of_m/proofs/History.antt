-- What holds of the registers of M at every state (`Now`), and from one state to a later one (`Since`).
use Rattle.std.proofs.Common.{◌≡◌, ◌≢◌, ℕ, suc, ◌+◌, ◌<◌, ◌≤◌, ◌⊎◌, length, refl, sym, ◌∙◌, ap, subst, arith, inl, inr}
use Rattle.std.proofs.Math.Nat.{eq-or-lt_of_le}
use Rattle.snap_runs.proofs.Common.{IsOneOf, Word}
use Rattle.snap_runs.proofs.Held.{word_at, seq_at, Held, held_wider, WordBefore, before_trans}
use Rattle.snap_runs_of_m.proofs.Algorithm.{Words, Registers, bit, view_at, flip}
use Rattle.snap_runs_of_m.proofs.Basics.{Square, flip_other}

-- In all that follows `history u` are the registers after u items.

abbrev pub words_of : (ℕ → Registers) → ℕ → Words
words_of history u = (history u).words

-- the id and toggle of word k
abbrev pub id_at : Registers → ℕ → ℕ
id_at m k = (word_at m.words k).id

abbrev pub toggle_at : Registers → ℕ → ℕ
toggle_at m k = (word_at m.words k).toggle

-- At every state:
pub record Now (n w : ℕ) (m : Registers) : Type 0 where
  -- the registers are there
  pub size : length m.words ≡ w
  pub square_q : Square n m.q
  pub square_p : Square n m.p
  pub views : length m.views ≡ n
  -- a word that was written has its writer's number, and the toggle that its writer last wrote there
  pub named : (k : ℕ) → IsOneOf w k → 0 < seq_at m.words k → IsOneOf n (id_at m k)
  pub toggle : (k : ℕ) → IsOneOf w k → IsOneOf n (id_at m k) → toggle_at m k ≡ m.toggles (id_at m k) k
  pub bits : (c i : ℕ) → IsOneOf n c → IsOneOf n i → bit m.p c i ≤ 1
  -- an update answers each handshake, puts its view and writes its word, in this order
  pub answers_from : (c i : ℕ) → IsOneOf n c → IsOneOf n i → m.writes c ≤ m.answers c i
  pub answers_to : (c i : ℕ) → IsOneOf n c → IsOneOf n i → m.answers c i ≤ m.writes c + 1
  pub puts_from : (c : ℕ) → IsOneOf n c → m.writes c ≤ m.puts c
  pub puts_to : (c i : ℕ) → IsOneOf n c → IsOneOf n i → m.puts c ≤ m.answers c i

-- From state u to state t:
pub record Since (n w : ℕ) (history : ℕ → Registers) (u t : ℕ) : Type 0 where
  -- nothing becomes less
  pub before : (k : ℕ) → IsOneOf w k → WordBefore (word_at (history u).words k) (word_at (history t).words k)
  pub writes : (c : ℕ) → IsOneOf n c → (history u).writes c ≤ (history t).writes c
  pub answers : (c i : ℕ) → IsOneOf n c → IsOneOf n i → (history u).answers c i ≤ (history t).answers c i
  -- a word that was written since has a writer that has written since
  pub newer : (k : ℕ) → IsOneOf w k → seq_at (history u).words k < seq_at (history t).words k →
      (history u).writes (id_at (history t) k) < (history t).writes (id_at (history t) k)
  -- a toggle turns by a write alone
  pub turned : (c k : ℕ) → IsOneOf n c → IsOneOf w k →
      ((history u).toggles c k ≡ (history t).toggles c k) ⊎ ((history u).writes c < (history t).writes c)
  -- a word that was written since and looks the same has a writer that has written twice since
  pub twice : (k : ℕ) → IsOneOf w k → seq_at (history u).words k < seq_at (history t).words k →
      id_at (history u) k ≡ id_at (history t) k → toggle_at (history u) k ≡ toggle_at (history t) k →
      (history u).writes (id_at (history t) k) + 2 ≤ (history t).writes (id_at (history t) k)
  -- a bit turns by an answer alone
  pub signed : (c i : ℕ) → IsOneOf n c → IsOneOf n i →
      (bit (history u).p c i ≡ bit (history t).p c i) ⊎ ((history u).answers c i < (history t).answers c i)
  -- a view that is put by more puts than there were answers at state u was the values since
  pub viewed : (c i : ℕ) → IsOneOf n c → IsOneOf n i → (history u).answers c i < (history t).puts c →
      Held (words_of history) t u (view_at (history t).views c)

-- Where process i asks one thing as soon as process c has written more than `low` times, c's
-- second answer since is another.
abbrev pub Answered : ℕ → (ℕ → Registers) → ℕ → Type 0
Answered n history t =
    (c i low value : ℕ) → IsOneOf n c → IsOneOf n i →
    ((u : ℕ) → u ≤ t → low < (history u).writes c → bit (history u).q i c ≡ value) →
    low + 2 ≤ (history t).answers c i → bit (history t).p c i ≢ value

pub record Laws (n w : ℕ) (history : ℕ → Registers) (t : ℕ) : Type 0 where
  pub now : Now n w (history t)
  pub since : (u : ℕ) → u ≤ t → Since n w history u t
  pub answered : Answered n history t

-- What one item may do:
-- write word k
pub record Rewritten (n : ℕ) (m m' : Registers) (k : ℕ) : Type 0 where
  pub later : seq_at m.words k < seq_at m'.words k
  pub writer : IsOneOf n (id_at m' k)
  pub wrote : m.writes (id_at m' k) < m'.writes (id_at m' k)
  pub turned : toggle_at m' k ≢ m.toggles (id_at m' k) k

-- answer the handshake of process i by process c, as it was read at an earlier state
pub record Answer (history : ℕ → Registers) (t : ℕ) (m m' : Registers) (c i : ℕ) : Type 0 where
  pub more : m.answers c i < m'.answers c i
  pub read : ℕ
  pub earlier : read ≤ t
  pub is : bit m'.p c i ≡ flip (bit (history read).q i c)
  pub counts : m'.answers c i ≡ (history read).writes c + 1

-- put the view of process c
abbrev pub Put : ℕ → (ℕ → Registers) → ℕ → Registers → ℕ → Type 0
Put n history t m' c =
    (u i : ℕ) → u ≤ t → IsOneOf n i → (history u).answers c i < m'.puts c →
    Held (words_of history) t u (view_at m'.views c)

pub record Acts (n w : ℕ) (history : ℕ → Registers) (t : ℕ) (m m' : Registers) : Type 0 where
  pub words : (k : ℕ) → IsOneOf w k → (word_at m'.words k ≡ word_at m.words k) ⊎ Rewritten n m m' k
  pub writes : (c : ℕ) → IsOneOf n c → m.writes c ≤ m'.writes c
  pub toggles : (c k : ℕ) → IsOneOf n c → IsOneOf w k → (m.toggles c k ≡ m'.toggles c k) ⊎ (m.writes c < m'.writes c)
  pub bits : (c i : ℕ) → IsOneOf n c → IsOneOf n i →
      ((bit m.p c i ≡ bit m'.p c i) × (m.answers c i ≡ m'.answers c i)) ⊎ Answer history t m m' c i
  pub views : (c : ℕ) → IsOneOf n c →
      ((m.puts c ≡ m'.puts c) × (view_at m.views c ≡ view_at m'.views c)) ⊎ Put n history t m' c

pub acts_nothing : (n w : ℕ) (history : ℕ → Registers) (t : ℕ) (m : Registers) → Acts n w history t m m
acts_nothing n w history t m = record {
  words = λ k h. inl refl;
  writes = λ c h. omega arith;
  toggles = λ c k h i. inl refl;
  bits = λ c i h j. inl (refl, refl);
  views = λ c h. inl (refl, refl);
}

-- at one and the same state
pub since_itself : (n w : ℕ) (history : ℕ → Registers) (t : ℕ) → Now n w (history t) → Since n w history t t
since_itself n w history t now = record {
  before = λ k h. inr refl;
  writes = λ c h. omega arith;
  answers = λ c i h j. omega arith;
  newer = λ k h lt. absurd (omega arith);
  turned = λ c k h i. inl refl;
  twice = λ k h lt. absurd (omega arith);
  signed = λ c i h j. inl refl;
  viewed = λ c i h j lt. absurd (omega (arith, now.puts_to c i h j));
}

-- one item more
module _ (n w : ℕ) (history : ℕ → Registers) (t : ℕ) (acts : Acts n w history t (history t) (history (suc t))) where
  abbrev m' : Registers
  m' = history (suc t)

  word_next : (u k : ℕ) → IsOneOf w k → WordBefore (word_at (history u).words k) (word_at (history t).words k) →
      WordBefore (word_at (history u).words k) (word_at m'.words k)
  word_next u k h before =
      elim (acts.words k h) [
        | inl same ↦ subst (λ (x : Word). WordBefore (word_at (history u).words k) x) (sym same) before
        | inr r ↦
            before_trans (word_at (history u).words k) (word_at (history t).words k)
            (word_at m'.words k) before (inl r.later)
      ]

  answers_next : (c i : ℕ) → IsOneOf n c → IsOneOf n i → (history t).answers c i ≤ m'.answers c i
  answers_next c i h j =
      elim (acts.bits c i h j) [
        | inl same ↦ omega (arith, same.1)
        | inr r ↦ omega (arith, r.more)
      ]

  newer_next : (u k : ℕ) → Since n w history u t → IsOneOf w k → IsOneOf n (id_at m' k) →
      seq_at (history u).words k < seq_at m'.words k → (history u).writes (id_at m' k) < m'.writes (id_at m' k)
  newer_next u k old h one lt =
      let grows : (history t).writes (id_at m' k) ≤ m'.writes (id_at m' k) = acts.writes (id_at m' k) one in
      elim (acts.words k h) [
        | inl same ↦ (let here : (history u).writes (id_at m' k) < (history t).writes (id_at m' k) =
            subst (λ (x : Word). (history u).writes x.id < (history t).writes x.id) (sym same)
            (old.newer k h (subst (λ (x : Word). seq_at (history u).words k < x.seq) same lt)) in omega arith)
        | inr r ↦ omega (arith, old.writes (id_at m' k) one, r.wrote)
      ]

  turned_next : (u c k : ℕ) → Since n w history u t → IsOneOf n c → IsOneOf w k →
      ((history u).toggles c k ≡ m'.toggles c k) ⊎ ((history u).writes c < m'.writes c)
  turned_next u c k old h i =
      let grows : (history t).writes c ≤ m'.writes c = acts.writes c h in
      let grew : (history u).writes c ≤ (history t).writes c = old.writes c h in
      elim (acts.toggles c k h i) [
        | inl same ↦ elim (old.turned c k h i) [
          | inl still ↦ inl (still ∙ same)
          | inr lt ↦ inr (omega arith)
        ]
        | inr lt ↦ inr (omega arith)
      ]

  twice_next : (u k : ℕ) → Now n w (history u) → Since n w history u t → IsOneOf w k → IsOneOf n (id_at m' k) →
      seq_at (history u).words k < seq_at m'.words k →
      id_at (history u) k ≡ id_at m' k → toggle_at (history u) k ≡ toggle_at m' k →
      (history u).writes (id_at m' k) + 2 ≤ m'.writes (id_at m' k)
  twice_next u k now old h one lt same_id same_toggle =
      let c = id_at m' k in
      let grows : (history t).writes c ≤ m'.writes c = acts.writes c one in
      elim (acts.words k h) [
        | inl same ↦ (let here : (history u).writes c + 2 ≤ (history t).writes c =
            subst (λ (x : Word). (history u).writes x.id + 2 ≤ (history t).writes x.id) (sym same)
            (old.twice k h (subst (λ (x : Word). seq_at (history u).words k < x.seq) same lt)
            (same_id ∙ ap (λ (x : Word). x.id) same) (same_toggle ∙ ap (λ (x : Word). x.toggle) same)) in omega arith)
        | inr r ↦ elim (old.turned c k one h) [
          | inl still ↦ absurd (r.turned (
              sym same_toggle ∙ now.toggle k h (subst (IsOneOf n) (sym same_id) one)
              ∙ ap (λ y. (history u).toggles y k) same_id ∙ still))
          | inr more ↦ omega (arith, r.wrote)
        ]
      ]

  signed_next : (u c i : ℕ) → Since n w history u t → IsOneOf n c → IsOneOf n i →
      (bit (history u).p c i ≡ bit m'.p c i) ⊎ ((history u).answers c i < m'.answers c i)
  signed_next u c i old h j =
      let grew : (history u).answers c i ≤ (history t).answers c i = old.answers c i h j in
      elim (acts.bits c i h j) [
        | inl same ↦ elim (old.signed c i h j) [
          | inl still ↦ inl (still ∙ same.0)
          | inr lt ↦ inr (omega (arith, same.1))
        ]
        | inr r ↦ inr (omega (arith, r.more))
      ]

  viewed_next : (u c i : ℕ) → u ≤ t → Since n w history u t → IsOneOf n c → IsOneOf n i →
      (history u).answers c i < m'.puts c → Held (words_of history) (suc t) u (view_at m'.views c)
  viewed_next u c i le old h j lt =
      elim (acts.views c h) [
        | inl same ↦ subst (Held (words_of history) (suc t) u) same.1
            (held_wider (words_of history) t (suc t) u u (view_at (history t).views c) (omega arith) (omega arith)
            (old.viewed c i h j (subst (λ y. (history u).answers c i < y) (sym same.0) lt)))
        | inr put ↦
            held_wider (words_of history) t (suc t) u u (view_at m'.views c) (omega arith)
            (omega arith) (put u i le j lt)
      ]

  answered_next : Answered n history t → (c i low value : ℕ) → IsOneOf n c → IsOneOf n i →
      ((u : ℕ) → u ≤ suc t → low < (history u).writes c → bit (history u).q i c ≡ value) →
      low + 2 ≤ m'.answers c i → bit m'.p c i ≢ value
  answered_next old c i low value h j asks more =
      elim (acts.bits c i h j) [
        | inl same ↦
            (λ e. old c i low value h j (λ u le. asks u (omega arith)) (omega (arith, same.1)) (same.0 ∙ e))
        | inr r ↦ (λ e.
            let asked : bit (history r.read).q i c ≡ value =
            asks r.read (omega (arith, r.earlier)) (omega (arith, r.counts)) in
            flip_other value (ap flip (sym asked) ∙ sym r.is ∙ e))
      ]

  since_next : (u : ℕ) → u ≤ t → Now n w (history u) → Now n w m' → Since n w history u t → Since n w history u (suc t)
  since_next u le now next old =
      let writer : (k : ℕ) → IsOneOf w k → seq_at (history u).words k < seq_at m'.words k → IsOneOf n (id_at m' k) =
      λ k h lt. next.named k h (omega arith) in
      record {
        before = λ k h. word_next u k h (old.before k h);
        writes = λ c h. omega (arith, old.writes c h, acts.writes c h);
        answers = λ c i h j. omega (arith, old.answers c i h j, answers_next c i h j);
        newer = λ k h lt. newer_next u k old h (writer k h lt) lt;
        turned = λ c k h i. turned_next u c k old h i;
        twice = λ k h lt e f. twice_next u k now old h (writer k h lt) lt e f;
        signed = λ c i h j. signed_next u c i old h j;
        viewed = λ c i h j lt. viewed_next u c i le old h j lt;
      }

  laws_after : ((u : ℕ) → u ≤ t → Laws n w history u) → Now n w m' → Laws n w history (suc t)
  laws_after laws next =
      let old : Laws n w history t = laws t (omega arith) in
      record {
        now = next;
        since = λ u le. elim (eq-or-lt_of_le le) [
          | inl same ↦ subst (λ y. Since n w history y (suc t)) (sym same) (since_itself n w history (suc t) next)
          | inr less ↦ since_next u (omega arith) (laws u (omega arith)).now next (old.since u (omega arith))
        ];
        answered = answered_next old.answered;
      }

pub laws_next : (n w : ℕ) (history : ℕ → Registers) (t : ℕ) (after : Registers) → history (suc t) ≡ after →
    Acts n w history t (history t) after → ((u : ℕ) → u ≤ t → Laws n w history u) → Now n w after →
    Laws n w history (suc t)
laws_next n w history t after is acts laws next =
    laws_after n w history t (subst (Acts n w history t (history t)) (sym is) acts) laws (subst (Now n w) (sym is) next)

-- the laws up to one item more
pub laws_up_to : (n w : ℕ) (history : ℕ → Registers) (t : ℕ) → ((u : ℕ) → u ≤ t → Laws n w history u) →
    Laws n w history (suc t) → (u : ℕ) → u ≤ suc t → Laws n w history u
laws_up_to n w history t old new u le =
    elim (eq-or-lt_of_le le) [
      | inl same ↦ subst (Laws n w history) (sym same) new
      | inr less ↦ old u (omega arith)
    ]
