-- An item of B that writes no word keeps the invariant: one
-- process changes, and perhaps a handshake bit that it puts.
use Rattle.std.proofs.Common.{◌≡◌, ◌≢◌, ℕ, ◌<◌, ◌≤◌, ◌⊎◌, length, refl, sym, ◌∙◌, ap, subst, arith, inl, inr}
use Rattle.snap_runs.proofs.Common.{IsOneOf, Outcome}
use Rattle.snap_runs.proofs.Algorithm.{New, typed_at, changed}
use Rattle.snap_runs.proofs.Frame as frame
use Rattle.snap_runs.proofs.Held.{word_at, seq_at}
use Rattle.snap_runs_of_b.proofs.Algorithm.{Words, Registers, Process, State, place, bit_for, algorithm}
use Rattle.snap_runs_of_b.proofs.Collect.{Late, Viewed}
use Rattle.snap_runs_of_b.proofs.Control.{BitWords}
use Rattle.snap_runs_of_b.proofs.Flows.{Making}
use Rattle.snap_runs_of_b.proofs.Follow.{Grows}
use Rattle.snap_runs_of_b.proofs.Handshake.{Square}
use Rattle.snap_runs_of_b.proofs.Invariant.{ProcessInvariant, PairInvariant, Invariant}
use Rattle.snap_runs_of_b.proofs.Invariant.{Answered, AnswersAt, reach_at, others_act}

-- what holds of the changed process and went on holding of the others holds of each pair
pub each_pair : (n : ℕ) (x : State) (i : ℕ) (m : Registers) (q : Process) (o : Outcome) →
    length x.processes ≡ n → IsOneOf n i → (R : ℕ → Process → ℕ → Process → Type 0) → R i q i q →
    ((k : ℕ) → IsOneOf n k → k ≢ i → R i q k (typed_at (algorithm n) x k)) →
    ((k : ℕ) → IsOneOf n k → k ≢ i → R k (typed_at (algorithm n) x k) i q) →
    ((u v : ℕ) → IsOneOf n u → IsOneOf n v → v ≢ i → R u (typed_at (algorithm n) x u) v (typed_at (algorithm n) x v)) →
    (u v : ℕ) → IsOneOf n u → IsOneOf n v →
    R u (typed_at (algorithm n) (changed x i (New m q o)) u) v (typed_at (algorithm n) (changed x i (New m q o)) v)
each_pair n x i m q o count one R both first second neither u v iu iv =
    let each : (E : ℕ → Process → Type 0) → E i q → ((k : ℕ) → IsOneOf n k → k ≢ i → E k (typed_at (algorithm n) x k)) →
    (k : ℕ) → IsOneOf n k → E k (typed_at (algorithm n) (changed x i (New m q o)) k) =
    frame.each_next (algorithm n) x i m q o count one in
    each (λ k p. R k p v (typed_at (algorithm n) (changed x i (New m q o)) v)) (each (R i q) both first v iv)
    (λ k ik other.
    each (R k (typed_at (algorithm n) x k)) (second k ik other) (λ y iy another. neither k y ik iy another) v iv) u iu

-- One process changes, and perhaps a bit that it puts; the words stay.
pub record ProcessChange (n t : ℕ) (history : ℕ → Words) (x : State) (i : ℕ) (q : Process)
    (m' : Registers) (q' : Process) : Type 0 where
  pub words : m'.words ≡ x.memory.words
  pub square : Square n m'.q
  pub rows : (u k : ℕ) → IsOneOf n u → IsOneOf n k → u ≢ i → bit_for m'.q u k ≡ bit_for x.memory.q u k
  pub own : ProcessInvariant n t history m' i q'
  -- a view in the making is one that it was making before, or its scan starts now
  pub making : Making q'.control →
      (q'.auxiliary.since ≡ t) ⊎ (Making q.control × (q'.auxiliary.since ≡ q.auxiliary.since))
  pub since : (q'.auxiliary.since ≡ t) ⊎ (q'.auxiliary.since ≡ q.auxiliary.since)
  -- as the process that asks: where there was a write since it put its bit, it had asked before
  pub asks : (k : ℕ) → IsOneOf n k → k < reach_at n q'.variables q'.control →
      place q'.variables.marks k < seq_at x.memory.words k → (k < reach_at n q.variables q.control)
      × (place q.variables.marks k < seq_at x.memory.words k) × (place q.variables.g k ≡ place q'.variables.g k)
  -- as the process that answers
  pub answers : (u bit : ℕ) → IsOneOf n u → bit_for x.memory.q u i ≡ bit → AnswersAt u bit q.variables q.control →
      AnswersAt u bit q'.variables q'.control

module _ (n t : ℕ) (history : ℕ → Words) (x : State) (i : ℕ) (m' : Registers) (q' : Process) (o : Outcome)
    (count : length x.processes ≡ n)
    (one : IsOneOf n i) (now : history t ≡ x.memory.words) (h : Invariant n t history x)
    (change : ProcessChange n t history x i (typed_at (algorithm n) x i) m' q') where
  abbrev pub old : ℕ → Process
  old k = typed_at (algorithm n) x k

  abbrev pub next : ℕ → Process
  next k = typed_at (algorithm n) (changed x i (New m' q' o)) k

  -- what holds of the words before holds of them after
  abbrev pub after : (P : Words → Type 0) → P x.memory.words → P m'.words
  after P = subst P (sym change.words)

  others : (k : ℕ) → IsOneOf n k → k ≢ i → ProcessInvariant n t history m' k (old k)
  others k ik other =
      let own = h.each k ik in
      others_act n t t history x.memory m' k (old k) (omega arith) (after (Grows n x.memory.words) (λ u iu. inr refl))
      (ap (λ w. word_at w k) change.words) (λ u iu. change.rows k u ik iu other)
      (after (λ w.
      Late n w (old k).variables.g (old k).variables.marks k (reach_at n (old k).variables (old k).control)) own.late)
      (after (Viewed n history t (old k).auxiliary.since) own.views) own

  -- the scan of the process is older than the views that others make of later words, or starts at this item
  starts_first : (k : ℕ) → IsOneOf n k → PairInvariant history x.memory.words q' (old k) k
  starts_first k ik making lt =
      elim change.since [
        | inl fresh ↦ absurd (let e : seq_at (history q'.auxiliary.since) k ≡ seq_at x.memory.words k =
            ap (λ s. seq_at (history s) k) fresh ∙ ap (λ w. seq_at w k) now in omega arith)
        | inr same ↦ subst (λ s. s ≤ (old k).auxiliary.since) (sym same)
            (h.start i k one ik making (subst (λ s. seq_at (history s) k < seq_at x.memory.words k) same lt))
      ]

  makes_later : (k : ℕ) → IsOneOf n k → PairInvariant history x.memory.words (old k) q' i
  makes_later k ik making lt =
      elim (change.making making) [
        | inl fresh ↦ (let le : (old k).auxiliary.since ≤ t = (h.each k ik).since_le in omega arith)
        | inr same ↦ subst (λ s. (old k).auxiliary.since ≤ s) (sym same.1) (h.start k i ik one same.0 lt)
      ]

  -- the process has the answer of every process that has written since it put its bit, and gives its own
  asked : (k : ℕ) → IsOneOf n k → Answered n x.memory.words i q' k (old k)
  asked k ik lt more =
      let r = change.asks k ik lt more in
      subst (λ bit. AnswersAt i bit (old k).variables (old k).control) r.2 (h.answered i k one ik r.0 r.1)

  answers : (k : ℕ) → IsOneOf n k → Answered n x.memory.words k (old k) i q'
  answers k ik lt more =
      change.answers k (place (old k).variables.g i) ik ((h.each k ik).asked i one lt) (h.answered k i ik one lt more)

  itself : Answered n x.memory.words i q' i q'
  itself lt more =
      let r = change.asks i one lt more in
      change.answers i (place q'.variables.g i) one ((h.each i one).asked i one r.0 ∙ r.2) (asked i one lt more)

  pub process_changes : Invariant n t history (changed x i (New m' q' o))
  process_changes = record {
    size = ap length change.words ∙ h.size;
    square = change.square;
    bits = after (BitWords n) h.bits;
    each = frame.each_next (algorithm n) x i m' q' o count one (ProcessInvariant n t history m') change.own others;
    start = after
        (λ w. (u v : ℕ) → IsOneOf n u → IsOneOf n v → PairInvariant history w (next u) (next v) v)
        (each_pair n x i m' q' o count one
        (λ u p v r. PairInvariant history x.memory.words p r v) (λ making lt. omega arith)
        (λ k ik other. starts_first k ik) (λ k ik other. makes_later k ik) (λ u v iu iv other. h.start u v iu iv));
    answered = after
        (λ w. (u v : ℕ) → IsOneOf n u → IsOneOf n v → Answered n w u (next u) v (next v))
        (each_pair n x i m' q' o count one (Answered n x.memory.words) itself
        (λ k ik other. asked k ik) (λ k ik other. answers k ik)
        (λ u v iu iv other. h.answered u v iu iv));
  }
