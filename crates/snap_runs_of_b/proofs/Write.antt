-- Line 46 of B, the only line that changes a word, keeps the invariant.
use Rattle.std.proofs.Common.{◌≡◌, ◌≢◌, ℕ, suc, ◌+◌, ◌-◌, ◌<◌, ◌≤◌, length, refl, sym, ◌∙◌, ap, subst, arith, inl, inr}
use Rattle.std.proofs.lemmas.Bool.{cases_eq}
use Rattle.std.proofs.lemmas.List.{length-set, get_or-take}
use Rattle.snap_runs.proofs.Common.{IsOneOf, Word, Outcome}
use Rattle.snap_runs.proofs.Algorithm.{Mode, Scanning, Embedded, Updating, At, New}
use Rattle.snap_runs.proofs.Algorithm.{typed_at, changed, stepped_auxiliary}
use Rattle.snap_runs.proofs.Flow.{not_update}
use Rattle.snap_runs.proofs.Frame as frame
use Rattle.snap_runs.proofs.Held.{word_at, Held, held_wider, seq_at}
use Rattle.snap_runs.proofs.Flow as flow
use Rattle.snap_runs_of_b.proofs.Algorithm.{Words, Registers, Control, Process, State, L46, L47, place, handshake_at}
use Rattle.snap_runs_of_b.proofs.Algorithm.{word_put, with_written, IsUpdate, algorithm, lines}
use Rattle.snap_runs_of_b.proofs.Change.{each_pair}
use Rattle.snap_runs_of_b.proofs.Collect.{Late, Viewed, word_set, word_kept}
use Rattle.snap_runs_of_b.proofs.Flows.{Making, HasWritten}
use Rattle.snap_runs_of_b.proofs.Follow.{IsLaterWord, follows_seq, Grows}
use Rattle.snap_runs_of_b.proofs.Handshake.{Says}
use Rattle.snap_runs_of_b.proofs.Invariant.{ProcessInvariant, PairInvariant, Invariant, Answered, StageAt, ToggledAt}
use Rattle.snap_runs_of_b.proofs.Invariant.{AnswersAt, reach_at, others_act}

says_another : (i said bit : ℕ) (d : Mode) → IsUpdate i d → Says said bit d → said ≡ bit → ⊥
says_another i said bit Scanning up other same = up
says_another i said bit (Embedded word value) up other same = other same
says_another i said bit (Updating word value) up other same = other same

module _ (n t : ℕ) (history : ℕ → Words) (x : State) (i : ℕ) (d : Mode)
    (one : IsOneOf n i) (h : Invariant n t history x)
    (at_46 : (typed_at (algorithm n) x i).control ≡ At d L46) (up : IsUpdate i d) where
  -- process k before the write, the new word, and the registers and the writer after it
  abbrev pub at : ℕ → Process
  at k = typed_at (algorithm n) x k

  abbrev pub word : Word
  word = word_put n i d x.memory (at i).variables

  abbrev pub after : Registers
  after = with_written n i d x.memory (at i).variables

  new_word : (k : ℕ) → k ≡ i → word_at after.words k ≡ word
  new_word k same =
      word_set x.memory.words i k word one.0 (omega (arith, h.size)) same

  old_word : (k : ℕ) → IsOneOf n k → k ≢ i → word_at after.words k ≡ word_at x.memory.words k
  old_word k ik other = word_kept x.memory.words i k word one.0 ik.0 other

  -- what holds of the new word and of the others
  each_word : (R : ℕ → Word → Type 0) → R i word → ((k : ℕ) → IsOneOf n k → R k (word_at x.memory.words k)) →
      (k : ℕ) → IsOneOf n k → R k (word_at after.words k)
  each_word R own others k ik =
      elim (cases_eq k i) [
        | inl same ↦ subst (R k) (sym (new_word k same)) (subst (λ y. R y word) (sym same) own)
        | inr other ↦ subst (R k) (sym (old_word k ik other)) (others k ik)
      ]

  -- the toggle of the new word is the other one
  grows : Grows n x.memory.words after.words
  grows =
      let toggle : (at i).variables.t ≡ (word_at x.memory.words i).toggle → ⊥ =
      subst (λ (p : Control). ToggledAt (word_at x.memory.words i).toggle (at i).variables p) at_46
      (h.each i one).toggle in
      each_word (λ k w. IsLaterWord (word_at x.memory.words k) w)
      (inl (omega arith, λ e. absurd (toggle (sym e)))) (λ k ik. inr refl)

  not_less : (base : Words) → ((k : ℕ) → IsOneOf n k → seq_at base k ≤ seq_at x.memory.words k) → (k : ℕ) →
      IsOneOf n k → seq_at base k ≤ seq_at after.words k
  not_less base low k ik =
      omega (arith, low k ik, follows_seq (word_at x.memory.words k) (word_at after.words k) (grows k ik))

  making : Making (at i).control
  making = subst Making (sym at_46) (flow.late_makes lines (λ word. word ≡ i) d L46 up tt)

  -- the view beside the new word was the values since the scan that made it, which is no older than a scan that finds
  -- it the second write
  viewed : (u : ℕ) → IsOneOf n u → Viewed n history (suc t) (at u).auxiliary.since after.words
  viewed u iu =
      let since = (at u).auxiliary.since in
      let held : Held history t (at i).auxiliary.since (at i).variables.s =
      subst (λ (p : Control). StageAt n i history t (at i).auxiliary.since (at i).auxiliary.round x.memory.words
      (at i).variables p) at_46 (h.each i one).stage in
      each_word (λ k w. seq_at (history since) k + 2 ≤ w.seq → Held history (suc t) since w.view)
      (λ more. held_wider history t (suc t) (at i).auxiliary.since since (at i).variables.s (omega arith)
      (h.start u i iu one making (omega arith)) held)
      (λ k ik more.
      held_wider history t (suc t) since since _ (omega arith) (omega arith) ((h.each u iu).views k ik more))

  says : (u : ℕ) → IsOneOf n u → handshake_at word u ≡ place (at i).variables.f u
  says u iu = get_or-take n (at i).variables.f (u - 1) 0 (omega arith)

  -- where this is the second write since process u put its bit, the new word says another bit to u
  shows : (u : ℕ) → IsOneOf n u →
      Late n after.words (at u).variables.g (at u).variables.marks u (reach_at n (at u).variables (at u).control)
  shows u iu =
      let p = (at u).variables in
      let r = reach_at n p (at u).control in
      each_word (λ k w. k < r → place p.marks k + 2 ≤ w.seq → handshake_at w u ≡ place p.g k → ⊥)
      (λ lt more same. says_another i (place (at i).variables.f u) (place p.g i) d up
      (subst (λ (c : Control). AnswersAt u (place p.g i) (at i).variables c) at_46
      (h.answered u i iu one lt (omega arith)))
      (sym (says u iu) ∙ same))
      (λ k ik. (h.each u iu).late k ik)

  abbrev pub writer : Process
  writer = record {
    control = At d L47;
    variables = (at i).variables;
    auxiliary = stepped_auxiliary (algorithm n) L46 (suc t) (at i).auxiliary;
  }

  own : ProcessInvariant n (suc t) history after i writer
  own =
      let q = at i in
      let past : ProcessInvariant n t history x.memory i q = h.each i one in
      record {
        well = (up, tt);
        sized = past.sized;
        bits = past.bits;
        toggle = sym (ap (λ (y : Word). y.toggle) (new_word i refl));
        since_le = omega (arith, past.since_le);
        low = not_less (history q.auxiliary.since) past.low;
        opened = not_less (history q.auxiliary.round) past.opened;
        views = viewed i one;
        asked = λ k ik lt. absurd (omega arith);
        late = λ k ik lt. absurd (omega arith);
        stage = tt;
        self = λ scan. absurd (not_update (λ word. word ≡ i) d scan up);
        counts = tt;
        wrote =
            flow.writes_more lines (λ word. word ≡ i) d L46 L47 q.auxiliary.wrote up refl
            (subst (λ (p : Control). HasWritten p q.auxiliary.wrote) at_46 past.wrote);
      }

  pub line_46_writes : (o : Outcome) → length x.processes ≡ n →
      Invariant n (suc t) history (changed x i (New after writer o))
  line_46_writes o count = record {
    size = length-set x.memory.words (i - 1) word ∙ h.size;
    square = h.square;
    bits = λ k u ik iu. each_word (λ k w. handshake_at w u ≤ 1)
        (let e : handshake_at word u ≡ place (at i).variables.f u =
        says u iu in let b : place (at i).variables.f u ≤ 1 = (h.each i one).bits.1 u iu in omega arith)
        (λ k ik. h.bits k u ik iu) k ik;
    each = frame.each_next (algorithm n) x i after writer o count one (ProcessInvariant n (suc t) history after) own
        (λ k ik other.
        others_act n t (suc t) history x.memory after k (at k) (omega arith) grows (old_word k ik other) (λ u iu. refl)
        (shows k ik) (viewed k ik) (h.each k ik));
    start = each_pair n x i after writer o count one (λ u p v r. PairInvariant history after.words p r v)
        (λ made lt. absurd (flow.makes_late lines (λ word. word ≡ i) d L47 up made))
        (λ k ik other made lt. h.start i k one ik made
        (subst (λ (w : Word). seq_at (history (at i).auxiliary.since) k < w.seq) (old_word k ik other) lt))
        (λ k ik other made lt. absurd (flow.makes_late lines (λ word. word ≡ i) d L47 up made))
        (λ u v iu iv other made lt. h.start u v iu iv made
        (subst (λ (w : Word). seq_at (history (at u).auxiliary.since) v < w.seq) (old_word v iv other) lt));
    answered = each_pair n x i after writer o count one (Answered n after.words)
        (λ lt more. tt) (λ k ik other lt more. absurd (omega arith)) (λ k ik other lt more. tt)
        (λ u v iu iv other lt more. h.answered u v iu iv lt
        (subst (λ (w : Word). place (at u).variables.marks v < w.seq) (old_word v iv other) more));
  }
