-- Line 32 of U, which writes a word and is the only line that other processes see, keeps the invariant.
use Rattle.std.specs.Prelude.{◌≡◌, ◌≢◌, ℕ, suc, ◌+◌, ◌-◌, ◌<◌, ◌≤◌, length, slice_set, refl}
use Rattle.std.proofs.Common.{sym, ◌∙◌, ap, subst, arith, inl, inr}
use Rattle.std.proofs.lemmas.Bool.{cases_eq}
use Rattle.std.proofs.lemmas.Grind.{get_or-set_at}
use Rattle.std.proofs.lemmas.List.{length-set, get_or-set_other}
use Rattle.snap_runs.proofs.Common.{Outcome, IsOneOf, Word, no_word}
use Rattle.snap_runs.proofs.Algorithm.{Mode, At, New, typed_at, changed, stepped_auxiliary}
use Rattle.snap_runs.proofs.Flow.{not_update}
use Rattle.snap_runs.proofs.Frame as frame
use Rattle.snap_runs.proofs.Held.{word_at, Held, held_wider, seq_at, WordBefore, before_seq, Grows}
use Rattle.snap_runs.proofs.Flow as flow
use Rattle.snap_runs_of_u.proofs.Algorithm.{Words, Control, Process, State, L32, L33}
use Rattle.snap_runs_of_u.proofs.Algorithm.{IsUpdate, word_put, algorithm, lines}
use Rattle.snap_runs_of_u.proofs.Collect.{Viewed}
use Rattle.snap_runs_of_u.proofs.Flows.{Making, HasWritten}
use Rattle.snap_runs_of_u.proofs.Invariant.{ProcessInvariant, PairInvariant, Invariant, StageAt, pending, others_act}

module _ (n t : ℕ) (history : ℕ → Words) (x : State) (i : ℕ) (d : Mode)
    (one : IsOneOf n i) (h : Invariant n t history x)
    (at_32 : (typed_at (algorithm n) x i).control ≡ At d L32) (up : IsUpdate i d) where
  -- process k before the write, the new word, and the words and the writer after it
  abbrev pub at : ℕ → Process
  at k = typed_at (algorithm n) x k

  abbrev pub word : Word
  word = word_put d (at i).variables

  abbrev pub after : Words
  after = slice_set x.memory (i - 1) word

  abbrev pub writer : Process
  writer = record {
    control = At d L33;
    variables = (at i).variables;
    auxiliary = stepped_auxiliary (algorithm n) L32 (suc t) (at i).auxiliary;
  }

  new_word : (k : ℕ) → k ≡ i → word_at after k ≡ word
  new_word k e =
      get_or-set_at x.memory (i - 1) (k - 1) word no_word (ap (λ y. y - 1) e) (omega (arith, h.size))

  old_word : (k : ℕ) → IsOneOf n k → k ≢ i → word_at after k ≡ word_at x.memory k
  old_word k j other = get_or-set_other x.memory (i - 1) (k - 1) word no_word (λ same. other (omega arith))

  -- the sequence number grows
  one_ahead : (at i).variables.c ≡ seq_at x.memory i + 1
  one_ahead = (h.each i one).seq ∙ ap (λ (p : Control). seq_at x.memory i + pending p) at_32

  grows : Grows n x.memory after
  grows k j =
      elim (cases_eq k i) [
        | inl same ↦
            subst (λ (y : Word). WordBefore (word_at x.memory k) y) (sym (new_word k same))
            (inl (subst (λ y. seq_at x.memory y < (at i).variables.c) (sym same) (omega (arith, one_ahead))))
        | inr other ↦ inr (sym (old_word k j other))
      ]

  not_older : (old : Words) (k : ℕ) → IsOneOf n k → seq_at old k ≤ seq_at x.memory k → seq_at old k ≤ seq_at after k
  not_older old k j le =
      omega (arith, before_seq (word_at x.memory k) (word_at after k) (grows k j))

  -- the view that is written was held since the writer's embedded scan started
  held : Held history t (at i).auxiliary.since (at i).variables.s
  held =
      subst
      (λ (p : Control). StageAt n history t (at i).auxiliary.since (at i).auxiliary.round x.memory (at i).variables p)
      at_32 (h.each i one).stage

  making : Making (at i).control
  making = subst Making (sym at_32) (flow.late_makes lines (λ word. word ≡ i) d L32 up tt)

  -- where this is the second write since a scan of u started, the writer's embedded scan started no earlier
  viewed : (u : ℕ) → IsOneOf n u → Viewed n history (suc t) (at u).auxiliary.since after
  viewed u ju k jk =
      let base = history (at u).auxiliary.since in
      let ahead : (at i).variables.c ≡ seq_at x.memory i + 1 = one_ahead in
      elim (cases_eq k i) [
        | inl same ↦
            subst (λ (y : Word). seq_at base k + 2 ≤ y.seq → Held history (suc t) (at u).auxiliary.since y.view)
            (sym (new_word k same))
            (λ second.
            let there : seq_at base k ≡ seq_at base i = ap (seq_at base) same in
            let enough : seq_at base k + 2 ≤ (at i).variables.c = second in
            held_wider history t (suc t) (at i).auxiliary.since (at u).auxiliary.since (at i).variables.s
            (omega arith) (h.start u i ju one making (omega arith)) held)
        | inr other ↦
            subst (λ (y : Word). seq_at base k + 2 ≤ y.seq → Held history (suc t) (at u).auxiliary.since y.view)
            (sym (old_word k jk other))
            (λ second. held_wider history t (suc t) _ _ _ (omega arith) (omega arith) ((h.each u ju).views k jk second))
      ]

  writer_keeps : ProcessInvariant n (suc t) history after i writer
  writer_keeps =
      let own : ProcessInvariant n t history x.memory i (at i) = h.each i one in
      record {
        well = (up, tt);
        length_a = own.length_a;
        length_b = own.length_b;
        seq = omega (arith, ap (λ (y : Word). y.seq) (new_word i refl));
        fresh = omega (arith, own.fresh);
        since_le = omega (arith, own.since_le);
        low = λ k j. not_older (history (at i).auxiliary.since) k j (own.low k j);
        opened = λ k j. not_older (history (at i).auxiliary.round) k j (own.opened k j);
        views = viewed i one;
        stage = tt;
        self = λ scan. absurd (not_update (λ word. word ≡ i) d scan up);
        counts = tt;
        wrote =
            flow.writes_more lines (λ word. word ≡ i) d L32 L33 (at i).auxiliary.wrote up refl
            (subst (λ (p : Control). HasWritten p (at i).auxiliary.wrote) at_32 own.wrote);
      }

  others_keep : (k : ℕ) → IsOneOf n k → k ≢ i → ProcessInvariant n (suc t) history after k (at k)
  others_keep k j other =
      others_act n t (suc t) history x.memory after k (at k) (omega arith) grows
      (ap (λ (y : Word). y.seq) (old_word k j other)) (viewed k j) (h.each k j)

  -- a process that goes on making a view has not written
  pair_keeps : (u k : ℕ) → IsOneOf n u → IsOneOf n k → k ≢ i → PairInvariant history after (at u) (at k) k
  pair_keeps u k ju jk other made more =
      h.start u k ju jk made
      (subst (λ (y : Word). seq_at (history (at u).auxiliary.since) k < y.seq) (old_word k jk other) more)

  pub line_32_writes : (o : Outcome) → length x.processes ≡ n →
      Invariant n (suc t) history (changed x i (New after writer o))
  line_32_writes o count = record {
    size = length-set x.memory (i - 1) word ∙ h.size;
    each =
        frame.each_next (algorithm n) x i after writer o count one
        (ProcessInvariant n (suc t) history after) writer_keeps others_keep;
    start = frame.pairs_next (algorithm n) x i after writer o count one (PairInvariant history after) (record {
      own = λ made more. absurd (flow.makes_late lines (λ word. word ≡ i) d L33 up made);
      first = λ k j other. pair_keeps i k one j other;
      second = λ k j other made more. absurd (flow.makes_late lines (λ word. word ≡ i) d L33 up made);
      others = λ k l jk jl other away. pair_keeps k l jk jl away;
    });
  }
