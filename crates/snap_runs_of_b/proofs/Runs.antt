-- The runs of B without crashes: the invariant at each state.
use Rattle.std.proofs.Common.{◌≡◌, ℕ, ◌-◌, ◌≤◌, max, List, [], length, replicate, refl, sym, ◌∙◌, ap, subst, arith}
use Rattle.std.proofs.lemmas.List.{get_or-replicate, length-replicate}
use Rattle.snap_runs.proofs.Common.{IsOneOf, Word, no_word, Item}
use Rattle.snap_runs.proofs.Algorithm.{Mode, At, when_busy, first_process, first_state, typed_at, item_at, typed_state}
use Rattle.snap_runs.proofs.Embedding as embed
use Rattle.snap_runs.proofs.Held.{word_at, seq_at, at_most_now}
use Rattle.snap_runs.proofs.Scans as scans
use Rattle.snap_runs.proofs.States.{at_each}
use Rattle.snap_runs_of_b.specs.Promises.{run_of}
use Rattle.snap_runs_of_b.proofs.Algorithm.{Words, Registers, Control, Process, State, ProgramCounter, place}
use Rattle.snap_runs_of_b.proofs.Algorithm.{handshake_at, first_word, first_words}
use Rattle.snap_runs_of_b.proofs.Algorithm.{first_registers, IsLineOf, lines, algorithm}
use Rattle.snap_runs_of_b.proofs.Control.{ControlWell, VariablesAt, does}
use Rattle.snap_runs_of_b.proofs.Count.{Count}
use Rattle.snap_runs_of_b.proofs.Flows.{flows}
use Rattle.snap_runs_of_b.proofs.Handshake.{row_of}
use Rattle.snap_runs_of_b.proofs.Invariant.{ProcessInvariant, Invariant, PairInvariant, Answered, StageAt, CountAt}
use Rattle.snap_runs_of_b.proofs.Preserve.{item_keeps}
use Rattle.snap_runs_of_b.proofs.Stage.{Stage}
use Rattle.snap_runs.proofs.Steady.{Steady}

module _ (n : ℕ) (items : List Item) (t : ℕ) where
  -- the state after t items, and its words
  abbrev pub state_at : State
  state_at = typed_state (algorithm n) items t

  abbrev pub words_at : Words
  words_at = (state_at).memory.words

  abbrev pub registers_at : Registers
  registers_at = (state_at).memory

  -- process i after t items
  abbrev pub process_after : ℕ → Process
  process_after i = typed_at (algorithm n) (state_at) i

-- the invariant at the start
zero_at : (n k : ℕ) → IsOneOf n k → word_at (first_words n n) k ≡ first_word n
zero_at n k h = get_or-replicate n (k - 1) (first_word n) no_word (omega arith)

zero_row : (n i : ℕ) → IsOneOf n i → row_of (replicate n (replicate n 0)) i ≡ replicate n 0
zero_row n i h = get_or-replicate n (i - 1) (replicate n 0) [] (omega arith)

zero_bit : (n k count : ℕ) → IsOneOf n k → n ≤ count → place (replicate count 0) k ≤ 1
zero_bit n k count h le = omega (arith, get_or-replicate {A = ℕ} count (k - 1) 0 0 (omega arith))

module _ (n : ℕ) (history : ℕ → Words) where
  process_at_the_start : (i : ℕ) → IsOneOf n i → history 0 ≡ first_words n n →
      ProcessInvariant n 0 history (first_registers n) i (first_process (algorithm n))
  process_at_the_start i h now =
      let z : (k : ℕ) → IsOneOf n k → seq_at (first_words n n) k ≡ 0 = λ k j. ap (λ (y : Word). y.seq) (zero_at n k j) in
      record {
        well = tt;
        sized = (
          length-replicate (max n n) (first_word n),
          length-replicate (max n n) (first_word n),
          length-replicate (max n n) 0,
          length-replicate (max n n) 0,
          length-replicate (max n n) 0,
        );
        bits = (omega arith, λ k j. zero_bit n k (max n n) j (omega arith));
        toggle = sym (ap (λ (y : Word). y.toggle) (zero_at n i h));
        since_le = omega arith;
        low = λ k j. at_most_now history (first_words n n) 0 now k;
        opened = λ k j. at_most_now history (first_words n n) 0 now k;
        views = λ k j more. absurd (omega (arith, z k j));
        asked = λ k j lt. absurd (omega arith);
        late = λ k j lt. absurd (omega arith);
        stage = tt;
        self = λ inside. absurd inside;
        counts = tt;
        wrote = tt;
      }

  at_the_start : history 0 ≡ first_words n n → Invariant n 0 history (first_state (algorithm n))
  at_the_start now =
      let at = embed.first_process_is (algorithm n) in
      record {
        size = length-replicate n (first_word n);
        square = record {
          rows = length-replicate n (replicate n 0);
          bits = λ i h. ap length (zero_row n i h) ∙ length-replicate n 0;
        };
        bits =
            λ k i jk ji.
            subst (λ (w : Word). handshake_at w i ≤ 1) (sym (zero_at n k jk)) (zero_bit n i n ji (omega arith));
        each =
            λ i h. subst (λ (q : Process). ProcessInvariant n 0 history (first_registers n) i q) (sym (at i h))
            (process_at_the_start i h now);
        start =
            λ i k h j. subst (λ (q : Process).
            PairInvariant history (first_words n n) (typed_at (algorithm n) (first_state (algorithm n)) i) q k)
            (sym (at k j)) (λ making lt. absurd making);
        answered =
            λ i k h j. subst
            (λ (q : Process). Answered n (first_words n n) i q k (typed_at (algorithm n) (first_state (algorithm n)) k))
            (sym (at i h)) (λ lt more. absurd (omega arith));
      }

module _ (n : ℕ) (items : List Item) (fits : Steady (run_of n items)) where
  -- the invariant at state t, where each state up to there has had as many words
  pub invariant : (t : ℕ) → t ≤ length items → Invariant n t (words_at n items) (state_at n items t)
  invariant =
      let a = algorithm n in
      at_each (λ t. Invariant n t (words_at n items) (state_at n items t))
      (λ t. length (words_at n items t) ≡ n) (length items)
      (at_the_start n (words_at n items) refl) (λ t h. h.size)
      (λ t lt sizes h. item_keeps n t (words_at n items) (state_at n items t) (item_at items t) sizes
      (embed.count a items t) (embed.one_at a items fits t lt) h refl)

  pub invariant_of : (t i : ℕ) → t ≤ length items → IsOneOf n i →
      ProcessInvariant n t (words_at n items) (registers_at n items t) i (process_after n items t i)
  invariant_of t i h one = (invariant t h).each i one

  pub all_do : embed.AllDo (algorithm n) items
  all_do t i h one =
      let o = invariant_of t i (omega arith) one in
      does n i (registers_at n items t) (process_after n items t i).variables (process_after n items t i).control one
      (invariant t (omega arith)).bits o.sized o.bits o.well

  -- the run, with what is known of its lines
  abbrev pub execution : scans.Execution (algorithm n) lines
  execution = record {
    items = items;
    fits = fits;
    does = all_do;
    flows = λ t i h one.
        let q = process_after n items t i in
        when_busy _ _ (λ d k well. flows n i d (registers_at n items t) q.variables k well.0) q.control
        (invariant_of t i (omega arith) one).well;
    wrote = λ t i h one. (invariant_of t i h one).wrote;
  }

module _ (n : ℕ) (items : List Item) (fits : Steady (run_of n items)) (t i : ℕ) (d : Mode) (k : ProgramCounter)
    (le : t ≤ length items) (one : IsOneOf n i) (e : (process_after n items t i).control ≡ At d k) where
  -- what a process at a line keeps there
  pub well_of : IsLineOf i d k × VariablesAt n i (process_after n items t i).variables k
  well_of = subst (ControlWell n i (process_after n items t i).variables) e (invariant_of n items fits t i le one).well

  -- a busy process is at the stage of its line
  pub stage_of : Stage n i (words_at n items) t (process_after n items t i).auxiliary.since
      (process_after n items t i).auxiliary.round (words_at n items t) (process_after n items t i).variables k
  stage_of =
      let q = process_after n items t i in
      subst (λ (p : Control).
      StageAt n i (words_at n items) t q.auxiliary.since q.auxiliary.round (words_at n items t) q.variables p)
      e (invariant_of n items fits t i le one).stage

  -- the counts of a process at a line are those of the line
  pub counts_of : Count n i (process_after n items t i).variables (process_after n items t i).auxiliary.own
      (process_after n items t i).auxiliary.collects (process_after n items t i).auxiliary.tested k
  counts_of =
      let q = process_after n items t i in
      subst (CountAt n i q.variables q.auxiliary.own q.auxiliary.collects q.auxiliary.tested) e
      (invariant_of n items fits t i le one).counts
