-- The numbers of U stay within their limits, but for its sequence numbers, which count the writes.
use Rattle.std.specs.Prelude.{◌≡◌, ℕ, suc, ◌+◌, ◌-◌, ◌<◌, ◌≤◌, max, Bool, true, false, List, length, map, not, nat_lt}
use Rattle.std.specs.Prelude.{if◌then◌else◌, bytes_eq, slice_index, slice_set, refl}
use Rattle.std.specs.List.{AllByRecursion}
use Rattle.std.proofs.Common.{sym, ◌∙◌, ap, subst, arith, inl, inr}
use Rattle.std.proofs.Math.ListN.{get_or-map}
use Rattle.std.proofs.lemmas.List.{map-set}
use Rattle.snap_runs.proofs.Common.{IsOneOf, Word, no_word, Item, Step, places_to, all_true, first_true, who, state}
use Rattle.snap_runs.specs.Bounded.{IsValue, AtMost, IsWordWithin, HasLine, StaysWithin, sequence_numbers, one_more}
use Rattle.snap_runs.specs.Bounded as specs
use Rattle.snap_runs.specs.Update.{executes}
use Rattle.snap_runs.proofs.Algorithm.{Mode, Scanning, Embedded, Updating, value_of, At, item_at}
use Rattle.snap_runs.proofs.Bounded as bounded
use Rattle.snap_runs.proofs.Bounded.{stays_within_too, counts_writes_too}
use Rattle.snap_runs.proofs.Calm.{calm_list}
use Rattle.snap_runs.proofs.Computing.{either, whether, lt_from, raised_most}
use Rattle.snap_runs.proofs.Embedding as embed
use Rattle.snap_runs.proofs.Executing as executing
use Rattle.snap_runs.proofs.Held.{word_at, seq_at}
use Rattle.snap_runs.proofs.Places.{first_found}
use Rattle.snap_runs_of_u.proofs.Ready.{Ready, ready}
use Rattle.snap_runs.proofs.Within.{Wider, set_within, row_within, all_read, none_within, data_within}
use Rattle.snap_runs.proofs.WordWrites as word_writes
use Rattle.snap_runs_of_u.specs.Bounded.{limits, OnlySequenceNumbersGrow, CountsWrites}
use Rattle.snap_runs_of_u.specs.ListingU as u
use Rattle.snap_runs_of_u.specs.ListingU.{listing_u}
use Rattle.snap_runs_of_u.specs.Promises.{square, run_of}
use Rattle.snap_runs_of_u.proofs.Algorithm.{Words, Move, Control, Variables, ProgramCounter, L10, L11, L12, L13, L14}
use Rattle.snap_runs_of_u.proofs.Algorithm.{L15, L16, L17, L18, L19, L21, L22, L23, L24, L30, L31, L32, L33, agree}
use Rattle.snap_runs_of_u.proofs.Algorithm.{limit, moved_at, counted, at_limit, word_put, next_to}
use Rattle.snap_runs_of_u.proofs.Algorithm.{first_to, number, move, lines, algorithm}
use Rattle.snap_runs_of_u.proofs.Control.{VariablesAt}
use Rattle.snap_runs_of_u.proofs.Flows.{writer}
use Rattle.snap_runs_of_u.proofs.Invariant.{pending}
use Rattle.snap_runs_of_u.proofs.Runs.{words_at, process_after, invariant_of, all_do, execution, well_of}
use Rattle.snap_runs_of_u.proofs.Kept.{kept}

-- the limits rise with the items
scalar_wider : (n t : ℕ) (is_j is_c : Bool) →
    (if is_j then n else if is_c then t else 0) ≤ (if is_j then n else if is_c then suc t else 0)
scalar_wider n t true is_c = omega arith
scalar_wider n t false true = omega arith
scalar_wider n t false false = omega arith

wider : (n t : ℕ) → Wider (limits n t) (limits n (suc t))
wider n t = record {
  seq = omega arith;
  id = omega arith;
  scalars = λ x. scalar_wider n t (bytes_eq x u.j) (bytes_eq x u.c);
  rows = λ x. omega arith;
}

-- the variables that a line leaves, one of them changed; the item is item t
module _ (n t : ℕ) (V : ℕ → Type 0) where
  abbrev IsWord : Word → Type 0
  IsWord = IsWordWithin (limits n t) (square n) V

  abbrev Copies : Words → Type 0
  Copies ws = AtMost (max n n) IsWord ws

  abbrev IsMemory : Words → Type 0
  IsMemory = bounded.MemoryWithin (algorithm n) (limits n t) V

  abbrev AreVariables : Variables → Type 0
  AreVariables = bounded.VariablesWithin (algorithm n) (limits n t) V

  abbrev IsMove : Move → Type 0
  IsMove = bounded.MoveWithin (algorithm n) (limits n t) V

  with_j : (p : Variables) (v : ℕ) → AreVariables p → v ≤ n → AreVariables (record p { j = v })
  with_j p v h new = assumption

  with_c : (p : Variables) (v : ℕ) → AreVariables p → v ≤ t → AreVariables (record p { c = v })
  with_c p v h new = assumption

  with_moved : (p : Variables) (row : List ℕ) → AreVariables p → AtMost (max n n) (λ y. y ≤ 2) row →
      AreVariables (record p { moved = row })
  with_moved p row h new = assumption

  with_a : (p : Variables) (ws : Words) → AreVariables p → Copies ws → AreVariables (record p { a = ws })
  with_a p ws h new = assumption

  with_b : (p : Variables) (ws : Words) → AreVariables p → Copies ws → AreVariables (record p { b = ws })
  with_b p ws h new = assumption

  with_s : (p : Variables) (view : List ℕ) → AreVariables p → AtMost n V view → AreVariables (record p { s = view })
  with_s p view h new = assumption

  -- the next place
  next_within : (p : Variables) (me : ℕ) (d : Mode) (m : Words) (back on : ProgramCounter) → IsOneOf n me →
      IsMemory m → AreVariables p → IsMove (next_to n d m p back on)
  next_within p me d m back on one memory h =
      either IsMove (nat_lt p.j n) _ _ (λ b.
      let less : p.j < n = lt_from p.j n b in (memory, with_j p (p.j + 1) h (omega arith)))
      (λ b. (memory, with_j p 1 h (omega arith)))

  -- 0 is a value
  module _ (zeroed : V 0) where
    -- a word that is read
    read : (words : Words) (j : ℕ) → AllByRecursion IsWord words → IsWord (word_at words j)
    read words j h = all_read IsWord words (j - 1) no_word h (none_within (limits n t) (square n) V zeroed)

    -- the word that line 32 puts
    put_within : (d : Mode) (p : Variables) → V (value_of d) → AreVariables p → IsWord (word_put d p)
    put_within d p value h = record {
      datum = value;
      seq = h.scalars.1.0;
      id = omega arith;
      toggle = omega arith;
      handshakes = (omega arith, tt);
      view = h.views.0;
    }

    line_within : (me : ℕ) (d : Mode) (m : Words) (p : Variables) (k : ProgramCounter) → IsOneOf n me →
        VariablesAt n p k → p.c < t → V (value_of d) → IsMemory m → AreVariables p → IsMove (move n me d m p k)
    line_within me d m p L10 one keeps fresh value memory h = (
      memory,
      with_moved p _ h (row_within n (max n n) 2 (λ k. 0) p.moved (omega arith) (λ k ik. omega arith) h.rows.0),
    )
    line_within me d m p L11 one keeps fresh value memory h = (memory, with_j p 1 h (omega arith))
    line_within me d m p L12 one keeps fresh value memory h = (
      memory,
      with_a p _ h
          (set_within (max n n) IsWord p.a (p.j - 1) (word_at m p.j) h.words.0 (read m p.j memory.words.1)),
    )
    line_within me d m p L13 one keeps fresh value memory h = next_within p me d m L12 L14 one memory h
    line_within me d m p L14 one keeps fresh value memory h = (
      memory,
      with_b p _ h
          (set_within (max n n) IsWord p.b (p.j - 1) (word_at m p.j) h.words.1.0 (read m p.j memory.words.1)),
    )
    line_within me d m p L15 one keeps fresh value memory h = next_within p me d m L14 L16 one memory h
    line_within me d m p L16 one keeps fresh value memory h =
        either IsMove (all_true (map (agree p) (places_to n))) _ _ (λ b. (memory, h)) (λ b. (memory, h))
    line_within me d m p L17 one keeps fresh value memory h = (
      memory,
      with_moved p _ h (row_within n (max n n) 2 (counted p) p.moved (omega arith)
          (λ k ik. raised_most (not (agree p k)) (moved_at p k) limit (keeps.1 k ik)) h.rows.0),
    )
    line_within me d m p L18 one keeps fresh value memory h =
        whether IsMove (first_to d m p) (first_true 1 (map (at_limit p) (places_to n)))
        (λ e. (memory, h)) (λ k e. let r = first_found 1 n (at_limit p) k e in (memory, with_j p k h (omega arith)))
    line_within me d m p L19 one keeps fresh value memory h = (memory, h)
    line_within me d m p L21 one keeps fresh value memory h =
        (memory, with_s p _ h (data_within (limits n t) (square n) V zeroed p.b h.words.1.0.1))
    line_within me Scanning m p L22 one keeps fresh value memory h = tt
    line_within me (Embedded word new) m p L22 one keeps fresh value memory h = (memory, h)
    line_within me (Updating word new) m p L22 one keeps fresh value memory h = tt
    line_within me d m p L23 one keeps fresh value memory h = (memory, with_s p _ h (read p.b p.j h.words.1.0.1).view)
    line_within me Scanning m p L24 one keeps fresh value memory h = tt
    line_within me (Embedded word new) m p L24 one keeps fresh value memory h = (memory, h)
    line_within me (Updating word new) m p L24 one keeps fresh value memory h = tt
    line_within me (Updating word new) m p L30 one keeps fresh value memory h = h
    line_within me d m p L30 one keeps fresh value memory h = tt
    line_within me d m p L31 one keeps fresh value memory h = (memory, with_c p (p.c + 1) h (omega arith))
    line_within me d m p L32 one keeps fresh value memory h = (
      record {
        words = set_within n IsWord m (me - 1) (word_put d p) memory.words (put_within d p value h);
        q = memory.q;
        p = memory.p;
        views = memory.views;
      },
      h,
    )
    line_within me d m p L33 one keeps fresh value memory h = tt

lined : (k : ProgramCounter) → HasLine listing_u (number k)
lined L10 = refl
lined k = refl

steady_stays_within : (n : ℕ) (items : List Item) → Ready n items → StaysWithin (limits n) (run_of n items)
steady_stays_within n items fits =
    bounded.stays_within (algorithm n) (limits n) (wider n) lined refl items fits.steady (all_do n items fits)
    (λ t i d k lt one is mode memory variables.
    let V = IsValue (run_of n items) (suc t) in
    let p = (process_after n items t i).variables in
    let fresh : p.c ≤ t = (invariant_of n items fits t i (omega arith) one).fresh in
    line_within n (suc t) V (inl refl) i d (words_at n items t) p k one
    (well_of n items fits t i d k (omega arith) one is).1 (omega arith)
    (bounded.value_within (algorithm n) (limits n (suc t)) V (inl refl) d mode) memory variables)

pub only_sequence_numbers_grow_lem : OnlySequenceNumbersGrow
only_sequence_numbers_grow_lem n items suffice =
    stays_within_too (run_of n items) (limits n)
    (λ steady. steady_stays_within n (calm_list (run_of n items)) (ready n items suffice steady))

module _ (n : ℕ) (items : List Item) (fits : Ready n items) where
  numbers_are : (t : ℕ) → t ≤ length items →
      sequence_numbers (state (run_of n items) t) ≡ map (λ (w : Word). w.seq) (words_at n items t)
  numbers_are t h = ap sequence_numbers (embed.state_is (algorithm n) items fits.steady (all_do n items fits) t h)

  -- a step at line 32
  write_counts : (t i : ℕ) (d : Mode) → t < length items → item_at items t ≡ Step i →
      (process_after n items t i).control ≡ At d L32 →
      sequence_numbers (state (run_of n items) (suc t)) ≡ one_more i (sequence_numbers (state (run_of n items) t))
  write_counts t i d h is there =
      let one : IsOneOf n i = executing.one_of (algorithm n) items fits.steady (all_do n items fits) t i h is in
      let x =
      word_writes.written (algorithm n) lines 32 (writer n) (execution n items fits)
      (kept n items fits).updates t i d h is there in
      let ws = words_at n items t in
      let p = (process_after n items t i).variables in
      let c_is : p.c ≡ seq_at ws i + 1 =
      (invariant_of n items fits t i (omega arith) one).seq ∙ ap (λ (y : Control). seq_at ws i + pending y) there in
      let read : slice_index (map (λ (w : Word). w.seq) ws) (i - 1) ≡ seq_at ws i =
      get_or-map (λ (w : Word). w.seq) ws (i - 1) no_word in
      numbers_are (suc t) (omega arith)
      ∙ ap (map (λ (w : Word). w.seq)) x.words_are
      ∙ map-set (λ (w : Word). w.seq) ws (x.word - 1) (word_put (Updating x.word x.value) p)
      ∙ ap (λ k. slice_set (map (λ (w : Word). w.seq) ws) (k - 1) p.c) x.owned
      ∙ ap (slice_set (map (λ (w : Word). w.seq) ws) (i - 1)) (c_is ∙ ap (λ y. y + 1) (sym read))
      ∙ ap (one_more i) (sym (numbers_are t (omega arith)))

  steady_counts_writes : specs.CountsWrites 32 (run_of n items)
  steady_counts_writes whole t h =
      elim (word_writes.words_change (algorithm n) lines 32 (writer n) (execution n items fits) t h) [
        | inl same ↦
            inl (numbers_are (suc t) (omega arith) ∙ ap (map (λ (w : Word). w.seq)) same
            ∙ sym (numbers_are t (omega arith)))
        | inr w ↦ inr (
          subst (λ (y : Item). executes (run_of n items) (who y) 32 (suc t) ≡ true) (sym w.2)
              (executing.line_executes (algorithm n) items fits.steady
              (all_do n items fits) t w.0 32 w.1 L32 h w.2 w.3 refl),
          subst (λ (y : Item). sequence_numbers (state (run_of n items) (suc t))
              ≡ one_more (who y) (sequence_numbers (state (run_of n items) t))) (sym w.2)
              (write_counts t w.0 w.1 h w.2 w.3),
        )
      ]

pub counts_writes_lem : CountsWrites
counts_writes_lem n items suffice =
    counts_writes_too (run_of n items) 32
    (λ steady. steady_counts_writes n (calm_list (run_of n items)) (ready n items suffice steady))
