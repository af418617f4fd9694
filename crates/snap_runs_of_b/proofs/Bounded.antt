-- The numbers that a run of B keeps, in registers and locals, stay within their limits.
use Rattle.std.specs.Prelude.{ℕ, suc, ◌+◌, ◌-◌, ◌<◌, ◌≤◌, max, List, map, not, nat_lt, slice_set, refl}
use Rattle.std.specs.List.{AllByRecursion}
use Rattle.std.proofs.Common.{subst, arith, inl}
use Rattle.snap_runs.proofs.Common.{IsOneOf, Word, Item, places_to, all_true, first_true}
use Rattle.snap_runs.specs.Bounded.{IsValue, AtMost, IsBit, IsWordWithin, HasLine, StaysWithin}
use Rattle.snap_runs.proofs.Algorithm.{Mode, Scanning, Embedded, Updating, value_of}
use Rattle.snap_runs.proofs.Bounded as bounded
use Rattle.snap_runs.proofs.Bounded.{stays_within_too}
use Rattle.snap_runs.proofs.Calm.{calm_list}
use Rattle.snap_runs.proofs.Computing.{either, whether, lt_from, raised_most}
use Rattle.snap_runs.proofs.Held.{word_at}
use Rattle.snap_runs.proofs.Plain.{plain_taken}
use Rattle.snap_runs.proofs.Places.{first_found}
use Rattle.snap_runs.proofs.Steady.{Steady}
use Rattle.snap_runs.proofs.Within.{set_within, taken_within, row_within, bit_set_within, bit_read_within, as_wide}
use Rattle.snap_runs.proofs.Within.{all_read, data_within, handshake_within, read_within, copied_within, written_within}
use Rattle.snap_runs_of_b.specs.Bounded.{limits, StaysBounded}
use Rattle.snap_runs_of_b.specs.ListingB.{listing_b}
use Rattle.snap_runs_of_b.specs.Promises.{square, run_of}
use Rattle.snap_runs_of_b.proofs.Algorithm.{Words, Registers, Move, Variables, ProgramCounter, L10, L11, L12, L13}
use Rattle.snap_runs_of_b.proofs.Algorithm.{L14, L15, L16, L17, L18, L19, L20, L21, L22, L23, L25, L26, L27, L28, L40}
use Rattle.snap_runs_of_b.proofs.Algorithm.{L41, L42, L43, L44, L45, L46, L47, plain, place, handshake_at, answer}
use Rattle.snap_runs_of_b.proofs.Algorithm.{agree, limit, moved_at, counted, at_limit, word_put}
use Rattle.snap_runs_of_b.proofs.Algorithm.{next_to, first_to, number, move, algorithm}
use Rattle.snap_runs_of_b.proofs.Control.{VariablesAt}
use Rattle.snap_runs_of_b.proofs.Runs.{state_at, process_after, all_do, well_of}
use Rattle.snap_runs_of_b.proofs.Stage.{answer_bit, flipped_bit}

-- the variables that a line leaves, one of them changed
module _ (n : ℕ) (V : ℕ → Type 0) where
  abbrev IsWord : Word → Type 0
  IsWord = IsWordWithin (limits n) (square n) V

  abbrev Copies : Words → Type 0
  Copies ws = AtMost (max n n) IsWord (map plain ws)

  abbrev IsRow : ℕ → List ℕ → Type 0
  IsRow most xs = AtMost (max n n) (λ y. y ≤ most) xs

  abbrev IsMemory : Registers → Type 0
  IsMemory = bounded.MemoryWithin (algorithm n) (limits n) V

  abbrev AreVariables : Variables → Type 0
  AreVariables = bounded.VariablesWithin (algorithm n) (limits n) V

  abbrev IsMove : Move → Type 0
  IsMove = bounded.MoveWithin (algorithm n) (limits n) V

  with_j : (p : Variables) (v : ℕ) → AreVariables p → v ≤ n → AreVariables (record p { j = v })
  with_j p v h new = assumption

  with_x : (p : Variables) (v : ℕ) → AreVariables p → IsBit v → AreVariables (record p { x = v })
  with_x p v h new = assumption

  with_t : (p : Variables) (v : ℕ) → AreVariables p → IsBit v → AreVariables (record p { t = v })
  with_t p v h new = assumption

  with_moved : (p : Variables) (row : List ℕ) → AreVariables p → IsRow 2 row → AreVariables (record p { moved = row })
  with_moved p row h new = assumption

  with_g : (p : Variables) (row : List ℕ) → AreVariables p → IsRow 1 row → AreVariables (record p { g = row })
  with_g p row h new = assumption

  with_f : (p : Variables) (row : List ℕ) → AreVariables p → IsRow 1 row → AreVariables (record p { f = row })
  with_f p row h new = assumption

  with_a : (p : Variables) (ws : Words) → AreVariables p → Copies ws → AreVariables (record p { a = ws })
  with_a p ws h new = assumption

  with_b : (p : Variables) (ws : Words) → AreVariables p → Copies ws → AreVariables (record p { b = ws })
  with_b p ws h new = assumption

  with_s : (p : Variables) (view : List ℕ) → AreVariables p → AtMost n V view → AreVariables (record p { s = view })
  with_s p view h new = assumption

  -- the next place
  next_within : (p : Variables) (me : ℕ) (d : Mode) (m : Registers) (back on : ProgramCounter) → IsOneOf n me →
      IsMemory m → AreVariables p → IsMove (next_to n d m p back on)
  next_within p me d m back on one memory h =
      either IsMove (nat_lt p.j n) _ _ (λ b.
      let less : p.j < n = lt_from p.j n b in (memory, with_j p (p.j + 1) h (omega arith)))
      (λ b. (memory, with_j p 1 h (omega arith)))

  -- 0 is a value
  module _ (zeroed : V 0) where
    -- a word that is read, and what it says
    copy_within : (copies words : Words) (j : ℕ) → Copies copies → AllByRecursion IsWord (map plain words) →
        Copies (slice_set copies (j - 1) (word_at words j))
    copy_within copies words j old h =
        copied_within (limits n) (square n) V zeroed plain refl (max n n) copies words (j - 1) (j - 1) old h

    copied : (copies : Words) (j : ℕ) → Copies copies → IsWord (plain (word_at copies j))
    copied copies j h = read_within (limits n) (square n) V zeroed plain refl copies (j - 1) h.1

    -- the word that line 46 writes
    put_within : (me : ℕ) (d : Mode) (m : Registers) (p : Variables) → V (value_of d) → AreVariables p →
        IsWord (plain (word_put n me d m p))
    put_within me d m p value h = record {
      datum = value;
      seq = omega arith;
      id = omega arith;
      toggle = h.scalars.1.1.0;
      handshakes = taken_within n IsBit p.f h.rows.1.1.0.1;
      view = h.views.0;
    }

    line_within : (me : ℕ) (d : Mode) (m : Registers) (p : Variables) (k : ProgramCounter) → IsOneOf n me →
        VariablesAt n me p k → V (value_of d) → IsMemory m → AreVariables p → IsMove (move n me d m p k)
    line_within me d m p L10 one keeps value memory h = (
      memory,
      with_moved p _ h (row_within n (max n n) 2 (λ k. 0) p.moved (omega arith) (λ k ik. omega arith) h.rows.0),
    )
    line_within me d m p L11 one keeps value memory h = (memory, with_j p 1 h (omega arith))
    line_within me d m p L12 one keeps value memory h =
        (memory, with_a p _ h (copy_within p.a m.words p.j h.words.0 memory.words.1))
    line_within me d m p L13 one keeps value memory h = (
      memory,
      with_g p _ h (set_within (max n n) IsBit p.g (p.j - 1) (handshake_at (word_at p.a p.j) me) h.rows.1.0
          (handshake_within (limits n) (square n) V zeroed (plain (word_at p.a p.j))
          (me - 1) (copied p.a p.j h.words.0))),
    )
    line_within me d m p L14 one keeps value memory h = (
      record {
        words = memory.words;
        q =
            bit_set_within n m.q (me - 1) (p.j - 1) (place p.g p.j) memory.q
            (all_read IsBit p.g (p.j - 1) 0 h.rows.1.0.1 (omega arith));
        p = memory.p;
        views = memory.views;
      },
      h,
    )
    line_within me d m p L15 one keeps value memory h = next_within p me d m L12 L16 one memory h
    line_within me d m p L16 one keeps value memory h =
        (memory, with_a p _ h (copy_within p.a m.words p.j h.words.0 memory.words.1))
    line_within me d m p L17 one keeps value memory h = next_within p me d m L16 L18 one memory h
    line_within me d m p L18 one keeps value memory h =
        (memory, with_b p _ h (copy_within p.b m.words p.j h.words.1.0 memory.words.1))
    line_within me d m p L19 one keeps value memory h = next_within p me d m L18 L20 one memory h
    line_within me d m p L20 one keeps value memory h =
        either IsMove (all_true (map (agree me p) (places_to n))) _ _ (λ b. (memory, h)) (λ b. (memory, h))
    line_within me d m p L21 one keeps value memory h = (
      memory,
      with_moved p _ h (row_within n (max n n) 2 (counted me p) p.moved (omega arith)
          (λ k ik. raised_most (not (agree me p k)) (moved_at p k) limit (keeps.1 k ik)) h.rows.0),
    )
    line_within me d m p L22 one keeps value memory h =
        whether IsMove (first_to d m p) (first_true 1 (map (at_limit p) (places_to n)))
        (λ e. (memory, h)) (λ k e. let r = first_found 1 n (at_limit p) k e in (memory, with_j p k h (omega arith)))
    line_within me d m p L23 one keeps value memory h = (memory, h)
    line_within me d m p L25 one keeps value memory h = (
      memory,
      with_s p _ h (subst (AtMost n V) (plain_taken plain (λ w. refl) n p.b)
          (data_within (limits n) (square n) V zeroed (map plain p.b) h.words.1.0.1)),
    )
    line_within me Scanning m p L26 one keeps value memory h = tt
    line_within me (Embedded word new) m p L26 one keeps value memory h = (memory, h)
    line_within me (Updating word new) m p L26 one keeps value memory h = tt
    line_within me d m p L27 one keeps value memory h = (memory, with_s p _ h (copied p.b p.j h.words.1.0).view)
    line_within me Scanning m p L28 one keeps value memory h = tt
    line_within me (Embedded word new) m p L28 one keeps value memory h = (memory, h)
    line_within me (Updating word new) m p L28 one keeps value memory h = tt
    line_within me d m p L40 one keeps value memory h = (memory, with_j p 1 h (omega arith))
    line_within me d m p L41 one keeps value memory h =
        (memory, with_x p _ h (bit_read_within n m.q (p.j - 1) (me - 1) memory.q))
    line_within me d m p L42 one keeps value memory h =
        (memory, with_f p _ h (set_within (max n n) IsBit p.f (p.j - 1) (answer p.x) h.rows.1.1.0 (answer_bit p.x)))
    line_within me d m p L43 one keeps value memory h = next_within p me d m L41 L44 one memory h
    line_within me (Updating word new) m p L44 one keeps value memory h = h
    line_within me d m p L44 one keeps value memory h = tt
    line_within me d m p L45 one keeps value memory h = (memory, with_t p _ h (flipped_bit p.t h.scalars.1.1.0))
    line_within me d m p L46 one keeps value memory h = (
      record {
        words =
            written_within (limits n) (square n) V zeroed plain refl n m.words (me - 1)
            (word_put n me d m p) memory.words (put_within me d m p value h);
        q = memory.q;
        p = memory.p;
        views = memory.views;
      },
      h,
    )
    line_within me d m p L47 one keeps value memory h = tt

lined : (k : ProgramCounter) → HasLine listing_b (number k)
lined L10 = refl
lined k = refl

steady_stays_bounded : (n : ℕ) (items : List Item) → Steady (run_of n items) →
    StaysWithin (λ at. limits n) (run_of n items)
steady_stays_bounded n items fits =
    bounded.stays_within (algorithm n) (λ at. limits n)
    (λ at. as_wide (limits n)) lined refl items fits (all_do n items fits)
    (λ t i d k lt one is mode memory variables.
    let V = IsValue (run_of n items) (suc t) in
    line_within n V (inl refl) i d (state_at n items t).memory (process_after n items t i).variables k one
    (well_of n items fits t i d k (omega arith) one is).1
    (bounded.value_within (algorithm n) (limits n) V (inl refl) d mode) memory variables)

pub stays_bounded_lem : StaysBounded
stays_bounded_lem n items =
    stays_within_too (run_of n items) (λ at. limits n) (steady_stays_bounded n (calm_list (run_of n items)))
