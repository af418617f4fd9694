-- The numbers that a run of M keeps, in registers and locals, stay within their limits.
use Rattle.std.proofs.Common.{◌≡◌, ℕ, suc, ◌+◌, ◌-◌, ◌<◌, ◌≤◌, max, List, [], length, map, not, nat_eq, nat_lt}
use Rattle.std.proofs.Common.{slice_set, refl, sym, subst, arith, inl}
use Rattle.std.specs.List.{AllByRecursion}
use Rattle.snap_runs.proofs.Common.{IsOneOf, Word, Item}
use Rattle.snap_runs.specs.Bounded.{IsValue, AtMost, IsBit, IsWordWithin, HasLine, StaysWithin}
use Rattle.snap_runs.proofs.Algorithm.{Mode, Scanning, Embedded, Updating, value_of, At, typed_at}
use Rattle.snap_runs.proofs.Bounded as bounded
use Rattle.snap_runs.proofs.Bounded.{stays_within_too}
use Rattle.snap_runs.proofs.Calm.{calm_list}
use Rattle.snap_runs.proofs.Computing.{either, whether, lt_from, raised_most}
use Rattle.snap_runs.proofs.Held.{word_at}
use Rattle.snap_runs.proofs.Places.{first_found}
use Rattle.snap_runs.proofs.Steady.{Steady}
use Rattle.snap_runs.proofs.Within.{set_within, row_within, bit_set_within, bit_read_within, as_wide, all_read}
use Rattle.snap_runs.proofs.Within.{data_within, read_within, copied_within, written_within}
use Rattle.snap_runs_of_m.specs.Bounded.{limits, StaysBounded}
use Rattle.snap_runs_of_m.specs.ListingM.{listing_m}
use Rattle.snap_runs_of_m.specs.Promises.{counts, run_of}
use Rattle.snap_runs_of_m.proofs.Algorithm.{Words, Registers, Move, Variables, ProgramCounter, L10, L11, L12, L13}
use Rattle.snap_runs_of_m.proofs.Algorithm.{L14, L15, L16, L17, L18, L19, L20, L21, L22, L23, L24, L25, L26, L27, L28}
use Rattle.snap_runs_of_m.proofs.Algorithm.{L29, L30, L31, L32, L33, L34, L35, L36, L37, L50, L51, L52, L53, L54, L55}
use Rattle.snap_runs_of_m.proofs.Algorithm.{L56, L57, L58, plain, place, flip, same_at, all_still, third_move, marked}
use Rattle.snap_runs_of_m.proofs.Algorithm.{limit, counted, at_limit, written, word_of, next_j}
use Rattle.snap_runs_of_m.proofs.Algorithm.{next_k, first_to, number, move, algorithm}
use Rattle.snap_runs_of_m.proofs.Basics.{flip_bit}
use Rattle.snap_runs_of_m.proofs.Control.{Keeps}
use Rattle.snap_runs_of_m.proofs.Runs.{state_at, registers_at, inv, all_do, well_of, stage_of}
use Rattle.snap_runs_of_m.proofs.Stage.{Stage}

-- the variables that a line leaves, one of them changed
module _ (n w : ℕ) (V : ℕ → Type 0) where
  abbrev IsWord : Word → Type 0
  IsWord = IsWordWithin (limits n w) (counts n w) V

  abbrev Copies : Words → Type 0
  Copies ws = AtMost (max n w) IsWord (map plain ws)

  abbrev IsRow : ℕ → List ℕ → Type 0
  IsRow most xs = AtMost (max n w) (λ y. y ≤ most) xs

  abbrev IsMemory : Registers → Type 0
  IsMemory = bounded.MemoryWithin (algorithm n w) (limits n w) V

  abbrev AreVariables : Variables → Type 0
  AreVariables = bounded.VariablesWithin (algorithm n w) (limits n w) V

  abbrev IsMove : Move → Type 0
  IsMove = bounded.MoveWithin (algorithm n w) (limits n w) V

  with_j : (p : Variables) (v : ℕ) → AreVariables p → v ≤ n → AreVariables (record p { j = v })
  with_j p v h new = assumption

  with_k : (p : Variables) (v : ℕ) → AreVariables p → v ≤ w → AreVariables (record p { k = v })
  with_k p v h new = assumption

  with_x : (p : Variables) (v : ℕ) → AreVariables p → v ≤ n → AreVariables (record p { x = v })
  with_x p v h new = assumption

  with_moved : (p : Variables) (row : List ℕ) → AreVariables p → IsRow 3 row → AreVariables (record p { moved = row })
  with_moved p row h new = assumption

  with_g : (p : Variables) (row : List ℕ) → AreVariables p → IsRow 1 row → AreVariables (record p { g = row })
  with_g p row h new = assumption

  with_h : (p : Variables) (row : List ℕ) → AreVariables p → IsRow 1 row → AreVariables (record p { h = row })
  with_h p row h new = assumption

  with_d : (p : Variables) (row : List ℕ) → AreVariables p → IsRow 1 row → AreVariables (record p { d = row })
  with_d p row h new = assumption

  with_tog : (p : Variables) (row : List ℕ) → AreVariables p → IsRow 1 row → AreVariables (record p { tog = row })
  with_tog p row h new = assumption

  with_a : (p : Variables) (ws : Words) → AreVariables p → Copies ws → AreVariables (record p { a = ws })
  with_a p ws h new = assumption

  with_b : (p : Variables) (ws : Words) → AreVariables p → Copies ws → AreVariables (record p { b = ws })
  with_b p ws h new = assumption

  with_s : (p : Variables) (view : List ℕ) → AreVariables p → AtMost w V view → AreVariables (record p { s = view })
  with_s p view h new = assumption

  -- the next place
  next_j_within : (p : Variables) (me : ℕ) (d : Mode) (m : Registers) (back on : ProgramCounter) → IsOneOf n me →
      IsMemory m → AreVariables p → IsMove (next_j n d m p back on)
  next_j_within p me d m back on one memory h =
      either IsMove (nat_lt p.j n) _ _ (λ b.
      let less : p.j < n = lt_from p.j n b in (memory, with_j p (p.j + 1) h (omega arith)))
      (λ b. (memory, with_j p 1 h (omega arith)))

  next_k_within : (p : Variables) (d : Mode) (m : Registers) (back on : ProgramCounter) → 0 < w → IsMemory m →
      AreVariables p → IsMove (next_k w d m p back on)
  next_k_within p d m back on some memory h =
      either IsMove (nat_lt p.k w) _ _ (λ b.
      let less : p.k < w = lt_from p.k w b in (memory, with_k p (p.k + 1) h (omega arith)))
      (λ b. (memory, with_k p 1 h (omega arith)))

  -- a bit of a row
  row_bit : (row : List ℕ) (k : ℕ) → IsRow 1 row → IsBit (place row k)
  row_bit row k h = all_read IsBit row (k - 1) 0 h.1 (omega arith)

  -- 0 is a value
  module _ (zeroed : V 0) where
    -- a word that is read
    copy_within : (copies words : Words) (k : ℕ) → Copies copies → AllByRecursion IsWord (map plain words) →
        Copies (slice_set copies (k - 1) (word_at words k))
    copy_within copies words k old h =
        copied_within (limits n w) (counts n w) V zeroed plain refl (max n w) copies words (k - 1) (k - 1) old h

    -- the word that line 57 writes
    put_within : (me : ℕ) (d : Mode) (m : Registers) (p : Variables) → IsOneOf n me → V (value_of d) →
        AreVariables p → IsWord (plain (written me d m p))
    put_within me d m p one value h = record {
      datum = value;
      seq = omega arith;
      id = one.1;
      toggle = row_bit p.tog (word_of d) h.rows.1.1.1.1.0;
      handshakes = (omega arith, tt);
      view = (omega arith, tt);
    }

    line_within : (me : ℕ) (d : Mode) (m : Registers) (p : Variables) (k : ProgramCounter) →
        IsOneOf n me → 0 < w → Keeps n w d p k →
        ((k ≡ L22) → IsBit p.x) → V (value_of d) → IsMemory m → AreVariables p → IsMove (move n w me d m p k)
    line_within me d m p L10 one some keeps late value memory h = (
      memory,
      with_moved p _ h (row_within n (max n w) 3 (λ c. 0) p.moved (omega arith) (λ c ic. omega arith) h.rows.0),
    )
    line_within me d m p L11 one some keeps late value memory h = (memory, with_j p 1 h (omega arith))
    line_within me d m p L12 one some keeps late value memory h = (memory, with_k p 1 h (omega arith))
    line_within me d m p L13 one some keeps late value memory h =
        let bit = bit_read_within n m.p (p.j - 1) (me - 1) memory.p in (memory, with_x p _ h (omega arith))
    line_within me d m p L14 one some keeps late value memory h =
        (memory, with_g p _ h (set_within (max n w) IsBit p.g (p.j - 1) p.x h.rows.1.0 keeps.3))
    line_within me d m p L15 one some keeps late value memory h = (
      record {
        words = memory.words;
        q = bit_set_within n m.q (me - 1) (p.j - 1) p.x memory.q keeps.3;
        p = memory.p;
        views = memory.views;
      },
      h,
    )
    line_within me d m p L16 one some keeps late value memory h = next_j_within p me d m L13 L17 one memory h
    line_within me d m p L17 one some keeps late value memory h =
        (memory, with_a p _ h (copy_within p.a m.words p.k h.words.0 memory.words.1))
    line_within me d m p L18 one some keeps late value memory h = next_k_within p d m L17 L19 some memory h
    line_within me d m p L19 one some keeps late value memory h =
        (memory, with_b p _ h (copy_within p.b m.words p.k h.words.1.0 memory.words.1))
    line_within me d m p L20 one some keeps late value memory h = next_k_within p d m L19 L21 some memory h
    line_within me d m p L21 one some keeps late value memory h =
        let bit = bit_read_within n m.p (p.j - 1) (me - 1) memory.p in (memory, with_x p _ h (omega arith))
    line_within me d m p L22 one some keeps late value memory h =
        (memory, with_h p _ h (set_within (max n w) IsBit p.h (p.j - 1) p.x h.rows.1.1.0 (late refl)))
    line_within me d m p L23 one some keeps late value memory h = next_j_within p me d m L21 L24 one memory h
    line_within me d m p L24 one some keeps late value memory h = (
      memory,
      with_d p _ h (row_within n (max n w) 1 (λ c. 0) p.d (omega arith) (λ c ic. omega arith) h.rows.1.1.1.0),
    )
    line_within me d m p L25 one some keeps late value memory h = (
      memory,
      with_d p _ h (row_within n (max n w) 1 (marked p) p.d (omega arith)
          (λ c ic. either IsBit (not (nat_eq (place p.h c) (place p.g c))) 1 (place p.d c) (λ b. omega arith)
          (λ b. row_bit p.d c h.rows.1.1.1.0)) h.rows.1.1.1.0),
    )
    line_within me d m p L26 one some keeps late value memory h =
        either IsMove (same_at p.a p.b p.k) _ _ (λ b. (memory, h)) (λ b. (memory, h))
    line_within me d m p L27 one some keeps late value memory h = (
      memory,
      with_x p _ h (read_within (limits n w) (counts n w) V zeroed plain refl p.b (p.k - 1) h.words.1.0.1).id,
    )
    line_within me d m p L28 one some keeps late value memory h =
        (memory, with_d p _ h (set_within (max n w) IsBit p.d (p.x - 1) 1 h.rows.1.1.1.0 (omega arith)))
    line_within me d m p L29 one some keeps late value memory h = next_k_within p d m L26 L30 some memory h
    line_within me d m p L30 one some keeps late value memory h =
        either IsMove (all_still n p) _ _ (λ b. (memory, h)) (λ b. (memory, h))
    line_within me d m p L31 one some keeps late value memory h = (
      memory,
      with_moved p _ h (row_within n (max n w) 3 (counted p) p.moved (omega arith)
          (λ c ic. raised_most (nat_eq (place p.d c) 1) (place p.moved c) limit (keeps.2 c ic)) h.rows.0),
    )
    line_within me d m p L32 one some keeps late value memory h =
        whether IsMove (first_to d m p) (third_move n p)
        (λ e. (memory, h)) (λ c e. let r = first_found 1 n (at_limit p) c e in (memory, with_j p c h (omega arith)))
    line_within me d m p L33 one some keeps late value memory h = (memory, h)
    line_within me d m p L34 one some keeps late value memory h =
        (memory, with_s p _ h (data_within (limits n w) (counts n w) V zeroed (map plain p.b) h.words.1.0.1))
    line_within me Scanning m p L35 one some keeps late value memory h = tt
    line_within me (Embedded word new) m p L35 one some keeps late value memory h = (memory, h)
    line_within me (Updating word new) m p L35 one some keeps late value memory h = tt
    line_within me d m p L36 one some keeps late value memory h =
        (memory, with_s p _ h (all_read (AtMost w V) m.views (p.j - 1) [] memory.views.1 (omega arith, tt)))
    line_within me Scanning m p L37 one some keeps late value memory h = tt
    line_within me (Embedded word new) m p L37 one some keeps late value memory h = (memory, h)
    line_within me (Updating word new) m p L37 one some keeps late value memory h = tt
    line_within me d m p L50 one some keeps late value memory h = (memory, with_j p 1 h (omega arith))
    line_within me d m p L51 one some keeps late value memory h =
        let bit = bit_read_within n m.q (p.j - 1) (me - 1) memory.q in (memory, with_x p _ h (omega arith))
    line_within me d m p L52 one some keeps late value memory h = (
      record {
        words = memory.words;
        q = memory.q;
        p = bit_set_within n m.p (me - 1) (p.j - 1) (flip p.x) memory.p (flip_bit p.x);
        views = memory.views;
      },
      h,
    )
    line_within me d m p L53 one some keeps late value memory h = next_j_within p me d m L51 L54 one memory h
    line_within me (Updating word new) m p L54 one some keeps late value memory h = h
    line_within me d m p L54 one some keeps late value memory h = tt
    line_within me d m p L55 one some keeps late value memory h = (
      record {
        words = memory.words;
        q = memory.q;
        p = memory.p;
        views = set_within n (AtMost w V) m.views (me - 1) p.s memory.views h.views.0;
      },
      h,
    )
    line_within me d m p L56 one some keeps late value memory h = (
      memory,
      with_tog p _ h (set_within (max n w) IsBit p.tog (word_of d - 1)
          (flip (place p.tog (word_of d))) h.rows.1.1.1.1.0 (flip_bit (place p.tog (word_of d)))),
    )
    line_within me d m p L57 one some keeps late value memory h = (
      record {
        words =
            written_within (limits n w) (counts n w) V zeroed plain refl w m.words (word_of d - 1)
            (written me d m p) memory.words (put_within me d m p one value h);
        q = memory.q;
        p = memory.p;
        views = memory.views;
      },
      h,
    )
    line_within me d m p L58 one some keeps late value memory h = tt

lined : (k : ProgramCounter) → HasLine listing_m (number k)
lined L10 = refl
lined k = refl

-- the bit that line 22 takes into row h
late_bit : (n w : ℕ) (items : List Item) (some : 0 < w) (fits : Steady (run_of n w items))
    (t i : ℕ) (d : Mode) (k : ProgramCounter) → t ≤ length items →
    IsOneOf n i → (typed_at (algorithm n w) (state_at n w items t) i).control ≡ At d k → (k ≡ L22) →
    IsBit (typed_at (algorithm n w) (state_at n w items t) i).variables.x
late_bit n w items some fits t i d k le one is e =
    let q = typed_at (algorithm n w) (state_at n w items t) i in
    let p = q.variables in
    let at22 : Stage n w i (registers_at n w items) t q.auxiliary.since q.auxiliary.round p L22 =
    subst (Stage n w i (registers_at n w items) t q.auxiliary.since q.auxiliary.round p) e
    (stage_of n w items some fits t i d k le one is) in
    let inside : IsOneOf n p.j = (subst (Keeps n w d p) e (well_of n w items some fits t i d k le one is).1).0 in
    let there : at22.2.at ≤ t = at22.2.until in
    subst IsBit (sym at22.2.is) (((inv n w items some fits t le).laws at22.2.at there).now.bits p.j i inside one)

steady_stays_bounded : (n w : ℕ) (items : List Item) → 0 < w → Steady (run_of n w items) →
    StaysWithin (λ at. limits n w) (run_of n w items)
steady_stays_bounded n w items some fits =
    bounded.stays_within (algorithm n w) (λ at. limits n w)
    (λ at. as_wide (limits n w)) lined refl items fits (all_do n w items some fits)
    (λ t i d k lt one is mode memory variables.
    let V = IsValue (run_of n w items) (suc t) in
    line_within n w V (inl refl) i d (registers_at n w items t)
    (typed_at (algorithm n w) (state_at n w items t) i).variables k one some
    (well_of n w items some fits t i d k (omega arith) one is).1
    (late_bit n w items some fits t i d k (omega arith) one is)
    (bounded.value_within (algorithm n w) (limits n w) V (inl refl) d mode) memory variables)

pub stays_bounded_lem : StaysBounded
stays_bounded_lem n w items some =
    stays_within_too (run_of n w items) (λ at. limits n w)
    (steady_stays_bounded n w (calm_list (run_of n w items)) some)
