-- Processes of M that step alone: the handshakes and the collects of a scan, its marks, its tests, and a whole update.
use Rattle.std.specs.Prelude.{◌≡◌, ◌≢◌, ℕ, zero, suc, ◌+◌, ◌*◌, ◌-◌, ◌<◌, ◌≤◌, true, false, not, ◌&&◌, List, length}
use Rattle.std.specs.Prelude.{map, take, drop, nat_eq, if◌then◌else◌, slice_index, slice_set, refl}
use Rattle.std.proofs.Common.{sym, ◌∙◌, ap, arith}
use Rattle.std.proofs.lemmas.Grind.{get_or-set_at}
use Rattle.std.proofs.lemmas.List.{length-set, length-append, get_or-set_other}
use Rattle.std.proofs.lemmas.List.FromFn.{length-map-range_with_len}
use Rattle.snap_runs.proofs.Common.{IsOneOf, Word, no_word, places_to}
use Rattle.snap_runs.proofs.Algorithm.{Mode, Scanning, Embedded, Updating}
use Rattle.snap_runs.proofs.Computing.{lt_true, lt_false, same_number}
use Rattle.snap_runs.proofs.Held.{word_at}
use Rattle.snap_runs.proofs.Places.{for_each, for_each_at}
use Rattle.snap_runs_of_m.proofs.Algorithm.{Words, Bits, Registers, Variables, L13, L17, L19, L21}
use Rattle.snap_runs_of_m.proofs.Algorithm.{L24, L26, L29, L30, L35, L50, L51, L54, plain, place, bit, with_bit, flip}
use Rattle.snap_runs_of_m.proofs.Algorithm.{same_words, same_at, limit, marked, counted, written, after_52}
use Rattle.snap_runs_of_m.proofs.Algorithm.{after_55, after_57, algorithm}
use Rattle.snap_runs_of_m.proofs.Basics.{row_elsewhere, set_here}
use Rattle.snap_runs_sharp.proofs.Alone.{standing, idling, walk, walks}
use Rattle.snap_runs_sharp.proofs.Filling.{Filled, all_hold, one_fails, Moved, one_moves}
use Rattle.snap_runs_sharp.proofs.Loops.{fill, Collected, collect}

-- the rows and the copies of a process are long enough
pub record Sized (n w : ℕ) (p : Variables) : Type 0 where
  pub a : w ≤ length p.a
  pub b : w ≤ length p.b
  pub g : n ≤ length p.g
  pub h : n ≤ length p.h
  pub tog : w ≤ length p.tog

-- the bits that the processes have put for a process
abbrev pub bits_for : Bits → ℕ → ℕ → ℕ
bits_for rows me c = bit rows c me

-- the handshake with all processes: their bits are read, and put
handshake : (n w me : ℕ) (d : Mode) (m : Registers) (p : Variables) (c : ℕ) → 1 ≤ n → p.j ≡ 1 → n ≤ length p.g →
    (r : Bits × ℕ) × (g : List ℕ)
    × (walk (algorithm n w) me (4 * n) (standing d m p L13 c)
    ≡ standing d (record m { q = r.0 }) (record p { j = 1; x = r.1; g = g }) L17 c)
    × (length g ≡ length p.g) × Filled (bits_for m.p me) 0 (n + 1) g
handshake n w me d m p c some first size =
    let at = λ (r : Bits × ℕ) (j : ℕ) (xs : List ℕ).
    standing d (record m { q = r.0 }) (record p { j = j; x = r.1; g = xs }) L13 c in
    let beyond =
    λ (r : Bits × ℕ) (xs : List ℕ). standing d (record m { q = r.0 }) (record p { j = 1; x = r.1; g = xs }) L17 c in
    let rest : Bits × ℕ → ℕ → Bits × ℕ = λ r j. (with_bit r.0 me j (bit m.p j me), bit m.p j me) in
    fill (algorithm n w) me 4 n at beyond (bits_for m.p me) 0
    (λ r j xs pos lt long. (rest r j, rw (lt_true j n lt) refl))
    (λ r j xs pos is long. (rest r j, rw (lt_false j n (omega arith)) refl)) (m.q, p.x) p.j p.g first some size

-- the first collect: the copies are filled with the words
copies_first : (n w me : ℕ) (d : Mode) (m : Registers) (p : Variables) (c : ℕ) → 1 ≤ w → p.k ≡ 1 → w ≤ length p.a →
    Collected (algorithm n w) me 2 w (λ k xs. standing d m (record p { k = k; a = xs }) L17 c)
    (λ xs. standing d m (record p { k = 1; a = xs }) L19 c) (word_at m.words) no_word p.a p.k
copies_first n w me d m p c some first size =
    collect (algorithm n w) me 2 w (λ k xs. standing d m (record p { k = k; a = xs }) L17 c)
    (λ xs. standing d m (record p { k = 1; a = xs }) L19 c) (word_at m.words) no_word
    (λ k xs lt. rw (lt_true k w lt) refl) (λ k xs is. rw (lt_false k w (omega arith)) refl) p.k p.a first some size

-- the second collect
copies_second : (n w me : ℕ) (d : Mode) (m : Registers) (p : Variables) (c : ℕ) → 1 ≤ w → p.k ≡ 1 → w ≤ length p.b →
    Collected (algorithm n w) me 2 w (λ k xs. standing d m (record p { k = k; b = xs }) L19 c)
    (λ xs. standing d m (record p { k = 1; b = xs }) L21 c) (word_at m.words) no_word p.b p.k
copies_second n w me d m p c some first size =
    collect (algorithm n w) me 2 w (λ k xs. standing d m (record p { k = k; b = xs }) L19 c)
    (λ xs. standing d m (record p { k = 1; b = xs }) L21 c) (word_at m.words) no_word
    (λ k xs lt. rw (lt_true k w lt) refl) (λ k xs is. rw (lt_false k w (omega arith)) refl) p.k p.b first some size

-- the bits of all processes are read late
late_bits : (n w me : ℕ) (d : Mode) (m : Registers) (p : Variables) (c : ℕ) → 1 ≤ n → p.j ≡ 1 → n ≤ length p.h →
    (x : ℕ) × (h : List ℕ)
    × (walk (algorithm n w) me (3 * n) (standing d m p L21 c) ≡ standing d m (record p { j = 1; x = x; h = h }) L24 c)
    × (length h ≡ length p.h) × Filled (bits_for m.p me) 0 (n + 1) h
late_bits n w me d m p c some first size =
    let at = λ (r j : ℕ) (xs : List ℕ). standing d m (record p { j = j; x = r; h = xs }) L21 c in
    let beyond = λ (r : ℕ) (xs : List ℕ). standing d m (record p { j = 1; x = r; h = xs }) L24 c in
    fill (algorithm n w) me 3 n at beyond (bits_for m.p me) 0
    (λ r j xs pos lt long. (bit m.p j me, rw (lt_true j n lt) refl))
    (λ r j xs pos is long. (bit m.p j me, rw (lt_false j n (omega arith)) refl)) p.x p.j p.h first some size

-- the copies of the words after word k are found to be the same
rest_from : (n w me : ℕ) (d : Mode) (m : Registers) (s : ℕ) (p : Variables) (c : ℕ) → p.k + s ≡ w →
    ((k : ℕ) → p.k < k → k ≤ w → same_at p.a p.b k ≡ true) →
    walk (algorithm n w) me (2 * s + 1) (standing d m p L29 c) ≡ standing d m (record p { k = 1 }) L30 c
rest_from n w me d m zero p c last same = rw (lt_false p.k w (omega arith)) refl
rest_from n w me d m (suc s) p c last same =
    let next : Variables = record p { k = p.k + 1 } in
    let two : walk (algorithm n w) me 2 (standing d m p L29 c) ≡ standing d m next L29 c =
    rw (lt_true p.k w (omega arith), same (p.k + 1) (omega arith) (omega arith)) refl in
    let rest = rest_from n w me d m s next c (omega arith) (λ k lt le. same k (omega arith) le) in
    walks (algorithm n w) me 2 (2 * s + 1) (2 * suc s + 1) (standing d m p L29 c) two rest (omega arith)

-- How the handshake and the first collect leave a process: its bits are those of the others, and
-- its copies those of the words.
pub record Drawn (n w me : ℕ) (d : Mode) (m : Registers) (p : Variables) (c : ℕ) : Type 0 where
  pub q : Bits
  pub x : ℕ
  pub g : List ℕ
  pub a : Words
  pub walked : walk (algorithm n w) me (4 * n + 2 * w) (standing d m p L13 c)
      ≡ standing d (record m { q = q }) (record p { j = 1; k = 1; x = x; g = g; a = a }) L19 c
  pub size_g : length g ≡ length p.g
  pub size_a : length a ≡ length p.a
  pub bits : Filled (bits_for m.p me) 0 (n + 1) g
  pub copies : Filled (word_at m.words) no_word (w + 1) a

pub first_collect : (n w me : ℕ) (d : Mode) (m : Registers) (p : Variables) (c : ℕ) → 1 ≤ n → 1 ≤ w → p.j ≡ 1 →
    p.k ≡ 1 → Sized n w p → Drawn n w me d m p c
first_collect n w me d m p c some words first_j first_k sized =
    let early = handshake n w me d m p c some first_j sized.g in
    let r = early.0 in
    let m1 : Registers = record m { q = r.0 } in
    let p1 : Variables = record p { j = 1; x = r.1; g = early.1 } in
    let copies = copies_first n w me d m1 p1 c words first_k sized.a in
    record {
      q = r.0;
      x = r.1;
      g = early.1;
      a = copies.0;
      walked =
          walks (algorithm n w) me (4 * n) (2 * w) (4 * n + 2 * w) (standing d m p L13 c) early.2 copies.1 (omega arith);
      size_g = early.3;
      size_a = copies.2;
      bits = early.4;
      copies = copies.3;
    }

-- 1 where two bits differ
abbrev pub symbol_of : ℕ → ℕ → ℕ
symbol_of x y = if not (nat_eq x y) then 1 else 0

-- How the second collect and the late handshake leave it: a process whose bit differs is marked.
pub record Compared (n w me : ℕ) (d : Mode) (m : Registers) (p : Variables) (c : ℕ) : Type 0 where
  pub x : ℕ
  pub h : List ℕ
  pub b : Words
  pub marks : List ℕ
  pub walked : walk (algorithm n w) me (3 * n + 2 * w + 2) (standing d m p L19 c)
      ≡ standing d m (record p { j = 1; k = 1; x = x; h = h; b = b; d = marks }) L26 c
  pub size_h : length h ≡ length p.h
  pub size_b : length b ≡ length p.b
  pub size_marks : n ≤ length marks
  pub copies : Filled (word_at m.words) no_word (w + 1) b
  pub marked_if : (e : ℕ) → IsOneOf n e → place marks e ≡ symbol_of (bit m.p e me) (place p.g e)

pub second_collect : (n w me : ℕ) (d : Mode) (m : Registers) (p : Variables) (c : ℕ) → 1 ≤ n → 1 ≤ w → p.j ≡ 1 →
    p.k ≡ 1 → Sized n w p → Compared n w me d m p c
second_collect n w me d m p c some words first_j first_k sized =
    let copies = copies_second n w me d m p c words first_k sized.b in
    let p1 : Variables = record p { k = 1; b = copies.0 } in
    let late = late_bits n w me d m p1 c some first_j sized.h in
    let zeros = for_each n (λ e. 0) p.d in
    let p2 : Variables = record p1 { j = 1; x = late.0; h = late.1 } in
    let p3 : Variables = record p2 { d = zeros } in
    let marks = for_each n (marked p3) zeros in
    let p4 : Variables = record p2 { d = marks } in
    let start = standing d m p L19 c in
    let two : walk (algorithm n w) me 2 (standing d m p2 L24 c) ≡ standing d m p4 L26 c = refl in
    let both = walks (algorithm n w) me (2 * w) (3 * n) (3 * n + 2 * w) start copies.1 late.2 (omega arith) in
    record {
      x = late.0;
      h = late.1;
      b = copies.0;
      marks = marks;
      walked = walks (algorithm n w) me (3 * n + 2 * w) 2 (3 * n + 2 * w + 2) start both two refl;
      size_h = late.3;
      size_b = copies.2;
      size_marks =
          omega (
            arith,
            length-append (map (marked p3) (places_to n)) (drop n zeros),
            length-map-range_with_len (marked p3) 1 n,
          );
      copies = copies.3;
      marked_if = λ e one.
          for_each_at n (marked p3) zeros e one
          ∙ ap (λ y. if not (nat_eq y (place p.g e)) then 1 else place zeros e) (late.4 e (omega arith) (omega arith))
          ∙ ap (λ y. if not (nat_eq (bit m.p e me) (place p.g e)) then 1 else y) (for_each_at n (λ u. 0) p.d e one);
    }

-- a bit that has not changed marks nobody, and a word is the same as itself
unmarked : (x y : ℕ) → x ≡ y → symbol_of x y ≡ 0
unmarked x y e = ap {B = ℕ} (λ b. if not b then 1 else 0) (ap (nat_eq x) (sym e) ∙ same_number x)

pub same_itself : (x : Word) → same_words x x ≡ true
same_itself x = ap (λ b. b && nat_eq x.toggle x.toggle) (same_number x.id) ∙ same_number x.toggle

-- how the copies of word k compare, by the words that they are of
copies_of : (w k : ℕ) (m m' : Words) (a b : Words) → IsOneOf w k → Filled (word_at m) no_word (w + 1) a →
    Filled (word_at m') no_word (w + 1) b → same_at a b k ≡ same_words (word_at m k) (word_at m' k)
copies_of w k m m' a b one filled_a filled_b =
    cc (filled_a k (omega arith) (omega arith), filled_b k (omega arith) (omega arith))

-- a double collect alone passes its test, and its view is made
pub clean : (n w me : ℕ) (d : Mode) (m : Registers) (p : Variables) (c : ℕ) → 1 ≤ n → 1 ≤ w →
    p.j ≡ 1 → p.k ≡ 1 → Sized n w p →
    (q : Bits) × (v : Variables) × (walk (algorithm n w) me (7 * n + 6 * w + 4) (standing d m p L13 c) ≡ standing d
    (record m { q = q }) v L35 (suc c))
    × (v.tog ≡ p.tog) × Sized n w v
clean n w me d m p c some words first_j first_k sized =
    let one = first_collect n w me d m p c some words first_j first_k sized in
    let m1 : Registers = record m { q = one.q } in
    let p1 : Variables = record p { j = 1; k = 1; x = one.x; g = one.g; a = one.a } in
    let sized1 : Sized n w p1 = omega (arith, sized, one.size_a, one.size_g) in
    let two = second_collect n w me d m1 p1 c some words refl refl sized1 in
    let p2 : Variables = record p1 { x = two.x; h = two.h; b = two.b; d = two.marks } in
    let v : Variables = record p2 { s = map (λ (r : Word). r.datum) (take w (map plain two.b)) } in
    let same : (k : ℕ) → 0 < k → k ≤ w → same_at one.a two.b k ≡ true =
    λ k pos le. copies_of w k m.words m.words one.a two.b (pos, le) one.copies two.copies
    ∙ same_itself (word_at m.words k) in
    let still : (e : ℕ) → IsOneOf n e → nat_eq (place two.marks e) 0 ≡ true =
    λ e at. ap (λ y. nat_eq y 0)
    (two.marked_if e at ∙ unmarked (bit m.p e me) (place one.g e) (sym (one.bits e (omega arith) (omega arith)))) in
    let test : walk (algorithm n w) me 1 (standing d m1 p2 L26 c) ≡ standing d m1 p2 L29 c =
    rw (same 1 (omega arith) words) refl in
    let rest = rest_from n w me d m1 (w - 1) p2 c (omega arith) (λ k lt le. same k (omega arith) le) in
    let end : walk (algorithm n w) me 2 (standing d m1 p2 L30 c) ≡ standing d m1 v L35 (suc c) = rw
    (all_hold (λ e. nat_eq (place two.marks e) 0) n still) refl in
    let start = standing d m p L13 c in
    let half = walks (algorithm n w) me (4 * n + 2 * w) (3 * n + 2 * w + 2) (7 * n + 4 * w + 2) start one.walked
    two.walked (omega arith) in
    let words_same =
    walks (algorithm n w) me 1 (2 * (w - 1) + 1) (2 * w) (standing d m1 p2 L26 c) test rest (omega arith) in
    let all = walks (algorithm n w) me (7 * n + 4 * w + 2) (2 * w) (7 * n + 6 * w + 2) start half words_same
    (omega arith) in (
      one.q,
      v,
      walks (algorithm n w) me (7 * n + 6 * w + 2) 2 (7 * n + 6 * w + 4) start all end (omega arith),
      refl,
      omega (arith, sized1, two.size_b, two.size_h),
    )

-- a second collect after an update of word 1 by process i: the test fails, and one move of that process is counted
pub fails : (n w i : ℕ) (m m' : Registers) (p : Variables) (c : ℕ) → 1 ≤ n → 1 ≤ w → p.j ≡ 1 → p.k ≡ 1 → Sized n w p →
    Filled (word_at m.words) no_word (w + 1) p.a → Filled (bits_for m.p 1) 0 (n + 1) p.g → IsOneOf n i →
    (word_at m'.words 1).id ≡ i → same_words (word_at m.words 1) (word_at m'.words 1) ≡ false →
    ((k : ℕ) → 1 < k → k ≤ w → word_at m'.words k ≡ word_at m.words k) →
    ((e : ℕ) → IsOneOf n e → e ≢ i → bit m'.p e 1 ≡ bit m.p e 1) →
    ((e : ℕ) → IsOneOf n e → place p.moved e < limit) → place p.moved i + 1 < limit → (v : Variables)
    × (walk (algorithm n w) 1 (3 * n + 4 * w + 8) (standing Scanning m' p L19 c) ≡ standing Scanning m' v L13 (suc c))
    × (v.j ≡ 1) × (v.k ≡ 1) × Sized n w v × Moved n i limit p.moved v.moved
fails n w i m m' p c some words first_j first_k sized copies bits one id changed same put few_all few =
    let two = second_collect n w 1 Scanning m' p c some words first_j first_k sized in
    let p1 : Variables = record p { j = 1; k = 1; x = two.x; h = two.h; b = two.b; d = two.marks } in
    let mover : (word_at two.b 1).id ≡ i = ap (λ (x : Word). x.id) (two.copies 1 (omega arith) (omega arith)) ∙ id in
    let x = (word_at two.b 1).id in
    let marks = slice_set two.marks (x - 1) 1 in
    let p2 : Variables = record p1 { x = x; d = marks } in
    let v : Variables = record p2 { moved = for_each n (counted p2) p2.moved } in
    let differ : same_at p.a two.b 1 ≡ false =
    copies_of w 1 m.words m'.words p.a two.b (omega arith, words) copies two.copies ∙ changed in
    let alike : (k : ℕ) → 1 < k → k ≤ w → same_at p.a two.b k ≡ true =
    λ k lt le.
    copies_of w k m.words m'.words p.a two.b (omega arith, le) copies two.copies
    ∙ ap (same_words (word_at m.words k)) (same k lt le)
    ∙ same_itself (word_at m.words k) in
    let long : n ≤ length two.marks = two.size_marks in
    let mark_i : place marks i ≡ 1 = get_or-set_at two.marks (x - 1) (i - 1) 1 0 (omega arith) (omega arith) in
    let mark_other : (e : ℕ) → IsOneOf n e → e ≢ i → place marks e ≡ 0 =
    λ e at other.
    get_or-set_other two.marks (x - 1) (e - 1) 1 0 (λ is. other (omega arith))
    ∙ two.marked_if e at
    ∙ unmarked (bit m'.p e 1) (place p.g e) (put e at other ∙ sym (bits e (omega arith) (omega arith))) in
    let moves = one_moves n i limit (λ e. nat_eq (place marks e) 1) p.moved one (ap (λ y. nat_eq y 1) mark_i)
    (λ e at other. ap (λ y. nat_eq y 1) (mark_other e at other)) few_all few in
    let fails_i : nat_eq (place marks i) 0 ≡ false = ap (λ y. nat_eq y 0) mark_i in
    let test : walk (algorithm n w) 1 3 (standing Scanning m' p1 L26 c) ≡ standing Scanning m' p2 L29 c =
    rw differ refl in
    let rest = rest_from n w 1 Scanning m' (w - 1) p2 c (omega arith) (λ k lt le. alike k lt le) in
    let back : walk (algorithm n w) 1 4 (standing Scanning m' p2 L30 c) ≡ standing Scanning m' v L13 (suc c) =
    rw (one_fails (λ e. nat_eq (place marks e) 0) n i one fails_i, moves.stays) refl in
    let start = standing Scanning m' p L19 c in
    let half = walks (algorithm n w) 1 (3 * n + 2 * w + 2) 3 (3 * n + 2 * w + 5) start two.walked test (omega arith) in
    let all = walks (algorithm n w) 1 (3 * n + 2 * w + 5) (2 * (w - 1) + 1) (3 * n + 4 * w + 4) start half rest
    (omega arith) in (
      v,
      walks (algorithm n w) 1 (3 * n + 4 * w + 4) 4 (3 * n + 4 * w + 8) start all back (omega arith),
      refl,
      refl,
      omega (arith, sized, two.size_b, two.size_h),
      moves,
    )

-- an update answers the bits of the processes from j on
answers_from : (n w me : ℕ) (d : Mode) (s : ℕ) (m : Registers) (p : Variables) (c : ℕ) →
    p.j + s ≡ n → 0 < p.j → 0 < me → (m' : Registers) × (x : ℕ)
    × (walk (algorithm n w) me (3 * suc s) (standing d m p L51 c) ≡ standing d m' (record p { j = 1; x = x }) L54 c)
    × (m'.words ≡ m.words) × ((e k : ℕ) → 0 < e → e ≢ me → bit m'.p e k ≡ bit m.p e k)
answers_from n w me d zero m p c last pos mine =
    let x = bit m.q p.j me in
    let p1 : Variables = record p { x = x } in (
      after_52 me m p1,
      x,
      rw (lt_false p.j n (omega arith)) refl,
      refl,
      λ e k at other.
          ap (λ (row : List ℕ). slice_index row (k - 1)) (row_elsewhere m.p me p.j (flip x) e mine at other),
    )
answers_from n w me d (suc s) m p c last pos mine =
    let x = bit m.q p.j me in
    let m1 = after_52 me m (record p { x = x }) in
    let next : Variables = record p { j = p.j + 1; x = x } in
    let rest = answers_from n w me d s m1 next c (omega arith) (omega arith) mine in
    let three : walk (algorithm n w) me 3 (standing d m p L51 c) ≡ standing d m1 next L51 c =
    rw (lt_true p.j n (omega arith)) refl in (
      rest.0,
      rest.1,
      walks (algorithm n w) me 3 (3 * suc s) (3 * suc (suc s)) (standing d m p L51 c) three rest.2 (omega arith),
      rest.3,
      λ e k at other. rest.4 e k at other
          ∙ ap (λ (row : List ℕ). slice_index row (k - 1)) (row_elsewhere m.p me p.j (flip x) e mine at other),
    )

-- How a whole update alone leaves the memory and its process: its word has the process's number and the other toggle,
-- and no bit of another process has changed.
pub record Updated (n w me word value : ℕ) (m : Registers) (p : Variables) (c : ℕ) : Type 0 where
  pub memory : Registers
  pub variables : Variables
  pub walked : walk (algorithm n w) me (10 * n + 6 * w + 14) (standing (Updating word value) m p L50 c)
      ≡ idling memory variables 1
  pub put : Word
  pub words_are : memory.words ≡ slice_set m.words (word - 1) put
  pub id : put.id ≡ me
  pub toggle : put.toggle ≡ flip (place p.tog word)
  pub tog : place variables.tog word ≡ flip (place p.tog word)
  pub sized : Sized n w variables
  pub bits : (e k : ℕ) → 0 < e → e ≢ me → bit memory.p e k ≡ bit m.p e k

pub whole_update : (n w me word value : ℕ) (m : Registers) (p : Variables) (c : ℕ) → 1 ≤ n → 1 ≤ w → 0 < me →
    IsOneOf w word → Sized n w p → Updated n w me word value m p c
whole_update n w me word value m p c some words mine of_word sized =
    let d : Mode = Embedded word value in
    let u : Mode = Updating word value in
    let p0 : Variables = record p { j = 1 } in
    let answers = answers_from n w me u (n - 1) m p0 c (omega arith) (omega arith) mine in
    let m1 = answers.0 in
    let p1 : Variables = record p0 { x = answers.1 } in
    let p2 : Variables = record p1 { moved = for_each n (λ e. 0) p1.moved; j = 1; k = 1 } in
    let view = clean n w me d m1 p2 0 some words refl refl (omega (arith, sized)) in
    let m2 : Registers = record m1 { q = view.0 } in
    let v = view.1 in
    let toggles = slice_set v.tog (word - 1) (flip (place v.tog word)) in
    let v2 : Variables = record v { tog = toggles } in
    let m3 = after_55 me m2 v in
    let x = written me u m3 v2 in
    let start = standing u m p L50 c in
    let enters : walk (algorithm n w) me 1 start ≡ standing u m p0 L51 c = refl in
    let begins : walk (algorithm n w) me 4 (standing u m1 p1 L54 c) ≡ standing d m1 p2 L13 0 = refl in
    let ends : walk (algorithm n w) me 5 (standing d m2 v L35 1) ≡ idling (after_57 me u m3 v2) v2 1 = refl in
    let shaken = walks (algorithm n w) me 1 (3 * suc (n - 1)) (3 * n + 1) start enters answers.2 (omega arith) in
    let called = walks (algorithm n w) me (3 * n + 1) 4 (3 * n + 5) start shaken begins (omega arith) in
    let scanned =
    walks (algorithm n w) me (3 * n + 5) (7 * n + 6 * w + 4) (10 * n + 6 * w + 9) start called view.2 (omega arith) in
    let same_tog : place v.tog word ≡ place p.tog word = ap (λ row. place row word) view.3 in
    let flipped : place toggles word ≡ flip (place p.tog word) =
    set_here v.tog word (flip (place v.tog word)) of_word.0 (omega (arith, view.4.tog)) ∙ ap flip same_tog in
    record {
      memory = after_57 me u m3 v2;
      variables = v2;
      walked = walks (algorithm n w) me (10 * n + 6 * w + 9) 5 (10 * n + 6 * w + 14) start scanned ends (omega arith);
      put = x;
      words_are = ap (λ (ws : Words). slice_set ws (word - 1) x) answers.3;
      id = refl;
      toggle = flipped;
      tog = flipped;
      sized = omega (arith, view.4, length-set v.tog (word - 1) (flip (place v.tog word)));
      bits = answers.4;
    }
