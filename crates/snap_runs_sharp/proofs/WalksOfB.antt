-- Processes of B that step alone: the handshakes and the collects of a scan, its tests, and a whole update.
use Rattle.std.proofs.Common.{◌≡◌, ◌≢◌, ℕ, zero, suc, ◌+◌, ◌*◌, ◌-◌, ◌<◌, ◌≤◌, Bool, true, false, not, ◌&&◌, List}
use Rattle.std.proofs.Common.{length, map, take, nat_eq, slice_set, refl, ◌∙◌, ap, arith}
use Rattle.std.proofs.Math.Bool.{and-false}
use Rattle.std.proofs.lemmas.Grind.{get_or-set_at}
use Rattle.std.proofs.lemmas.List.{length-set}
use Rattle.snap_runs.proofs.Common.{IsOneOf, Word, no_word}
use Rattle.snap_semantics.specs.Table.{with_bit_at}
use Rattle.snap_runs.proofs.Algorithm.{Mode, Scanning, Embedded, Updating}
use Rattle.snap_runs.proofs.Computing.{lt_true, lt_false, other_number, same_number}
use Rattle.snap_runs.proofs.Held.{word_at, seq_at}
use Rattle.snap_runs.proofs.Places.{for_each}
use Rattle.snap_runs_of_b.proofs.Algorithm.{Words, Registers, Variables, ProgramCounter, L12, L16, L18, L20, L26, L40}
use Rattle.snap_runs_of_b.proofs.Algorithm.{L41, L44, place, handshake_at, bit_for, answer, flipped, agree, moved_at}
use Rattle.snap_runs_of_b.proofs.Algorithm.{limit, counted, word_put, algorithm}
use Rattle.snap_runs_sharp.proofs.Alone.{Seat, Alone, placed, standing, idling, walk, walks}
use Rattle.snap_runs_sharp.proofs.Filling.{Filled, all_hold, one_fails, Moved, one_moves}
use Rattle.snap_runs_sharp.proofs.Loops.{fill, Collected, collect}

abbrev pub Standing : Type 0
Standing = Alone Variables ProgramCounter Registers

-- the copies and the bits of a process are long enough
pub record Sized (n : ℕ) (p : Variables) : Type 0 where
  pub a : n ≤ length p.a
  pub b : n ≤ length p.b
  pub g : n ≤ length p.g

-- what the words say to a process
abbrev pub handshakes : Words → ℕ → ℕ → ℕ
handshakes ws me k = handshake_at (word_at ws k) me

-- what the handshake changes besides the bits that it draws, where the copies are so many
record Shaken (size : ℕ) : Type 0 where
  q : List (List ℕ)
  a : Words
  marks : List ℕ
  size_a : length a ≡ size

-- the copy and the bit of process j, and what else the handshake with it changes
abbrev copied : {size : ℕ} → Registers → Shaken size → ℕ → Words
copied m r j = slice_set r.a (j - 1) (word_at m.words j)

abbrev drawn : {size : ℕ} → ℕ → Registers → Shaken size → ℕ → List ℕ → List ℕ
drawn me m r j g = slice_set g (j - 1) (handshake_at (word_at (copied m r j) j) me)

shaken : {size : ℕ} → ℕ → Registers → Shaken size → ℕ → List ℕ → Shaken size
shaken me m r j g = record {
  q = with_bit_at r.q (me - 1) (j - 1) (place (drawn me m r j g) j);
  a = copied m r j;
  marks = slice_set r.marks (j - 1) (seq_at m.words j);
  size_a = length-set r.a (j - 1) (word_at m.words j) ∙ r.size_a;
}

-- the bit is what the word says
drawn_is : (size me : ℕ) (m : Registers) (r : Shaken size) (j : ℕ) (g : List ℕ) → 0 < j → j ≤ size →
    drawn me m r j g ≡ slice_set g (j - 1) (handshakes m.words me j)
drawn_is size me m r j g pos le =
    ap (λ (x : Word). slice_set g (j - 1) (handshake_at x me))
    (get_or-set_at r.a (j - 1) (j - 1) (word_at m.words j) no_word refl (omega (arith, r.size_a)))

-- a process that shakes hands with process j
abbrev shaking : {size : ℕ} → Mode → Registers → Variables → ℕ → Shaken size → ℕ → List ℕ → Standing
shaking d m p c r j g = standing d (record m { q = r.q }) (record p { j = j; a = r.a; g = g; marks = r.marks }) L12 c

abbrev shook : {size : ℕ} → Mode → Registers → Variables → ℕ → Shaken size → List ℕ → Standing
shook d m p c r g = standing d (record m { q = r.q }) (record p { j = 1; a = r.a; g = g; marks = r.marks }) L16 c

-- the handshake with all processes: the bits that their words say are drawn, and put
handshake : (n me : ℕ) (d : Mode) (m : Registers) (p : Variables) (c : ℕ) → 1 ≤ n → p.j ≡ 1 → Sized n p →
    (r : Shaken (length p.a)) × (g : List ℕ)
    × (walk (algorithm n) me (4 * n) (standing d m p L12 c) ≡ shook d m p c r g)
    × (length g ≡ length p.g) × Filled (handshakes m.words me) 0 (n + 1) g
unfolding shaken
handshake n me d m p c some first sized =
    let size = length p.a in
    let start : Shaken size = record { q = m.q; a = p.a; marks = p.marks; size_a = refl } in
    let at = λ (r : Shaken size) (j : ℕ) (g : List ℕ). shaking d m p c r j g in
    let beyond = λ (r : Shaken size) (g : List ℕ). shook d m p c r g in
    let is_drawn : (r : Shaken size) (j : ℕ) (g : List ℕ) → 0 < j → j ≤ n →
    drawn me m r j g ≡ slice_set g (j - 1) (handshakes m.words me j) =
    λ r j g pos le. drawn_is size me m r j g pos (omega arith) in
    fill (algorithm n) me 4 n at beyond (handshakes m.words me) 0
    (λ r j g pos lt long. (shaken me m r j g, rw (← is_drawn r j g pos (omega arith), lt_true j n lt) refl))
    (λ r j g pos is long. (shaken me m r j g, rw (← is_drawn r j g pos (omega arith), lt_false j n (omega arith)) refl))
    start p.j p.g first some sized.g

-- the first collect: the copies are filled with the words
copies_first : (n me : ℕ) (d : Mode) (m : Registers) (p : Variables) (c : ℕ) → 1 ≤ n → p.j ≡ 1 → n ≤ length p.a →
    Collected (algorithm n) me 2 n (λ j xs. standing d m (record p { j = j; a = xs }) L16 c)
    (λ xs. standing d m (record p { j = 1; a = xs }) L18 c) (word_at m.words) no_word p.a p.j
copies_first n me d m p c some first size =
    collect (algorithm n) me 2 n (λ j xs. standing d m (record p { j = j; a = xs }) L16 c)
    (λ xs. standing d m (record p { j = 1; a = xs }) L18 c) (word_at m.words) no_word
    (λ j xs lt. rw (lt_true j n lt) refl) (λ j xs is. rw (lt_false j n (omega arith)) refl) p.j p.a first some size

-- the second collect
pub second_collect : (n me : ℕ) (d : Mode) (m : Registers) (p : Variables) (c : ℕ) → 1 ≤ n → p.j ≡ 1 → Sized n p →
    Collected (algorithm n) me 2 n (λ j xs. standing d m (record p { j = j; b = xs }) L18 c)
    (λ xs. standing d m (record p { j = 1; b = xs }) L20 c) (word_at m.words) no_word p.b p.j
second_collect n me d m p c some first sized =
    collect (algorithm n) me 2 n (λ j xs. standing d m (record p { j = j; b = xs }) L18 c)
    (λ xs. standing d m (record p { j = 1; b = xs }) L20 c) (word_at m.words) no_word
    (λ j xs lt. rw (lt_true j n lt) refl) (λ j xs is. rw (lt_false j n (omega arith)) refl) p.j p.b first some sized.b

-- how the handshake and the first collect leave a process: its copies and its bits are those of the words
pub record Drawn (n me : ℕ) (d : Mode) (m : Registers) (p : Variables) (c : ℕ) : Type 0 where
  pub q : List (List ℕ)
  pub a : Words
  pub g : List ℕ
  pub marks : List ℕ
  pub walked : walk (algorithm n) me (6 * n) (standing d m p L12 c)
      ≡ standing d (record m { q = q }) (record p { j = 1; a = a; g = g; marks = marks }) L18 c
  pub size_a : length a ≡ length p.a
  pub size_g : length g ≡ length p.g
  pub copies : Filled (word_at m.words) no_word (n + 1) a
  pub bits : Filled (handshakes m.words me) 0 (n + 1) g

pub first_collect : (n me : ℕ) (d : Mode) (m : Registers) (p : Variables) (c : ℕ) → 1 ≤ n → p.j ≡ 1 → Sized n p →
    Drawn n me d m p c
first_collect n me d m p c some first sized =
    let bits = handshake n me d m p c some first sized in
    let r = bits.0 in
    let m1 : Registers = record m { q = r.q } in
    let p1 : Variables = record p { j = 1; a = r.a; g = bits.1; marks = r.marks } in
    let copies = copies_first n me d m1 p1 c some refl (omega (arith, sized, r.size_a)) in
    record {
      q = r.q;
      a = copies.0;
      g = bits.1;
      marks = r.marks;
      walked = walks (algorithm n) me (4 * n) (2 * n) (6 * n) (standing d m p L12 c) bits.2 copies.1 (omega arith);
      size_a = copies.2 ∙ r.size_a;
      size_g = bits.3;
      copies = copies.3;
      bits = bits.4;
    }

-- what line 20 asks of copies x and y and of a bit
abbrev pub alike : ℕ → Word → Word → ℕ → Bool
alike me x y bit = nat_eq (handshake_at x me) bit && (nat_eq (handshake_at y me) bit && nat_eq x.toggle y.toggle)

alike_same : (me : ℕ) (x : Word) → alike me x x (handshake_at x me) ≡ true
alike_same me x = rw (same_number (handshake_at x me), same_number x.toggle) refl

-- words whose toggles differ are not alike
alike_not : (me : ℕ) (x y : Word) (bit : ℕ) → x.toggle ≢ y.toggle → alike me x y bit ≡ false
alike_not me x y bit differ = rw (other_number x.toggle y.toggle differ, and-false, and-false) refl

-- how the copies and the bit of word k compare, by the words that they are of
compares : (n me k : ℕ) (m m' : Words) (p : Variables) → IsOneOf n k → Filled (word_at m) no_word (n + 1) p.a →
    Filled (word_at m') no_word (n + 1) p.b →
    Filled (handshakes m me) 0 (n + 1) p.g → agree me p k ≡ alike me (word_at m k) (word_at m' k) (handshakes m me k)
compares n me k m m' p one a b g =
    cc (a k (omega arith) (omega arith), b k (omega arith) (omega arith), g k (omega arith) (omega arith))

-- a double collect alone passes its test, and its view is made
pub clean : (n me : ℕ) (d : Mode) (m : Registers) (p : Variables) (c : ℕ) → 1 ≤ n → p.j ≡ 1 → Sized n p →
    (q : List (List ℕ)) × (v : Variables) × (walk (algorithm n) me (8 * n + 2) (standing d m p L12 c) ≡ standing d
    (record m { q = q }) v L26 (suc c)) × (v.t ≡ p.t)
clean n me d m p c some first sized =
    let one = first_collect n me d m p c some first sized in
    let m1 : Registers = record m { q = one.q } in
    let p1 : Variables = record p { j = 1; a = one.a; g = one.g; marks = one.marks } in
    let two = second_collect n me d m1 p1 c some refl (omega (arith, sized, one.size_a, one.size_g)) in
    let p2 : Variables = record p1 { b = two.0 } in
    let v : Variables = record p2 { s = map (λ (r : Word). r.datum) (take n two.0) } in
    let passes = all_hold (agree me p2) n (λ k at. compares n me k m.words m.words p2 at one.copies two.3 one.bits
    ∙ alike_same me (word_at m.words k)) in
    let test : walk (algorithm n) me 2 (standing d m1 p2 L20 c) ≡ standing d m1 v L26 (suc c) = rw passes refl in
    let start = standing d m p L12 c in
    let both = walks (algorithm n) me (6 * n) (2 * n) (8 * n) start one.walked two.1 (omega arith) in
    (one.q, v, walks (algorithm n) me (8 * n) 2 (8 * n + 2) start both test refl, refl)

-- an update answers the bits of the processes from j on
answers_from : (n me : ℕ) (d : Mode) (m : Registers) (s : ℕ) (p : Variables) (c : ℕ) → p.j + s ≡ n → 0 < p.j →
    (x : ℕ) × (f : List ℕ)
    × (walk (algorithm n) me (3 * suc s) (standing d m p L41 c) ≡ standing d m (record p { j = 1; x = x; f = f }) L44 c)
answers_from n me d m zero p c last pos =
    let x = bit_for m.q p.j me in
    (x, slice_set p.f (p.j - 1) (answer x), rw (lt_false p.j n (omega arith)) refl)
answers_from n me d m (suc s) p c last pos =
    let x = bit_for m.q p.j me in
    let next : Variables = record p { j = p.j + 1; x = x; f = slice_set p.f (p.j - 1) (answer x) } in
    let rest = answers_from n me d m s next c (omega arith) (omega arith) in
    let three : walk (algorithm n) me 3 (standing d m p L41 c) ≡ standing d m next L41 c =
    rw (lt_true p.j n (omega arith)) refl in (
      rest.0,
      rest.1,
      walks (algorithm n) me 3 (3 * suc s) (3 * suc (suc s)) (standing d m p L41 c) three rest.2 (omega arith),
    )

-- a whole update alone writes a word with the other toggle
pub whole_update : (n me word value : ℕ) (m : Registers) (p : Variables) (c : ℕ) → 1 ≤ n → Sized n p →
    (x : Word) × (q : List (List ℕ)) × (z : Seat Variables ProgramCounter)
    × (walk (algorithm n) me (11 * n + 10) (standing (Updating word value) m p L40 c)
    ≡ placed (record { words = slice_set m.words (me - 1) x; q = q }) z)
    × (x.toggle ≡ flipped p.t)
whole_update n me word value m p c some sized =
    let d : Mode = Embedded word value in
    let u : Mode = Updating word value in
    let p0 : Variables = record p { j = 1 } in
    let answers = answers_from n me u m (n - 1) p0 c (omega arith) (omega arith) in
    let p1 : Variables = record p0 { x = answers.0; f = answers.1 } in
    let p2 : Variables = record p1 { moved = for_each n (λ k. 0) p1.moved; j = 1 } in
    let view = clean n me d m p2 0 some refl (omega (arith, sized)) in
    let m1 : Registers = record m { q = view.0 } in
    let p3 : Variables = record view.1 { t = flipped view.1.t } in
    let x = word_put n me u m1 p3 in
    let done : Standing = idling (record { words = slice_set m.words (me - 1) x; q = view.0 }) p3 1 in
    let start = standing u m p L40 c in
    let enters : walk (algorithm n) me 1 start ≡ standing u m p0 L41 c = refl in
    let begins : walk (algorithm n) me 3 (standing u m p1 L44 c) ≡ standing d m p2 L12 0 = refl in
    let ends : walk (algorithm n) me 4 (standing d m1 view.1 L26 1) ≡ done = refl in
    let shaken = walks (algorithm n) me 1 (3 * suc (n - 1)) (3 * n + 1) start enters answers.2 (omega arith) in
    let called = walks (algorithm n) me (3 * n + 1) 3 (3 * n + 4) start shaken begins (omega arith) in
    let scanned = walks (algorithm n) me (3 * n + 4) (8 * n + 2) (11 * n + 6) start called view.2 (omega arith) in (
      x,
      view.0,
      done.seat,
      walks (algorithm n) me (11 * n + 6) 4 (11 * n + 10) start scanned ends (omega arith),
      ap flipped view.3,
    )

-- a second collect of words of which one has another toggle: its test fails, and one move is counted
pub fails : (n i : ℕ) (m : Words) (m' : Registers) (p : Variables) (c : ℕ) → 1 ≤ n → p.j ≡ 1 → Sized n p →
    Filled (word_at m) no_word (n + 1) p.a →
    Filled (handshakes m 1) 0 (n + 1) p.g → IsOneOf n i → (word_at m i).toggle ≢ (word_at m'.words i).toggle →
    ((k : ℕ) → IsOneOf n k → k ≢ i → word_at m'.words k ≡ word_at m k) →
    ((k : ℕ) → IsOneOf n k → moved_at p k < limit) → moved_at p i ≡ 0 → (v : Variables)
    × (walk (algorithm n) 1 (2 * n + 4) (standing Scanning m' p L18 c) ≡ standing Scanning m' v L12 (suc c))
    × (v.j ≡ 1) × Sized n v × Moved n i limit p.moved v.moved
fails n i m m' p c some first sized a g one changed same few none =
    let two = second_collect n 1 Scanning m' p c some first sized in
    let p1 : Variables = record p { j = 1; b = two.0 } in
    let v : Variables = record p1 { moved = for_each n (counted 1 p1) p1.moved } in
    let differ : agree 1 p1 i ≡ false = compares n 1 i m m'.words p1 one a two.3 g ∙ alike_not 1 (word_at m i)
    (word_at m'.words i) (handshakes m 1 i) changed in
    let agrees : (k : ℕ) → IsOneOf n k → k ≢ i → agree 1 p1 k ≡ true =
    λ k at other.
    compares n 1 k m m'.words p1 at a two.3 g ∙ ap (λ (x : Word). alike 1 (word_at m k) x (handshakes m 1 k))
    (same k at other) ∙ alike_same 1 (word_at m k) in
    let moves = one_moves n i limit (λ k. not (agree 1 p1 k)) p.moved one (ap not differ)
    (λ k at other. ap not (agrees k at other)) few (omega arith) in
    let test : walk (algorithm n) 1 4 (standing Scanning m' p1 L20 c) ≡ standing Scanning m' v L12 (suc c) =
    rw (one_fails (agree 1 p1) n i one differ, moves.stays) refl in (
      v,
      walks (algorithm n) 1 (2 * n) 4 (2 * n + 4) (standing Scanning m' p L18 c) two.1 test refl,
      refl,
      omega (arith, sized, two.2),
      moves,
    )
