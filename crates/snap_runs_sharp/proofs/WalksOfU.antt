-- Processes of U that step alone: the collects of a scan, its tests, and a whole update.
use Rattle.std.proofs.Common.{◌≡◌, ◌≢◌, ℕ, suc, ◌+◌, ◌*◌, ◌-◌, ◌<◌, ◌≤◌, true, false, not, length, map, take, nat_eq}
use Rattle.std.proofs.Common.{slice_set, refl, ◌∙◌, ap, arith}
use Rattle.snap_runs.proofs.Common.{IsOneOf, Word, no_word}
use Rattle.snap_runs.proofs.Algorithm.{Mode, Scanning, Embedded, Updating, Idle}
use Rattle.snap_runs.proofs.Computing.{lt_true, lt_false, other_number, same_number}
use Rattle.snap_runs.proofs.Held.{word_at, seq_at}
use Rattle.snap_runs.proofs.Places.{for_each}
use Rattle.snap_runs_of_u.proofs.Algorithm.{Words, Variables, ProgramCounter, L12, L14, L16, L22, L30}
use Rattle.snap_runs_of_u.proofs.Algorithm.{agree, limit, moved_at, counted, word_put, algorithm}
use Rattle.snap_runs_sharp.proofs.Alone.{Seat, seated, placed, standing, walk, walks}
use Rattle.snap_runs_sharp.proofs.Filling.{Filled, all_hold, one_fails, Moved, one_moves}
use Rattle.snap_runs_sharp.proofs.Loops.{Collected, collect}

-- the copies of a process are long enough
pub record Sized (n : ℕ) (p : Variables) : Type 0 where
  pub a : n ≤ length p.a
  pub b : n ≤ length p.b

-- the first collect: the copies are filled with the words
pub first_collect : (n me : ℕ) (d : Mode) (m : Words) (p : Variables) (c : ℕ) → 1 ≤ n → p.j ≡ 1 → Sized n p →
    Collected (algorithm n) me 2 n (λ j xs. standing d m (record p { j = j; a = xs }) L12 c)
    (λ xs. standing d m (record p { j = 1; a = xs }) L14 c) (word_at m) no_word p.a p.j
first_collect n me d m p c some first sized =
    collect (algorithm n) me 2 n (λ j xs. standing d m (record p { j = j; a = xs }) L12 c)
    (λ xs. standing d m (record p { j = 1; a = xs }) L14 c) (word_at m) no_word
    (λ j xs lt. rw (lt_true j n lt) refl) (λ j xs is. rw (lt_false j n (omega arith)) refl) p.j p.a first some sized.a

-- the second collect
pub second_collect : (n me : ℕ) (d : Mode) (m : Words) (p : Variables) (c : ℕ) → 1 ≤ n → p.j ≡ 1 → Sized n p →
    Collected (algorithm n) me 2 n (λ j xs. standing d m (record p { j = j; b = xs }) L14 c)
    (λ xs. standing d m (record p { j = 1; b = xs }) L16 c) (word_at m) no_word p.b p.j
second_collect n me d m p c some first sized =
    collect (algorithm n) me 2 n (λ j xs. standing d m (record p { j = j; b = xs }) L14 c)
    (λ xs. standing d m (record p { j = 1; b = xs }) L16 c) (word_at m) no_word
    (λ j xs lt. rw (lt_true j n lt) refl) (λ j xs is. rw (lt_false j n (omega arith)) refl) p.j p.b first some sized.b

-- how the copies of word k compare, by the words that they are of
compares : (n k : ℕ) (m m' : Words) (p : Variables) → IsOneOf n k → Filled (word_at m) no_word (n + 1) p.a →
    Filled (word_at m') no_word (n + 1) p.b → agree p k ≡ nat_eq (seq_at m k) (seq_at m' k)
compares n k m m' p one a b = cc (a k (omega arith) (omega arith), b k (omega arith) (omega arith))

-- a double collect alone passes its test, and its view is made
pub clean : (n me : ℕ) (d : Mode) (m : Words) (p : Variables) (c : ℕ) → 1 ≤ n → p.j ≡ 1 → Sized n p →
    (q : Variables)
    × (walk (algorithm n) me (4 * n + 2) (standing d m p L12 c) ≡ standing d m q L22 (suc c)) × (q.c ≡ p.c)
clean n me d m p c some first sized =
    let one = first_collect n me d m p c some first sized in
    let p1 : Variables = record p { j = 1; a = one.0 } in
    let two = second_collect n me d m p1 c some refl (omega (arith, sized, one.2)) in
    let p2 : Variables = record p1 { b = two.0 } in
    let q : Variables = record p2 { s = map (λ (r : Word). r.datum) (take n two.0) } in
    let test : walk (algorithm n) me 2 (standing d m p2 L16 c) ≡ standing d m q L22 (suc c) =
    rw (all_hold (agree p2) n (λ k at. compares n k m m p2 at one.3 two.3 ∙ same_number (seq_at m k))) refl in
    let start = standing d m p L12 c in
    let both = walks (algorithm n) me (2 * n) (2 * n) (4 * n) start one.1 two.1 (omega arith) in
    (q, walks (algorithm n) me (4 * n) 2 (4 * n + 2) start both test refl, refl)

-- a whole update alone writes a word with the next sequence number
pub whole_update : (n me word value : ℕ) (m : Words) (p : Variables) (c : ℕ) → 1 ≤ n → Sized n p →
    (x : Word) × (q : Seat Variables ProgramCounter)
    × (walk (algorithm n) me (4 * n + 9) (standing (Updating word value) m p L30 c) ≡ placed (slice_set m (me - 1) x) q)
    × (x.seq ≡ p.c + 1)
whole_update n me word value m p c some sized =
    let d : Mode = Embedded word value in
    let u : Mode = Updating word value in
    let p1 : Variables = record p { moved = for_each n (λ k. 0) p.moved; j = 1 } in
    let view = clean n me d m p1 0 some refl (omega (arith, sized)) in
    let p2 : Variables = record view.0 { c = view.0.c + 1 } in
    let x = word_put u p2 in
    let seat : Seat Variables ProgramCounter = seated Idle p2 1 in
    let start = standing u m p L30 c in
    let begins : walk (algorithm n) me 3 start ≡ standing d m p1 L12 0 = refl in
    let ends : walk (algorithm n) me 4 (standing d m view.0 L22 1) ≡ placed (slice_set m (me - 1) x) seat = refl in
    let both = walks (algorithm n) me 3 (4 * n + 2) (4 * n + 5) start begins view.1 (omega arith) in (
      x,
      seat,
      walks (algorithm n) me (4 * n + 5) 4 (4 * n + 9) start both ends (omega arith),
      ap (λ y. y + 1) view.2,
    )

-- a second collect of a memory in which one word has changed: its test fails, and one move is counted
pub fails : (n i : ℕ) (m m' : Words) (p : Variables) (c : ℕ) → 1 ≤ n → p.j ≡ 1 → Sized n p →
    Filled (word_at m) no_word (n + 1) p.a → IsOneOf n i →
    seq_at m i ≢ seq_at m' i → ((k : ℕ) → IsOneOf n k → k ≢ i → word_at m' k ≡ word_at m k) →
    ((k : ℕ) → IsOneOf n k → moved_at p k < limit) → moved_at p i ≡ 0 →
    (q : Variables)
    × (walk (algorithm n) 1 (2 * n + 4) (standing Scanning m' p L14 c) ≡ standing Scanning m' q L12 (suc c))
    × (q.j ≡ 1) × Sized n q × Moved n i limit p.moved q.moved
fails n i m m' p c some first sized a one changed same few none =
    let two = second_collect n 1 Scanning m' p c some first sized in
    let p1 : Variables = record p { j = 1; b = two.0 } in
    let q : Variables = record p1 { moved = for_each n (counted p1) p1.moved } in
    let differ : agree p1 i ≡ false =
    compares n i m m' p1 one a two.3 ∙ other_number (seq_at m i) (seq_at m' i) changed in
    let alike : (k : ℕ) → IsOneOf n k → k ≢ i → agree p1 k ≡ true =
    λ k at other.
    compares n k m m' p1 at a two.3 ∙ cc (same k at other, same_number (seq_at m k)) in
    let moves = one_moves n i limit (λ k. not (agree p1 k)) p.moved one (ap not differ)
    (λ k at other. ap not (alike k at other)) few (omega arith) in
    let test : walk (algorithm n) 1 4 (standing Scanning m' p1 L16 c) ≡ standing Scanning m' q L12 (suc c) =
    rw (one_fails (agree p1) n i one differ, moves.stays) refl in (
      q,
      walks (algorithm n) 1 (2 * n) 4 (2 * n + 4) (standing Scanning m' p L14 c) two.1 test refl,
      refl,
      omega (arith, sized, two.2),
      moves,
    )
