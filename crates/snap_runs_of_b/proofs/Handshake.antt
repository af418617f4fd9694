-- The handshake of B: the bits that a scan has put, and what the other processes answer in their next words.
use Rattle.std.proofs.Common.{◌≡◌, ◌≢◌, ℕ, ◌+◌, ◌-◌, ◌<◌, ◌≤◌, ◌⊎◌, max, List, [], length, map, nat_lt, slice_index}
use Rattle.std.proofs.Common.{slice_index_or, slice_set, refl, sym, ◌∙◌, ap, subst, arith, inl, inr}
use Rattle.std.proofs.lemmas.Bool.{cases_eq}
use Rattle.std.proofs.lemmas.Grind.{get_or-set_at}
use Rattle.std.proofs.lemmas.List.{length-set, get_or-set_other}
use Rattle.snap_words.specs.Shape.{IsOneOf}
use Rattle.snap_semantics.specs.Table.{places_to, all_true, first_true, with_bit_at}
use Rattle.snap_runs.proofs.Algorithm.{Mode, Scanning, Embedded, Updating, To, Begin, Answer, Finish}
use Rattle.snap_runs.proofs.Computing.{not_lt, either, whether}
use Rattle.snap_runs.proofs.Held.{seq_at}
use Rattle.snap_runs_of_b.proofs.Algorithm.{Registers, Move, Variables, ProgramCounter, L10, L12, L13, L14, L15, L16}
use Rattle.snap_runs_of_b.proofs.Algorithm.{L17, L18, L19, L20, L22, L23, L26, L28, L40, L41, L42, L43, L44, L46, L47}
use Rattle.snap_runs_of_b.proofs.Algorithm.{move, first_to, return_to, place, bit_for, answer}
use Rattle.snap_runs_of_b.proofs.Algorithm.{agree, at_limit, IsUpdate, IsLineOf}
use Rattle.snap_runs_of_b.proofs.Control.{VariablesAt, Sized}
use Rattle.snap_runs_of_b.proofs.Collect.{place_set, place_kept}
use Rattle.snap_runs_of_b.proofs.Stage.{reach, answer_differs}

-- the bits by process that puts them
abbrev pub row_of : List (List ℕ) → ℕ → List ℕ
row_of q i = slice_index_or q (i - 1) []

-- each process has a bit for each
pub record Square (n : ℕ) (q : List (List ℕ)) : Type 0 where
  pub rows : length q ≡ n
  pub bits : (i : ℕ) → IsOneOf n i → length (row_of q i) ≡ n

-- line 14 sets one bit
pub bit_set : (n : ℕ) (q : List (List ℕ)) (i j k v : ℕ) → Square n q → IsOneOf n i → IsOneOf n j → k ≡ j →
    bit_for (with_bit_at q (i - 1) (j - 1) v) i k ≡ v
bit_set n q i j k v h one jn e =
    let rows : length q ≡ n = h.rows in
    let bits : length (row_of q i) ≡ n = h.bits i one in
    ap (λ row. slice_index row (k - 1))
    (get_or-set_at q (i - 1) (i - 1) (slice_set (row_of q i) (j - 1) v) [] refl (omega arith))
    ∙ place_set (row_of q i) j k v jn.0 (omega arith) e

pub bit_kept : (n : ℕ) (q : List (List ℕ)) (i j k v : ℕ) → Square n q → IsOneOf n i → IsOneOf n j → IsOneOf n k →
    (k ≡ j → ⊥) → bit_for (with_bit_at q (i - 1) (j - 1) v) i k ≡ bit_for q i k
bit_kept n q i j k v h one jn kn other =
    ap (λ row. slice_index row (k - 1))
    (get_or-set_at q (i - 1) (i - 1) (slice_set (row_of q i) (j - 1) v) [] refl (omega (arith, h.rows)))
    ∙ place_kept (row_of q i) j k v jn.0 kn.0 other

pub other_row : (q : List (List ℕ)) (i j u v : ℕ) → 0 < i → 0 < u → u ≢ i →
    row_of (with_bit_at q (i - 1) (j - 1) v) u ≡ row_of q u
other_row q i j u v pi pu other =
    get_or-set_other q (i - 1) (u - 1) (slice_set (row_of q i) (j - 1) v) [] (λ same. other (omega arith))

pub square_set : (n : ℕ) (q : List (List ℕ)) (i j v : ℕ) → Square n q → IsOneOf n i →
    Square n (with_bit_at q (i - 1) (j - 1) v)
square_set n q i j v h one =
    let rows : length q ≡ n = h.rows in
    record {
      rows = length-set q (i - 1) (slice_set (row_of q i) (j - 1) v) ∙ rows;
      bits = λ u ui. elim (cases_eq u i) [
        | inl same ↦
            ap length
            (get_or-set_at q (i - 1) (u - 1) (slice_set (row_of q i) (j - 1) v) [] (omega arith) (omega arith))
            ∙ length-set (row_of q i) (j - 1) v ∙ h.bits i one
        | inr other ↦ ap length (other_row q i j u v one.0 ui.0 other) ∙ h.bits u ui
      ];
    }

-- Below place r the bits that process i drew are put.
abbrev pub Asked : ℕ → List (List ℕ) → List ℕ → ℕ → ℕ → Type 0
Asked n q g i r = (k : ℕ) → IsOneOf n k → k < r → bit_for q i k ≡ place g k

-- A line of process i keeps the bit that it put for k, or has just put it: then no write of k was later.
abbrev pub KeepsBit : ℕ → Registers → Variables → ℕ → Registers → Variables → ℕ → Type 0
KeepsBit i m p r m' p' k =
    ((k < r) × (place p'.g k ≡ place p.g k) × (place p'.marks k ≡ place p.marks k)
    × (bit_for m'.q i k ≡ bit_for m.q i k))
    ⊎ ((place p'.marks k ≡ seq_at m.words k) × (bit_for m'.q i k ≡ place p'.g k))

abbrev pub BitsMove : ℕ → ℕ → Registers → Variables → ℕ → Move → Type 0
BitsMove n i m p r (To d m' p' k') = (k : ℕ) → IsOneOf n k → k < reach n p' k' → KeepsBit i m p r m' p' k
BitsMove n i m p r (Begin d p' k') = k' ≡ L10
BitsMove n i m p r (Answer v) = Unit {0}
BitsMove n i m p r Finish = Unit {0}

pub bits_move : (n i : ℕ) (d : Mode) (m : Registers) (p : Variables) (k : ProgramCounter) →
    IsOneOf n i → Square n m.q → Sized n p → IsLineOf i d k → VariablesAt n i p k →
    BitsMove n i m p (reach n p k) (move n i d m p k)
bits_move n i d m p L12 one square sized s h = λ k ik lt. inl (omega arith, refl, refl, refl)
bits_move n i Scanning m p L26 one square sized s h = tt
bits_move n i (Updating word value) m p L26 one square sized s h = tt
bits_move n i Scanning m p L28 one square sized s h = tt
bits_move n i (Updating word value) m p L28 one square sized s h = tt
bits_move n i (Updating word value) m p L44 one square sized s h = refl
bits_move n i d m p L44 one square sized s h = absurd s
bits_move n i d m p L13 one square sized s h =
    λ k ik lt. inl (lt, place_kept p.g p.j k _ h.0.0 ik.0 (λ e. omega arith), refl, refl)
bits_move n i d m p L14 one square sized s h = λ k ik lt.
    let len : length p.marks ≡ max n n = sized.4 in
    let jn : IsOneOf n p.j = h.0 in
    elim (cases_eq k p.j) [
      | inl e ↦ inr (
        place_set p.marks p.j k (seq_at m.words p.j) jn.0 (omega arith) e ∙ ap (seq_at m.words) (sym e),
        bit_set n m.q i p.j k (place p.g p.j) square one jn e ∙ ap (place p.g) (sym e),
      )
      | inr other ↦ inl (
        omega arith,
        refl,
        place_kept p.marks p.j k (seq_at m.words p.j) jn.0 ik.0 other,
        bit_kept n m.q i p.j k (place p.g p.j) square one jn ik other,
      )
    ]
bits_move n i d m p L15 one square sized s h =
    either (BitsMove n i m p (reach n p L15)) (nat_lt p.j n) _ _ (λ b k ik lt. inl (omega arith, refl, refl, refl))
    (λ b k ik lt. inl (omega (arith, not_lt p.j n b), refl, refl, refl))
bits_move n i d m p L16 one square sized s h = λ k ik lt. inl (omega arith, refl, refl, refl)
bits_move n i d m p L17 one square sized s h =
    either (BitsMove n i m p (reach n p L17)) (nat_lt p.j n) _ _
    (λ b k ik lt. inl (omega arith, refl, refl, refl)) (λ b k ik lt. inl (omega arith, refl, refl, refl))
bits_move n i d m p L18 one square sized s h = λ k ik lt. inl (omega arith, refl, refl, refl)
bits_move n i d m p L19 one square sized s h =
    either (BitsMove n i m p (reach n p L19)) (nat_lt p.j n) _ _
    (λ b k ik lt. inl (omega arith, refl, refl, refl)) (λ b k ik lt. inl (omega arith, refl, refl, refl))
bits_move n i d m p L20 one square sized s h =
    either (BitsMove n i m p (reach n p L20)) (all_true (map (agree i p) (places_to n))) _ _
    (λ b k ik lt. absurd (omega arith)) (λ b k ik lt. inl (omega arith, refl, refl, refl))
bits_move n i d m p L22 one square sized s h =
    whether (BitsMove n i m p (reach n p L22)) (first_to d m p) (first_true 1 (map (at_limit p) (places_to n)))
    (λ e k ik lt. absurd (omega arith)) (λ u e k ik lt. absurd (omega arith))
bits_move n i d m p L23 one square sized s h = λ k ik lt. absurd (omega (arith, h.0))
bits_move n i d m p L43 one square sized s h =
    either (BitsMove n i m p (reach n p L43)) (nat_lt p.j n) _ _ (λ b k ik lt. absurd (omega arith))
    (λ b k ik lt. absurd (omega arith))
bits_move n i d m p L47 one square sized s h = tt
bits_move n i d m p k one square sized s h = λ k ik lt. absurd (omega arith)

-- A line of process i keeps the bits, or puts one of its own.
abbrev pub PutsMove : ℕ → Registers → Variables → Move → Type 0
PutsMove i m p (To d m' p' k) = (m'.q ≡ m.q) ⊎ (m'.q ≡ with_bit_at m.q (i - 1) (p.j - 1) (place p.g p.j))
PutsMove i m p (Begin d p' k) = Unit {0}
PutsMove i m p (Answer v) = Unit {0}
PutsMove i m p Finish = Unit {0}

pub puts_move : (n i : ℕ) (d : Mode) (m : Registers) (p : Variables) (k : ProgramCounter) →
    PutsMove i m p (move n i d m p k)
puts_move n i d m p L14 = inr refl
puts_move n i d m p L15 = either (PutsMove i m p) (nat_lt p.j n) _ _ (λ b. inl refl) (λ b. inl refl)
puts_move n i d m p L17 = either (PutsMove i m p) (nat_lt p.j n) _ _ (λ b. inl refl) (λ b. inl refl)
puts_move n i d m p L19 = either (PutsMove i m p) (nat_lt p.j n) _ _ (λ b. inl refl) (λ b. inl refl)
puts_move n i d m p L20 =
    either (PutsMove i m p) (all_true (map (agree i p) (places_to n))) _ _ (λ b. inl refl) (λ b. inl refl)
puts_move n i d m p L22 =
    whether (PutsMove i m p) (first_to d m p) (first_true 1 (map (at_limit p) (places_to n)))
    (λ e. inl refl) (λ k e. inl refl)
puts_move n i Scanning m p L26 = tt
puts_move n i (Updating word value) m p L26 = tt
puts_move n i Scanning m p L28 = tt
puts_move n i (Updating word value) m p L28 = tt
puts_move n i d m p L43 = either (PutsMove i m p) (nat_lt p.j n) _ _ (λ b. inl refl) (λ b. inl refl)
puts_move n i (Updating word value) m p L44 = tt
puts_move n i d m p L44 = tt
puts_move n i d m p L47 = tt
puts_move n i d m p k = inl refl

pub square_kept : (n i : ℕ) (m : Registers) (p : Variables) (q' : List (List ℕ)) → Square n m.q → IsOneOf n i →
    (q' ≡ m.q) ⊎ (q' ≡ with_bit_at m.q (i - 1) (p.j - 1) (place p.g p.j)) → Square n q'
square_kept n i m p q' h one (inl e) = subst (Square n) (sym e) h
square_kept n i m p q' h one (inr e) = subst (Square n) (sym e) (square_set n m.q i p.j (place p.g p.j) h one)

pub rows_kept : (n i u k : ℕ) (m : Registers) (p : Variables) (q' : List (List ℕ)) → 0 < i → 0 < u → u ≢ i →
    (q' ≡ m.q) ⊎ (q' ≡ with_bit_at m.q (i - 1) (p.j - 1) (place p.g p.j)) → bit_for q' u k ≡ bit_for m.q u k
rows_kept n i u k m p q' pi pu other (inl e) = ap (λ q. bit_for q u k) e
rows_kept n i u k m p q' pi pu other (inr e) =
    ap (λ q. bit_for q u k) e ∙ ap (λ row. slice_index row (k - 1)) (other_row m.q i p.j u (place p.g p.j) pi pu other)

-- What process k will say in its next word to the process that put this bit for it, line by line: it has read the
-- bit, or it will. `said` is the place of its row f for that process.
abbrev pub Says : ℕ → ℕ → Mode → Type 0
Says said bit Scanning = Unit {0}
Says said bit (Embedded word value) = said ≡ bit → ⊥
Says said bit (Updating word value) = said ≡ bit → ⊥

-- i is the process that put the bit.
abbrev pub Answers : ℕ → ℕ → Mode → Variables → ProgramCounter → Type 0
Answers i bit d p L40 = Unit {0}
Answers i bit d p L41 = i < p.j → place p.f i ≡ bit → ⊥
Answers i bit d p L42 = (i < p.j → place p.f i ≡ bit → ⊥) × (i ≡ p.j → p.x ≡ bit)
Answers i bit d p L43 = i < p.j + 1 → place p.f i ≡ bit → ⊥
Answers i bit d p L47 = Unit {0}
Answers i bit d p _ = Says (place p.f i) bit d

abbrev pub AnswersMove : ℕ → ℕ → Move → Type 0
AnswersMove i bit (To d m p k) = Answers i bit d p k
AnswersMove i bit (Begin d p k) = Answers i bit d p k
AnswersMove i bit (Answer v) = Unit {0}
AnswersMove i bit Finish = Unit {0}

answers_return : (i bit : ℕ) (d : Mode) (m : Registers) (p : Variables) → Says (place p.f i) bit d →
    AnswersMove i bit (return_to d m p)
answers_return i bit Scanning m p h = tt
answers_return i bit (Embedded word value) m p h = h
answers_return i bit (Updating word value) m p h = tt

all_said : (me said bit : ℕ) (d : Mode) → IsUpdate me d → (said ≡ bit → ⊥) → Says said bit d
all_said me said bit Scanning s h = tt
all_said me said bit (Embedded word value) s h = h
all_said me said bit (Updating word value) s h = h

-- a process's lines keep what it will say, while the bit stands
pub answers_move : (n me i bit : ℕ) (d : Mode) (m : Registers) (p : Variables) (k : ProgramCounter) →
    IsOneOf n i → Sized n p → IsLineOf me d k → VariablesAt n me p k → bit_for m.q i me ≡ bit →
    Answers i bit d p k → AnswersMove i bit (move n me d m p k)
answers_move n me i bit d m p L15 one sized s keeps put h =
    either (AnswersMove i bit) (nat_lt p.j n) _ _ (λ b. h) (λ b. h)
answers_move n me i bit (Updating word value) m p L44 one sized s keeps put h = h
answers_move n me i bit d m p L17 one sized s keeps put h =
    either (AnswersMove i bit) (nat_lt p.j n) _ _ (λ b. h) (λ b. h)
answers_move n me i bit d m p L19 one sized s keeps put h =
    either (AnswersMove i bit) (nat_lt p.j n) _ _ (λ b. h) (λ b. h)
answers_move n me i bit d m p L20 one sized s keeps put h =
    either (AnswersMove i bit) (all_true (map (agree me p) (places_to n))) _ _ (λ b. h) (λ b. h)
answers_move n me i bit d m p L22 one sized s keeps put h =
    whether (AnswersMove i bit) (first_to d m p) (first_true 1 (map (at_limit p) (places_to n))) (λ e. h) (λ k e. h)
answers_move n me i bit d m p L26 one sized s keeps put h = answers_return i bit d m p h
answers_move n me i bit d m p L28 one sized s keeps put h = answers_return i bit d m p h
answers_move n me i bit d m p L40 one sized s keeps put h = λ lt. absurd (omega (arith, one))
answers_move n me i bit d m p L41 one sized s keeps put h = (h, λ e. subst (λ j. bit_for m.q j me ≡ bit) e put)
answers_move n me i bit d m p L42 one sized s keeps put h = λ lt said.
    let len : length p.f ≡ max n n = sized.3 in
    elim (cases_eq i p.j) [
      | inl e ↦ answer_differs p.x (sym (place_set p.f p.j i (answer p.x) keeps.0 (omega arith) e) ∙ said ∙ sym (h.1 e))
      | inr other ↦ h.0 (omega arith) (sym (place_kept p.f p.j i (answer p.x) keeps.0 one.0 other) ∙ said)
    ]
answers_move n me i bit d m p L43 one sized s keeps put h =
    either (AnswersMove i bit) (nat_lt p.j n) _ _ (λ b. h)
    (λ b. let ge : n ≤ p.j = not_lt p.j n b in all_said me (place p.f i) bit d s (h (omega arith)))
answers_move n me i bit d m p L44 one sized s keeps put h = absurd s
answers_move n me i bit d m p L46 one sized s keeps put h = tt
answers_move n me i bit d m p L47 one sized s keeps put h = tt
answers_move n me i bit d m p k one sized s keeps put h = h
