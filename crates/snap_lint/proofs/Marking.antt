-- The lint's marking of lines is complete: `reached` holds the start lines, and every line to which an edge leads
-- from one that it holds.
use Rattle.std.specs.Prelude.{◌≡◌, ℕ, zero, suc, ◌≤◌, ◌⊎◌, Bool, true, false, ◌&&◌, ◌||◌, List, [], ◌∷◌, length}
use Rattle.std.specs.Prelude.{nat_eq, refl}
use Rattle.std.proofs.Common.{sym, ap, arith, inl, inr}
use Rattle.std.proofs.lemmas.Bool.{cases_lt, or_left, or_right, and_from, eq-eqb}
use Rattle.std.proofs.lemmas.Bool.Decides.{nat_tests}
use Rattle.std.proofs.lemmas.List.{nil_from_length}
use Rattle.std.specs.List.{Contains}
use Rattle.snap_semantics.specs.declared.instr.Line.{Line}
use Rattle.snap_semantics.specs.Listing.{has_line}
use Rattle.snap_lint.specs.declared.edges.Edge.{Edge}
use Rattle.snap_lint.specs.Marks.{is_in, is_led_to, numbers_where, next_marks, marks_after, reached}
use Rattle.snap_lint.proofs.Lines.{any_of}

-- each number of the one list is in the other
abbrev pub AreIn : List ℕ → List ℕ → Type 0
AreIn ks ls = (k : ℕ) → is_in ks k ≡ true → is_in ls k ≡ true

-- a line that passes the one test passes the other
abbrev pub Implies : (Line → Bool) → (Line → Bool) → Type 0
Implies p q = (line : Line) → p line ≡ true → q line ≡ true

longer : (p q : Line → Bool) → Implies p q → (lines : List Line) →
    length (numbers_where p lines) ≤ length (numbers_where q lines)
longer p q h [] = omega arith
longer p q h (line ∷ lines) = grind (arith, h line, longer p q h lines)

-- where no more lines pass the second test, the same do
same_where : (p q : Line → Bool) → Implies p q → (lines : List Line) →
    length (numbers_where q lines) ≤ length (numbers_where p lines) → numbers_where p lines ≡ numbers_where q lines
same_where p q h [] back = refl
same_where p q h (line ∷ lines) back = grind (arith, h line, longer p q h lines, same_where p q h lines)

no_more : (p : Line → Bool) (lines : List Line) → length (numbers_where p lines) ≤ length lines
no_more p [] = omega arith
no_more p (line ∷ lines) = grind (arith, no_more p lines)

in_where : (p q : Line → Bool) → Implies p q → (lines : List Line) →
    AreIn (numbers_where p lines) (numbers_where q lines)
in_where p q h [] k is = is
in_where p q h (line ∷ lines) k is = grind (arith, h line, in_where p q h lines k)

-- a line is among those that pass a test, where each line of its number does
there : (p : Line → Bool) (lines : List Line) (k : ℕ) → has_line lines k ≡ true →
    ((line : Line) → line.number ≡ k → p line ≡ true) → is_in (numbers_where p lines) k ≡ true
there p [] k is h = absurd (let e : false ≡ true = is in cc)
there p (line ∷ lines) k is h =
    let later = λ (is : has_line lines k ≡ true). there p lines k is h in grind (arith, nat_tests, h line, later)

pub only_lines : (p : Line → Bool) (lines : List Line) (k : ℕ) →
    is_in (numbers_where p lines) k ≡ true → has_line lines k ≡ true
only_lines p [] k is = is
only_lines p (line ∷ lines) k is = grind (arith, nat_tests, only_lines p lines k)

led_more : (ks ls : List ℕ) → AreIn ks ls → (es : List Edge) (k : ℕ) →
    is_led_to es ks k ≡ true → is_led_to es ls k ≡ true
led_more ks ls h [] k is = is
led_more ks ls h (e ∷ es) k is = grind (arith, h e.from, led_more ks ls h es k)

module _ (lines : List Line) (es : List Edge) (starts : List ℕ) where
  abbrev pub round : ℕ → List ℕ
  round t = marks_after lines es starts t

  -- what a line is marked for, by the marks before
  abbrev pub mark : List ℕ → Line → Bool
  mark marks line = is_in starts line.number || is_led_to es marks line.number

  mark_more : (ks ls : List ℕ) → AreIn ks ls → Implies (mark ks) (mark ls)
  mark_more ks ls h line is = grind (arith, led_more ks ls h es line.number)

  grows : (t : ℕ) → AreIn (round t) (round (suc t))
  grows zero k is = absurd (let e : false ≡ true = is in cc)
  grows (suc t) k is =
      in_where (mark (round t)) (mark (round (suc t))) (mark_more (round t) (round (suc t)) (grows t)) lines k is

  -- a round that adds no mark changes none
  no_change : (t : ℕ) → length (round (suc t)) ≤ length (round t) → round t ≡ round (suc t)
  no_change zero h = sym (nil_from_length (round 1) (omega arith))
  no_change (suc t) h =
      same_where (mark (round t)) (mark (round (suc t))) (mark_more (round t) (round (suc t)) (grows t)) lines h

  abbrev IsSteady : ℕ → Type 0
  IsSteady t = round t ≡ round (suc t)

  steady_on : (t : ℕ) → IsSteady t → IsSteady (suc t)
  steady_on t h = ap (next_marks lines es starts) h

  -- each round adds a mark until none does
  steady_or_long : (t : ℕ) → IsSteady t ⊎ (t ≤ length (round t))
  steady_or_long zero = inr (omega arith)
  steady_or_long (suc t) = elim (steady_or_long t) [
    | inl same ↦ inl (steady_on t same)
    | inr long ↦ elim (cases_lt (length (round t)) (length (round (suc t)))) [
      | inl more ↦ inr (omega arith)
      | inr none ↦ inl (steady_on t (no_change t none))
    ]
  ]

  steady : IsSteady (length lines)
  steady = elim (steady_or_long (length lines)) [
    | inl same ↦ same
    | inr long ↦ no_change (length lines) (omega (arith, no_more (mark (round (length lines))) lines))
  ]

  pub only_marks : (t k : ℕ) → is_in (round t) k ≡ true → has_line lines k ≡ true
  only_marks zero k is = absurd (let e : false ≡ true = is in cc)
  only_marks (suc t) k is = only_lines (mark (round t)) lines k is

  -- what is reached is a line
  pub line_reached : (k : ℕ) → is_in (reached lines es starts) k ≡ true → has_line lines k ≡ true
  unfolding reached
  line_reached k is = only_marks (length lines) k is

  again : (l : ℕ) → has_line lines l ≡ true →
      ((line : Line) → line.number ≡ l → mark (reached lines es starts) line ≡ true) →
      is_in (reached lines es starts) l ≡ true
  unfolding reached
  again l is h = rw steady (there (mark (round (length lines))) lines l is h)

  -- a start that is a line is reached
  pub start_reached : (l : ℕ) → is_in starts l ≡ true → has_line lines l ≡ true →
      is_in (reached lines es starts) l ≡ true
  start_reached l start is =
      again l is (λ line same. or_left (is_in starts line.number) (is_led_to es (reached lines es starts) line.number)
      (rw same start))

  -- a line to which an edge leads from a reached one is reached
  pub edge_reached : (k l : ℕ) → is_in (reached lines es starts) k ≡ true →
      Contains es (record { from = k; to = l }) → has_line lines l ≡ true → is_in (reached lines es starts) l ≡ true
  edge_reached k l from edge is =
      let marks = reached lines es starts in
      let led : is_led_to es marks l ≡ true =
      any_of (λ (e : Edge). nat_eq e.to l && is_in marks e.from) es (record { from = k; to = l }) edge
      (and_from (nat_eq l l) (is_in marks k) (eq-eqb l l refl) from) in
      again l is (λ line same. or_right (is_in starts line.number) (is_led_to es marks line.number)
      (rw same led))
