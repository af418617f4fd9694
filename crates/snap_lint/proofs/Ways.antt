-- `ReachedByWays`: the lines that the lint marks round by round (`reached`) are exactly those to which a path of
-- edges leads from a start.
use Rattle.std.specs.Prelude.{◌≡◌, ℕ, zero, suc, Bool, true, false, ◌&&◌, List, [], ◌∷◌, length, nat_eq}
use Rattle.std.proofs.Common.{ap, arith, inl, inr}
use Rattle.std.proofs.lemmas.Bool.{and_parts, cases_Bool, eqb-true, or_cases}
use Rattle.std.proofs.lemmas.Bool.Decides.{nat_tests}
use Rattle.std.proofs.lemmas.List.Elements.{Contains-append_right}
use Rattle.std.specs.List.{Contains}
use Rattle.snap_semantics.specs.declared.instr.Line.{Line}
use Rattle.snap_semantics.specs.Listing.{has_line}
use Rattle.snap_lint.specs.declared.edges.Edge.{Edge}
use Rattle.snap_lint.specs.Marks.{is_in, is_led_to, numbers_where, reached, LeadsTo, ReachedByWays}
use Rattle.snap_lint.proofs.Marking.{edge_reached, line_reached, mark, only_marks, round, start_reached}

-- a line of this number that passes the test
abbrev Passes : (Line → Bool) → ℕ → Type 0
Passes p k = (line : Line) × (line.number ≡ k) × (p line ≡ true)

passes : (p : Line → Bool) (lines : List Line) (k : ℕ) → is_in (numbers_where p lines) k ≡ true → Passes p k
passes p [] k is = absurd (let e : false ≡ true = is in cc)
passes p (line ∷ lines) k is = elim (cases_Bool (p line && nat_eq k line.number)) [
  | inl own ↦ (line, grind (arith, nat_tests), grind arith)
  | inr not ↦ passes p lines k (grind arith)
]

-- a marked line that leads to this one
abbrev Leads : List Edge → List ℕ → ℕ → Type 0
Leads es marks k = (j : ℕ) × Contains es (record { from = j; to = k }) × (is_in marks j ≡ true)

leads : (es : List Edge) (marks : List ℕ) (k : ℕ) → is_led_to es marks k ≡ true → Leads es marks k
leads [] marks k is = absurd (let e : false ≡ true = is in cc)
leads (e ∷ es) marks k is = elim (or_cases (nat_eq e.to k && is_in marks e.from) (is_led_to es marks k) is) [
  | inl here ↦
      let both = and_parts (nat_eq e.to k) (is_in marks e.from) here in
      (e.from, (0, omega arith, ap (λ n. record { from = e.from; to = n }) (eqb-true e.to k both.0)), both.1)
  | inr later ↦
      let h = leads es marks k later in
      (h.0, Contains-append_right (e ∷ []) es (record { from = h.0; to = k }) h.1, h.2)
]

module _ (lines : List Line) (es : List Edge) (starts : List ℕ) where
  abbrev HasWay : ℕ → Type 0
  HasWay k = (way : List ℕ) × LeadsTo lines es starts way k

  way_of : (t k : ℕ) → is_in (round lines es starts t) k ≡ true → HasWay k
  way_of zero k is = absurd (let e : false ≡ true = is in cc)
  way_of (suc t) k is =
      let marks = round lines es starts t in
      let h = passes (mark lines es starts marks) lines k is in
      elim (or_cases (is_in starts h.0.number) (is_led_to es marks h.0.number) h.2) [
        | inl start ↦ ([], rw h.1 at start)
        | inr led ↦
            let from = leads es marks k (rw h.1 at led) in
            let before = way_of t from.0 from.2 in
            (from.0 ∷ before.0, (from.1, only_marks lines es starts t from.0 from.2, before.1))
      ]

  has_way : (k : ℕ) → is_in (reached lines es starts) k ≡ true → HasWay k
  unfolding reached
  has_way k is = way_of (length lines) k is

  arrives : (way : List ℕ) (k : ℕ) → LeadsTo lines es starts way k → has_line lines k ≡ true →
      is_in (reached lines es starts) k ≡ true
  arrives [] k start line = start_reached lines es starts k start line
  arrives (j ∷ way) k h line = edge_reached lines es starts j k (arrives way j h.2 h.1) h.0 line

pub reached_by_ways : ReachedByWays
reached_by_ways lines es starts k = (
  (λ is. (line_reached lines es starts k is, has_way lines es starts k is)),
  (λ h. arrives lines es starts h.1.0 k h.1.1 h.0),
)
