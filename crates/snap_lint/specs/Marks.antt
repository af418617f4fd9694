-- Which lines of a listing can be reached from given start lines: by rounds of marking along edges (`reached`), and
-- by paths of edges (`LeadsTo`).
use Rattle.std.specs.Prelude.{◌≡◌, ◌↔◌, ℕ, zero, true, suc, Bool, ◌&&◌, ◌||◌, List}
use Rattle.std.specs.Prelude.{[], ◌∷◌, length, nat_eq, if◌then◌else◌}
use Rattle.std.specs.List.{Contains, list_any}
use Rattle.snap_lint.specs.declared.edges.Edge.{Edge}
use Rattle.snap_semantics.specs.declared.instr.Line.{Line}
use Rattle.snap_semantics.specs.Listing.{has_line}

-- a number is one of these
abbrev pub is_in : List ℕ → ℕ → Bool
is_in ks k = list_any (nat_eq k) ks

-- an edge leads to line k from a marked line
abbrev pub is_led_to : List Edge → List ℕ → ℕ → Bool
is_led_to es marks k = list_any (λ (e : Edge). nat_eq e.to k && is_in marks e.from) es

-- the numbers of the lines that pass a test
abbrev pub numbers_where : (Line → Bool) → List Line → List ℕ
numbers_where test [] = []
numbers_where test (line ∷ lines) =
    if test line then line.number ∷ numbers_where test lines else numbers_where test lines

-- a line is marked where it is one of the starts, or a line that was marked before leads to it
abbrev pub next_marks : List Line → List Edge → List ℕ → List ℕ → List ℕ
next_marks lines es starts marks =
    numbers_where (λ line. is_in starts line.number || is_led_to es marks line.number) lines

-- the marks after so many rounds, from none
abbrev pub marks_after : List Line → List Edge → List ℕ → ℕ → List ℕ
marks_after lines es starts zero = []
marks_after lines es starts (suc n) = next_marks lines es starts (marks_after lines es starts n)

-- the lines that are reached from the starts: those that are marked after as many rounds as there are lines
unfoldable pub reached : List Line → List Edge → List ℕ → List ℕ
reached lines es starts = marks_after lines es starts (length lines)

-- A way leads to line k: a list of lines, the last one first. Each leads to the one behind it on the way, and the
-- first one that was passed is a start.
abbrev pub LeadsTo : List Line → List Edge → List ℕ → List ℕ → ℕ → Type 0
LeadsTo lines es starts [] k = is_in starts k ≡ true
LeadsTo lines es starts (j ∷ way) k =
    Contains es (record { from = j; to = k }) × (has_line lines j ≡ true) × LeadsTo lines es starts way j

-- Exactly the lines are reached to which a way leads from a start.
abbrev pub ReachedByWays : Type 0
ReachedByWays = (lines : List Line) (es : List Edge) (starts : List ℕ) (k : ℕ) →
    (is_in (reached lines es starts) k ≡ true)
    ↔ ((has_line lines k ≡ true) × ((way : List ℕ) × LeadsTo lines es starts way k))
