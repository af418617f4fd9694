-- Answers that would have been right at an event of a history.
use Rattle.std.specs.Prelude.{◌≡◌, ℕ, ◌-◌, ◌≤◌, List, [], ◌∷◌, ◌++◌, length}
use Rattle.std.specs.List.{All, AllPairs}
use Rattle.snap_words.specs.Shape.{IsOneOf}
use Rattle.snap_semantics.specs.declared.event.Happening.TheVariants as what
use Rattle.snap_judge.specs.History.{History, IsHistory}
use Rattle.snap_judge.specs.Linearizable.{IsLinearizableHistory, event, up_to, last_of}

-- the first events of a history, and then this answer of process i at event number t
abbrev pub followed_by : History → (i t : ℕ) → List ℕ → History
followed_by h i t view = record { shape = h.shape; events = h.events ++ event i t (what.Answer view) ∷ [] }

-- the first k events of a history, with this view in place of the one that the last of them answers
abbrev pub answering : ℕ → List ℕ → History → History
answering k view h = followed_by (up_to (k - 1) h) (last_of k h).process (last_of k h).item view

-- Behind these events this answer makes a history that is linearizable.
abbrev pub IsRightNext : History → (i t : ℕ) → List ℕ → Type 0
IsRightNext h i t view = IsHistory (followed_by h i t view) × IsLinearizableHistory (followed_by h i t view)

-- Event number k, counted from 1, is an answer; and with this view in its place the first k events would have been a
-- linearizable history.
pub record IsRightAnswer (h : History) (k : ℕ) (view : List ℕ) : Type 0 where
  pub is_event : IsOneOf (length h.events) k
  pub answers : (other : List ℕ) × ((last_of k h).what ≡ what.Answer other)
  pub history : IsHistory (answering k view h)
  pub linearizable : IsLinearizableHistory (answering k view h)

-- how many answers are told of at most
abbrev pub most_answers : ℕ
most_answers = 8

-- At most eight answers, of which no two are the same, and each of which would be right behind these events.
pub record AreRightNext (h : History) (i t : ℕ) (views : List (List ℕ)) : Type 0 where
  pub few : length views ≤ most_answers
  pub right : All (IsRightNext h i t) views
  pub apart : AllPairs (λ (a b : List ℕ). a ≡ b → ⊥) views

-- At most eight answers, of which no two are the same, and each of which would have been right.
pub record AreRightAnswers (h : History) (k : ℕ) (views : List (List ℕ)) : Type 0 where
  pub few : length views ≤ most_answers
  pub right : All (IsRightAnswer h k) views
  pub apart : AllPairs (λ (a b : List ℕ). a ≡ b → ⊥) views
