-- Linearizable: the operations of a run are as if each took place at one moment between its call and its end.
use Rattle.std.specs.Prelude.{◌≡◌, ℕ, ◌-◌, ◌<◌, List, [], ◌∷◌, length, replicate, slice_index_or, slice_set}
use Rattle.std.specs.List.{All, AllPairs, Contains}
use Rattle.snap_words.specs.Shape.{IsOneOf}
use Rattle.snap_runs.specs.Run.{Run, IsValidRun}
use Rattle.snap_runs.specs.Operation.{Action, Sets, Sees, Operation, IsOperation, HasEnded, EndedBefore}

-- The snapshot object as one process alone would have it, a list of values. What it is after an update or a scan:
abbrev pub after : List ℕ → Action → List ℕ
after values (Sets word value) = slice_set values (word - 1) value
after values (Sees view) = values

-- What may be done to it: an update sets one of its words, and a scan sees all of them.
abbrev pub Allows : List ℕ → Action → Type 0
Allows values (Sets word value) = IsOneOf (length values) word
Allows values (Sees view) = view ≡ values

-- From these values on it runs the operations one after another, and each scan sees what is there.
abbrev pub RunsFrom : List ℕ → List Operation → Type 0
RunsFrom values [] = Unit {0}
RunsFrom values (o ∷ os) = Allows values o.action × RunsFrom (after values o.action) os

-- An operation that ended before another one was called stands before it.
abbrev pub KeepsOrder : List Operation → Type 0
KeepsOrder os = (j k : ℕ) (d : Operation) → j < length os → k < length os →
    EndedBefore (slice_index_or os j d) (slice_index_or os k d) → j < k

-- A list of operations in the order in which they could have taken place one after another.
pub record IsLinearization (r : Run) (os : List Operation) : Type 0 where
  -- each is an operation of the run: it was called, and it ended with this answer or is an update that has not ended
  pub took_place : All (IsOperation r) os
  -- no two have the same call: each stands once
  pub once : AllPairs (λ a b. a.call ≡ b.call → ⊥) os
  -- every operation of the run that has ended is there
  pub complete : (o : Operation) → IsOperation r o → HasEnded o → Contains os o
  -- the order in time is kept
  pub order : KeepsOrder os
  -- the object runs them, from w zeros on, with these answers
  pub runs : RunsFrom (replicate r.shape.w 0) os

-- A run that fits has a linearization.
abbrev pub IsLinearizable : Run → Type 0
IsLinearizable r = IsValidRun r → (os : List Operation) × IsLinearization r os
