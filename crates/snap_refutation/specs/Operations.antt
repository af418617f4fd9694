-- The operations of a history: all of them, in the order of their calls.
use Rattle.std.specs.Prelude.{ℕ, ◌<◌, List, [], ◌∷◌, ◌++◌, None, map, slice_index_or}
use Rattle.std.specs.List.{All, AllPairs, Contains}
use Rattle.snap_runs.specs.Operation.{Operation, Sees}
use Rattle.snap_judge.specs.declared.operation.Operation.{Operation as KeptOperation}
use Rattle.snap_judge.specs.History.{History, IsHistory}
use Rattle.snap_judge.specs.Linearizable.{IsOperationOf}
use Rattle.snap_judge.specs.Kept.{operation_of}
use Rattle.snap_judge.specs.Steps.{Calls, Ends, Step, Waits, steps_of}

-- the operation that a step calls, if it calls one
abbrev pub called : Step → List Operation
called (Calls o) = o ∷ []
called (Ends i) = []
called Waits = []

abbrev pub called_in : List Step → List Operation
called_in [] = []
called_in (x ∷ xs) = called x ++ called_in xs

-- the operations of a history
abbrev pub operations_of : History → List Operation
operations_of h = called_in (steps_of h.events)

-- These are all operations of the history, in the order of their calls.
pub record AreOperationsOf (h : History) (os : List Operation) : Type 0 where
  pub each : All (IsOperationOf h) os
  pub all : (o : Operation) → IsOperationOf h o → Contains os o
  pub rising : AllPairs (λ (a b : Operation). a.call < b.call) os

abbrev pub OperationsAreAll : Type 0
OperationsAreAll = (h : History) → IsHistory h → AreOperationsOf h (operations_of h)

-- what stands past the end of a list of operations: one that neither sets nor sees a word
abbrev pub no_operation : Operation
no_operation = record { process = 0; call = 0; end = None; action = Sees [] }

-- the operation at a place of a list, counted from 0
abbrev pub operation_at : List Operation → ℕ → Operation
operation_at os place = slice_index_or os place no_operation

-- operations as the program keeps them
abbrev pub kept : List KeptOperation → List Operation
kept os = map operation_of os
