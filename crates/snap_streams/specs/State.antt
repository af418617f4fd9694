-- What is seen of a byte source and of a byte sink at a moment.
use Rattle.std.specs.Prelude.{ℕ, List, Bool, Option}

-- The bytes that are left in a source, where they are known, and whether it has failed.
pub record SourceState : Type 0 where
  pub left : Option (List ℕ)
  pub failed : Bool

-- The bytes that a sink has taken, where they are known; whether it has failed; and whether the last write took nothing.
pub record SinkState : Type 0 where
  pub taken : Option (List ℕ)
  pub failed : Bool
  pub stalled : Bool
