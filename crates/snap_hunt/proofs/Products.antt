-- A product of two counts of at most 64 is at most 4,096, for the bounds on the steps of operations.
use Rattle.std.specs.Prelude.{ℕ, ◌*◌, ◌≤◌}
use Rattle.std.proofs.lemmas.Nat.{mul-le}

pub few : (a b : ℕ) → a ≤ 64 → b ≤ 64 → a * b ≤ 4096
few a b h k = mul-le a b 64 64 h k
