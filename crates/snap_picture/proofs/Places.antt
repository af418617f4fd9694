-- For places in an SVG picture: a quotient is at most the number that is divided.
use Rattle.std.proofs.Common.{ℕ, ◌/◌, ◌≤◌}
use Rattle.std.proofs.Math.Nat.{div-le_self}

-- a quotient is no more than what is divided
pub quotient_le : (n k : ℕ) → n / k ≤ n
quotient_le n k = div-le_self n k
