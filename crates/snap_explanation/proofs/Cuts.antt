-- Laws of `take` and `drop` for the pieces of a line that an explanation shows: at most this many bytes, or all.
use Rattle.std.proofs.Common.{◌≡◌, ℕ, List, length, take, drop, min, arith}
use Rattle.std.proofs.lemmas.Grind.{common_steps}

-- at most so many, or all
pub front_cut : (n : ℕ) (xs : List ℕ) → take (min n (length xs)) xs ≡ take n xs
front_cut n xs = grind (arith, common_steps)

pub behind_cut : (n : ℕ) (xs : List ℕ) → drop (min n (length xs)) xs ≡ drop n xs
behind_cut n xs = grind (arith, common_steps)
