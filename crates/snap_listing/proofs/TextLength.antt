-- A text has no more lines than bytes.
use Rattle.std.proofs.Common.{ℕ, ◌+◌, ◌≤◌, Bool, true, false, List, [], ◌∷◌, length, nat_eq, if◌then◌else◌, arith}
use Rattle.snap_semantics.specs.Token.{onto_line, lines_of}

onto_few : (b : ℕ) (lines : List (List ℕ)) → length (onto_line b lines) ≤ length lines + 1
onto_few b [] = omega arith
onto_few b (line ∷ lines) = omega arith

few_by : (b n : ℕ) (lines : List (List ℕ)) (v : Bool) → length lines ≤ n →
    length (if v then [] ∷ lines else onto_line b lines) ≤ n + 1
few_by b n lines true h = omega arith
few_by b n lines false h = let more = onto_few b lines in omega arith

pub few_lines : (text : List ℕ) → length (lines_of text) ≤ length text
few_lines [] = omega arith
few_lines (b ∷ bytes) =
    let h = few_by b (length bytes) (lines_of bytes) (nat_eq b 10) (few_lines bytes) in
    omega (arith, h)
