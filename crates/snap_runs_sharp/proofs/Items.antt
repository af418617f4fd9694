-- The items of the schedules that reach the bounds: each is a
-- step or a call of one of n processes; and how many there are.
use Rattle.std.proofs.Common.{◌≡◌, ℕ, zero, suc, ◌+◌, ◌*◌, ◌≤◌, List, ◌∷◌, ◌++◌, length, arith}
use Rattle.std.proofs.lemmas.List.{length-append, length-replicate}
use Rattle.std.proofs.lemmas.List.Elements.{All-append, All-cons, All-replicate, recursion_from_All}
use Rattle.std.specs.List.{All}
use Rattle.snap_runs.proofs.Common.{IsOneOf, Item, Step, Call, Scan, Update, who, Run}
use Rattle.snap_runs.proofs.Steady.{IsNoCrash, Steady}
use Rattle.snap_runs_sharp.specs.Schedules.{steps_of, update_by, round_with, rounds, before_answer, schedule}

-- a step or a call of one of n processes
abbrev pub IsTurn : ℕ → Item → Type 0
IsTurn n x = IsOneOf n (who x) × IsNoCrash x

abbrev pub AreTurns : ℕ → List Item → Type 0
AreTurns n = All (IsTurn n)

turns_of : (n i count : ℕ) → IsOneOf n i → AreTurns n (steps_of i count)
turns_of n i count one = All-replicate (IsTurn n) count (Step i) (one, tt)

pub turns_round : (n i word first update second : ℕ) → IsOneOf n 1 → IsOneOf n i →
    AreTurns n (round_with i word first update second)
turns_round n i word first update second one at =
    All-append (IsTurn n) (steps_of 1 first) (update_by i word update ++ steps_of 1 second) (turns_of n 1 first one)
    (All-append (IsTurn n) (update_by i word update) (steps_of 1 second)
    (All-cons (IsTurn n) (Call i (Update word i)) (steps_of i update) (at, tt) (turns_of n i update at))
    (turns_of n 1 second one))

turns_rounds : (n count : ℕ) (round : ℕ → List Item) → ((r : ℕ) → suc r ≤ count → AreTurns n (round r)) →
    AreTurns n (rounds round count)
turns_rounds n zero round h = λ k d lt. absurd (omega arith)
turns_rounds n (suc count) round h =
    All-append (IsTurn n) (rounds round count) (round count)
    (turns_rounds n count round (λ r le. h r (omega arith))) (h count (omega arith))

pub turns_schedule : (n : ℕ) (round : ℕ → List Item) (count opening closing : ℕ) → IsOneOf n 1 →
    ((r : ℕ) → suc r ≤ count → AreTurns n (round r)) → AreTurns n (schedule round count opening closing)
turns_schedule n round count opening closing one h =
    All-append (IsTurn n) (before_answer round count opening closing) (steps_of 1 1)
    (All-append (IsTurn n) (Call 1 Scan ∷ steps_of 1 opening) (rounds round count ++ steps_of 1 closing)
    (All-cons (IsTurn n) (Call 1 Scan) (steps_of 1 opening) (one, tt) (turns_of n 1 opening one))
    (All-append (IsTurn n) (rounds round count) (steps_of 1 closing) (turns_rounds n count round h)
    (turns_of n 1 closing one)))
    (turns_of n 1 1 one)

-- how many they are
pub round_length : (i word first update second : ℕ) →
    length (round_with i word first update second) ≡ first + update + second + 1
round_length i word first update second = simp (length-append, length-replicate) (omega arith)

rounds_length : (size count : ℕ) (round : ℕ → List Item) → ((r : ℕ) → length (round r) ≡ size) →
    length (rounds round count) ≡ count * size
rounds_length size zero round h = omega arith
rounds_length size (suc count) round h =
    omega (arith, length-append (rounds round count) (round count), h count, rounds_length size count round h)

pub schedule_length : (size : ℕ) (round : ℕ → List Item) (count opening closing : ℕ) →
    ((r : ℕ) → length (round r) ≡ size) →
    length (schedule round count opening closing) ≡ count * size + opening + closing + 2
schedule_length size round count opening closing h =
    simp (length-append, length-replicate) (omega (arith, rounds_length size count round h))

pub steady : (r : Run) → AreTurns r.shape.n r.items → Steady r
steady r h = record {
  all = recursion_from_All (λ x. IsOneOf r.shape.n (who x)) r.items (λ k d lt. (h k d lt).0);
  steady = recursion_from_All IsNoCrash r.items (λ k d lt. (h k d lt).1);
}
