-- Schedules of U, B and M in which the scan of process 1 makes as many double collects as a scan can make: in each
-- round another process makes a whole update between the two collects, and in the last double collect nobody does.
use Rattle.std.specs.Prelude.{ℕ, zero, suc, ◌+◌, ◌*◌, ◌-◌, List, [], ◌∷◌, ◌++◌, replicate}
use Rattle.snap_semantics.specs.declared.process.Item.{Item}
use Rattle.snap_semantics.specs.declared.process.Item.TheVariants.{Step, Call}
use Rattle.snap_semantics.specs.declared.process.Op.TheVariants.{Scan, Update}

-- a number of steps of process i
abbrev pub steps_of : ℕ → ℕ → List Item
steps_of i count = replicate count (Step i)

-- process i is called for an update of this word to i, which takes so many steps
abbrev pub update_by : ℕ → ℕ → ℕ → List Item
update_by i word count = Call i (Update word i) ∷ steps_of i count

-- process 1 takes the steps up to its second collect, process i updates this word, and process 1 takes the steps up
-- to its next double collect
abbrev pub round_with : (i word first update second : ℕ) → List Item
round_with i word first update second = steps_of 1 first ++ (update_by i word update ++ steps_of 1 second)

-- how many processes there are besides process 1
abbrev pub others : ℕ → ℕ
others n = n - 1

-- a number of rounds, the first of which is round 0
abbrev pub rounds : (ℕ → List Item) → ℕ → List Item
rounds round zero = []
rounds round (suc count) = rounds round count ++ round count

-- Process 1 is called for a scan, and takes so many steps up to its first double collect; after the rounds it takes
-- so many up to its answer.
abbrev pub before_answer : (ℕ → List Item) → (count opening closing : ℕ) → List Item
before_answer round count opening closing =
    (Call 1 Scan ∷ steps_of 1 opening) ++ (rounds round count ++ steps_of 1 closing)

abbrev pub schedule : (ℕ → List Item) → (count opening closing : ℕ) → List Item
schedule round count opening closing = before_answer round count opening closing ++ steps_of 1 1

-- U and B, n processes: each of the others makes one update, of its own word.
abbrev pub round_of_u : ℕ → ℕ → List Item
round_of_u n r = round_with (r + 2) (r + 2) (2 * n) (4 * n + 9) (2 * n + 4)

abbrev pub schedule_of_u : ℕ → List Item
schedule_of_u n = schedule (round_of_u n) (others n) 2 (4 * n + 2)

-- The scan of U by process 1, while nobody else takes a step.
abbrev pub scan_alone_of_u : ℕ → List Item
scan_alone_of_u n = schedule (λ r. []) 0 2 (4 * n + 2)

abbrev pub round_of_b : ℕ → ℕ → List Item
round_of_b n r = round_with (r + 2) (r + 2) (6 * n) (11 * n + 10) (2 * n + 4)

abbrev pub schedule_of_b : ℕ → List Item
schedule_of_b n = schedule (round_of_b n) (others n) 2 (8 * n + 2)

-- M, n processes and w words: each of the others makes two updates, all of word 1.
abbrev pub turn_of_m : ℕ → ℕ → ℕ → List Item
turn_of_m n w r = round_with (r + 2) 1 (4 * n + 2 * w) (10 * n + 6 * w + 14) (3 * n + 4 * w + 8)

abbrev pub round_of_m : ℕ → ℕ → ℕ → List Item
round_of_m n w r = turn_of_m n w r ++ turn_of_m n w r

abbrev pub schedule_of_m : ℕ → ℕ → List Item
schedule_of_m n w = schedule (round_of_m n w) (others n) 3 (7 * n + 6 * w + 4)
