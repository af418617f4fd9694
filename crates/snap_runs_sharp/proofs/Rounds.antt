-- A schedule of rounds: after each of them the scan is about to begin a double collect,
-- and after the last one it passes its test and answers.
use Rattle.std.proofs.Common.{◌≡◌, ℕ, suc, ◌+◌, ◌<◌, ◌≤◌, List, ◌∷◌, arith}
use Rattle.snap_runs.proofs.Common.{IsOneOf, Item, Call, Scan}
use Rattle.snap_runs.proofs.Algorithm.{Scanning, Answer, Algorithm, first_state}
use Rattle.snap_runs.proofs.Embedding as embed
use Rattle.snap_runs.proofs.Flow.{Lines}
use Rattle.snap_runs.proofs.Scans as scans
use Rattle.snap_runs_sharp.specs.Reached.{Reaches}
use Rattle.snap_runs_sharp.specs.Schedules.{steps_of, before_answer, schedule}
use Rattle.snap_runs_sharp.proofs.Alone.{Seat, State, standing, walk, alone_of}
use Rattle.snap_runs_sharp.proofs.Answering.{reaches}
use Rattle.snap_runs_sharp.proofs.Scenes.{Leads, schedule_leads, first_seat, Scene, Beside, beside_fresh, lead_walks}
use Rattle.snap_runs_sharp.proofs.Scenes.{opening_leads}

-- A double collect begins at line `start`; `counts r` of them have been made after r rounds.
module _ {V P M : Type 0} (a : Algorithm V P M) (start : P) (counts : ℕ → ℕ) (Keeps : ℕ → M → V → Type 0) where
  -- After r rounds the scan is about to begin a double collect, and no process above r + 1 has been called.
  record Round (r : ℕ) (x : State a) : Type 0 where
    memory : M
    variables : V
    scene : Scene a (suc r) (standing Scanning memory variables start (counts r)) x
    keeps : Keeps r memory variables

  -- Round r leads there from this memory and these variables: process r + 2 goes to a seat.
  pub record Turned (r : ℕ) (m : M) (p : V) (items : List Item) : Type 0 where
    pub memory : M
    pub variables : V
    pub seat : Seat V P
    pub leads : Leads a
        (Beside a (suc (suc r)) (r + 2) (standing Scanning m p start (counts r)) (first_seat a)) items
        (Beside a (suc (suc r)) (r + 2) (standing Scanning memory variables start (counts (suc r))) seat)
    pub keeps : Keeps (suc r) memory variables

  one_round : (r : ℕ) (items : List Item) → IsOneOf a.shape.n (r + 2) →
      ((m : M) (p : V) → Keeps r m p → Turned r m p items) → Leads a (Round r) items (Round (suc r))
  one_round r items at turn time x h =
      let next = turn h.memory h.variables h.keeps in
      let before = standing Scanning h.memory h.variables start (counts r) in
      record {
        memory = next.memory;
        variables = next.variables;
        scene = (next.leads time x (beside_fresh a (suc r) (r + 2) before x at (omega arith) h.scene)).scene;
        keeps = next.keeps;
      }

  -- process 1 is about to answer, at this line and after so many double collects
  record Ready (end : P) (collects : ℕ) (x : State a) : Type 0 where
    memory : M
    variables : V
    lead : alone_of a x 1 ≡ standing Scanning memory variables end collects

  pub rounds_reach : (lines : Lines V P M) (listed : scans.Listed a lines) (end : P) (opening closing count : ℕ)
      (round : ℕ → List Item) (p : V) → count < a.shape.n →
      walk a 1 opening (standing Scanning a.first_memory a.first_variables (a.counter Scan) 0)
      ≡ standing Scanning a.first_memory p start (counts 0) → Keeps 0 a.first_memory p →
      ((r : ℕ) → suc r ≤ count → (m : M) (p : V) → Keeps r m p → Turned r m p (round r)) →
      ((m : M) (p : V) → Keeps count m p → (m' : M) × (p' : V)
      × (walk a 1 closing (standing Scanning m p start (counts count))
      ≡ standing Scanning m' p' end (suc (counts count)))) →
      ((m : M) (p : V) → a.move 1 Scanning m p end ≡ Answer (lines.answer p)) → (run : scans.Execution a lines) →
      run.items ≡ schedule round count opening closing → Reaches (suc (counts count)) (embed.run_of a run.items)
  rounds_reach lines listed end opening closing count round p less opens kept each closes answers run is =
      let one : IsOneOf a.shape.n 1 = (omega arith, omega arith) in
      let first = standing Scanning a.first_memory p start (counts 0) in
      let open_round : Leads a (λ x. x ≡ first_state a) (Call 1 Scan ∷ steps_of 1 opening) (Round 0) =
      λ time x at. record {
        memory = a.first_memory;
        variables = p;
        scene = opening_leads a one opening first opens time x at;
        keeps = kept;
      } in
      let close_round : Leads a (Round count) (steps_of 1 closing) (Ready end (suc (counts count))) =
      λ time x h.
      let last = closes h.memory h.variables h.keeps in
      let before = standing Scanning h.memory h.variables start (counts count) in
      let after = standing Scanning last.0 last.1 end (suc (counts count)) in
      record {
        memory = last.0;
        variables = last.1;
        lead = (lead_walks a one (suc count) closing before after (omega arith) last.2 time x h.scene).lead;
      } in
      let ready = schedule_leads a Round (Ready end (suc (counts count))) round count opening closing open_round
      (λ r le. one_round r (round r) (omega arith, omega arith) (each r le)) close_round in
      reaches a lines listed run (before_answer round count opening closing) 1 Scanning end ready.memory ready.variables
      (suc (counts count)) (lines.answer ready.variables) is one ready.lead (answers ready.memory ready.variables)
