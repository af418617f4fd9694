-- Scenes of a schedule: what process 1 is at, and which processes have not been called; and how items lead from one
-- to another.
use Rattle.std.specs.Prelude.{◌≡◌, ◌≢◌, ℕ, zero, suc, ◌+◌, ◌<◌, ◌≤◌, List, [], ◌∷◌, ◌++◌, length, None, refl}
use Rattle.std.proofs.Common.{sym, ◌∙◌, ap, subst, arith}
use Rattle.snap_runs.proofs.Common.{IsOneOf, Item, Call, Op, Scan, Update}
use Rattle.snap_semantics.specs.Table.{call_skip}
use Rattle.snap_runs.proofs.Algorithm.{Scanning, Idle, TypedProcess, Algorithm, first_state, typed_at, happens}
use Rattle.snap_runs.proofs.Embedding as embed
use Rattle.snap_runs_sharp.specs.Schedules.{steps_of, update_by, round_with, rounds, before_answer}
use Rattle.snap_runs_sharp.proofs.Alone.{Seat, Alone, State, seated, placed, seat_of, standing, idling, walk}
use Rattle.snap_runs_sharp.proofs.Alone.{after_call, alone_of, run_from, steps_alone, call_alone}

module _ {V P M : Type 0} (a : Algorithm V P M) where
  -- from a state of which this holds the items lead to one of which that holds
  abbrev pub Leads : (State a → Type 0) → List Item → (State a → Type 0) → Type 0
  Leads From items To = (time : ℕ) (x : State a) → From x → To (run_from a time x items)

  run_append : (time : ℕ) (x : State a) (xs ys : List Item) →
      run_from a time x (xs ++ ys) ≡ run_from a (time + length xs) (run_from a time x xs) ys
  run_append time x [] ys = ap (λ t. run_from a t x ys) (let e : time ≡ time + zero = omega arith in e)
  run_append time x (y ∷ xs) ys =
      run_append (suc time) (happens a (suc time) x y) xs ys
      ∙ ap (λ t. run_from a t (run_from a time x (y ∷ xs)) ys)
      (let e : suc time + length xs ≡ time + suc (length xs) = omega arith in e)

  pub leads_on : (From Between To : State a → Type 0) (xs ys : List Item) → Leads From xs Between →
      Leads Between ys To → Leads From (xs ++ ys) To
  leads_on From Between To xs ys first second time x h =
      subst To (sym (run_append time x xs ys)) (second (time + length xs) (run_from a time x xs) (first time x h))

  -- round after round
  leads_rounds : (At : ℕ → State a → Type 0) (round : ℕ → List Item) (count : ℕ) →
      ((r : ℕ) → suc r ≤ count → Leads (At r) (round r) (At (suc r))) → Leads (At 0) (rounds round count) (At count)
  leads_rounds At round zero each time x h = h
  leads_rounds At round (suc count) each time x h =
      leads_on (At 0) (At count) (At (suc count)) (rounds round count) (round count)
      (leads_rounds At round count (λ r le. each r (omega arith))) (each count (omega arith)) time x h

  -- a whole schedule, up to its answer
  pub schedule_leads : (At : ℕ → State a → Type 0) (Ready : State a → Type 0) (round : ℕ → List Item)
      (count opening closing : ℕ) → Leads (λ x. x ≡ first_state a) (Call 1 Scan ∷ steps_of 1 opening) (At 0) →
      ((r : ℕ) → suc r ≤ count → Leads (At r) (round r) (At (suc r))) → Leads (At count) (steps_of 1 closing) Ready →
      Ready (run_from a 0 (first_state a) (before_answer round count opening closing))
  schedule_leads At Ready round count opening closing opens each closes =
      leads_on (λ x. x ≡ first_state a) (At 0) Ready (Call 1 Scan ∷ steps_of 1 opening)
      (rounds round count ++ steps_of 1 closing) opens
      (leads_on (At 0) (At count) Ready (rounds round count) (steps_of 1 closing)
      (leads_rounds At round count each) closes)
      0 (first_state a) refl

  -- a process that has not been called
  abbrev pub first_seat : Seat V P
  first_seat = seated Idle a.first_variables 0

  -- process 1 is so, and no process above r has been called
  pub record Scene (r : ℕ) (y : Alone V P M) (x : State a) : Type 0 where
    pub count : length x.processes ≡ a.shape.n
    pub lead : alone_of a x 1 ≡ y
    pub fresh : (k : ℕ) → IsOneOf a.shape.n k → r < k → seat_of (typed_at a x k) ≡ first_seat

  -- process 1 is at a scene, and process i at a seat
  pub record Beside (r i : ℕ) (y : Alone V P M) (q : Seat V P) (x : State a) : Type 0 where
    pub scene : Scene r y x
    pub seat : seat_of (typed_at a x i) ≡ q

  pub beside_fresh : (r i : ℕ) (y : Alone V P M) (x : State a) → IsOneOf a.shape.n i → i ≡ suc r →
      Scene r y x → Beside (suc r) i y first_seat x
  beside_fresh r i y x one next h =
      record {
        scene = record { count = h.count; lead = h.lead; fresh = λ k at more. h.fresh k at (omega arith) };
        seat = h.fresh i one (omega arith);
      }

  module _ (one : IsOneOf a.shape.n 1) where
    -- process 1 takes steps
    pub lead_walks : (r s : ℕ) (y z : Alone V P M) → 1 ≤ r → walk a 1 s y ≡ z →
        Leads (Scene r y) (steps_of 1 s) (Scene r z)
    lead_walks r s y z le goes time x h =
        let after = steps_alone a 1 one time s x h.count in
        record {
          count = after.0.count;
          lead = after.1 ∙ ap (walk a 1 s) h.lead ∙ goes;
          fresh = λ k at more. ap seat_of (after.0.others k at (λ same. absurd (omega arith))) ∙ h.fresh k at more;
        }

    -- process 1 takes steps, and process i does not
    beside_walks : (r i s : ℕ) (y z : Alone V P M) (q : Seat V P) → IsOneOf a.shape.n i → 1 < i → i ≤ r →
        walk a 1 s y ≡ z → Leads (Beside r i y q) (steps_of 1 s) (Beside r i z q)
    beside_walks r i s y z q at other le goes time x h =
        let after = steps_alone a 1 one time s x h.scene.count in
        record {
          scene = lead_walks r s y z (omega arith) goes time x h.scene;
          seat = ap seat_of (after.0.others i at (λ same. absurd (omega arith))) ∙ h.seat;
        }

    -- another process makes an update
    update_walks : (r i word s : ℕ) (y : Alone V P M) (q q' : Seat V P) (m' : M) → IsOneOf a.shape.n i →
        1 < i → i ≤ r → q.control ≡ Idle → call_skip a.source.kind a.shape i (Update word i) ≡ None →
        walk a i s (after_call a (Update word i) (placed y.memory q)) ≡ placed m' q' →
        Leads (Beside r i y q) (update_by i word s) (Beside r i (placed m' y.seat) q')
    update_walks r i word s y q q' m' at other le idle admit goes time x h =
        let op : Op = Update word i in
        let idle_at : (typed_at a x i).control ≡ Idle = ap (λ (z : Seat V P). z.control) h.seat ∙ idle in
        let called = call_alone a i at time x op h.scene.count idle_at admit in
        let after = steps_alone a i at (suc time) s (run_from a time x (Call i op ∷ [])) called.0.count in
        let before : alone_of a x i ≡ placed y.memory q =
        ap (λ m. placed m (seat_of (typed_at a x i))) (ap (λ (z : Alone V P M). z.memory) h.scene.lead)
        ∙ ap (placed y.memory) h.seat in
        let next = run_from a time x (update_by i word s) in
        let becomes : alone_of a next i ≡ placed m' q' =
        after.1 ∙ ap (walk a i s) (called.1 ∙ ap (after_call a op) before) ∙ goes in
        let same : (k : ℕ) → IsOneOf a.shape.n k → k ≢ i → seat_of (typed_at a next k) ≡ seat_of (typed_at a x k) =
        λ k one_k differ. ap seat_of (after.0.others k one_k differ ∙ called.0.others k one_k differ) in
        let lead_seat : seat_of (typed_at a next 1) ≡ y.seat =
        same 1 one (λ e. absurd (omega arith)) ∙ ap (λ (z : Alone V P M). z.seat) h.scene.lead in
        record {
          scene = record {
            count = after.0.count;
            lead =
                ap (λ m. placed m (seat_of (typed_at a next 1))) (ap (λ (z : Alone V P M). z.memory) becomes)
                ∙ ap (placed m') lead_seat;
            fresh = λ k one_k more. same k one_k (λ e. absurd (omega arith)) ∙ h.scene.fresh k one_k more;
          };
          seat = ap (λ (z : Alone V P M). z.seat) becomes;
        }

    -- a round: process 1 takes steps, process i makes an update, and process 1 takes steps again
    pub round_leads : (r i word first update second : ℕ) {before between after : Alone V P M}
        {q q' : Seat V P} {m' : M} → IsOneOf a.shape.n i → 1 < i → i ≤ r → q.control ≡ Idle →
        call_skip a.source.kind a.shape i (Update word i) ≡ None → walk a 1 first before ≡ between →
        walk a i update (after_call a (Update word i) (placed between.memory q)) ≡ placed m' q' →
        walk a 1 second (placed m' between.seat) ≡ after →
        Leads (Beside r i before q) (round_with i word first update second) (Beside r i after q')
    round_leads r i word first update second {before} {between} {after} {q} {q'} {m'} at other le idle admit
        one_walks other_walks one_goes_on =
        let beyond : Alone V P M = placed m' between.seat in
        leads_on (Beside r i before q) (Beside r i between q) (Beside r i after q') (steps_of 1 first)
        (update_by i word update ++ steps_of 1 second)
        (beside_walks r i first before between q at other le one_walks)
        (leads_on (Beside r i between q) (Beside r i beyond q') (Beside r i after q')
        (update_by i word update) (steps_of 1 second)
        (update_walks r i word update between q q' m' at other le idle admit other_walks)
        (beside_walks r i second beyond after q' at other le one_goes_on))

    -- the call of process 1, and its first steps
    pub opening_leads : (s : ℕ) (y : Alone V P M) →
        walk a 1 s (standing Scanning a.first_memory a.first_variables (a.counter Scan) 0) ≡ y →
        Leads (λ x. x ≡ first_state a) (Call 1 Scan ∷ steps_of 1 s) (Scene 1 y)
    opening_leads s y goes time x is =
        let start = first_state a in
        let idle : alone_of a start 1 ≡ idling a.first_memory a.first_variables 0 =
        ap (λ (q : TypedProcess V P M). placed a.first_memory (seat_of q)) (embed.first_process_is a 1 one) in
        let called = call_alone a 1 one time start Scan (embed.count a [] 0)
        (ap (λ (z : Alone V P M). z.seat.control) idle) refl in
        subst (λ z. Scene 1 y (run_from a time z (Call 1 Scan ∷ steps_of 1 s))) (sym is)
        (lead_walks 1 s (standing Scanning a.first_memory a.first_variables (a.counter Scan) 0) y (omega arith) goes
        (suc time) (run_from a time start (Call 1 Scan ∷ [])) (record {
          count = called.0.count;
          lead = called.1 ∙ ap (after_call a Scan) idle;
          fresh = λ k at more.
              ap seat_of (called.0.others k at (λ same. absurd (omega arith)) ∙ embed.first_process_is a k at);
        }))
