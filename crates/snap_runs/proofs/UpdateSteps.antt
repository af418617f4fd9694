-- A bound on the own steps of an update of any algorithm: those
-- of its lines outside its embedded scan, and those of the scan.
use Rattle.std.proofs.Common.{◌≡◌, ℕ, zero, suc, ◌+◌, ◌<◌, ◌≤◌, ◌⊎◌, Bool, true, false, List, length}
use Rattle.std.proofs.Common.{if◌then◌else◌, refl, sym, ◌∙◌, ap, subst, arith, inl, inr}
use Rattle.std.proofs.Math.Nat.{eq-or-lt_of_le}
use Rattle.snap_runs.proofs.Common.{IsOneOf, who, Item, Call, Update, Called, Finished, Run, item, outcome}
use Rattle.snap_runs.specs.Scan.{steps, own_steps, takes_step}
use Rattle.snap_runs.specs.Update.{PendingUpdate}
use Rattle.snap_runs.proofs.Algorithm.{Mode, Scanning, Embedded, Updating, op_of, Control, At, Move, To, Begin, Answer}
use Rattle.snap_runs.proofs.Algorithm.{Finish, Auxiliary, TypedProcess, Algorithm, by_move, typed_at, outcome_of}
use Rattle.snap_runs.proofs.Algorithm.{item_at, typed_state, stepped_auxiliary, begun_auxiliary, called_auxiliary}
use Rattle.snap_runs.proofs.Computing.{from_there}
use Rattle.snap_runs.proofs.Counting.{count_none, own_next, own_same}
use Rattle.snap_runs.proofs.Embedding as embed
use Rattle.snap_runs.proofs.Flow as flow
use Rattle.snap_runs.proofs.Flow.{Lines, IsInScan}
use Rattle.snap_runs.proofs.Scans as scans
use Rattle.snap_runs.proofs.ItemCases as cases

module _ {V P M : Type 0} (a : Algorithm V P M) (lines : Lines V P M) where
  -- How many steps an update has ahead at a line of its own, outside its scan; whether the scan is behind it; and how
  -- many steps it has ahead when the scan returns, and when it is called.
  pub record Ahead : Type 0 where
    pub ahead : V → P → ℕ
    pub scanned : P → Bool
    pub rest : ℕ
    pub total : ℕ

  -- what an update's own line does to that
  abbrev pub Nearer : Ahead → V → P → Move V P M → Type 0
  Nearer h p k (To d m p' k') = (h.ahead p' k' + 1 ≤ h.ahead p k) × (h.scanned k' ≡ h.scanned k)
  Nearer h p k (Begin d p' k') = (h.rest + 1 ≤ h.ahead p k) × (h.scanned k ≡ false)
  Nearer h p k _ = 1 ≤ h.ahead p k

  -- what a line that returns from the embedded scan does to the steps ahead
  abbrev pub Resumes : Ahead → Move V P M → Type 0
  Resumes h (To (Updating word value) m p k) = (h.ahead p k ≤ h.rest) × (h.scanned k ≡ true)
  Resumes h (To d m p k) = Unit {0}
  Resumes h (Begin d p k) = Unit {0}
  Resumes h (Answer v) = Unit {0}
  Resumes h Finish = Unit {0}

  -- each line of an update has at least its own step ahead
  pub own_step : (h : Ahead) (p : V) (k : P) (v : Move V P M) → Nearer h p k v → 1 ≤ h.ahead p k
  own_step h p k (To d m p' k') n = let le : h.ahead p' k' + 1 ≤ h.ahead p k = n.0 in omega arith
  own_step h p k (Begin d p' k') n = omega arith
  own_step h p k _ n = n

  -- What an update has spent with what it has ahead: the steps of its scan count once the scan is made, and until
  -- then those that it has taken.
  abbrev pub Spending : Ahead → ℕ → ℕ → V → Auxiliary → Control P → Type 0
  Spending h scan own p g (At (Embedded word value) k) = own + h.rest ≤ h.total + g.own
  Spending h scan own p g (At (Updating word value) k) = own + h.ahead p k ≤ h.total + (if h.scanned k then scan else 0)
  Spending h scan own p g _ = Unit {0}

  module _ (run : scans.Execution a lines) (h : Ahead) (scan : ℕ) (i : ℕ) (one : IsOneOf a.shape.n i)
      -- what the lines of an update do, and those that return
      (nearer : (t : ℕ) (word value : ℕ) (k : P) → t < length run.items →
      (typed_at a (typed_state a run.items t) i).control ≡ At (Updating word value) k →
      Nearer h (typed_at a (typed_state a run.items t) i).variables k (a.move i (Updating word value)
      (typed_state a run.items t).memory (typed_at a (typed_state a run.items t) i).variables k))
      (resumes : (word value : ℕ) (m : M) (p : V) (k : P) → lines.IsReturn k →
      Resumes h (a.move i (Embedded word value) m p k))
      -- a scan has one more step within its bound
      (within : (t : ℕ) (d : Mode) (k : P) → t ≤ length run.items →
      (typed_at a (typed_state a run.items t) i).control ≡ At d k → IsInScan d →
      (typed_at a (typed_state a run.items t) i).auxiliary.own + 1 ≤ scan)
      -- the steps ahead where an update begins
      (begins : (p : V) (word value : ℕ) → (h.ahead p (a.counter (Update word value)) ≤ h.total)
      × (h.scanned (a.counter (Update word value)) ≡ false)) where
    abbrev items : List Item
    items = run.items

    abbrev r : Run
    r = embed.run_of a items

    abbrev his : ℕ → TypedProcess V P M
    his t = typed_at a (typed_state a items t) i

    abbrev memory : ℕ → M
    memory t = (typed_state a items t).memory

    -- at state t the update that was called at item c is busy, and keeps within what it may spend
    record Spent (word value c t : ℕ) : Type 0 where
      mode : Mode
      counter : P
      control : (his t).control ≡ At mode counter
      op : op_of mode ≡ Update word value
      spent : Spending h scan (own_steps r i c t) (his t).variables (his t).auxiliary (At mode counter)

    became : (word value c t : ℕ) (d : Mode) (k : P) (p : V) (g : Auxiliary) →
        his t ≡ record { control = At d k; variables = p; auxiliary = g } → op_of d ≡ Update word value →
        Spending h scan (own_steps r i c t) p g (At d k) → Spent word value c t
    became word value c t d k p g now op spent = record {
      mode = d;
      counter = k;
      control = ap (λ (q : TypedProcess V P M). q.control) now;
      op = op;
      spent =
          subst (λ (q : TypedProcess V P M). Spending h scan (own_steps r i c t) q.variables q.auxiliary (At d k))
          (sym now) spent;
    }

    -- the process stays as it is
    same_spent : (word value c t : ℕ) → c ≤ t → his (suc t) ≡ his t → steps i (item_at items t) ≡ false →
        Spent word value c t → Spent word value c (suc t)
    same_spent word value c t le same none g = record {
      mode = g.mode;
      counter = g.counter;
      control = ap (λ (q : TypedProcess V P M). q.control) same ∙ g.control;
      op = g.op;
      spent =
          subst (λ (q : TypedProcess V P M).
          Spending h scan (own_steps r i c (suc t)) q.variables q.auxiliary (At g.mode g.counter)) (sym same)
          (subst (λ y. Spending h scan y (his t).variables (his t).auxiliary (At g.mode g.counter))
          (sym (own_same r i c t le none)) g.spent);
    }

    -- what a step of the scan leaves to be spent
    after_scan : (own own' word value : ℕ) (k : P) (g : Auxiliary) (d' : Mode) (m' : M) (p' : V) (k' : P) (time : ℕ) →
        own' ≤ own + 1 → g.own + 1 ≤ scan → own + h.rest ≤ h.total + g.own →
        ((d' ≡ Embedded word value) ⊎ ((d' ≡ Updating word value) × Resumes h (To d' m' p' k'))) →
        Spending h scan own' p' (stepped_auxiliary a k time g) (At d' k')
    after_scan own own' word value k g d' m' p' k' time more few spent (inl same) =
        subst (λ y. Spending h scan own' p' (stepped_auxiliary a k time g) (At y k')) (sym same) (omega arith)
    after_scan own own' word value k g d' m' p' k' time more few spent (inr back) =
        let resumed : Resumes h (To (Updating word value) m' p' k') =
        subst (λ y. Resumes h (To y m' p' k')) back.0 back.1 in
        subst (λ y. Spending h scan own' p' (stepped_auxiliary a k time g) (At y k')) (sym back.0)
        (subst (λ b. own' + h.ahead p' k' ≤ h.total + (if b then scan else 0)) (sym resumed.1) (omega arith))

    -- a step of the process, which does not end the update
    stepped : (word value c t : ℕ) (d : Mode) (k : P) (v : Move V P M) → c ≤ t →
        t < length items → (his t).control ≡ At d k → op_of d ≡ Update word value →
        a.move i d (memory t) (his t).variables k ≡ v →
        (outcome_of (by_move a (suc t) (memory t) (his t) k v) ≡ Finished → ⊥) →
        his (suc t) ≡ cases.moved a (suc t) (his t) k v → flow.Flows lines a d (memory t) (his t).variables k v →
        Spending h scan (own_steps r i c t) (his t).variables (his t).auxiliary (At d k) → Spent word value c (suc t)
    stepped word value c t Scanning k v le short at op is still after flows spent = absurd (cc)
    stepped word value c t (Embedded w x) k (To d' m' p' k') le short at op is still after flows spent =
        let resumed : (d' ≡ Embedded w x) ⊎ ((d' ≡ Updating w x) × Resumes h (To d' m' p' k')) =
        elim flows.2 [
          | inl same ↦ inl same.0
          | inr back ↦ inr (back.0, subst (Resumes h) is (resumes w x (memory t) (his t).variables k back.1))
        ] in
        became word value c (suc t) d' k' p' (stepped_auxiliary a k (suc t) (his t).auxiliary) after
        (elim resumed [ inl same ↦ ap op_of same ∙ op | inr back ↦ ap op_of back.0 ∙ op ])
        (after_scan (own_steps r i c t) (own_steps r i c (suc t)) w x k (his t).auxiliary d' m' p' k' (suc t)
        (own_next r i c t le) (within t (Embedded w x) k (omega arith) at tt) spent resumed)
    stepped word value c t (Updating w x) k (To d' m' p' k') le short at op is still after flows spent =
        let n : Nearer h (his t).variables k (To d' m' p' k') =
        subst (Nearer h (his t).variables k) is (nearer t w x k short at) in
        let left : own_steps r i c (suc t) + h.ahead p' k' ≤ h.total + (if h.scanned k' then scan else 0) =
        (let more = own_next r i c t le in
        subst (λ b. own_steps r i c (suc t) + h.ahead p' k' ≤ h.total + (if b then scan else 0)) (sym n.1)
        (omega arith)) in
        became word value c (suc t) d' k' p' (stepped_auxiliary a k (suc t) (his t).auxiliary) after
        (ap op_of flows.1 ∙ op)
        (subst (λ y. Spending h scan (own_steps r i c (suc t)) p'
        (stepped_auxiliary a k (suc t) (his t).auxiliary) (At y k')) (sym flows.1) left)
    stepped word value c t (Updating w x) k (Begin d' p' k') le short at op is still after flows spent =
        let n : Nearer h (his t).variables k (Begin d' p' k') =
        subst (Nearer h (his t).variables k) is (nearer t w x k short at) in
        let left : own_steps r i c (suc t) + h.rest ≤ h.total + 0 =
        (let more = own_next r i c t le in
        let before : own_steps r i c t + h.ahead (his t).variables k ≤ h.total + 0 =
        subst (λ b. own_steps r i c t + h.ahead (his t).variables k ≤ h.total + (if b then scan else 0)) n.1 spent in
        omega arith) in
        became word value c (suc t) d' k' p' (begun_auxiliary a k (suc t) (his t).auxiliary) after
        (ap op_of flows.0 ∙ op)
        (subst (λ y. Spending h scan (own_steps r i c (suc t)) p'
        (begun_auxiliary a k (suc t) (his t).auxiliary) (At y k')) (sym flows.0) left)
    stepped word value c t (Updating w x) k Finish le short at op is still after flows spent = absurd (still refl)
    stepped word value c t _ k _ le short at op is still after flows spent = absurd flows

    next_spent : (word value c e t : ℕ) → PendingUpdate r i word value c e → c ≤ t → suc t < e →
        Spent word value c t → Spent word value c (suc t)
    next_spent word value c e t up le lt g =
        let short : t < length items = omega arith in
        elim (cases.item_case a items run.fits run.does i one t short) [
          | inl stays ↦ same_spent word value c t le stays.same
              (cases.no_step a items run.fits run.does i one t g.mode g.counter stays g.control) g
          | inr busy_or_called ↦ elim busy_or_called [
            | inl s ↦ (let there : At g.mode g.counter ≡ At s.mode s.counter = sym g.control ∙ s.control in
                let mode : g.mode ≡ s.mode = cc in
                stepped word value c t s.mode s.counter
                (a.move i s.mode (memory t) (his t).variables s.counter) le short s.control (ap op_of (sym mode) ∙ g.op)
                refl (λ out. up.goes_on (suc t) (omega arith) lt (ap who s.item, s.outcome_is ∙ out)) s.after
                (subst (scans.FlowsAt a lines i (memory t) (his t).variables) s.control (run.flows t i short one))
                (subst (Spending h scan (own_steps r i c t) (his t).variables (his t).auxiliary) there g.spent))
            | inr call ↦ absurd (let e = sym call.idle ∙ g.control in cc)
          ]
        ]

    -- at its call nothing is spent
    first_spent : (word value c : ℕ) → 0 < c → c ≤ length items → item r c ≡ Call i (Update word value) →
        outcome r c ≡ Called → Spent word value c c
    first_spent word value zero pos short is out = absurd (omega arith)
    first_spent word value (suc c) pos short is out =
        let new = cases.called a items run.fits run.does i one c (Update word value) (omega arith) is out in
        let b = begins (his c).variables word value in
        let none : own_steps r i (suc c) (suc c) ≡ 0 = count_none (takes_step r i) (suc c) (suc c) (omega arith) in
        became word value (suc c) (suc c) (Updating word value) (a.counter (Update word value)) (his c).variables
        (called_auxiliary (suc c) (Update word value) (his c).auxiliary) new refl
        (subst (λ y. own_steps r i (suc c) (suc c) + h.ahead (his c).variables (a.counter (Update word value))
        ≤ h.total + (if y then scan else 0)) (sym b.1) (omega arith))

    spent_at : (word value c e t : ℕ) → PendingUpdate r i word value c e → c ≤ t → t < e → Spent word value c t
    spent_at word value c e t up le lt =
        from_there (Spent word value c) c t le (first_spent word value c up.first (omega arith) up.call up.called)
        (λ u low high g. next_spent word value c e u up low (omega arith) g)

    -- a busy update has room for one more step
    one_step_left : (word value c t : ℕ) (d : Mode) (k : P) → t < length items →
        (his t).control ≡ At d k → op_of d ≡ Update word value →
        Spending h scan (own_steps r i c t) (his t).variables (his t).auxiliary (At d k) →
        own_steps r i c t + 1 ≤ h.total + scan
    one_step_left word value c t Scanning k short at op spent = absurd (cc)
    one_step_left word value c t (Embedded w x) k short at op spent =
        let few = within t (Embedded w x) k (omega arith) at tt in
        omega arith
    one_step_left word value c t (Updating w x) k short at op spent =
        let own = own_step h (his t).variables k
        (a.move i (Updating w x) (memory t) (his t).variables k) (nearer t w x k short at) in
        at_most_scan (h.scanned k) spent own
      where
        at_most_scan : (b : Bool) → own_steps r i c t + h.ahead (his t).variables k
            ≤ h.total + (if b then scan else 0) → 1 ≤ h.ahead (his t).variables k →
            own_steps r i c t + 1 ≤ h.total + scan
        at_most_scan true spent own = omega arith
        at_most_scan false spent own = omega arith

    -- An update, finished or not, takes at most so many steps of its process.
    pub update_steps : (word value c e : ℕ) → PendingUpdate r i word value c e → own_steps r i c e ≤ h.total + scan
    update_steps word value c zero up = omega arith
    update_steps word value c (suc t) up =
        elim (eq-or-lt_of_le up.order) [
          | inl same ↦
              (let none : own_steps r i c (suc t) ≡ 0 = count_none (takes_step r i) c (suc t) (omega arith) in
              omega arith)
          | inr more ↦ (let g = spent_at word value c (suc t) t up (omega arith) (omega arith) in
              let left = one_step_left word value c t g.mode g.counter (omega arith) g.control g.op g.spent in
              let next = own_next r i c t (omega arith) in omega arith)
        ]
