-- From the call of an update to its end: what the proof remembers of its
-- process, its operation and its writes, is what the run's items say.
use Rattle.std.proofs.Common.{◌≡◌, ℕ, zero, suc, ◌+◌, ◌<◌, ◌≤◌, false, ◌&&◌, List, length}
use Rattle.std.proofs.Common.{nat_eq, if◌then◌else◌, refl, sym, ◌∙◌, ap, subst, arith, inl, inr}
use Rattle.std.proofs.Math.Nat.{eq-or-lt_of_le}
use Rattle.snap_runs.proofs.Common.{Op, Scan, Update, Item, Step, Call, Called}
use Rattle.snap_runs.proofs.Common.{Finished, Process, process_at, who, IsOneOf, Run, before, item, outcome}
use Rattle.snap_runs.specs.Scan.{count, steps}
use Rattle.snap_runs.specs.Update.{is_at, goes_on, executes, IsDone, PendingUpdate}
use Rattle.snap_runs.proofs.Algorithm.{Mode, Updating, op_of, mode_of, op_is, Control, Idle, At, Move, To, Begin}
use Rattle.snap_runs.proofs.Algorithm.{Answer, Finish, Auxiliary, TypedProcess, Algorithm, by_move, typed_at}
use Rattle.snap_runs.proofs.Algorithm.{outcome_of, item_at, typed_state, called_auxiliary, SameOp}
use Rattle.snap_runs.proofs.Computing.{same_number, and_true, from_there}
use Rattle.snap_runs.proofs.Embedding as embed
use Rattle.snap_runs.proofs.Counting.{count_none, count_next, count_not, add_one, inner_more}
use Rattle.snap_runs.proofs.ItemCases as cases
use Rattle.snap_runs.proofs.Steady.{Steady}

module _ {V P M : Type 0} (a : Algorithm V P M) where
  -- an update never answers
  abbrev pub NoAnswer : Move V P M → Type 0
  NoAnswer (Answer v) = ⊥
  NoAnswer _ = Unit {0}

  module _ (line : ℕ) (writes_is : (k : P) → (if nat_eq (a.number k) line then 1 else 0) ≡ a.writes k)
      (items : List Item) (fits : Steady (embed.run_of a items)) (does : embed.AllDo a items)
      (i : ℕ) (one : IsOneOf a.shape.n i)
      (silent : (t : ℕ) → t < length items → (d : Mode) (k : P) →
      (typed_at a (typed_state a items t) i).control ≡ At d k → (word value : ℕ) → op_of d ≡ Update word value →
      NoAnswer (a.move i d (typed_state a items t).memory (typed_at a (typed_state a items t) i).variables k)) where
    abbrev pub r : Run
    r = embed.run_of a items

    abbrev pub his : ℕ → TypedProcess V P M
    his t = typed_at a (typed_state a items t) i

    abbrev pub memory : ℕ → M
    memory t = (typed_state a items t).memory

    -- item c called this operation, and it is not done up to item t
    pub record Under (op : Op) (c t : ℕ) : Type 0 where
      pub call : item r c ≡ Call i op
      pub called : outcome r c ≡ Called
      pub first : 0 < c
      pub order : c ≤ t
      pub open_still : (u : ℕ) → c < u → u ≤ t → IsDone r i u → ⊥

    abbrev pub UnderAt : ℕ → TypedProcess V P M → Control P → Type 0
    UnderAt t q Idle = Unit {0}
    UnderAt t q (At d k) = Under (op_of d) q.auxiliary.called t

    longer : (op : Op) (c t : ℕ) → (IsDone r i (suc t) → ⊥) → Under op c t → Under op c (suc t)
    longer op c t not_done h = record {
      call = h.call;
      called = h.called;
      first = h.first;
      order = omega arith;
      open_still = λ u lt le done. elim (eq-or-lt_of_le le) [
        | inl same ↦ not_done (subst (λ y. IsDone r i y) same done)
        | inr less ↦ h.open_still u lt (omega arith) done
      ];
    }

    longer_at : (t : ℕ) (q : TypedProcess V P M) (control : Control P) → (IsDone r i (suc t) → ⊥) →
        UnderAt t q control → UnderAt (suc t) q control
    longer_at t q Idle not_done h = tt
    longer_at t q (At d k) not_done h = longer (op_of d) q.auxiliary.called t not_done h

    stepped_under : (t : ℕ) (d : Mode) (k : P) (v : Move V P M) → SameOp a d v →
        outcome r (suc t) ≡ outcome_of (by_move a (suc t) (memory t) (his t) k v) →
        Under (op_of d) (his t).auxiliary.called t →
        UnderAt (suc t) (cases.moved a (suc t) (his t) k v) (cases.moved a (suc t) (his t) k v).control
    stepped_under t d k (Answer v) same out h = tt
    stepped_under t d k Finish same out h = tt
    stepped_under t d k _ same out h =
        subst (λ (op : Op). Under op (his t).auxiliary.called (suc t)) (sym same)
        (longer (op_of d) (his t).auxiliary.called t (λ done. absurd (let e = sym done.1 ∙ out in cc)) h)

    called_at : (t : ℕ) (op : Op) (g : Auxiliary) → (called_auxiliary t op g).called ≡ t
    called_at t Scan g = refl
    called_at t (Update word value) g = refl

    -- a busy process is under the operation of its last call
    pub under : (t : ℕ) → t ≤ length items → UnderAt t (his t) (his t).control
    under zero h =
        subst (λ (q : TypedProcess V P M). UnderAt 0 q q.control) (sym (embed.first_process_is a i one)) tt
    under (suc t) h =
        let before = under t (omega arith) in
        let Next : TypedProcess V P M → Type 0 = λ q. UnderAt (suc t) q q.control in
        elim (cases.item_case a items fits does i one t (omega arith)) [
          | inl stays ↦ subst Next (sym stays.same)
              (longer_at t (his t) (his t).control
              (λ done. absurd (let e = sym done.1 ∙ (stays.skipped done.0).1 in cc)) before)
          | inr busy_or_called ↦ elim busy_or_called [
            | inl s ↦ subst Next (sym s.after)
                (stepped_under t s.mode s.counter (a.move i s.mode (memory t) (his t).variables s.counter) s.keeps
                s.outcome_is (subst (UnderAt t (his t)) s.control before))
            | inr c ↦ subst Next (sym c.after)
                (subst (λ y. Under (op_of (mode_of c.op)) y (suc t)) (sym (called_at (suc t) c.op (his t).auxiliary))
                (record {
                  call = c.item ∙ ap (λ (y : Op). Call i y) (sym (op_is c.op));
                  called = c.outcome_is;
                  first = omega arith;
                  order = omega arith;
                  open_still = λ u lt le. absurd (omega arith);
                }))
          ]
        ]

    -- at state t the update that was called at item c goes on
    pub record Going (word value c t : ℕ) : Type 0 where
      pub mode : Mode
      pub counter : P
      pub control : (his t).control ≡ At mode counter
      pub op : op_of mode ≡ Update word value
      pub wrote : (his t).auxiliary.wrote ≡ count (executes r i line) c t

    went : (word value c t : ℕ) (d : Mode) (k : P) (p : V) (g : Auxiliary) →
        his t ≡ record { control = At d k; variables = p; auxiliary = g } → op_of d ≡ Update word value →
        g.wrote ≡ count (executes r i line) c t → Going word value c t
    went word value c t d k p g now op wrote = record {
      mode = d;
      counter = k;
      control = ap (λ (q : TypedProcess V P M). q.control) now;
      op = op;
      wrote = ap (λ (q : TypedProcess V P M). q.auxiliary.wrote) now ∙ wrote;
    }

    same_going : (word value c t : ℕ) → c ≤ t → his (suc t) ≡ his t → steps i (item_at items t) ≡ false →
        Going word value c t → Going word value c (suc t)
    same_going word value c t le same none g = record {
      mode = g.mode;
      counter = g.counter;
      control = ap (λ (q : TypedProcess V P M). q.control) same ∙ g.control;
      op = g.op;
      wrote = ap (λ (q : TypedProcess V P M). q.auxiliary.wrote) same ∙ g.wrote
          ∙ sym (count_not (executes r i line) c t le
          (ap (λ b. b && (is_at line (process_at (before r (suc t)) i).status && goes_on (outcome r (suc t)))) none));
    }

    -- one more item of the process at a line
    pub line_counts : (t c : ℕ) (d : Mode) (k : P) → c ≤ t → t < length items → item_at items t ≡ Step i →
        (his t).control ≡ At d k → count (executes r i line) c (suc t) ≡ count (executes r i line) c t + a.writes k
    line_counts t c d k le short is at =
        let there = is_at line (process_at (before r (suc t)) i).status in
        let stands : there ≡ nat_eq (a.number k) line =
        ap (λ (p : Process). is_at line p.status) (embed.busy_at a items fits does t i d k (omega arith) one at) in
        let on : (there && goes_on (outcome r (suc t))) ≡ nat_eq (a.number k) line =
        ap (λ b. there && b) (embed.goes a items fits does t short) ∙ and_true there ∙ stands in
        count_next (executes r i line) c t le
        ∙ ap (λ b. if b && (there && goes_on (outcome r (suc t))) then suc (count (executes r i line) c t)
        else count (executes r i line) c t) (ap (steps i) is ∙ same_number i)
        ∙ ap (λ b. if b then suc (count (executes r i line) c t) else count (executes r i line) c t) on
        ∙ add_one (nat_eq (a.number k) line) (count (executes r i line) c t)
        ∙ ap (λ y. count (executes r i line) c t + y) (writes_is k)

    stepped_going : (word value c t : ℕ) (d : Mode) (k : P) (v : Move V P M) → c ≤ t → t < length items →
        item_at items t ≡ Step i → SameOp a d v → NoAnswer v → (his t).control ≡ At d k →
        op_of d ≡ Update word value → (outcome_of (by_move a (suc t) (memory t) (his t) k v) ≡ Finished → ⊥) →
        his (suc t) ≡ cases.moved a (suc t) (his t) k v → Going word value c t → Going word value c (suc t)
    stepped_going word value c t d k (To d' m' p' k') le short is same silence at op still after g =
        went word value c (suc t) d' k' p' _ after (same ∙ op)
        (ap (λ y. y + a.writes k) g.wrote ∙ sym (line_counts t c d k le short is at))
    stepped_going word value c t d k (Begin d' p' k') le short is same silence at op still after g =
        went word value c (suc t) d' k' p' _ after (same ∙ op)
        (ap (λ y. y + a.writes k) g.wrote ∙ sym (line_counts t c d k le short is at))
    stepped_going word value c t d k (Answer v) le short is same silence at op still after g = absurd silence
    stepped_going word value c t d k Finish le short is same silence at op still after g = absurd (still refl)

    next_going : (word value c e t : ℕ) → PendingUpdate r i word value c e → c ≤ t → suc t < e →
        Going word value c t → Going word value c (suc t)
    next_going word value c e t up le lt g =
        let short : t < length items = omega arith in
        elim (cases.item_case a items fits does i one t short) [
          | inl stays ↦ same_going word value c t le stays.same
              (cases.no_step a items fits does i one t g.mode g.counter stays g.control) g
          | inr busy_or_called ↦ elim busy_or_called [
            | inl s ↦ (let op : op_of s.mode ≡ Update word value =
                (let there : At g.mode g.counter ≡ At s.mode s.counter = sym g.control ∙ s.control in
                let mode : g.mode ≡ s.mode = cc in ap op_of (sym mode) ∙ g.op) in
                stepped_going word value c t s.mode s.counter
                (a.move i s.mode (memory t) (his t).variables s.counter) le short s.item s.keeps
                (silent t short s.mode s.counter s.control word value op) s.control op
                (λ out. up.goes_on (suc t) (omega arith) lt (ap who s.item, s.outcome_is ∙ out)) s.after g)
            | inr call ↦ absurd (let e = sym call.idle ∙ g.control in cc)
          ]
        ]

    first_going : (word value c : ℕ) → 0 < c → c ≤ length items → item r c ≡ Call i (Update word value) →
        outcome r c ≡ Called → Going word value c c
    first_going word value zero pos short is out = absurd (omega arith)
    first_going word value (suc c) pos short is out =
        went word value (suc c) (suc c) (Updating word value) (a.counter (Update word value)) (his c).variables _
        (cases.called a items fits does i one c (Update word value) (omega arith) is out) refl
        (sym (count_none (executes r i line) (suc c) (suc c) (omega arith)))

    pub going : (word value c e t : ℕ) → PendingUpdate r i word value c e → c ≤ t → t < e → Going word value c t
    going word value c e t up le lt =
        from_there (Going word value c) c t le (first_going word value c up.first (omega arith) up.call up.called)
        (λ u low high g. next_going word value c e u up low (omega arith) g)

    pub line_at_most : (t c : ℕ) (d : Mode) (k : P) → c ≤ t → t ≤ length items → (his t).control ≡ At d k →
        count (executes r i line) c (suc t) ≤ count (executes r i line) c t + a.writes k
    line_at_most t c d k le short at =
        let b = is_at line (process_at (before r (suc t)) i).status in
        let on = goes_on (outcome r (suc t)) in
        let stands : b ≡ nat_eq (a.number k) line =
        ap (λ (p : Process). is_at line p.status) (embed.busy_at a items fits does t i d k short one at) in
        let one_if : (if b then 1 else 0) ≡ a.writes k = ap (λ y. if y then 1 else 0) stands ∙ writes_is k in
        subst (λ y. y ≤ count (executes r i line) c t + a.writes k) (sym (count_next (executes r i line) c t le))
        (subst (λ y.
        (if steps i (item r (suc t)) && (b && on) then suc (count (executes r i line) c t)
        else count (executes r i line) c t)
        ≤ count (executes r i line) c t + y) one_if
        (inner_more (steps i (item r (suc t))) b on (count (executes r i line) c t)))

    pub none_yet : (c e : ℕ) → e ≤ c → count (executes r i line) c e ≡ 0
    none_yet c e h = count_none (executes r i line) c e h
