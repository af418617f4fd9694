-- From the start of a scan to its end: what the proof remembers of its
-- process, its own steps and its double collects, is what the run's items say.
use Rattle.std.proofs.Common.{◌≡◌, ℕ, zero, suc, ◌+◌, ◌<◌, ◌≤◌, ◌⊎◌, Bool, true, false, ◌&&◌, List, length, Option}
use Rattle.std.proofs.Common.{Some, None, if◌then◌else◌, refl, sym, ◌∙◌, ap, subst, arith, inl, inr}
use Rattle.snap_semantics.specs.Source.{instr_at}
use Rattle.snap_runs.proofs.Common.{Scan, Item, Step, Call, Outcome, Called, Stepped, Process, process_at}
use Rattle.snap_runs.proofs.Common.{who, IsOneOf, Run, state, before, item, outcome}
use Rattle.snap_runs.specs.Scan.{line_in, link_in, IsCallLine, ReturnsView, Starts, PendingScan, steps, is_if_all}
use Rattle.snap_runs.specs.Scan.{is_stepped, is_not_skipped, ends_double_collect}
use Rattle.snap_runs.specs.Scan.{takes_step, double_collects, own_steps}
use Rattle.snap_runs.proofs.Algorithm.{Mode, Scanning, op_of, link_of, mode_of, op_is, link_is, Control, Idle, At, Move}
use Rattle.snap_runs.proofs.Algorithm.{To, Begin, Answer, embedding, TypedProcess, Algorithm, by_move, typed_at}
use Rattle.snap_runs.proofs.Algorithm.{outcome_of, item_at, typed_state, status_of, Auxiliary, begun_auxiliary}
use Rattle.snap_runs.proofs.Algorithm.{called_auxiliary}
use Rattle.snap_runs.proofs.Counting.{count_none, count_next, count_not, add_one, inner_more, own_same}
use Rattle.snap_runs.proofs.Counting.{own_next as own_more}
use Rattle.snap_runs.proofs.Computing.{same_number, and_true, from_there}
use Rattle.snap_runs.proofs.ItemCases as cases
use Rattle.snap_runs.proofs.Embedding as embed
use Rattle.snap_runs.proofs.Steady.{Steady}

module _ {V P M : Type 0} (a : Algorithm V P M) where
  -- in a scan with this link
  abbrev pub Inside : Option ℕ → Mode → Type 0
  Inside None d = (link_of a.back d ≡ None) × (op_of d ≡ Scan)
  Inside (Some l) d = link_of a.back d ≡ Some l

  -- an embedded scan is at a line that returns
  abbrev pub ReturnsAt : Option ℕ → P → V → Type 0
  ReturnsAt None k p = ⊥
  ReturnsAt (Some l) k p = (v : List ℕ) × ReturnsView (instr_at a.source.lines (a.number k)) (a.locals_of p) v

  -- a scan that was called
  abbrev pub IsTop : Option ℕ → Type 0
  IsTop None = Unit {0}
  IsTop (Some l) = ⊥

  -- a line of a scan stays in it, or returns
  abbrev pub Stays : Option ℕ → P → V → Move V P M → Type 0
  Stays link k p (To d' m' p' k') = Inside link d' ⊎ ReturnsAt link k p
  Stays link k p (Answer v) = IsTop link
  Stays link k p _ = ⊥

  -- a move that does not merely go on
  abbrev pub NotTo : Move V P M → Type 0
  NotTo (To d m p k) = ⊥
  NotTo _ = Unit {0}

  pub embeds : (k : P) (d : Mode) (p : V) → NotTo (embedding k d p)
  embeds k Scanning p = tt
  embeds k _ p = tt

  -- what a line owes: in a scan it stays or returns, and a `call` line begins a scan
  pub record Lawful (me : ℕ) (d : Mode) (m : M) (p : V) (k : P) : Type 0 where
    pub stays : (link : Option ℕ) → Inside link d → Stays link k p (a.move me d m p k)
    pub calls : IsCallLine (instr_at a.source.lines (a.number k)) → NotTo (a.move me d m p k)

  -- the line at which a process stands is so
  abbrev pub LawfulAt : ℕ → M → V → Control P → Type 0
  LawfulAt me m p Idle = Unit {0}
  LawfulAt me m p (At d k) = Lawful me d m p k

  module _ (tests_is : (k : P) → (if is_if_all (instr_at a.source.lines (a.number k)) then 1 else 0) ≡ a.tests k)
      (items : List Item) (fits : Steady (embed.run_of a items)) (does : embed.AllDo a items)
      (lawful : (t i : ℕ) → t < length items → IsOneOf a.shape.n i → LawfulAt i (typed_state a items t).memory
      (typed_at a (typed_state a items t) i).variables (typed_at a (typed_state a items t) i).control)
      (i : ℕ) (one : IsOneOf a.shape.n i) where
    abbrev pub r : Run
    r = embed.run_of a items

    abbrev pub his : ℕ → TypedProcess V P M
    his t = typed_at a (typed_state a items t) i

    abbrev pub memory : ℕ → M
    memory t = (typed_state a items t).memory

    -- at state t the scan that started at item c goes on
    pub record Goes (link : Option ℕ) (c t : ℕ) : Type 0 where
      -- the process is busy at a line of the scan
      pub mode : Mode
      pub counter : P
      pub control : (his t).control ≡ At mode counter
      pub inside : Inside link mode
      -- item c started its last scan
      pub since : (his t).auxiliary.since ≡ c
      -- the own steps and double collects since the scan's start are those of the run
      pub own : (his t).auxiliary.own ≡ own_steps r i c t
      pub collects : (his t).auxiliary.collects ≡ double_collects r i c t
      -- the last double collect was started in this scan
      pub round_after : c ≤ (his t).auxiliary.round
      pub round_before : (his t).auxiliary.round ≤ t
      -- the double collects that have ended since are those of the run
      pub tested : (his t).auxiliary.tested ≡ double_collects r i (his t).auxiliary.round t

    -- the counts after an item that is no step of the process
    collects_same : (c t : ℕ) → c ≤ t → steps i (item_at items t) ≡ false →
        double_collects r i c (suc t) ≡ double_collects r i c t
    collects_same c t le none =
        count_not (ends_double_collect r i) c t le
        (ap (λ b. b
        && (is_if_all (line_in r.source (process_at (before r (suc t)) i).status) && is_stepped (outcome r (suc t))))
        none)

    -- an item that changes nothing
    same_goes : (link : Option ℕ) (c t : ℕ) → c ≤ t → his (suc t) ≡ his t → steps i (item_at items t) ≡ false →
        Goes link c t → Goes link c (suc t)
    same_goes link c t le same none g = record {
      mode = g.mode;
      counter = g.counter;
      control = ap (λ (q : TypedProcess V P M). q.control) same ∙ g.control;
      inside = g.inside;
      since = ap (λ (q : TypedProcess V P M). q.auxiliary.since) same ∙ g.since;
      own = ap (λ (q : TypedProcess V P M). q.auxiliary.own) same ∙ g.own ∙ sym (own_same r i c t le none);
      collects =
          ap (λ (q : TypedProcess V P M). q.auxiliary.collects) same ∙ g.collects ∙ sym (collects_same c t le none);
      round_after = subst (λ (q : TypedProcess V P M). c ≤ q.auxiliary.round) (sym same) g.round_after;
      round_before =
          subst (λ (q : TypedProcess V P M). q.auxiliary.round ≤ suc t) (sym same)
          (omega arith);
      tested =
          subst (λ (q : TypedProcess V P M). q.auxiliary.tested ≡ double_collects r i q.auxiliary.round (suc t))
          (sym same) (g.tested ∙ sym (collects_same (his t).auxiliary.round t g.round_before none));
    }

    -- the counts after a step of the process
    collects_next : (c t : ℕ) (d : Mode) (k : P) → c ≤ t → t ≤ length items →
        steps i (item_at items t) ≡ true → outcome r (suc t) ≡ Stepped → (his t).control ≡ At d k →
        double_collects r i c (suc t) ≡ double_collects r i c t + a.tests k
    collects_next c t d k le short steps_is out_is at =
        let line : line_in r.source (process_at (before r (suc t)) i).status ≡ instr_at a.source.lines (a.number k) =
        ap (λ (y : Process). line_in r.source y.status) (embed.busy_at a items fits does t i d k short one at) in
        let old = double_collects r i c t in
        count_next (ends_double_collect r i) c t le
        ∙ ap (λ b. if b && (is_if_all (line_in r.source (process_at (before r (suc t)) i).status)
        && is_stepped (outcome r (suc t))) then suc old else old) steps_is
        ∙ ap (λ (o : Outcome). if is_if_all (line_in r.source (process_at (before r (suc t)) i).status)
        && is_stepped o then suc old else old) out_is
        ∙ ap (λ b. if b then suc old else old)
        (and_true (is_if_all (line_in r.source (process_at (before r (suc t)) i).status)))
        ∙ ap (λ o. if is_if_all o then suc old else old) line
        ∙ add_one (is_if_all (instr_at a.source.lines (a.number k))) old
        ∙ ap (λ y. old + y) (tests_is k)

    own_next : (c t : ℕ) → c ≤ t → steps i (item_at items t) ≡ true → outcome r (suc t) ≡ Stepped →
        own_steps r i c (suc t) ≡ suc (own_steps r i c t)
    own_next c t le steps_is out_is =
        count_next (takes_step r i) c t le
        ∙ ap
        (λ b. if b && is_not_skipped (outcome r (suc t)) then suc (own_steps r i c t) else own_steps r i c t) steps_is
        ∙ ap (λ (o : Outcome). if is_not_skipped o then suc (own_steps r i c t) else own_steps r i c t) out_is

    -- the last double collect goes on, or another one starts
    round_from : (again : Bool) (c round t : ℕ) → c ≤ round → c ≤ t → c ≤ (if again then suc t else round)
    round_from true c round t h le = omega arith
    round_from false c round t h le = h

    round_to : (again : Bool) (round t : ℕ) → round ≤ t → (if again then suc t else round) ≤ suc t
    round_to true round t h = omega arith
    round_to false round t h = omega arith

    tested_next : (again : Bool) (round t tested : ℕ) → tested ≡ double_collects r i round (suc t) →
        (if again then 0 else tested) ≡ double_collects r i (if again then suc t else round) (suc t)
    tested_next true round t tested h = sym (count_none (ends_double_collect r i) (suc t) (suc t) (omega arith))
    tested_next false round t tested h = h

    -- a step of the process that stays in the scan
    stepped_goes : (link : Option ℕ) (c e t : ℕ) (d : Mode) (k : P) (v : Move V P M) → PendingScan r i link c e →
        c ≤ t → suc t < e → t < length items → item_at items t ≡ Step i → (his t).control ≡ At d k →
        his (suc t) ≡ cases.moved a (suc t) (his t) k v →
        outcome r (suc t) ≡ outcome_of (by_move a (suc t) (memory t) (his t) k v) → Inside link d →
        Stays link k (his t).variables v → Goes link c t → Goes link c (suc t)
    stepped_goes link c e t d k (To d' m' p' k') scan le lt short is at after out_is within (inl inside) g =
        let steps_is : steps i (item_at items t) ≡ true = ap (steps i) is ∙ same_number i in
        record {
          mode = d';
          counter = k';
          control = ap (λ (q : TypedProcess V P M). q.control) after;
          inside = inside;
          since = ap (λ (q : TypedProcess V P M). q.auxiliary.since) after ∙ g.since;
          own =
              ap (λ (q : TypedProcess V P M). q.auxiliary.own) after ∙ ap suc g.own
              ∙ sym (own_next c t le steps_is out_is);
          collects = ap (λ (q : TypedProcess V P M). q.auxiliary.collects) after ∙ ap (λ y. y + a.tests k) g.collects
              ∙ sym (collects_next c t d k le (omega arith) steps_is out_is at);
          round_after =
              subst (λ (q : TypedProcess V P M). c ≤ q.auxiliary.round) (sym after)
              (round_from (a.restarts k) c (his t).auxiliary.round t g.round_after le);
          round_before =
              subst (λ (q : TypedProcess V P M). q.auxiliary.round ≤ suc t) (sym after)
              (round_to (a.restarts k) (his t).auxiliary.round t g.round_before);
          tested =
              subst (λ (q : TypedProcess V P M). q.auxiliary.tested ≡ double_collects r i q.auxiliary.round (suc t))
              (sym after)
              (tested_next (a.restarts k) (his t).auxiliary.round t ((his t).auxiliary.tested + a.tests k)
              (ap (λ y. y + a.tests k) g.tested
              ∙ sym (collects_next (his t).auxiliary.round t d k g.round_before (omega arith) steps_is out_is at)));
        }
    stepped_goes None c e t d k (To d' m' p' k') scan le lt short is at after out_is within (inr h) g = absurd h
    stepped_goes (Some l) c e t d k (To d' m' p' k') scan le lt short is at after out_is within (inr h) g =
        let busy = embed.busy_at a items fits does t i d k (omega arith) one at in
        absurd (scan.goes_on (suc t) h.0 (omega arith) lt (
          is,
          subst (λ (y : Process). ReturnsView (line_in r.source y.status) y.locals h.0) (sym busy) h.1,
          ap (λ (y : Process). link_in y.status) busy ∙ within,
        ))
    stepped_goes None c e t d k (Answer v) scan le lt short is at after out_is within h g =
        absurd (scan.goes_on (suc t) v (omega arith) lt (ap who is, out_is))
    stepped_goes (Some l) c e t d k (Answer v) scan le lt short is at after out_is within h g = absurd h
    stepped_goes link c e t d k _ scan le lt short is at after out_is within h g = absurd h

    next_goes : (link : Option ℕ) (c e t : ℕ) → PendingScan r i link c e → c ≤ t → suc t < e →
        Goes link c t → Goes link c (suc t)
    next_goes link c e t scan le lt g =
        let short : t < length items = omega arith in
        elim (cases.item_case a items fits does i one t short) [
          | inl stays ↦ same_goes link c t le stays.same
              (cases.no_step a items fits does i one t g.mode g.counter stays g.control) g
          | inr busy_or_called ↦ elim busy_or_called [
            | inl s ↦ (let there : At g.mode g.counter ≡ At s.mode s.counter = sym g.control ∙ s.control in
                let mode : g.mode ≡ s.mode = cc in
                let inside : Inside link s.mode = subst (Inside link) mode g.inside in
                let law : Lawful i s.mode (memory t) (his t).variables s.counter =
                subst (LawfulAt i (memory t) (his t).variables) s.control (lawful t i short one) in
                stepped_goes link c e t s.mode s.counter
                (a.move i s.mode (memory t) (his t).variables s.counter) scan le lt short s.item s.control s.after
                s.outcome_is inside (law.stays link inside) g)
            | inr call ↦ absurd (let e = sym call.idle ∙ g.control in cc)
          ]
        ]

    -- where a scan has just started, nothing is counted yet
    started : (link : Option ℕ) (c : ℕ) (d : Mode) (k : P) (p : V) (g : Auxiliary) →
        his (suc c) ≡ record { control = At d k; variables = p; auxiliary = g } → Inside link d →
        (g.since ≡ suc c) × (g.own ≡ 0) × (g.collects ≡ 0) × (g.round ≡ suc c) × (g.tested ≡ 0) →
        Goes link (suc c) (suc c)
    started link c d k p g after inside fresh =
        let none : double_collects r i (suc c) (suc c) ≡ 0 =
        count_none (ends_double_collect r i) (suc c) (suc c) (omega arith) in
        let round : (his (suc c)).auxiliary.round ≡ suc c =
        ap (λ (q : TypedProcess V P M). q.auxiliary.round) after ∙ fresh.3 in
        record {
          mode = d;
          counter = k;
          control = ap (λ (q : TypedProcess V P M). q.control) after;
          inside = inside;
          since = ap (λ (q : TypedProcess V P M). q.auxiliary.since) after ∙ fresh.0;
          own = ap (λ (q : TypedProcess V P M). q.auxiliary.own) after ∙ fresh.1
              ∙ sym (count_none (takes_step r i) (suc c) (suc c) (omega arith));
          collects = ap (λ (q : TypedProcess V P M). q.auxiliary.collects) after ∙ fresh.2 ∙ sym none;
          round_after = omega arith;
          round_before = omega arith;
          tested = ap (λ (q : TypedProcess V P M). q.auxiliary.tested) after ∙ fresh.4
              ∙ sym (ap (λ y. double_collects r i y (suc c)) round ∙ none);
        }

    -- the item that starts a top-level scan
    called_goes : (c : ℕ) → c < length items → item_at items c ≡ Call i Scan →
        outcome r (suc c) ≡ Called → Goes None (suc c) (suc c)
    called_goes c short is out =
        started None c (mode_of Scan) (a.counter Scan) (his c).variables
        (called_auxiliary (suc c) Scan (his c).auxiliary)
        (cases.called a items fits does i one c Scan short is out) (link_is a.back Scan, op_is Scan)
        (refl, refl, refl, refl, refl)

    -- a line that begins an embedded scan
    moved_goes : (l c : ℕ) (k : P) (v : Move V P M) → NotTo v → his (suc c) ≡ cases.moved a (suc c) (his c) k v →
        outcome_of (by_move a (suc c) (memory c) (his c) k v) ≡ Stepped →
        link_in (status_of a (his (suc c)).control) ≡ Some l → Goes (Some l) (suc c) (suc c)
    moved_goes l c k (To d' m' p' k') not_to after out link = absurd not_to
    moved_goes l c k (Begin d' p' k') not_to after out link =
        started (Some l) c d' k' p' (begun_auxiliary a k (suc c) (his c).auxiliary) after
        (sym (ap (λ (q : TypedProcess V P M). link_in (status_of a q.control)) after) ∙ link)
        (refl, refl, refl, refl, refl)
    moved_goes l c k _ not_to after out link = absurd (cc)

    -- the item that starts an embedded scan
    begun_goes : (l c : ℕ) → c < length items → item_at items c ≡ Step i →
        IsCallLine (line_in r.source (process_at (state r c) i).status) → outcome r (suc c) ≡ Stepped →
        link_in (process_at (state r (suc c)) i).status ≡ Some l → Goes (Some l) (suc c) (suc c)
    begun_goes l c short is call out link =
        let call_is : IsCallLine (line_in a.source (status_of a (his c).control)) =
        subst (λ (y : Process). IsCallLine (line_in a.source y.status))
        (embed.process_at_is a items fits does c i (omega arith) one) call in
        elim (cases.item_case a items fits does i one c short) [
          | inl stays ↦
              absurd (subst (λ (p : Control P). IsCallLine (line_in a.source (status_of a p))) (stays.idle is) call_is)
          | inr busy_or_called ↦ elim busy_or_called [
            | inl s ↦ (let law : Lawful i s.mode (memory c) (his c).variables s.counter =
                subst (LawfulAt i (memory c) (his c).variables) s.control (lawful c i short one) in
                let at_call =
                subst (λ (p : Control P). IsCallLine (line_in a.source (status_of a p))) s.control call_is in
                moved_goes l c s.counter (a.move i s.mode (memory c) (his c).variables s.counter) (law.calls at_call)
                s.after (sym s.outcome_is ∙ out)
                (sym (ap (λ (y : Process). link_in y.status)
                (embed.process_at_is a items fits does (suc c) i (omega arith) one)) ∙ link))
            | inr called ↦ absurd (let e = sym is ∙ called.item in cc)
          ]
        ]

    start_goes : (link : Option ℕ) (c : ℕ) → c < length items → Starts r i (suc c) link → Goes link (suc c) (suc c)
    start_goes None c short h = called_goes c short h.0 h.1
    start_goes (Some l) c short h = begun_goes l c short h.0 h.1 h.2 h.3

    first_goes : (link : Option ℕ) (c e : ℕ) → 0 < c → c ≤ length items → Starts r i c link → Goes link c c
    first_goes link zero e pos short h = absurd (omega arith)
    first_goes link (suc c) e pos short h = start_goes link c (omega arith) h

    -- the scan goes on up to the item before its end
    pub goes : (link : Option ℕ) (c e t : ℕ) → PendingScan r i link c e → c ≤ t → t < e → Goes link c t
    goes link c e t scan le lt =
        from_there (Goes link c) c t le (first_goes link c e scan.first (omega arith) scan.starts)
        (λ u low high g. next_goes link c e u scan low (omega arith) g)

    -- the counts at the start, and one item later
    pub started_collects : (c e : ℕ) → e ≤ c → double_collects r i c e ≡ 0
    started_collects c e h = count_none (ends_double_collect r i) c e h

    pub started_own : (c e : ℕ) → e ≤ c → own_steps r i c e ≡ 0
    started_own c e h = count_none (takes_step r i) c e h

    pub last_own : (c t : ℕ) → c ≤ t → own_steps r i c (suc t) ≤ own_steps r i c t + 1
    last_own c t le = own_more r i c t le

    pub last_collects : (c t : ℕ) (d : Mode) (k : P) → c ≤ t → t ≤ length items → (his t).control ≡ At d k →
        double_collects r i c (suc t) ≤ double_collects r i c t + a.tests k
    last_collects c t d k le short at =
        let status = line_in r.source (process_at (before r (suc t)) i).status in
        let line : status ≡ instr_at a.source.lines (a.number k) =
        ap (λ (y : Process). line_in r.source y.status) (embed.busy_at a items fits does t i d k short one at) in
        let tested : (if is_if_all status then 1 else 0) ≡ a.tests k =
        ap (λ o. if is_if_all o then 1 else 0) line ∙ tests_is k in
        subst (λ y. y ≤ double_collects r i c t + a.tests k) (sym (count_next (ends_double_collect r i) c t le))
        (subst (λ y. (if steps i (item r (suc t)) && (is_if_all status && is_stepped (outcome r (suc t)))
        then suc (double_collects r i c t) else double_collects r i c t) ≤ double_collects r i c t + y) tested
        (inner_more (steps i (item r (suc t))) (is_if_all status)
        (is_stepped (outcome r (suc t))) (double_collects r i c t)))
