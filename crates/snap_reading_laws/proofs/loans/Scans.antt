-- The lender of a view is a whole scan of an update of the process that wrote the view (`FinishedScan`).
use Rattle.std.proofs.Common.{◌≡◌, ◌⊎◌, inl, inr, ℕ, zero, suc, ◌+◌, ◌-◌, ◌<◌, ◌≤◌, true, false, ◌&&◌, nat_eq}
use Rattle.std.proofs.Common.{List, [], Option, Some, None, length, refl, sym, subst, ap, ◌∙◌, arith}
use Rattle.std.proofs.lemmas.Bool.{and_parts, cases_Bool, cases_eq, cases_lt, eq-eqb, eqb-false, eqb-true, lt-ltb}
use Rattle.snap_words.specs.Shape.{IsOneOf}
use Rattle.snap_semantics.specs.IsListing.{IsListing}
use Rattle.snap_semantics.specs.Source.{Name, Source}
use Rattle.snap_semantics.specs.State.{Locals, Process, process_at, value_at}
use Rattle.snap_semantics.specs.Table.{who}
use Rattle.snap_semantics.specs.declared.instr.Instr.{Instr}
use Rattle.snap_semantics.specs.declared.instr.Instr.TheVariants.{Return}
use Rattle.snap_semantics.specs.declared.process.Status.{Status}
use Rattle.snap_semantics.specs.declared.process.Status.TheVariants.{Busy}
use Rattle.snap_runs.specs.Run.{IsValidRun, Run, state}
use Rattle.snap_runs.specs.Scan.{Ends, FinishedScan, IsCallLine, ReturnsView, line_in, link_in}
use Rattle.snap_acts.specs.Trace.{trace_of}
use Rattle.snap_acts.specs.Loans.{handed_on, scan_around, step_at}
use Rattle.snap_acts.specs.Searches.{first_within, is_enter, is_leave, last_before, meets}
use Rattle.snap_acts.specs.declared.act.Act.{Act}
use Rattle.snap_acts.specs.declared.act.Act.TheVariants as act
use Rattle.snap_acts.specs.declared.act.TraceStep.{TraceStep}
use Rattle.snap_acts.specs.declared.searches.StepPattern.{StepPattern}
use Rattle.snap_acts.specs.declared.searches.StepPattern.TheVariants as wanted
use Rattle.snap_reading_laws.specs.loans.Held.{handed_view, held, held_if_named}
use Rattle.snap_reading_laws.proofs.loans.Items.{told, turn}
use Rattle.snap_reading_laws.proofs.loans.Turns.{IsStuck}

-- what is found is there
pub found : (w : StepPattern) (ss : List TraceStep) (k g : ℕ) → last_before w ss k ≡ Some g →
    (g < k) × (meets w (step_at ss g) ≡ true)
found w ss zero g e = absurd cc
found w ss (suc k) g e = grind (arith, found w ss k g)

-- the first place at which there is what is wanted
pub record IsFirst (w : StepPattern) (ss : List TraceStep) (k e : ℕ) : Type 0 where
  pub there : meets w (step_at ss e) ≡ true
  pub after : k ≤ e
  pub first : (t : ℕ) → k ≤ t → t < e → meets w (step_at ss t) ≡ false

pub is_first : (w : StepPattern) (ss : List TraceStep) (k count e : ℕ) → first_within w ss k count ≡ Some e →
    IsFirst w ss k e
is_first w ss k zero e is = absurd cc
is_first w ss k (suc count) e is = elim (cases_Bool (meets w (step_at ss k))) [
  | inl here ↦
      let it : Some k ≡ Some e = rw here at is in
      let same : k ≡ e = cc in
      record { there = rw same at here; after = omega arith; first = λ t from to. absurd (omega arith) }
  | inr other ↦
      let later = is_first w ss (k + 1) count e (rw other at is) in
      let after = later.after in record {
        there = later.there;
        after = omega arith;
        first = λ t from to. elim (cases_eq k t) [
          | inl same ↦ rw same at other
          | inr apart ↦ later.first t (omega arith) to
        ];
      }
]

is_entered : (a : Act) → is_enter a ≡ true → a ≡ act.Enter
is_entered act.Enter e = refl
is_entered _ e = absurd cc

is_left : (a : Act) → is_leave a ≡ true → (y : Name) × (a ≡ act.Leave y)
is_left (act.Leave x) e = (x, refl)
is_left _ e = absurd cc

-- a line that returns a view
line_returned : (f : Option Instr) (l : Locals) (view : List ℕ) → ReturnsView f l view →
    (y : Name) × (f ≡ Some (Return y))
line_returned (Some (Return x)) l view h = (x, refl)
line_returned _ l view h = absurd h

-- a process that goes on nowhere stands at no line that calls
calls_nowhere : (s : Source) (u : Status) → IsStuck u → IsCallLine (line_in s u) → ⊥
calls_nowhere s (Busy a) h line = absurd h
calls_nowhere s _ h line = absurd line

stands_nowhere : (s : Source) (u : Status) (i : Instr) → IsStuck u → line_in s u ≡ Some i → ⊥
stands_nowhere s (Busy a) i h line = absurd h
stands_nowhere s _ i h line = absurd cc

module _ (r : Run) (listing : IsListing r.source) (valid : IsValidRun r) (i : ℕ) (one : IsOneOf r.shape.n i) where
  abbrev ss : List TraceStep
  ss = trace_of r

  abbrev most : ℕ
  most = length r.items

  abbrev status : ℕ → Status
  status t = (process_at (state r t) i).status

  abbrev process : ℕ → ℕ
  process k = (step_at ss k).process

  abbrev Within : ℕ → ℕ → Type 0
  Within k t = (link_in (status t) ≡ Some k) ⊎ IsStuck (status t)

  -- within a scan the link stays, or its process stops for good
  stays : (k t : ℕ) → t < most → meets (wanted.Leave i) (step_at ss t) ≡ false → Within k t → Within k (suc t)
  stays k t less away h = elim (cases_Bool (nat_eq (process t) i)) [
    | inl is ↦
        let own = rw (eqb-true (process t) i is) at (turn r t listing valid less).0 in
        elim h [
          | inl has ↦ own.stays k (rw is at away) has
          | inr stuck ↦ inr (own.stuck stuck)
        ]
    | inr is ↦
        subst (λ (p : Process). (link_in p.status ≡ Some k) ⊎ IsStuck p.status)
        (sym ((told r t listing valid less).others i one (λ equal. eqb-false (process t) i is (sym equal)))) h
  ]

  all_along : (k a e : ℕ) → e < most → ((t : ℕ) → a ≤ t → t < e → meets (wanted.Leave i) (step_at ss t) ≡ false) →
      Within k (suc a) → (t : ℕ) → a < t → t ≤ e → Within k t
  all_along k a e less away start zero from to = absurd (omega (arith, from))
  all_along k a e less away start (suc t) from to =
      elim (cases_lt a t) [
        | inl later ↦
            stays k t (omega (arith, to, less)) (away t (omega (arith, later)) (omega (arith, to)))
            (all_along k a e less away start t later (omega (arith, to)))
        | inr first ↦ subst (Within k) (let same : suc a ≡ suc t = omega (arith, from, first) in same) start
      ]

  -- what ends a scan with a link leaves it
  ends_leaves : (k t : ℕ) (view : List ℕ) → t < most → Ends r i (suc t) (Some k) view →
      meets (wanted.Leave i) (step_at ss t) ≡ true
  ends_leaves k t view less ends =
      let is_his : process t ≡ i = (turn r t listing valid less).1 ∙ ap who ends.0 in
      let line = line_returned (line_in r.source (status t)) (process_at (state r t) i).locals view ends.1 in
      let own = rw is_his at (turn r t listing valid less).0 in
      ap (λ b. b && is_leave (step_at ss t).act) (eq-eqb (process t) i is_his)
      ∙ own.returns line.0 k ends.0 line.1 ends.2

  -- the scan that begins at place a and whose first end is at place e
  pub scan_is : (d a e count : ℕ) → last_before (wanted.Enter i) ss d ≡ Some a →
      first_within (wanted.Leave i) ss a count ≡ Some e → d < e → e < most →
      (link : ℕ) × FinishedScan r i (Some link) (suc a) (suc e) (handed_view r e)
  scan_is d a e count enter leave after less =
      let entered = found (wanted.Enter i) ss d a enter in
      let before = entered.0 in
      let last = is_first (wanted.Leave i) ss a count e leave in
      let his = and_parts (nat_eq (process a) i) (is_enter (step_at ss a).act) entered.1 in
      let its = and_parts (nat_eq (process e) i) (is_leave (step_at ss e).act) last.there in
      let start : a < most = omega (arith, before, after, less) in
      let first_turn = rw (eqb-true (process a) i his.0) at (turn r a listing valid start).0 in
      let begins = first_turn.enters (is_entered (step_at ss a).act his.1) in
      let left = is_left (step_at ss e).act its.1 in
      let same : process e ≡ i = eqb-true (process e) i its.0 in
      let last_turn = rw same at (turn r e listing valid less).0 in
      let ends = last_turn.leaves left.0 left.1 in
      let link : link_in (status e) ≡ Some begins.link =
      elim (all_along begins.link a e less last.first (inl begins.has) e (omega (arith, before, after)) (omega arith)) [
        | inl has ↦ has
        | inr stuck ↦ absurd (stands_nowhere r.source (status e) (Return left.0) stuck ends.line)
      ] in
      let view : value_at left.0 (process_at (state r e) i).locals.views [] ≡ handed_view r e =
      ap (λ (j : ℕ). held r j left.0 e) (sym same)
      ∙ ap (λ (t : Act). held_if_named r (process e) (handed_on t) e) (sym left.1) in (
        begins.link,
        record {
          scan = record {
            process = one;
            starts = (begins.item, begins.line, begins.goes, begins.has);
            first = omega arith;
            order = omega (arith, before, after);
            last = omega (arith, less);
            goes_on = λ t view from to is. not_yet last.first less begins.link t view from to is;
          };
          order = omega (arith, before, after);
          ends = (
            ends.item,
            rw ends.line view,
            link,
          );
        },
      )
    where
      not_yet : ((t : ℕ) → a ≤ t → t < e → meets (wanted.Leave i) (step_at ss t) ≡ false) → e < most → (k t : ℕ)
          (view : List ℕ) → suc a < t → t < suc e → Ends r i t (Some k) view → ⊥
      not_yet away less k zero view from to is = absurd (omega (arith, from))
      not_yet away less k (suc t) view from to is =
          let one_way = away t (omega (arith, from)) (omega (arith, to)) in
          let other_way = ends_leaves k t view (omega (arith, to, less)) is in
          (let wrong : false ≡ true = sym one_way ∙ other_way in absurd cc)

  -- a finished scan of an update, with all that lies within it
  module _ (k a b : ℕ) (view : List ℕ) (scan : FinishedScan r i (Some k) (suc a) (suc b) view) where
    before_end : a < b
    before_end = let order = scan.order in omega (arith, order)

    in_run : b < most
    in_run = let last = scan.scan.last in omega (arith, last)

    no_leave_at : (t : ℕ) → a < t → t < b → Within k t → meets (wanted.Leave i) (step_at ss t) ≡ false
    no_leave_at t from to inside = elim (cases_Bool (meets (wanted.Leave i) (step_at ss t))) [
      | inr away ↦ away
      | inl is ↦
          let less : t < most = (let run = in_run in omega (arith, to, run)) in
          let his = and_parts (nat_eq (process t) i) (is_leave (step_at ss t).act) is in
          let left = is_left (step_at ss t).act his.1 in
          let own = rw (eqb-true (process t) i his.0) at (turn r t listing valid less).0 in
          let returns = own.leaves left.0 left.1 in
          let link : link_in (status t) ≡ Some k = elim inside [
            | inl has ↦ has
            | inr stuck ↦ absurd (stands_nowhere r.source (status t) (Return left.0) stuck returns.line)
          ] in
          absurd (scan.scan.goes_on (suc t) (value_at left.0 (process_at (state r t) i).locals.views [])
          (omega (arith, from)) (omega (arith, to)) (returns.item, rw returns.line refl, link))
    ]

    inside_scan : (t : ℕ) → a < t → t ≤ b → Within k t
    inside_scan zero from to = absurd (omega (arith, from))
    inside_scan (suc t) from to = elim (cases_lt a t) [
      | inl later ↦
          let so_far = inside_scan t later (omega (arith, to)) in
          let run = in_run in
          stays k t (omega (arith, to, run)) (no_leave_at t later (omega (arith, to)) so_far) so_far
      | inr first ↦
          subst (Within k) (let same : suc a ≡ suc t = omega (arith, from, first) in same) (inl scan.scan.starts.3)
    ]

    begins_there : meets (wanted.Enter i) (step_at ss a) ≡ true
    begins_there =
        let less : a < most = (let run = in_run in let before = before_end in omega (arith, run, before)) in
        let is_his : process a ≡ i = (turn r a listing valid less).1 ∙ ap who scan.scan.starts.0 in
        let own = rw is_his at (turn r a listing valid less).0 in
        ap (λ b. b && is_enter (step_at ss a).act) (eq-eqb (process a) i is_his)
        ∙ own.calls scan.scan.starts.1 scan.scan.starts.2

    no_enter_at : (t : ℕ) → a < t → t < b → meets (wanted.Enter i) (step_at ss t) ≡ false
    no_enter_at t from to = elim (cases_Bool (meets (wanted.Enter i) (step_at ss t))) [
      | inr away ↦ away
      | inl is ↦
          let less : t < most = (let run = in_run in omega (arith, to, run)) in
          let his = and_parts (nat_eq (process t) i) (is_enter (step_at ss t).act) is in
          let own = rw (eqb-true (process t) i his.0) at (turn r t listing valid less).0 in
          let begins = own.enters (is_entered (step_at ss t).act his.1) in
          absurd (elim (inside_scan t from (omega (arith, to))) [
            | inl has ↦ let free = begins.free in (let wrong : None ≡ Some k = sym free ∙ has in absurd cc)
            | inr stuck ↦ calls_nowhere r.source (status t) stuck begins.line
          ])
    ]

    no_leave_from : (t : ℕ) → a ≤ t → t < b → meets (wanted.Leave i) (step_at ss t) ≡ false
    no_leave_from t from to = elim (cases_lt a t) [
      | inl later ↦ no_leave_at t later to (inside_scan t later (omega (arith, to)))
      | inr first ↦
          let his = and_parts (nat_eq (process a) i) (is_enter (step_at ss a).act) begins_there in
          subst (λ (u : ℕ). meets (wanted.Leave i) (step_at ss u) ≡ false)
          (let same : a ≡ t = omega (arith, from, first) in same)
          (rw (his.0, is_entered (step_at ss a).act his.1) refl)
    ]

    last_begun : (d : ℕ) → a < d → d ≤ b → last_before (wanted.Enter i) ss d ≡ Some a
    last_begun zero from to = absurd (omega (arith, from))
    last_begun (suc d) from to = elim (cases_lt a d) [
      | inl later ↦ rw (no_enter_at d later (omega (arith, to))) (last_begun d later (omega (arith, to)))
      | inr first ↦
          subst (λ (t : ℕ). last_before (wanted.Enter i) ss (suc t) ≡ Some a)
          (let same : a ≡ d = omega (arith, from, first) in same) (rw begins_there refl)
    ]

    first_ended : (t count : ℕ) → a ≤ t → t ≤ b → b < t + count →
        first_within (wanted.Leave i) ss t count ≡ Some b
    first_ended t zero from to within = absurd (omega (arith, to, within))
    first_ended t (suc count) from to within = elim (cases_lt t b) [
      | inl before ↦
          rw (no_leave_from t from before)
          (first_ended (t + 1) count (omega (arith, from)) (omega (arith, before)) (omega (arith, within)))
      | inr last ↦
          subst (λ (u : ℕ). first_within (wanted.Leave i) ss u (suc count) ≡ Some b)
          (let same : b ≡ t = omega (arith, to, last) in same)
          (rw (ends_leaves k b view in_run scan.ends) refl)
    ]

    -- it is found around each place within it
    pub is_around : (d w : ℕ) → a < d → d < b → b < w →
        scan_around ss i w (Some d) ≡ Some (record { process = i; from = a; to = b })
    is_around d w from to before =
        rw (last_begun d from (omega (arith, to)))
        (rw (first_ended a (w - a) (omega arith) (omega (arith, from, to)) (omega (arith, from, to, before)))
        (rw (lt-ltb d b to) refl))
