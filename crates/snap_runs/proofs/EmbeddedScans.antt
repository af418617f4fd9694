-- The embedded scans of a run of any algorithm: an update that has made
-- its view and not yet written it has the view of one that is finished.
use Rattle.std.specs.Prelude.{◌≡◌, ℕ, zero, suc, ◌<◌, ◌≤◌, List, length, Some, refl}
use Rattle.std.proofs.Common.{sym, ◌∙◌, ap, subst, arith, inl, inr}
use Rattle.std.proofs.Math.Nat.{eq-or-lt_of_le}
use Rattle.snap_runs.proofs.Common.{IsOneOf, Process, Item, Step, Op, Scan, Update, Run, outcome}
use Rattle.snap_semantics.specs.Source.{instr_at}
use Rattle.snap_runs.specs.Scan.{Starts, Ends, FinishedScan, IsCallLine, ReturnsView, line_in, link_in}
use Rattle.snap_runs.proofs.Algorithm.{Mode, Scanning, Embedded, Updating, mode_of, Control, At, Move, To, Begin}
use Rattle.snap_runs.proofs.Algorithm.{Answer, Finish, TypedProcess, Algorithm, by_move, typed_at, outcome_of, item_at}
use Rattle.snap_runs.proofs.Algorithm.{typed_state, process_of, begun_auxiliary, called_auxiliary}
use Rattle.snap_runs.proofs.Embedding as embed
use Rattle.snap_runs.proofs.Flow as flow
use Rattle.snap_runs.proofs.Flow.{Lines}
use Rattle.snap_runs.proofs.ItemCases as cases
use Rattle.snap_runs.proofs.Scans as scans

module _ {V P M : Type 0} (a : Algorithm V P M) (lines : Lines V P M) where
  module _ (listed : scans.Listed a lines) (run : scans.Execution a lines)
      (not_late : (op : Op) → lines.IsLate (a.counter op) → ⊥)
      (i : ℕ) (one : IsOneOf a.shape.n i) where
    abbrev items : List Item
    items = run.items

    abbrev r : Run
    r = embed.run_of a items

    abbrev pub his : ℕ → TypedProcess V P M
    his t = typed_at a (typed_state a items t) i

    -- item c started an embedded scan, which has not ended up to item t
    record Open (c t : ℕ) : Type 0 where
      starts : Starts r i c (Some a.back)
      first : 0 < c
      order : c ≤ t
      goes_on : (u : ℕ) (view : List ℕ) → c < u → u ≤ t → Ends r i u (Some a.back) view → ⊥

    -- item c started an embedded scan, which has ended with this view up to item t
    pub record Lending (c t : ℕ) (view : List ℕ) : Type 0 where
      pub to : ℕ
      pub before : to ≤ t
      pub scan : FinishedScan r i (Some a.back) c to view

    abbrev Tracked : ℕ → ℕ → List ℕ → Control P → Type 0
    Tracked t since view (At (Embedded w x) k) = Open since t
    Tracked t since view (At (Updating w x) k) = lines.IsLate k → Lending since t view
    Tracked t since view _ = Unit {0}

    longer : (c t : ℕ) → ((view : List ℕ) → Ends r i (suc t) (Some a.back) view → ⊥) → Open c t → Open c (suc t)
    longer c t not_now h = record {
      starts = h.starts;
      first = h.first;
      order = omega arith;
      goes_on = λ u view after before ends. elim (eq-or-lt_of_le before) [
        | inl same ↦ not_now view (subst (λ y. Ends r i y (Some a.back) view) same ends)
        | inr less ↦ h.goes_on u view after (omega arith) ends
      ];
    }

    lends_longer : (c t : ℕ) (view : List ℕ) → Lending c t view → Lending c (suc t) view
    lends_longer c t view h = record { to = h.to; before = omega arith; scan = h.scan }

    -- an item that is no step of the busy process
    kept : (t since : ℕ) (view : List ℕ) (control : Control P) →
        ((d : Mode) (k : P) → control ≡ At d k → item_at items t ≡ Step i → ⊥) →
        Tracked t since view control → Tracked (suc t) since view control
    kept t since view (At (Embedded w x) k) no_step h =
        longer since t (λ v ends. no_step (Embedded w x) k refl ends.0) h
    kept t since view (At (Updating w x) k) no_step h = λ late. lends_longer since t view (h late)
    kept t since view _ no_step h = tt

    -- a line that does not return ends no scan
    no_end : (t : ℕ) (d : Mode) (k : P) (view : List ℕ) → t < length items → (his t).control ≡ At d k →
        (lines.IsReturn k → ⊥) → Ends r i (suc t) (Some a.back) view → ⊥
    no_end t d k view short at none ends =
        none (listed.returns (his t).variables k view
        (subst (λ (p : Process). ReturnsView (line_in a.source p.status) p.locals view)
        (embed.busy_at a items run.fits run.does t i d k (omega arith) one at) ends.1)).0

    -- a line that returns ends its embedded scan
    ended : (t w x : ℕ) (k : P) → t < length items → item_at items t ≡ Step i →
        (his t).control ≡ At (Embedded w x) k → lines.IsReturn k → Open (his t).auxiliary.since t →
        Lending (his t).auxiliary.since (suc t) (lines.answer (his t).variables)
    ended t w x k short is at returns h =
        let c = (his t).auxiliary.since in
        let view = lines.answer (his t).variables in
        record {
          to = suc t;
          before = omega arith;
          scan = record {
            scan = record {
              process = one;
              starts = h.starts;
              first = h.first;
              order = omega arith;
              last = omega arith;
              goes_on = λ u v after before ends. h.goes_on u v after (omega arith) ends;
            };
            order = omega arith;
            ends = (
              is,
              subst (λ (p : Process). ReturnsView (line_in a.source p.status) p.locals view)
                  (sym (embed.busy_at a items run.fits run.does t i (Embedded w x) k (omega arith) one at))
                  (listed.answers (his t).variables k returns),
              ap (λ (p : Process). link_in p.status)
                  (embed.busy_at a items run.fits run.does t i (Embedded w x) k (omega arith) one at),
            );
          };
        }

    -- a line that begins an embedded scan
    begun : (t w x : ℕ) (k : P) (p' : V) (k' : P) → t < length items → item_at items t ≡ Step i →
        (his t).control ≡ At (Updating w x) k → IsCallLine (instr_at a.source.lines (a.number k)) →
        his (suc t) ≡ record {
          control = At (Embedded w x) k';
          variables = p';
          auxiliary = begun_auxiliary a k (suc t) (his t).auxiliary;
        } → outcome r (suc t)
        ≡ outcome_of (by_move a (suc t) (typed_state a items t).memory (his t) k (Begin (Embedded w x) p' k')) →
        Open (suc t) (suc t)
    begun t w x k p' k' short is at calls after out = record {
      starts = (
        is,
        subst (λ (p : Process). IsCallLine (line_in a.source p.status))
            (sym (embed.busy_at a items run.fits run.does t i (Updating w x) k (omega arith) one at)) calls,
        out,
        ap (λ (p : Process). link_in p.status)
            (embed.process_at_is a items run.fits run.does (suc t) i (omega arith) one ∙ ap (process_of a) after),
      );
      first = omega arith;
      order = omega arith;
      goes_on = λ u view lo hi. absurd (omega arith);
    }

    stepped : (t : ℕ) (d : Mode) (k : P) (v : Move V P M) → t < length items → item_at items t ≡ Step i →
        (his t).control ≡ At d k →
        flow.Flows lines a d (typed_state a items t).memory (his t).variables k v → his (suc t) ≡ cases.moved a (suc t) (his t) k v →
        outcome r (suc t) ≡ outcome_of (by_move a (suc t) (typed_state a items t).memory (his t) k v) →
        Tracked t (his t).auxiliary.since (lines.answer (his t).variables) (At d k) →
        Tracked (suc t) (cases.moved a (suc t) (his t) k v).auxiliary.since
        (lines.answer (cases.moved a (suc t) (his t) k v).variables) (cases.moved a (suc t) (his t) k v).control
    stepped t Scanning k (To d' m' p' k') short is at e after out h =
        subst (λ y. Tracked (suc t) (his t).auxiliary.since (lines.answer p') (At y k')) (sym e.0) tt
    stepped t (Embedded w x) k (To d' m' p' k') short is at e after out h =
        let since = (his t).auxiliary.since in
        elim e.2 [
          | inl on ↦ subst (λ y. Tracked (suc t) since (lines.answer p') (At y k')) (sym on.0)
              (longer since t (λ view ends. no_end t (Embedded w x) k view short at on.1 ends) h)
          | inr back ↦ subst (λ y. Tracked (suc t) since (lines.answer p') (At y k')) (sym back.0)
              (λ late. subst (Lending since (suc t)) (sym back.3) (ended t w x k short is at back.1 h))
        ]
    stepped t (Updating w x) k (To d' m' p' k') short is at e after out h =
        let since = (his t).auxiliary.since in
        subst (λ y. Tracked (suc t) since (lines.answer p') (At y k')) (sym e.1)
        (λ late. let was = e.3 late in
        subst (Lending since (suc t)) (sym was.1) (lends_longer since t (lines.answer (his t).variables) (h was.0)))
    stepped t (Updating w x) k (Begin d' p' k') short is at e after out h =
        subst (λ y. Tracked (suc t) (suc t) (lines.answer p') (At y k')) (sym e.0)
        (begun t w x k p' k' short is at e.2
        (after ∙ ap (λ y. record {
          control = At y k';
          variables = p';
          auxiliary = begun_auxiliary a k (suc t) (his t).auxiliary;
        }) e.0) out)
    stepped t d k (Answer v) short is at e after out h = tt
    stepped t d k Finish short is at e after out h = tt
    stepped t _ k (Begin d' p' k') short is at e after out h = absurd e

    called : (t since : ℕ) (view : List ℕ) (op : Op) → Tracked t since view (At (mode_of op) (a.counter op))
    called t since view Scan = tt
    called t since view (Update word value) = λ late. absurd (not_late (Update word value) late)

    tracked : (t : ℕ) → t ≤ length items →
        Tracked t (his t).auxiliary.since (lines.answer (his t).variables) (his t).control
    tracked zero short =
        subst (λ (q : TypedProcess V P M). Tracked 0 q.auxiliary.since (lines.answer q.variables) q.control)
        (sym (embed.first_process_is a i one)) tt
    tracked (suc t) short =
        let before = tracked t (omega arith) in
        let Next : TypedProcess V P M → Type 0 =
        λ q. Tracked (suc t) q.auxiliary.since (lines.answer q.variables) q.control in
        elim (cases.item_case a items run.fits run.does i one t (omega arith)) [
          | inl stays ↦ subst Next (sym stays.same)
              (kept t (his t).auxiliary.since (lines.answer (his t).variables) (his t).control
              (λ d k at is. absurd (let e = sym (stays.idle is) ∙ at in cc)) before)
          | inr busy_or_called ↦ elim busy_or_called [
            | inl s ↦ subst Next (sym s.after)
                (stepped t s.mode s.counter (a.move i s.mode (typed_state a items t).memory (his t).variables s.counter)
                (omega arith) s.item s.control
                (subst (scans.FlowsAt a lines i (typed_state a items t).memory (his t).variables) s.control
                (run.flows t i (omega arith) one))
                s.after s.outcome_is
                (subst (Tracked t (his t).auxiliary.since (lines.answer (his t).variables)) s.control before))
            | inr c ↦ subst Next (sym c.after)
                (called (suc t) (called_auxiliary (suc t) c.op (his t).auxiliary).since
                (lines.answer (his t).variables) c.op)
          ]
        ]

    -- what an update has made and not yet written is the view of its embedded scan
    pub lending : (t w x : ℕ) (k : P) → t ≤ length items → (his t).control ≡ At (Updating w x) k → lines.IsLate k →
        Lending (his t).auxiliary.since t (lines.answer (his t).variables)
    lending t w x k short at late =
        subst (Tracked t (his t).auxiliary.since (lines.answer (his t).variables)) at (tracked t short) late
