-- The scans of a run of an algorithm: where the process of a scan stands, and how a finished scan ends.
use Rattle.std.specs.Prelude.{◌≡◌, ℕ, suc, ◌<◌, ◌≤◌, List, length, Option, Some, None, if◌then◌else◌}
use Rattle.std.proofs.Common.{sym, ◌∙◌, subst, arith}
use Rattle.snap_runs.proofs.Common.{IsOneOf, Process, who, Item, Answered, outcome}
use Rattle.snap_semantics.specs.Source.{instr_at}
use Rattle.snap_runs.specs.Scan.{IsCallLine, ReturnsView, Ends, PendingScan, FinishedScan, line_in, is_if_all}
use Rattle.snap_runs.proofs.Algorithm.{Mode, Control, Idle, At, WhenBusy, Move, Answer, TypedProcess, Algorithm}
use Rattle.snap_runs.proofs.Algorithm.{by_move, typed_at, outcome_of, item_at, typed_state}
use Rattle.snap_runs.proofs.Embedding as embed
use Rattle.snap_runs.proofs.Flow.{Lines}
use Rattle.snap_runs.proofs.Flow as flow
use Rattle.snap_runs.proofs.ItemCases as cases
use Rattle.snap_runs.proofs.ScanSpan as span
use Rattle.snap_runs.proofs.Steady.{Steady}

module _ {V P M : Type 0} (a : Algorithm V P M) (lines : Lines V P M) where
  -- what the listing says of its lines
  pub record Listed : Type 0 where
    -- an `if all` line is one that ends a double collect
    pub tested : (k : P) → (if is_if_all (instr_at a.source.lines (a.number k)) then 1 else 0) ≡ a.tests k
    -- a `call` line begins a scan
    pub calls : (me : ℕ) (d : Mode) (m : M) (p : V) (k : P) → IsCallLine (instr_at a.source.lines (a.number k)) →
        span.NotTo a (a.move me d m p k)
    -- a line that returns a view returns the answer, and the lines that return are these
    pub returns : (p : V) (k : P) (v : List ℕ) → ReturnsView (instr_at a.source.lines (a.number k)) (a.locals_of p) v →
        lines.IsReturn k × (lines.answer p ≡ v)
    pub answers : (p : V) (k : P) → lines.IsReturn k →
        ReturnsView (instr_at a.source.lines (a.number k)) (a.locals_of p) (lines.answer p)

  abbrev pub FlowsAt : ℕ → M → V → Control P → Type 0
  FlowsAt me m p = WhenBusy (λ d k. flow.Flows lines a d m p k (a.move me d m p k))

  abbrev pub AllFlow : List Item → Type 0
  AllFlow items = (t i : ℕ) → t < length items → IsOneOf a.shape.n i →
      FlowsAt i (typed_state a items t).memory (typed_at a (typed_state a items t) i).variables
      (typed_at a (typed_state a items t) i).control

  -- an update has written as often as its line says
  abbrev pub AllWrite : List Item → Type 0
  AllWrite items = (t i : ℕ) → t ≤ length items → IsOneOf a.shape.n i →
      flow.HasWritten lines (typed_at a (typed_state a items t) i).control
      (typed_at a (typed_state a items t) i).auxiliary.wrote

  -- A run in which each line that is met does its move, and passes control on as the lines of the listing do.
  pub record Execution : Type 0 where
    pub items : List Item
    pub fits : Steady (embed.run_of a items)
    pub does : embed.AllDo a items
    pub flows : AllFlow items
    pub wrote : AllWrite items

  -- what ends with an answer stands at a line that returns it
  answered : (t : ℕ) (m : M) (q : TypedProcess V P M) (k : P) (v : Move V P M) (view : List ℕ) →
      outcome_of (by_move a t m q k v) ≡ Answered view →
      flow.AnswersAt lines q.variables k v → lines.IsReturn k × (lines.answer q.variables ≡ view)
  answered t m q k (Answer v) view out h = (h.0, sym h.1 ∙ (let e : v ≡ view = cc in e))
  answered t m q k _ view out h = absurd (cc)

  module _ (listed : Listed) (run : Execution) where
    abbrev items : List Item
    items = run.items

    lawful_at : (me : ℕ) (m : M) (p : V) (control : Control P) → FlowsAt me m p control → span.LawfulAt a me m p control
    lawful_at me m p Idle h = tt
    lawful_at me m p (At d k) h = record {
      stays = λ link inside. flow.stays lines a link d m p k (a.move me d m p k) (listed.answers p k) h inside;
      calls = λ call. listed.calls me d m p k call;
    }

    pub lawful : (t i : ℕ) → t < length items → IsOneOf a.shape.n i →
        span.LawfulAt a i (typed_state a items t).memory (typed_at a (typed_state a items t) i).variables
        (typed_at a (typed_state a items t) i).control
    lawful t i h one =
        lawful_at i (typed_state a items t).memory (typed_at a (typed_state a items t) i).variables
        (typed_at a (typed_state a items t) i).control (run.flows t i h one)

    module _ (i : ℕ) (one : IsOneOf a.shape.n i) where
      abbrev pub his : ℕ → TypedProcess V P M
      his t = typed_at a (typed_state a items t) i

      -- at state t the scan that started at item c goes on
      abbrev pub Goes : Option ℕ → ℕ → ℕ → Type 0
      Goes link c t = span.Goes a listed.tested items run.fits run.does lawful i one link c t

      pub goes : (link : Option ℕ) (c e t : ℕ) →
          PendingScan (embed.run_of a items) i link c e → c ≤ t → t < e → Goes link c t
      goes link c e t scan le lt = span.goes a listed.tested items run.fits run.does lawful i one link c e t scan le lt

      -- at state t it is about to end with this view
      pub record Ending (link : Option ℕ) (c t : ℕ) (view : List ℕ) : Type 0 where
        pub goes_on : Goes link c t
        pub at_return : lines.IsReturn goes_on.counter
        pub answers : lines.answer (his t).variables ≡ view

      embedded_ending : (l c t : ℕ) (view : List ℕ) → t < length items → Goes (Some l) c t →
          Ends (embed.run_of a items) i (suc t) (Some l) view → Ending (Some l) c t view
      embedded_ending l c t view short g ends =
          let busy = embed.busy_at a items run.fits run.does t i g.mode g.counter (omega arith) one g.control in
          let returned =
          listed.returns (his t).variables g.counter view
          (subst (λ (p : Process). ReturnsView (line_in a.source p.status) p.locals view) busy ends.1) in
          record { goes_on = g; at_return = returned.0; answers = returned.1 }

      called_ending : (c t : ℕ) (view : List ℕ) → t < length items → Goes None c t → who (item_at items t) ≡ i →
          outcome (embed.run_of a items) (suc t) ≡ Answered view → Ending None c t view
      called_ending c t view short g w out =
          let m = (typed_state a items t).memory in
          let v = a.move i g.mode m (his t).variables g.counter in
          let step = cases.busy_step a items run.fits run.does i one t g.mode g.counter short g.control w
          (λ why is. let e = sym out ∙ is in cc) in
          let flows_on : flow.Flows lines a g.mode m (his t).variables g.counter v =
          subst (FlowsAt i m (his t).variables) g.control (run.flows t i short one) in
          let returned = answered (suc t) m (his t) g.counter v view (sym step.1 ∙ out)
          (flow.answers_at lines a g.mode m (his t).variables g.counter v flows_on) in
          record { goes_on = g; at_return = returned.0; answers = returned.1 }

      pub ending : (link : Option ℕ) (c t : ℕ) (view : List ℕ) →
          FinishedScan (embed.run_of a items) i link c (suc t) view → Ending link c t view
      ending None c t view h =
          called_ending c t view (omega arith) (goes None c (suc t) t h.scan (omega arith) (omega arith))
          h.ends.0 h.ends.1
      ending (Some l) c t view h =
          embedded_ending l c t view (omega arith) (goes (Some l) c (suc t) t h.scan (omega arith) (omega arith)) h.ends
