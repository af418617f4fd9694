-- What threads are told of U, B and M is linearizable.
use Rattle.std.proofs.Common.{Bool, ◌≡◌, ℕ, ◌+◌, ◌-◌, ◌<◌, ◌≤◌, ◌^◌, inl, inr, List, length, sym, ap, ◌∙◌}
use Rattle.std.proofs.Common.{subst, arith}
use Rattle.std.proofs.lemmas.List.Elements.{All-weaker}
use Rattle.snap_words.specs.Shape.{Counts, IsOneOf, max_items}
use Rattle.snap_words.specs.declared.kind.KindTag.{KindTag}
use Rattle.snap_semantics.specs.Table.{who}
use Rattle.snap_semantics.specs.declared.process.Item.{Item}
use Rattle.snap_semantics.specs.declared.process.Item.TheVariants.{Call}
use Rattle.snap_semantics.specs.declared.process.Outcome.TheVariants.{Called}
use Rattle.snap_sched.specs.ScriptText.{Script}
use Rattle.snap_runs.specs.Linearization.{IsLinearizable}
use Rattle.snap_runs.specs.Operation.{Operation}
use Rattle.snap_runs.specs.Run.{IsValidRun, Run}
use Rattle.snap_judge.specs.Linearizable.{called_as}
use Rattle.snap_shipped.specs.Kept.{NumbersSuffice, RunsKeepPromises}
use Rattle.snap_live.specs.Turns.{run_of, setting_of}
use Rattle.snap_live.specs.declared.seat.Turn.{Turn}
use Rattle.snap_live.specs.declared.seat_state.OwnTurn.{OwnTurn}
use Rattle.snap_live.specs.declared.seat_state.Setting.{Setting}
use Rattle.snap_live.specs.LiveRun.{IsLive}
use Rattle.snap_live.specs.Script.{script_at}
use Rattle.snap_history_laws.specs.threads.DeskLaws.{DesksTellLinearizations, told_at}
use Rattle.snap_history_laws.specs.threads.ShippedLaws.{ClosedDesksAreLinearizable, IsShapeFor, IsToldLive}
use Rattle.snap_history_laws.specs.threads.ShippedLaws.{LiveRunsAreLinearizable, NobodyIsInvented, TellsLinearizations}
use Rattle.snap_history_laws.specs.threads.ShippedLaws.{shipped_over}
use Rattle.snap_history_laws.specs.threads.Told.{IsLinearizableAsTold, IsToldOperation, Told, told_in}
use Rattle.snap_history_laws.proofs.threads.Closing.{no_turns, one_or_not, seats_are_told}
use Rattle.snap_history_laws.proofs.threads.Linear.{linearizations_are_told}
use Rattle.snap_history_laws.proofs.threads.Operations.{span_told}
use Rattle.snap_history_laws.proofs.threads.Playing.{AreOf, one_told}
use Rattle.snap_history_laws.proofs.threads.Spans.{one_of}
use Rattle.snap_history_laws.proofs.threads.Turning.{told_is}

-- the sequence numbers of a short run suffice
pub suffices : (g : KindTag) (items : List Item) → length items < 2 ^ 64 → NumbersSuffice g items
suffices g items short = grind arith

-- what is told of a linearizable run
told_of : (r : Run) → IsValidRun r → IsLinearizable r → IsLinearizableAsTold r.shape.w (told_in r)
told_of r fits h = ((h fits).0, (linearizations_are_told r fits (h fits).0).0 (h fits).1)

-- desks tell of linearizations, over all seats
pub desks_tell : DesksTellLinearizations
desks_tell base seats kept h linear =
    let same : told_at seats ≡ told_in kept = λ k p. seats_are_told base seats kept h p k in
    rw (same, ← h.of_base) (told_of kept h.fits linear)

-- a run of a shipped listing is linearizable
shipped_run : ((g : KindTag) → RunsKeepPromises g) → (g : KindTag) (shape : Counts) (r : Run) → IsShapeFor g shape →
    setting_of r ≡ shipped_over g shape → length r.items ≤ max_items → IsLinearizable r
shipped_run kept g shape r fit is short =
    let same : r ≡ run_of (shipped_over g shape) r.items = ap (λ (b : Setting). run_of b r.items) is in
    rw same (kept g shape r.items fit.0 fit.1 (suffices g r.items (omega arith))).snapshot.linearizable

pub closed_desks : ((g : KindTag) → RunsKeepPromises g) → ClosedDesksAreLinearizable
closed_desks kept g shape seats r fit h =
    desks_tell (shipped_over g shape) seats r h (shipped_run kept g shape r fit h.of_base h.short)

module _ (may : ℕ → ℕ → Bool → Type 0) (scripts : List Script) (limit : ℕ) (r : Run) (turns : List (List Turn))
    (h : IsLive may (setting_of r) scripts limit r turns) (fits : IsValidRun r) where
  -- each turn that is told of the record is of the process to which it is told
  told_own : (p : ℕ) → AreOf p (told_in r p)
  told_own p t has = let u = told_is r p t has in ap (λ (x : OwnTurn). who x.item) u.is ∙ sym u.mine

  -- the threads are told the turns of the record
  told_live : IsToldLive (setting_of r) scripts turns (told_in r)
  told_live = record {
    handed = λ k lt. (h.played k lt).told;
    plays = λ k lt. (h.played k lt).plays;
    own = told_own;
    nobody_else = no_turns r fits;
  }

  -- what is handed back is what the record has, and nothing else
  same_at : (told : Told) → IsToldLive (setting_of r) scripts turns told → (p : ℕ) → told p ≡ told_in r p
  same_at told is p = elim (one_or_not r.shape.n p) [
    | inl one ↦
        (let k = p - 1 in
        let lt : k < r.shape.n = omega arith in
        let place : k + 1 ≡ p = omega arith in
        subst (λ q. told q ≡ told_in r q) place
        (one_told (script_at scripts k) (k + 1) (told (k + 1)) (told_in r (k + 1)) (is.own (k + 1))
        (told_own (k + 1)) (is.plays k lt) (told_live.plays k lt) (sym (is.handed k lt) ∙ told_live.handed k lt)))
    | inr not ↦ is.nobody_else p not ∙ sym (told_live.nobody_else p not)
  ]

  -- an operation of which a thread is told is of a process that is there
  nobody_invented : (w : ℕ) → NobodyIsInvented r.shape.n w (told_in r)
  nobody_invented w os l =
      All-weaker (IsToldOperation (told_in r)) (λ (o : Operation). IsOneOf r.shape.n o.process)
      (λ o was. one_of r fits o.process o.call (Call o.process (called_as o.action)) Called
      (span_told r o.process o.call o.end o.action was).call) os l.took_place

  tells_own : IsLinearizable r → TellsLinearizations (setting_of r) scripts turns r
  tells_own linear = record {
    told = told_live;
    no_other = λ told is k p. same_at told is p k;
    linearizable = told_of r fits linear;
    nobody_invented = nobody_invented r.shape.w;
  }

tells : (may : ℕ → ℕ → Bool → Type 0) (base : Setting) (scripts : List Script) (limit : ℕ) (r : Run)
    (turns : List (List Turn)) → IsLive may base scripts limit r turns → IsValidRun r → IsLinearizable r →
    TellsLinearizations base scripts turns r
tells may base scripts limit r turns h fits linear =
    rw (← h.of_base) (tells_own may scripts limit r turns (rw (← h.of_base) at h) fits linear)

pub live_runs : (may : ℕ → ℕ → Bool → Type 0) → ((g : KindTag) → RunsKeepPromises g) → LiveRunsAreLinearizable may
live_runs may kept g shape scripts limit r turns fit h fits short =
    tells may (shipped_over g shape) scripts limit r turns h fits (shipped_run kept g shape r fit h.of_base short)
