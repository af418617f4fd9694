-- An answer that nobody gave: one process alone scans, nobody updates, and it is answered 9. Nothing that its thread
-- can be told makes that linearizable.
use Rattle.std.proofs.Common.{◌≡◌, ℕ, zero, suc, ◌⊎◌, inl, inr, List, [], ◌∷◌, map, Option, Some, None, refl, sym}
use Rattle.std.proofs.Common.{arith}
use Rattle.std.proofs.lemmas.List.Elements.{All-weaker}
use Rattle.snap_words.specs.Shape.{Counts}
use Rattle.snap_words.specs.declared.kind.KindTag.TheVariants.{Seq}
use Rattle.snap_semantics.specs.declared.process.Item.TheVariants.{Call, Step}
use Rattle.snap_semantics.specs.declared.process.Op.TheVariants.{Scan}
use Rattle.snap_semantics.specs.declared.process.Outcome.TheVariants.{Answered, Called}
use Rattle.snap_sched.specs.ScriptText.{Script}
use Rattle.snap_runs.specs.Linearization.{after}
use Rattle.snap_runs.specs.Operation.{Action, Operation, Sees}
use Rattle.snap_live.specs.Turns.{own_turn}
use Rattle.snap_live.specs.declared.seat.Turn.{Turn}
use Rattle.snap_live.specs.declared.seat_state.OwnTurn.{OwnTurn}
use Rattle.snap_live.specs.Play.{IsPlay, busy, rest}
use Rattle.snap_live.specs.Worker.{shown}
use Rattle.snap_history_laws.specs.threads.ShippedLaws.{IsToldLive, shipped_over}
use Rattle.snap_history_laws.specs.threads.Told.{IsLinearizableAsTold, IsToldOperation, Told, WasTold}
use Rattle.snap_history_laws.proofs.threads.Playing.{AreOf, one_told}
use Rattle.snap_history_laws.proofs.threads.Samples.{by_nobody, still_sees}

abbrev one : Counts
one = record { n = 1; w = 1 }

-- the script is one scan
abbrev scans : Script
scans = record { operations = Scan ∷ []; crash = None }

-- what it is told: its call, and an answer
abbrev made_up : List OwnTurn
made_up = own_turn 1 (Call 1 Scan) Called ∷ own_turn 2 (Step 1) (Answered (9 ∷ [])) ∷ []

abbrev handed : List (List Turn)
handed = map shown made_up ∷ []

is_play : IsPlay scans made_up
is_play = (rest [], (busy [], (refl, refl), (rest [], (tt, refl), refl)), tt)

is_own : AreOf 1 made_up
is_own t has = grind arith

-- the scan is an operation of which its thread was told
abbrev scan : Operation
scan = record { process = 1; call = 1; end = Some 2; action = Sees (9 ∷ []) }

-- no operation of which it was told changes the values
by_scanner : (i c : ℕ) (end : Option ℕ) (a : Action) → WasTold made_up i c end a → after (0 ∷ []) a ≡ 0 ∷ []
by_scanner i c end a was = grind arith

module _ (told : Told) (h : IsToldLive (shipped_over Seq one) (scans ∷ []) handed told) where
  told_one : told 1 ≡ made_up
  told_one = one_told scans 1 (told 1) made_up (h.own 1) is_own (h.plays 0 (omega arith)) is_play
      (sym (h.handed 0 (omega arith)))

  made_up_or_none : (p : ℕ) → (told p ≡ made_up) ⊎ (told p ≡ [])
  made_up_or_none (suc zero) = inl told_one
  made_up_or_none p = inr (h.nobody_else p (λ is. omega arith))

  stays : (o : Operation) → IsToldOperation told o → after (0 ∷ []) o.action ≡ 0 ∷ []
  stays o was = elim (made_up_or_none o.process) [
    | inl is ↦ by_scanner o.process o.call o.end o.action (rw is at was)
    | inr is ↦ absurd (by_nobody o.process o.call o.end o.action (rw is at was))
  ]

  was_told : IsToldOperation told scan
  was_told = rw told_one (
    (0, omega arith, refl),
    omega arith,
    (Step 1, (1, omega arith, refl)),
    λ t out lt less has ends. omega arith,
  )

pub made_up_answers_are_not_linearizable : (told : Told) →
    IsToldLive (shipped_over Seq one) (scans ∷ []) handed told → IsLinearizableAsTold 1 told → ⊥
made_up_answers_are_not_linearizable told h linear =
    let os = linear.0 in
    let l = linear.1 in
    let sees : ◌≡◌ {A = List ℕ} (9 ∷ []) (0 ∷ []) =
    still_sees (0 ∷ []) os scan
    (All-weaker (IsToldOperation told) (λ (x : Operation). after (0 ∷ []) x.action ≡ 0 ∷ []) (stays told h) os
    l.took_place) l.runs (l.complete scan (was_told told h) (2, refl)) in
    cc
