-- The double collects and the own steps of every scan of a run are
-- bounded, for any algorithm, by those of a scan at each of its lines.
use Rattle.std.proofs.Common.{◌≡◌, ℕ, zero, suc, ◌+◌, ◌≤◌, List, length, Option, subst, arith, inl, inr}
use Rattle.std.proofs.Math.Nat.{eq-or-lt_of_le}
use Rattle.snap_runs.proofs.Common.{IsOneOf, Item, Run}
use Rattle.snap_runs.specs.Scan.{PendingScan, double_collects, own_steps}
use Rattle.snap_runs.specs.Promises.{CollectsAtMost, StepsAtMost}
use Rattle.snap_runs.proofs.Algorithm.{Mode, At, TypedProcess, Algorithm, typed_at, typed_state}
use Rattle.snap_runs.proofs.Embedding as embed
use Rattle.snap_runs.proofs.Flow as flow
use Rattle.snap_runs.proofs.Flow.{Lines, IsInScan}
use Rattle.snap_runs.proofs.ScanSpan as span
use Rattle.snap_runs.proofs.Scans as scans

module _ {V P M : Type 0} (a : Algorithm V P M) (lines : Lines V P M) (listed : scans.Listed a lines)
    (run : scans.Execution a lines)
    (collects steps : ℕ) where
  abbrev items : List Item
  items = run.items

  abbrev r : Run
  r = embed.run_of a items

  abbrev at : ℕ → ℕ → TypedProcess V P M
  at t i = typed_at a (typed_state a items t) i

  -- a scan at a line has so many double collects with the one that the line ends, and so
  -- many steps with that of the line
  module _ (within : (t i : ℕ) (d : Mode) (k : P) → t ≤ length items → IsOneOf a.shape.n i →
      (at t i).control ≡ At d k → IsInScan d →
      ((at t i).auxiliary.collects + a.tests k ≤ collects) × ((at t i).auxiliary.own + 1 ≤ steps)) where
    bounds : (i : ℕ) (link : Option ℕ) (c e : ℕ) → PendingScan r i link c e →
        (double_collects r i c e ≤ collects) × (own_steps r i c e ≤ steps)
    bounds i link c zero scan = (omega arith, omega arith)
    bounds i link c (suc t) scan =
        let one = scan.process in
        let lawful = scans.lawful a lines listed run in
        elim (eq-or-lt_of_le scan.order) [
          | inl same ↦ (let x =
              span.started_collects a listed.tested items run.fits run.does lawful i one c (suc t) (omega arith) in
              let y = span.started_own a listed.tested items run.fits run.does lawful i one c (suc t) (omega arith) in
              (omega arith, omega arith))
          | inr more ↦ (let g = scans.goes a lines listed run i one link c (suc t) t scan (omega arith) (omega arith) in
              let w =
              within t i g.mode g.counter (omega arith) one g.control (flow.in_scan lines a link g.mode g.inside) in
              let few : double_collects r i c t + a.tests g.counter ≤ collects =
              subst (λ y. y + a.tests g.counter ≤ collects) g.collects w.0 in
              let short : own_steps r i c t + 1 ≤ steps = subst (λ y. y + 1 ≤ steps) g.own w.1 in
              let x =
              span.last_collects a listed.tested items run.fits run.does lawful i one c t g.mode g.counter
              (omega arith) (omega arith) g.control in
              let y = span.last_own a listed.tested items run.fits run.does lawful i one c t (omega arith) in
              (omega arith, omega arith))
        ]

    pub collects_at_most : CollectsAtMost collects r
    collects_at_most fits i link c e scan = (bounds i link c e scan).0

    pub steps_at_most : StepsAtMost steps r
    steps_at_most fits i link c e scan = (bounds i link c e scan).1
