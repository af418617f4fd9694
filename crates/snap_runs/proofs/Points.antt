-- Every finished scan of any algorithm has a point, where the view that
-- a line returns was the values at some state since the scan's start.
use Rattle.std.proofs.Common.{◌≡◌, ℕ, zero, suc, ◌≤◌, List, length, ◌∙◌, subst, arith}
use Rattle.snap_runs.proofs.Common.{IsOneOf, Item, Run}
use Rattle.snap_runs.specs.Scan.{HasPoint}
use Rattle.snap_runs.specs.Promises.{HavePoints}
use Rattle.snap_runs.proofs.Algorithm.{Mode, At, TypedProcess, Algorithm, typed_at, typed_state}
use Rattle.snap_runs.proofs.Embedding as embed
use Rattle.snap_runs.proofs.Flow.{Lines}
use Rattle.snap_runs.proofs.Held.{Held}
use Rattle.snap_runs.proofs.Scans as scans
use Rattle.snap_runs.proofs.WordWrites as writes

module _ {V P M : Type 0} (a : Algorithm V P M) (lines : Lines V P M) (line : ℕ) (writer : writes.Writer a lines line)
    (listed : scans.Listed a lines)
    (run : scans.Execution a lines) where
  abbrev items : List Item
  items = run.items

  abbrev r : Run
  r = embed.run_of a items

  abbrev at : ℕ → ℕ → TypedProcess V P M
  at t i = typed_at a (typed_state a items t) i

  -- what was held was the values
  point_of : (c e t : ℕ) (v : List ℕ) → t ≤ length items → t ≤ e →
      Held (writes.words_at a lines line writer run) t c v → HasPoint r c e v
  point_of c e t v le more h =
      (h.0, h.1, omega arith, writes.values_is a lines line writer run h.0 (omega arith) ∙ h.3)

  module _ (held : (t i : ℕ) (d : Mode) (k : P) → t ≤ length items → IsOneOf a.shape.n i →
      (at t i).control ≡ At d k → lines.IsReturn k →
      Held (writes.words_at a lines line writer run) t (at t i).auxiliary.since (lines.answer (at t i).variables)) where
    pub have_points : HavePoints r
    have_points fits i link c zero view h = absurd (omega arith)
    have_points fits i link c (suc t) view h =
        let ending = scans.ending a lines listed run i h.scan.process link c t view h in
        let g = ending.goes_on in
        let returned = held t i g.mode g.counter (omega arith) h.scan.process g.control ending.at_return in
        point_of c (suc t) t view (omega arith) (omega arith)
        (subst (Held (writes.words_at a lines line writer run) t c) ending.answers
        (subst (λ s. Held (writes.words_at a lines line writer run) t s (lines.answer (at t i).variables))
        g.since returned))
