-- What the proofs of the single-writer listings U and B share: scans show
-- own updates, borrowed views are lent, and observed moves are writes.
use Rattle.std.proofs.Common.{◌≡◌, ℕ, zero, suc, ◌<◌, ◌≤◌, List, length, Some, subst, arith}
use Rattle.snap_runs.proofs.Common.{IsOneOf, Item}
use Rattle.snap_semantics.specs.Source.{Name}
use Rattle.snap_runs.specs.Promises.{row_place, MovesAreWrites, BorrowedViewsAreLent, OwnUpdatesAreSeen}
use Rattle.snap_runs.proofs.Algorithm.{Mode, At, To, Algorithm}
use Rattle.snap_runs.proofs.Calm.{calm}
use Rattle.snap_runs.proofs.CalmPromises as of_calm
use Rattle.snap_runs.proofs.Flow.{Lines}
use Rattle.snap_runs.proofs.Held.{seq_at, Beside}
use Rattle.snap_runs.proofs.Lenders as lenders
use Rattle.snap_runs.proofs.Moves as moves
use Rattle.snap_runs.proofs.OwnUpdates as own_updates
use Rattle.snap_runs.proofs.Steady.{Steady}
use Rattle.snap_runs.proofs.ListingFrame.{Frame, Kept, at, words, execution}
use Rattle.snap_runs.proofs.Every as every

module _ {V P M : Type 0} {a : Algorithm V P M} {lines : Lines V P M} {line : ℕ} (frame : Frame a lines line)
    (own : (i word : ℕ) → frame.writer.Owned i word → word ≡ i) where
  -- what the listing keeps of its views
  abbrev pub Lends : (items : List Item) → Kept frame items → Type 0
  Lends items kept =
      lenders.Lends a lines line frame.writer frame.listed (execution frame items kept) kept.updates frame.numbered
      frame.writer_is own

  module _ (items : List Item)
      (kept : Steady (calm (every.r frame items)) → Kept frame (every.calmed frame items)) where
    abbrev calmed : List Item
    calmed = every.calmed frame items

    -- a scan shows the value of its process's last update
    pub own_updates_are_seen : (Steady (calm (every.r frame items)) → (t : ℕ) → t ≤ length calmed →
        length (words frame calmed t) ≡ a.shape.n) → OwnUpdatesAreSeen (every.r frame items)
    own_updates_are_seen sizes =
        of_calm.own_updates_are_seen (every.r frame items)
        (λ steady. let k = kept steady in
        own_updates.own_updates_are_seen a lines line frame.writer frame.listed (execution frame calmed k) k.updates
        frame.once frame.numbered frame.writer_is own (sizes steady) (every.calm_has_points frame items kept steady))

    -- Where a line returns a view that stood beside a word of another process, which had written twice since the scan's
    -- start, it has been lent.
    pub borrowed_views_are_lent : (at_line : ℕ) (there : P) → frame.numbered.counter_with at_line ≡ Some there →
        ((steady : Steady (calm (every.r frame items))) → Lends calmed (kept steady)) →
        (Steady (calm (every.r frame items)) → (t i : ℕ) (d : Mode) → t ≤ length calmed → IsOneOf a.shape.n i →
        (at frame calmed t i).control ≡ At d there → (k : ℕ) × IsOneOf a.shape.n k
        × Beside (words frame calmed) t (at frame calmed t i).auxiliary.since k
        (lines.answer (at frame calmed t i).variables)) →
        BorrowedViewsAreLent at_line (every.r frame items)
    borrowed_views_are_lent at_line there is lends beside =
        every.borrowed_views_are_lent frame items kept at_line there is (λ steady i link c t view ends x.
        let b = beside steady t i x.mode (omega arith) ends.scan.process x.control in
        let since = (at frame calmed t i).auxiliary.since in
        let stood : Beside (words frame calmed) t c b.0 view =
        subst (λ y. Beside (words frame calmed) t y b.0 view) x.since
        (subst (Beside (words frame calmed) t since b.0) x.answers b.2) in
        lenders.lent_view a lines line frame.writer frame.listed (execution frame calmed (kept steady))
        (kept steady).updates frame.numbered frame.writer_is own (lends steady) i link c t view ends b.0 stood.0
        b.1 stood.1 stood.2 stood.3 stood.4)

    -- Where the line that counts moves counts one only of a process whose word is newer than at the start of the double
    -- collect, which has not ended more than once, a move that a scan sees is a write.
    pub moves_are_writes : (raises : ℕ) (there next : P) (raised : ℕ → V → V) (row : Name) →
        frame.numbered.counter_with raises ≡ Some there → a.tests there ≡ 0 →
        ((me : ℕ) (d : Mode) (m : M) (p : V) → a.move me d m p there ≡ To d m (raised me p) next) →
        (Steady (calm (every.r frame items)) → (t i j : ℕ) (d : Mode) → t < length calmed → IsOneOf a.shape.n i →
        IsOneOf a.shape.n j → (at frame calmed t i).control ≡ At d there →
        row_place (a.locals_of (at frame calmed t i).variables) row j
        < row_place (a.locals_of (raised i (at frame calmed t i).variables)) row j →
        ((at frame calmed t i).auxiliary.tested ≤ 1)
        × (seq_at (words frame calmed (at frame calmed t i).auxiliary.round) j < seq_at (words frame calmed t) j)) →
        MovesAreWrites raises row line (every.r frame items)
    moves_are_writes raises there next raised row is none goes newer =
        of_calm.moves_are_writes (every.r frame items) raises row line in_calm
      where
        in_calm : of_calm.OfCalm (every.r frame items) (MovesAreWrites raises row line)
        in_calm steady whole i j link c zero scan lt move = absurd (omega arith)
        in_calm steady whole i j link c (suc t) scan lt move =
            let k = kept steady in
            let run = execution frame calmed k in
            let seen =
            moves.observed a lines frame.listed run frame.numbered raises there next raised row is goes i j t
            (omega arith) scan.process move in
            let x = newer steady t i j seen.mode (omega arith) scan.process move.process seen.control seen.grows in
            moves.recent_write a lines frame.listed run line frame.writer k.updates own i j link c t seen.mode there
            move.process scan (omega arith) seen.control none x.0 x.1
