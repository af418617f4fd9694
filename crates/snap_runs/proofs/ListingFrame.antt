-- `Frame` and `Kept`: what is known of the lines of a listing of which one line writes
-- a word, and of each of its runs without crashes; its promises follow from this.
use Rattle.std.proofs.Common.{◌≡◌, ℕ, suc, ◌+◌, ◌<◌, ◌≤◌, true, false, List, length, Option, Some, arith}
use Rattle.snap_runs.proofs.Common.{IsOneOf, Word, Item, Update}
use Rattle.snap_runs.specs.Promises.{CollectLines}
use Rattle.snap_runs.specs.Scan.{FinishedScan}
use Rattle.snap_runs.specs.Update.{executes}
use Rattle.snap_runs.proofs.Algorithm.{Mode, Embedded, Updating, At, TypedProcess, Algorithm, typed_at, typed_state}
use Rattle.snap_runs.proofs.CleanTests as clean
use Rattle.snap_runs.proofs.Collecting.{Copies}
use Rattle.snap_runs.proofs.Embedding as embed
use Rattle.snap_runs.proofs.Executing as executing
use Rattle.snap_runs.proofs.Flow.{Lines, IsInScan, IsUpdateOf}
use Rattle.snap_runs.proofs.Held.{Held}
use Rattle.snap_runs.proofs.Scans as scans
use Rattle.snap_runs.proofs.Steady.{Steady}
use Rattle.snap_runs.proofs.UpdateSteps as ahead
use Rattle.snap_runs.proofs.WordWrites as word_writes
use Rattle.snap_runs.proofs.WritesOnce as writes_once

-- What is known of the lines.
pub record Frame {V P M : Type 0} (a : Algorithm V P M) (lines : Lines V P M) (line : ℕ) : Type 1 where
  pub numbered : executing.Numbered a
  pub listed : scans.Listed a lines
  -- line `line` writes, once in an update
  pub once : writes_once.Once a lines line
  pub writer : word_writes.Writer a lines line
  pub writer_is : numbered.counter_with line ≡ Some writer.counter
  -- a scan has at most so many double collects, and takes at most so many steps
  pub collects : ℕ
  pub steps : ℕ
  -- the steps that an update has ahead outside its scan
  pub update_steps : ahead.Ahead a lines
  pub resumes : (me word value : ℕ) (m : M) (p : V) (k : P) → lines.IsReturn k →
      ahead.Resumes a lines update_steps (a.move me (Embedded word value) m p k)
  pub begins : (p : V) (word value : ℕ) →
      (update_steps.ahead p (a.counter (Update word value)) ≤ update_steps.total) × (update_steps.scanned (a.counter (Update word value)) ≡ false)

module _ {V P M : Type 0} {a : Algorithm V P M} {lines : Lines V P M} {line : ℕ} (frame : Frame a lines line)
    (items : List Item) where
  -- process i after t items, and the words
  abbrev pub at : ℕ → ℕ → TypedProcess V P M
  at t i = typed_at a (typed_state a items t) i

  abbrev pub words : ℕ → List Word
  words t = frame.writer.words (typed_state a items t).memory

  -- What is known of a run over these items, in which no process crashes.
  pub record Kept : Type 0 where
    pub fits : Steady (embed.run_of a items)
    -- no line traps, control passes on as the lines say, and updates have written as often as they say
    pub does : embed.AllDo a items
    pub flows : scans.AllFlow a lines items
    pub wrote : scans.AllWrite a lines items
    -- the line that writes is one of an update
    pub updates : (t i : ℕ) (d : Mode) → t < length items → IsOneOf a.shape.n i →
        (at t i).control ≡ At d frame.writer.counter → IsUpdateOf (frame.writer.Owned i) d
    -- where a line returns a view, the values were that view at some state since the scan's start
    pub held : (t i : ℕ) (d : Mode) (k : P) → t ≤ length items → IsOneOf a.shape.n i → (at t i).control ≡ At d k →
        lines.IsReturn k → Held words t (at t i).auxiliary.since (lines.answer (at t i).variables)
    -- a scan keeps within its bounds at each line
    pub within : (t i : ℕ) (d : Mode) (k : P) → t ≤ length items → IsOneOf a.shape.n i → (at t i).control ≡ At d k →
        IsInScan d →
        ((at t i).auxiliary.collects + a.tests k ≤ frame.collects) × ((at t i).auxiliary.own + 1 ≤ frame.steps)
    -- a line of an update leaves one step fewer ahead
    pub nearer : (t i word value : ℕ) (k : P) → t < length items → IsOneOf a.shape.n i →
        (at t i).control ≡ At (Updating word value) k →
        ahead.Nearer a lines frame.update_steps (at t i).variables k
        (a.move i (Updating word value) (typed_state a items t).memory (at t i).variables k)

  abbrev pub execution : Kept → scans.Execution a lines
  execution kept =
      record { items = items; fits = kept.fits; does = kept.does; flows = kept.flows; wrote = kept.wrote }

  -- Where a scan ends with a view at a line: the process stands there with this view, in the scan that started at
  -- item c.
  pub record Returned (there : P) (i c t : ℕ) (view : List ℕ) : Type 0 where
    pub mode : Mode
    pub control : (at t i).control ≡ At mode there
    pub since : (at t i).auxiliary.since ≡ c
    pub answers : lines.answer (at t i).variables ≡ view

  pub returned : Kept → (at_line : ℕ) (there : P) → frame.numbered.counter_with at_line ≡ Some there →
      (i : ℕ) (link : Option ℕ) (c t : ℕ) (view : List ℕ) → FinishedScan (embed.run_of a items) i link c (suc t) view →
      executes (embed.run_of a items) i at_line (suc t) ≡ true → Returned there i c t view
  returned kept at_line there is i link c t view ends ex =
      let stands =
      executing.stands_at a items kept.fits kept.does frame.numbered t i at_line there (omega arith)
      ends.scan.process is ex in
      let ending = scans.ending a lines frame.listed (execution kept) i ends.scan.process link c t view ends in
      record { mode = stands.1.0; control = stands.1.1; since = ending.goes_on.since; answers = ending.answers }

  -- what the listing keeps of its counts, and says of its double collects
  abbrev pub Counts : Kept → Type 0
  Counts kept =
      clean.Counts a lines line frame.writer frame.listed (execution kept) kept.updates frame.numbered frame.writer_is

  abbrev pub Collects : (kept : Kept) → Counts kept → Copies V P M → CollectLines → P → Type 0
  Collects kept =
      clean.Collects a lines line frame.writer frame.listed (execution kept) kept.updates frame.numbered frame.writer_is
