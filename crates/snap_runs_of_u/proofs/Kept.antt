-- `frame` and `kept`: what `Frame` and `Kept` of snap_runs (proofs/ListingFrame.antt) ask of a listing, shown of U.
-- The promises of U follow from it.
use Rattle.std.specs.Prelude.{◌≡◌, ℕ, ◌+◌, ◌*◌, ◌≤◌, Bool, true, false, List, length, refl}
use Rattle.std.proofs.Common.{sym, subst, arith}
use Rattle.snap_runs.proofs.Common.{IsOneOf, Item}
use Rattle.snap_runs.proofs.Algorithm.{Mode, Embedded, Updating, At}
use Rattle.snap_runs.proofs.Calm.{calm, calm_list}
use Rattle.snap_runs.proofs.Flow.{IsInScan, InScan, scan_line}
use Rattle.snap_runs.proofs.Held.{Held}
use Rattle.snap_runs.proofs.Steady.{Steady}
use Rattle.snap_runs.proofs.UpdateSteps.{Ahead, Nearer, Resumes}
use Rattle.snap_runs.proofs.ListingFrame as frames
use Rattle.snap_runs_of_u.specs.Promises.{run_of, SequenceNumbersSuffice}
use Rattle.snap_runs_of_u.proofs.Algorithm.{Words, Variables, ProgramCounter, L30, L31, L32, L33, IsLineOf, L22, L24}
use Rattle.snap_runs_of_u.proofs.Algorithm.{in_update, tests, move, lines, algorithm}
use Rattle.snap_runs_of_u.proofs.Count.{collects_le, own_le}
use Rattle.snap_runs_of_u.proofs.Flows.{numbered, listed, once, writer}
use Rattle.snap_runs_of_u.proofs.Preserve.{few_moves}
use Rattle.snap_runs_of_u.proofs.Ready.{Ready, ready}
use Rattle.snap_runs_of_u.proofs.Runs.{words_at, process_after, invariant_of, execution, well_of, stage_of, counts_of}
use Rattle.snap_runs_of_u.proofs.Stage.{Stage}

-- at a line that returns s, the values were s at some state since the scan's start
pub return_held : (n : ℕ) (history : ℕ → Words) (t since round : ℕ) (m : Words) (p : Variables) (k : ProgramCounter) →
    lines.IsReturn k → Stage n history t since round m p k → Held history t since p.s
return_held n history t since round m p L22 is h = h
return_held n history t since round m p L24 is h = h.0
return_held n history t since round m p k is h = absurd is

-- the most steps that a scan of U takes
abbrev pub most_steps : ℕ → ℕ
most_steps n = 4 * (n * n) + 8 * n + 7

-- at each line of a scan: at most so many double collects, counting the one under way, and at most `most_steps`
-- steps, counting the next
pub within : (n : ℕ) (items : List Item) → Ready n items → (t i : ℕ) (d : Mode) (k : ProgramCounter) →
    t ≤ length items → IsOneOf n i → (process_after n items t i).control ≡ At d k → IsInScan d →
    ((process_after n items t i).auxiliary.collects + tests k ≤ n)
    × ((process_after n items t i).auxiliary.own + 1 ≤ most_steps n)
within n items fits t i d k le one at scan =
    let q = process_after n items t i in
    let g = q.auxiliary in
    let o = invariant_of n items fits t i le one in
    let well = well_of n items fits t i d k le one at in
    let stage = stage_of n items fits t i d k le one at in
    let counts = counts_of n items fits t i d k le one at in
    let inside = scan_line (λ word. word ≡ i) (in_update k) d scan well.0 in
    let sharp =
    few_moves n i (words_at n items) t g.since g.round (words_at n items t) d q.variables k
    one well.0 well.1 (λ inside. o.self (subst InScan (sym at) inside)) stage in
    let few : g.collects + tests k ≤ n =
    collects_le n q.variables k g.own g.collects g.tested (omega arith) well.1 sharp counts inside in
    (few, own_le n q.variables k g.own g.collects g.tested well.1 counts (omega arith) inside)

-- the steps that an update has ahead at its own lines
abbrev ahead : ProgramCounter → ℕ
ahead L30 = 4
ahead L31 = 3
ahead L32 = 2
ahead L33 = 1
ahead _ = 0

abbrev scanned : ProgramCounter → Bool
scanned L30 = false
scanned _ = true

abbrev update_steps : (n : ℕ) → Ahead (algorithm n) lines
update_steps n = record { ahead = λ p k. ahead k; scanned = scanned; rest = 3; total = 4 }

pub nearer : (n me word value : ℕ) (m : Words) (p : Variables) (k : ProgramCounter) →
    IsLineOf me (Updating word value) k →
    Nearer (algorithm n) lines (update_steps n) p k (move n me (Updating word value) m p k)
nearer n me word value m p L30 s = (omega arith, refl)
nearer n me word value m p L31 s = (omega arith, refl)
nearer n me word value m p L32 s = (omega arith, refl)
nearer n me word value m p L33 s = omega arith
nearer n me word value m p k s = absurd s

pub resumes : (n me word value : ℕ) (m : Words) (p : Variables) (k : ProgramCounter) → lines.IsReturn k →
    Resumes (algorithm n) lines (update_steps n) (move n me (Embedded word value) m p k)
resumes n me word value m p L22 is = (omega arith, refl)
resumes n me word value m p L24 is = (omega arith, refl)
resumes n me word value m p k is = absurd is

abbrev pub frame : (n : ℕ) → frames.Frame (algorithm n) lines 32
frame n = record {
  numbered = numbered n;
  listed = listed n;
  once = once n;
  writer = writer n;
  writer_is = refl;
  collects = n;
  steps = most_steps n;
  update_steps = update_steps n;
  resumes = resumes n;
  begins = λ p word value. (omega arith, refl);
}

abbrev pub kept : (n : ℕ) (items : List Item) → Ready n items → frames.Kept (frame n) items
kept n items fits = record {
  fits = fits.steady;
  does = (execution n items fits).does;
  flows = (execution n items fits).flows;
  wrote = (execution n items fits).wrote;
  updates = λ t i d h one e. (well_of n items fits t i d L32 (omega arith) one e).0;
  held = λ t i d k le one at returns.
      let q = process_after n items t i in
      return_held n (words_at n items) t q.auxiliary.since q.auxiliary.round (words_at n items t) q.variables k returns
      (stage_of n items fits t i d k le one at);
  within = within n items fits;
  nearer = λ t i word value k lt one at.
      nearer n i word value (words_at n items t) (process_after n items t i).variables k
      (well_of n items fits t i (Updating word value) k (omega arith) one at).0;
}

-- what every run keeps, once its crashes are left out
abbrev pub calm_kept : (n : ℕ) (items : List Item) → SequenceNumbersSuffice items → Steady (calm (run_of n items)) →
    frames.Kept (frame n) (calm_list (run_of n items))
calm_kept n items suffice steady = kept n (calm_list (run_of n items)) (ready n items suffice steady)
