-- `frame` and `kept`: what `Frame` and `Kept` of snap_runs (proofs/ListingFrame.antt) ask of a listing, shown of B.
-- The promises of B follow from it.
use Rattle.std.specs.Prelude.{◌≡◌, ℕ, ◌+◌, ◌-◌, ◌*◌, ◌<◌, ◌≤◌, Bool, true, false, List, length, nat_lt, refl}
use Rattle.std.proofs.Common.{sym, subst, arith}
use Rattle.snap_runs.proofs.Common.{IsOneOf, Item}
use Rattle.snap_runs.proofs.Algorithm.{Mode, Embedded, Updating, At}
use Rattle.snap_runs.proofs.Calm.{calm, calm_list}
use Rattle.snap_runs.proofs.Computing.{lt_from, either}
use Rattle.snap_runs.proofs.Flow.{IsInScan, InScan, scan_line}
use Rattle.snap_runs.proofs.Held.{Held}
use Rattle.snap_runs.proofs.Steady.{Steady}
use Rattle.snap_runs.proofs.UpdateSteps.{Ahead, Nearer, Resumes}
use Rattle.snap_runs.proofs.ListingFrame as frames
use Rattle.snap_runs_of_b.specs.Promises.{run_of}
use Rattle.snap_runs_of_b.proofs.Algorithm.{Words, Registers, Variables, ProgramCounter, L40, L41, L42, L43, L44, L45}
use Rattle.snap_runs_of_b.proofs.Algorithm.{L26, L28, L46, L47, IsLineOf, in_update, tests, move, lines, algorithm}
use Rattle.snap_runs_of_b.proofs.Count.{collects_le, own_le}
use Rattle.snap_runs_of_b.proofs.Flows.{numbered, listed, once, writer}
use Rattle.snap_runs_of_b.proofs.Preserve.{few_moves}
use Rattle.snap_runs_of_b.proofs.Runs.{words_at, registers_at, process_after, invariant_of}
use Rattle.snap_runs_of_b.proofs.Runs.{execution, well_of, stage_of, counts_of}
use Rattle.snap_runs_of_b.proofs.Stage.{Stage}

-- at a line that returns s, the values were s at some state since the scan's start
pub return_held : (n i : ℕ) (history : ℕ → Words) (t since round : ℕ) (words : Words) (p : Variables)
    (k : ProgramCounter) → lines.IsReturn k → Stage n i history t since round words p k → Held history t since p.s
return_held n i history t since round words p L26 is h = h
return_held n i history t since round words p L28 is h = h.0
return_held n i history t since round words p k is h = absurd is

-- the most steps that a scan of B takes
abbrev pub most_steps : ℕ → ℕ
most_steps n = 8 * (n * n) + 12 * n + 7

-- at each line of a scan: at most so many double collects, counting the one under way, and at most `most_steps`
-- steps, counting the next
pub within : (n : ℕ) (items : List Item) → Steady (run_of n items) → (t i : ℕ) (d : Mode) (k : ProgramCounter) →
    t ≤ length items → IsOneOf n i → (process_after n items t i).control ≡ At d k → IsInScan d →
    ((process_after n items t i).auxiliary.collects + tests k ≤ n)
    × ((process_after n items t i).auxiliary.own + 1 ≤ most_steps n)
within n items fits t i d k le one at scan =
    let q = process_after n items t i in
    let g = q.auxiliary in
    let o = invariant_of n items fits t i le one in
    let well = well_of n items fits t i d k le one at in
    let stage = stage_of n items fits t i d k le one at in
    let counts = counts_of n items fits t i d k le one at in
    let inside = scan_line (λ word. word ≡ i) (in_update k) d scan well.0 in
    let sharp =
    few_moves n i (words_at n items) t g.since g.round (words_at n items t) d q.variables k
    one well.0 well.1 o.opened (λ inside. o.self (subst InScan (sym at) inside)) stage in
    let few : g.collects + tests k ≤ n =
    collects_le n i q.variables k g.own g.collects g.tested (omega arith) well.1 sharp counts inside in
    (few, own_le n i q.variables k g.own g.collects g.tested well.1 counts (omega arith) inside)

-- the steps that an update has ahead at its own lines: three for each bit that is still to be answered
abbrev ahead : ℕ → Variables → ProgramCounter → ℕ
ahead n p L40 = 8 + 3 * (n - 1)
ahead n p L41 = 7 + 3 * (n - p.j)
ahead n p L42 = 6 + 3 * (n - p.j)
ahead n p L43 = 5 + 3 * (n - p.j)
ahead n p L44 = 4
ahead n p L45 = 3
ahead n p L46 = 2
ahead n p L47 = 1
ahead n p _ = 0

abbrev scanned : ProgramCounter → Bool
scanned L40 = false
scanned L41 = false
scanned L42 = false
scanned L43 = false
scanned L44 = false
scanned _ = true

abbrev update_steps : (n : ℕ) → Ahead (algorithm n) lines
update_steps n = record { ahead = ahead n; scanned = scanned; rest = 3; total = 8 + 3 * (n - 1) }

pub nearer : (n me word value : ℕ) (m : Registers) (p : Variables) (k : ProgramCounter) →
    IsLineOf me (Updating word value) k →
    Nearer (algorithm n) lines (update_steps n) p k (move n me (Updating word value) m p k)
nearer n me word value m p L40 s = (omega arith, refl)
nearer n me word value m p L41 s = (omega arith, refl)
nearer n me word value m p L42 s = (omega arith, refl)
nearer n me word value m p L43 s =
    either (Nearer (algorithm n) lines (update_steps n) p L43) (nat_lt p.j n) _ _
    (λ is. let lt : p.j < n = lt_from p.j n is in (omega arith, refl)) (λ is. (omega arith, refl))
nearer n me word value m p L44 s = (omega arith, refl)
nearer n me word value m p L45 s = (omega arith, refl)
nearer n me word value m p L46 s = (omega arith, refl)
nearer n me word value m p L47 s = omega arith
nearer n me word value m p k s = absurd s

pub resumes : (n me word value : ℕ) (m : Registers) (p : Variables) (k : ProgramCounter) → lines.IsReturn k →
    Resumes (algorithm n) lines (update_steps n) (move n me (Embedded word value) m p k)
resumes n me word value m p L26 is = (omega arith, refl)
resumes n me word value m p L28 is = (omega arith, refl)
resumes n me word value m p k is = absurd is

abbrev pub frame : (n : ℕ) → frames.Frame (algorithm n) lines 46
frame n = record {
  numbered = numbered n;
  listed = listed n;
  once = once n;
  writer = writer n;
  writer_is = refl;
  collects = n;
  steps = most_steps n;
  update_steps = update_steps n;
  resumes = resumes n;
  begins = λ p word value. (omega arith, refl);
}

abbrev pub kept : (n : ℕ) (items : List Item) → Steady (run_of n items) → frames.Kept (frame n) items
kept n items fits = record {
  fits = fits;
  does = (execution n items fits).does;
  flows = (execution n items fits).flows;
  wrote = (execution n items fits).wrote;
  updates = λ t i d h one e. (well_of n items fits t i d L46 (omega arith) one e).0;
  held = λ t i d k le one at returns.
      let q = process_after n items t i in
      return_held n i (words_at n items) t q.auxiliary.since q.auxiliary.round
      (words_at n items t) q.variables k returns
      (stage_of n items fits t i d k le one at);
  within = within n items fits;
  nearer = λ t i word value k lt one at.
      nearer n i word value (registers_at n items t) (process_after n items t i).variables k
      (well_of n items fits t i (Updating word value) k (omega arith) one at).0;
}

-- what every run keeps, once its crashes are left out
abbrev pub calm_kept : (n : ℕ) (items : List Item) → Steady (calm (run_of n items)) →
    frames.Kept (frame n) (calm_list (run_of n items))
calm_kept n items = kept n (calm_list (run_of n items))
