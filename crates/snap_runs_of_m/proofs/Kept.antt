-- `frame` and `kept`: what `Frame` and `Kept` of snap_runs (proofs/ListingFrame.antt) ask of a listing, shown of M.
-- The promises of M follow from it.
use Rattle.std.specs.Prelude.{◌≡◌, ℕ, ◌+◌, ◌-◌, ◌*◌, ◌<◌, ◌≤◌, Bool, true, false, List, length, nat_lt, refl}
use Rattle.std.proofs.Common.{subst, arith}
use Rattle.snap_runs.proofs.Common.{IsOneOf, Item}
use Rattle.snap_runs.proofs.Algorithm.{Mode, Embedded, Updating, At, typed_at}
use Rattle.snap_runs.proofs.Calm.{calm, calm_list}
use Rattle.snap_runs.proofs.Computing.{lt_from, either}
use Rattle.snap_runs.proofs.Flow.{IsInScan, scan_line}
use Rattle.snap_runs.proofs.Held.{Held}
use Rattle.snap_runs.proofs.Steady.{Steady}
use Rattle.snap_runs.proofs.UpdateSteps.{Ahead, Nearer, Resumes}
use Rattle.snap_runs.proofs.ListingFrame as frames
use Rattle.snap_runs_of_m.specs.Promises.{run_of}
use Rattle.snap_runs_of_m.proofs.Algorithm.{Registers, Variables, ProgramCounter, L50, L51, L52, L53, L54, L55, L56}
use Rattle.snap_runs_of_m.proofs.Algorithm.{L35, L37, L57, L58, IsLineOf, in_update, tests, move, lines, algorithm}
use Rattle.snap_runs_of_m.proofs.Count.{collects_le, own_le}
use Rattle.snap_runs_of_m.proofs.Flows.{numbered, listed, once, writer}
use Rattle.snap_runs_of_m.proofs.History.{words_of}
use Rattle.snap_runs_of_m.proofs.Invariant.{Books, BooksAt}
use Rattle.snap_runs_of_m.proofs.Preserve.{sharp_at}
use Rattle.snap_runs_of_m.proofs.Runs.{state_at, registers_at, inv, execution, well_of, stage_of, counts_of}
use Rattle.snap_runs_of_m.proofs.Stage.{Stage}

-- at a line that returns s, the values were s at some state since the scan's start
pub return_held : (n w i : ℕ) (history : ℕ → Registers) (t since round : ℕ) (p : Variables) (k : ProgramCounter) →
    lines.IsReturn k → Stage n w i history t since round p k → Held (words_of history) t since p.s
return_held n w i history t since round p L35 is h = h
return_held n w i history t since round p L37 is h = h.0
return_held n w i history t since round p k is h = absurd is

-- the most steps that a scan of M takes
abbrev pub most_steps : ℕ → ℕ → ℕ
most_steps n w = 14 * (n * n) + 16 * (n * w) + 19 * n + 8 * w + 10

-- at each line of a scan: at most so many double collects, counting the one under way, and at most `most_steps`
-- steps, counting the next
pub within : (n w : ℕ) (items : List Item) → 0 < w → Steady (run_of n w items) →
    (t i : ℕ) (d : Mode) (k : ProgramCounter) → t ≤ length items → IsOneOf n i →
    (typed_at (algorithm n w) (state_at n w items t) i).control ≡ At d k → IsInScan d →
    ((typed_at (algorithm n w) (state_at n w items t) i).auxiliary.collects + tests k ≤ 2 * n - 1)
    × ((typed_at (algorithm n w) (state_at n w items t) i).auxiliary.own + 1 ≤ most_steps n w)
within n w items some fits t i d k le one at scan =
    let q = typed_at (algorithm n w) (state_at n w items t) i in
    let g = q.auxiliary in
    let history = registers_at n w items in
    let v = inv n w items some fits t le in
    let o = v.each i one in
    let well = well_of n w items some fits t i d k le one at in
    let stage = stage_of n w items some fits t i d k le one at in
    let counts = counts_of n w items some fits t i d k le one at in
    let books : Books n w i (history g.since) (history t) d q.variables k =
    subst (BooksAt n w i (history g.since) (history t) q.variables) at o.books in
    let inside = scan_line (IsOneOf w) (in_update k) d scan well.0 in
    let sharp =
    sharp_at n w i history t g.since g.round d q.variables k
    one ((v.laws t (omega arith)).since g.round o.round_le) well.0 well.1 books stage in (
      collects_le n w q.variables k g.own g.collects g.tested (omega arith) sharp counts inside,
      own_le n w d q.variables k g.own g.collects g.tested well.1 counts inside,
    )

-- the steps that an update has ahead at its own lines: three for each bit that is still to be answered
abbrev ahead : ℕ → Variables → ProgramCounter → ℕ
ahead n p L50 = 9 + 3 * (n - 1)
ahead n p L51 = 8 + 3 * (n - p.j)
ahead n p L52 = 7 + 3 * (n - p.j)
ahead n p L53 = 6 + 3 * (n - p.j)
ahead n p L54 = 5
ahead n p L55 = 4
ahead n p L56 = 3
ahead n p L57 = 2
ahead n p L58 = 1
ahead n p _ = 0

abbrev scanned : ProgramCounter → Bool
scanned L50 = false
scanned L51 = false
scanned L52 = false
scanned L53 = false
scanned L54 = false
scanned _ = true

abbrev update_steps : (n w : ℕ) → Ahead (algorithm n w) lines
update_steps n w = record { ahead = ahead n; scanned = scanned; rest = 4; total = 9 + 3 * (n - 1) }

pub nearer : (n w me word value : ℕ) (m : Registers) (p : Variables) (k : ProgramCounter) →
    IsLineOf w (Updating word value) k →
    Nearer (algorithm n w) lines (update_steps n w) p k (move n w me (Updating word value) m p k)
nearer n w me word value m p L50 s = (omega arith, refl)
nearer n w me word value m p L51 s = (omega arith, refl)
nearer n w me word value m p L52 s = (omega arith, refl)
nearer n w me word value m p L53 s =
    either (Nearer (algorithm n w) lines (update_steps n w) p L53) (nat_lt p.j n) _ _
    (λ is. let lt : p.j < n = lt_from p.j n is in (omega arith, refl)) (λ is. (omega arith, refl))
nearer n w me word value m p L54 s = (omega arith, refl)
nearer n w me word value m p L55 s = (omega arith, refl)
nearer n w me word value m p L56 s = (omega arith, refl)
nearer n w me word value m p L57 s = (omega arith, refl)
nearer n w me word value m p L58 s = omega arith
nearer n w me word value m p k s = absurd s

pub resumes : (n w me word value : ℕ) (m : Registers) (p : Variables) (k : ProgramCounter) → lines.IsReturn k →
    Resumes (algorithm n w) lines (update_steps n w) (move n w me (Embedded word value) m p k)
resumes n w me word value m p L35 is = (omega arith, refl)
resumes n w me word value m p L37 is = (omega arith, refl)
resumes n w me word value m p k is = absurd is

abbrev pub frame : (n w : ℕ) → frames.Frame (algorithm n w) lines 57
frame n w = record {
  numbered = numbered n w;
  listed = listed n w;
  once = once n w;
  writer = writer n w;
  writer_is = refl;
  collects = 2 * n - 1;
  steps = most_steps n w;
  update_steps = update_steps n w;
  resumes = resumes n w;
  begins = λ p word value. (omega arith, refl);
}

abbrev pub kept : (n w : ℕ) (items : List Item) → 0 < w → Steady (run_of n w items) → frames.Kept (frame n w) items
kept n w items some fits = record {
  fits = fits;
  does = (execution n w items some fits).does;
  flows = (execution n w items some fits).flows;
  wrote = (execution n w items some fits).wrote;
  updates = λ t i d h one e. (well_of n w items some fits t i d L57 (omega arith) one e).0;
  held = λ t i d k le one at returns.
      let q = typed_at (algorithm n w) (state_at n w items t) i in
      return_held n w i (registers_at n w items) t q.auxiliary.since q.auxiliary.round q.variables k returns
      (stage_of n w items some fits t i d k le one at);
  within = within n w items some fits;
  nearer = λ t i word value k lt one at.
      nearer n w i word value (registers_at n w items t) (typed_at (algorithm n w) (state_at n w items t) i).variables k
      (well_of n w items some fits t i (Updating word value) k (omega arith) one at).0;
}

-- what every run keeps, once its crashes are left out
abbrev pub calm_kept : (n w : ℕ) (items : List Item) → 0 < w → Steady (calm (run_of n w items)) →
    frames.Kept (frame n w) (calm_list (run_of n w items))
calm_kept n w items some = kept n w (calm_list (run_of n w items)) some
