-- `tally_of`: what the first items of a run came to, in counts of calls, ends, traps, crashes and skips; and with one
-- item more.
use Rattle.std.specs.Prelude.{◌≡◌, ℕ, suc, ◌<◌, Bool, ◌&&◌, List, None, is_none, is_some, if◌then◌else◌}
use Rattle.snap_semantics.specs.declared.process.Item.{Item}
use Rattle.snap_semantics.specs.declared.process.Outcome.{Outcome}
use Rattle.snap_semantics.specs.declared.process.Status.{Status}
use Rattle.snap_semantics.specs.Readers.{operation_of}
use Rattle.snap_semantics.specs.Rules.{or_else}
use Rattle.snap_semantics.specs.State.{State, process_at}
use Rattle.snap_semantics.specs.Table.{who}
use Rattle.snap_runs.specs.Audit.{is_called}
use Rattle.snap_runs.specs.Run.{Run}
use Rattle.snap_runs.specs.Scan.{count}
use Rattle.snap_walk.specs.Walk.{Tells, Way}
use Rattle.snap_walk.specs.declared.passed.Passed.{Passed}
use Rattle.snap_survey.specs.Survey.{asks_scan, asks_update, is_done, is_trap, is_crash, calls_scan}
use Rattle.snap_survey.specs.Survey.{calls_update, ends_update, traps, crashes}
use Rattle.snap_survey.specs.Survey.{trap_by, trap_at, skip_by, skip_at, first_found}
use Rattle.snap_survey.specs.declared.tally.Tally.{Tally}

-- what the first t items came to
abbrev pub tally_of : Run → ℕ → Tally
tally_of r t = record {
  scans_called = count (calls_scan r) 0 t;
  updates_called = count (calls_update r) 0 t;
  updates_done = count (ends_update r) 0 t;
  traps = count (traps r) 0 t;
  first_trap = first_found (trap_at r) t;
  crashes = count (crashes r) 0 t;
  first_skip = first_found (skip_at r) t;
}

-- before the first item
abbrev pub none_noted : Tally
none_noted = record {
  scans_called = 0;
  updates_called = 0;
  updates_done = 0;
  traps = 0;
  first_trap = None;
  crashes = 0;
  first_skip = None;
}

-- with item t, of this outcome, after which its process stands so
abbrev pub noted : Tally → ℕ → Item → Outcome → Status → Tally
noted a t x o s = record {
  scans_called = if is_called o && asks_scan x then suc a.scans_called else a.scans_called;
  updates_called = if is_called o && asks_update x then suc a.updates_called else a.updates_called;
  updates_done = if is_done o then suc a.updates_done else a.updates_done;
  traps = if is_trap o then suc a.traps else a.traps;
  first_trap = or_else a.first_trap (trap_by t (who x) o s);
  crashes = if is_crash o then suc a.crashes else a.crashes;
  first_skip = or_else a.first_skip (skip_by t (who x) o);
}

-- of fewer than so many items
pub record IsWithin (a : Tally) (t : ℕ) : Type 0 where
  pub scans_called : a.scans_called < t
  pub updates_called : a.updates_called < t
  pub updates_done : a.updates_done < t
  pub traps : a.traps < t
  pub crashes : a.crashes < t

-- what was counted, and the next item that is told, where skipped items are told up to the first
pub record TalliesOn (w : Way) (a : Tally) (p : Passed) (w' : Way) : Type 0 where
  pub tally : a ≡ tally_of w.run w.at
  pub quiet : List Bool
  pub tells : Tells quiet (is_none a.first_skip) w p w'

-- whether process i is at an operation, or was at one when it trapped or crashed
abbrev pub is_open_in : State → ℕ → Bool
is_open_in S i = is_some (operation_of (process_at S i).status)
