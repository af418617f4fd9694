-- `Watches`: a `Watch`, which is what an audit has to know of items, tells of those that a machine has done on its way
-- through a run.
use Rattle.std.specs.Prelude.{◌≡◌, ℕ, ◌≤◌, Bool, true, false, List, Option, Some, None, length, map, take}
use Rattle.snap_words.specs.Shape.{max_items}
use Rattle.snap_semantics.specs.declared.process.Activity.{Activity}
use Rattle.snap_runs.specs.Run.{Run, run_of_items, state}
use Rattle.snap_record.specs.History.{IsRecord}
use Rattle.snap_record.specs.Roles.{AreRoles, role_in}
use Rattle.snap_record.specs.declared.roles.LineRole.{LineRole}
use Rattle.snap_record.specs.declared.roles.LineRole.TheVariants as role
use Rattle.snap_walk.specs.Walk.{Tells, Way, is_quiet}
use Rattle.snap_walk.specs.declared.passed.Passed.{Passed}
use Rattle.snap_audit.specs.declared.watch.Watch.{Watch}

-- a line that writes a word
abbrev pub is_write_line : LineRole → Bool
is_write_line role.Write = true
is_write_line _ = false

-- a line that tests for all
abbrev pub is_test_line : LineRole → Bool
is_test_line role.Test = true
is_test_line _ = false

-- a line of which there is nothing to note
abbrev pub is_silent : LineRole → Bool
is_silent role.Write = false
is_silent role.Test = false
is_silent role.Return = true
is_silent role.Nothing = true

-- each quiet line is silent, where these are the roles of the lines
abbrev pub AreSilent : List Bool → List LineRole → Type 0
AreSilent quiet roles = (k : ℕ) → is_quiet quiet k ≡ true → is_silent (role_in roles k) ≡ true

-- the role of the line that is told
abbrev pub told_role : List LineRole → Option Activity → LineRole
told_role roles None = role.Nothing
told_role roles (Some a) = role_in roles a.line

-- the run of the items that were passed
abbrev pub so_far : Way → Run
so_far w = run_of_items w.run.source w.run.shape (take w.at w.run.items)

-- what was noted is what the items did that were passed
pub record Watches (w : Way) (x : Watch) : Type 0 where
  pub shape : x.shape ≡ w.run.shape
  pub roles : AreRoles w.run.source x.roles.items
  pub silent : x.silent.items ≡ map is_silent x.roles.items
  pub notes :
      IsRecord (so_far w) w.run.source.kind (state w.run w.at) x.values x.changes.items x.events.items
      x.collects.items x.at_events.items
  pub few : length w.run.items ≤ max_items

-- the lines of which nothing is noted
abbrev pub silent_lines : Watch → List Bool
silent_lines x = x.silent.items

-- what was noted, and the next item that is told, where quiet lines are silent
pub record WatchesOn (w : Way) (x : Watch) (p : Passed) (w' : Way) : Type 0 where
  pub watches : Watches w x
  pub quiet : List Bool
  pub silent : AreSilent quiet x.roles.items
  pub tells_skips : Bool
  pub tells : Tells quiet tells_skips w p w'
