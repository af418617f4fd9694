-- What a `Finder` has found of the first items of a run (`Finds`): how far each process is, and the writes of the
-- updates, or the first thing that is missing.
use Rattle.std.specs.Prelude.{◌≡◌, ℕ, ◌-◌, Bool, true, false, List, length, Option, Some, None, Result, Ok, Err, get_or}
use Rattle.std.specs.Prelude.{if◌then◌else◌, option_map, slice_set}
use Rattle.snap_words.specs.Shape.{IsOneOf}
use Rattle.snap_semantics.specs.Answers.{◌>>=◌}
use Rattle.snap_semantics.specs.Schedule.{Schedule}
use Rattle.snap_semantics.specs.Source.{Source, instr_at}
use Rattle.snap_semantics.specs.State.{values}
use Rattle.snap_semantics.specs.declared.instr.Instr.{Instr}
use Rattle.snap_semantics.specs.declared.process.Activity.{Activity}
use Rattle.snap_semantics.specs.declared.process.Outcome.{Outcome}
use Rattle.snap_runs.specs.Audit.{audit}
use Rattle.snap_runs.specs.Run.{Run, IsValidRun, run_over, state}
use Rattle.snap_record.specs.Roles.{AreRoles}
use Rattle.snap_walk.specs.Walk.{Tells, Way}
use Rattle.snap_walk.specs.declared.passed.Passed.{Passed}
use Rattle.snap_audit.specs.Watch.{AreSilent}
use Rattle.snap_certify.specs.Certification.{Evidence, changes, executed, found_at, is_put, points}
use Rattle.snap_certify.specs.Certification.{progress, progress_after, with_finding, writes}
use Rattle.snap_certify.specs.declared.found.Finding.{Finding}
use Rattle.snap_certify.specs.declared.found.Missing.{Missing}
use Rattle.snap_certify.specs.declared.found.Progress.{Progress}
use Rattle.snap_certify.specs.declared.found.SeenItem.{SeenItem}
use Rattle.snap_certify.specs.declared.found.UpdateWrite.{UpdateWrite}
use Rattle.snap_certify.specs.declared.finder.Finder.{Finder}
use Rattle.snap_certify.specs.declared.sight.Sight.{Sight}

-- the item of a sight
abbrev pub seen_sight : Sight → SeenItem
seen_sight s = record {
  process = s.process;
  activity = s.activity;
  outcome = s.outcome.now;
  values_before = s.values_before.now;
  values_after = s.values_after.now;
}

-- a step of a process at what it was at, between these values
abbrev pub seen_write : ℕ → Activity → Outcome → List ℕ → List ℕ → SeenItem
seen_write i a o before after = record {
  process = i;
  activity = Some a;
  outcome = o;
  values_before = before;
  values_after = after;
}

-- the line that an item executes, where it changes the values
abbrev pub changed_line : SeenItem → Option (Option ℕ)
changed_line x = if changes x then Some (option_map (λ (a : Activity). a.line) (executed x)) else None

-- a process before its first call
abbrev pub fresh : Progress
fresh = record { call = 0; wrote = false }

-- how far each process is after t items
pub record AreProgress (r : Run) (line t : ℕ) (ps : List Progress) : Type 0 where
  pub count : length ps ≡ r.shape.n
  pub each : (i : ℕ) → IsOneOf r.shape.n i → (d : Progress) → get_or ps (i - 1) d ≡ progress r line i t

-- the first thing that is missing, or these writes where nothing is
abbrev pub so_far : Option Missing → List UpdateWrite → Result (List UpdateWrite) Missing
so_far None ws = Ok ws
so_far (Some missing) ws = Err missing

-- with one finding more
abbrev pub with_found : Result (List UpdateWrite) Missing → Finding → Result (List UpdateWrite) Missing
with_found found f = found >>= λ ws. with_finding ws f

-- records item t, given the progress of its process before it
pub record Notes (t : ℕ) (x : SeenItem) (p : Progress) (f g : Finder) : Type 0 where
  pub line : g.line ≡ f.line
  pub roles : g.roles ≡ f.roles
  pub progress : g.progress.items ≡ slice_set f.progress.items (x.process - 1) (progress_after f.line t x p)
  pub found : so_far g.missing g.writes.items ≡ with_found (so_far f.missing f.writes.items) (found_at f.line t x p)

-- a line that writes a word, where it is there
abbrev pub WritesWord : Source → ℕ → Type 0
WritesWord s line = (i : Instr) → instr_at s.lines line ≡ Some i → is_put i ≡ true

-- what is found of the first t items of a run, whose updates write at a line that writes a word
pub record Finds (r : Run) (t : ℕ) (f : Finder) : Type 0 where
  pub fits : IsValidRun r
  pub word : WritesWord r.source f.line
  pub roles : AreRoles r.source f.roles.items
  pub values : f.values ≡ values (state r t)
  pub progress : AreProgress r f.line t f.progress.items
  pub found : writes r f.line t ≡ so_far f.missing f.writes.items

-- what was found, and the next item that is told, where quiet lines write no word
pub record FindsOn (w : Way) (f : Finder) (p : Passed) (w' : Way) : Type 0 where
  pub finds : Finds w.run w.at f
  pub quiet : List Bool
  pub tells_skips : Bool
  pub silent : AreSilent quiet f.roles.items
  pub tells : Tells quiet tells_skips w p w'

-- the end of the way through a run
abbrev pub all_of : Run → Way
all_of r = record { run = r; at = length r.items }

-- the values before the first item of a run
abbrev pub values_first : Source → Schedule → List ℕ
values_first l s = values (state (run_over l s) 0)

-- the certificate of a run with these writes, or the first scan that has no point
abbrev pub pointed : Run → ℕ → List UpdateWrite → Result Evidence Missing
pointed r line ws = points (audit r) >>= λ has. Ok (record { line = line; writes = ws; points = audit r })
