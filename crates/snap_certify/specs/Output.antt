-- `certify_listing`: what the task `certify` writes for a listing and a schedule, which is the certification of the
-- run, or why it is refused; and what was judged for it.
use Rattle.std.specs.Prelude.{◌≡◌, ℕ, List, Result, Ok}
use Rattle.snap_semantics.specs.Answers.{◌>>=◌}
use Rattle.snap_semantics.specs.Schedule.{Schedule}
use Rattle.snap_semantics.specs.Source.{Source}
use Rattle.snap_semantics.specs.declared.refusal.Refusal.{Refusal}
use Rattle.snap_runs.specs.Run.{run_over}
use Rattle.snap_input.specs.Input.{listing_for, texts_for}
use Rattle.snap_input.specs.Parts.{part}
use Rattle.snap_input.specs.Schedules.{schedule_for}
use Rattle.snap_judge.specs.declared.judgements.Failing.{Failing}
use Rattle.snap_certify.specs.CertificationText.{WasJudged, certificate_text}
use Rattle.snap_tasks.specs.declared.subject.Subject.{Subject}

-- a schedule: what its run is certified by, or what is missing
unfoldable pub certify_listing : List Failing → Source → List ℕ → Result (List ℕ) Refusal
certify_listing judged l schedule = do
  s ← schedule_for l schedule
  Ok (certificate_text judged (run_over l s))

abbrev pub certificates_text : List Failing → Source → List (List ℕ) → Result (List ℕ) Refusal
certificates_text judged l texts = certify_listing judged l (part 0 texts)

-- What was judged for the certification of the run of a listing over a schedule.
abbrev pub WasJudgedOver : Source → List ℕ → List Failing → Type 0
WasJudgedOver l schedule judged = (s : Schedule) → schedule_for l schedule ≡ Ok s → WasJudged (run_over l s) judged

-- What was judged for the certification of an input.
abbrev pub WasJudgedIn : Subject → List (List ℕ) → List Failing → Type 0
WasJudgedIn subject parts judged =
    (l : Source) → listing_for subject parts ≡ Ok l → WasJudgedOver l (part 0 (texts_for subject parts)) judged
