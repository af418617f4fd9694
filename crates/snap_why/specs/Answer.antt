-- Why a scan answered what it answered: its point, how many double collects it took, and, where it took the view of
-- another process, who wrote that view, and which scan saw it. Each is followed by the command that goes there.
use Rattle.std.specs.Prelude.{◌≡◌, ℕ, zero, suc, ◌-◌, List, [], ◌∷◌, ◌++◌, take, Option, Some, None}
use Rattle.std.specs.Prelude.{codes, decimal, nat_eq, nat_lt, if◌then◌else◌}
use Rattle.snap_runs.specs.Run.{Run, run_of_items}
use Rattle.snap_runs.specs.declared.verdict.Verdict.{Verdict}
use Rattle.snap_audit.specs.VerdictText.{verdict_line}
use Rattle.snap_judge.specs.declared.judgements.Failing.{Failing}
use Rattle.snap_run_judge.specs.RunHistory.{history_of}
use Rattle.snap_run_judge.specs.RunJudgement.{IsRunJudgement, most_configurations}
use Rattle.snap_run_judge.specs.VerdictText.{verdict_text}
use Rattle.snap_acts.specs.declared.act.TraceStep.{TraceStep}
use Rattle.snap_acts.specs.Loans.{set_for, step_at, view_taken}
use Rattle.snap_acts.specs.declared.loans.Borrowed.{Borrowed}
use Rattle.snap_acts.specs.declared.loans.ScanPlaces.{ScanPlaces}

-- `: goto T`
unfoldable pub goto_text : ℕ → List ℕ
goto_text t = codes ": goto " ++ decimal t ++ codes "\n"

-- what happened at an item
unfoldable pub goto_line : List ℕ → ℕ → List ℕ
goto_line what t = what ++ goto_text t

-- `process I`
unfoldable pub process_text : ℕ → List ℕ
process_text i = codes "process " ++ decimal i

-- the run up to an item
abbrev pub run_until : Run → ℕ → Run
run_until r t = run_of_items r.source r.shape (take t r.items)

-- the lines that a scan has no point, and the verdict on a run that ends with its answer
abbrev pub no_point_lines : Run → Failing → List ℕ
no_point_lines r j =
    codes "point: none, memory never held this from the call to the answer\n"
    ++ codes "up to this answer: " ++ verdict_text (history_of r) j

-- What is said of the point that the audit finds of a scan, which item t answers. Where it finds none, the run up to
-- the answer is judged; where a search was given up, another one may come to a verdict.
abbrev pub IsPointText : Run → ℕ → Option ℕ → List ℕ → Type 0
IsPointText r t (Some point) text = text ≡ goto_line (codes "point") point
IsPointText r t None text = (j : Failing) × IsRunJudgement most_configurations (run_until r t) j
    × (text ≡ no_point_lines (run_until r t) j)

-- a scan of an update
abbrev pub scan_lines : List TraceStep → ScanPlaces → List ℕ
scan_lines ss s =
    goto_line (codes "its scan began") (step_at ss s.from).item
    ++ goto_line (codes "its scan ended") (step_at ss s.to).item

-- the scan that saw a view, where one is there
abbrev pub lender_lines : List TraceStep → Option ScanPlaces → List ℕ
lender_lines ss None = codes "it is of no scan of an update\n"
lender_lines ss (Some s) = scan_lines ss s

-- who wrote a view at a place, and the scan that saw it
abbrev pub writer_lines : List TraceStep → ℕ → Option ScanPlaces → List ℕ
writer_lines ss k lender =
    process_text (step_at ss k).process ++ goto_line (codes " wrote it") (step_at ss k).item ++ lender_lines ss lender

-- the lines of who wrote a view, if a process had written it
unfoldable pub written_lines : List TraceStep → Option ℕ → Option ScanPlaces → List ℕ
written_lines ss None lender = codes "no process had written it\n"
written_lines ss (Some k) lender = writer_lines ss k lender

-- a view that was taken
abbrev pub taken_lines : List TraceStep → Borrowed → List ℕ
taken_lines ss b = goto_line (codes " took a view") (step_at ss b.taken).item ++ written_lines ss b.written b.lender

-- A scan that began at place `from` took no view: its process made the one with which it ends, or had set it at this
-- place before the scan began, or never.
abbrev pub own_lines : List TraceStep → (from : ℕ) → Option ℕ → List ℕ
own_lines ss from None = codes " set no view in this scan, nor before it\n"
own_lines ss from (Some k) =
    if nat_lt k from then goto_line (codes " set no view in this scan; it had set this one before") (step_at ss k).item
    else codes " took no view: it read these values itself\n"

abbrev pub taken_or_own : List TraceStep → ScanPlaces → Option Borrowed → List ℕ
taken_or_own ss s None = own_lines ss s.from (set_for ss s.to)
taken_or_own ss s (Some b) = taken_lines ss b

-- where the view comes from with which a scan ends, and which the scan took, if it took one
unfoldable pub view_lines : List TraceStep → ScanPlaces → Option Borrowed → List ℕ
view_lines ss s view = process_text s.process ++ taken_or_own ss s view

-- the lender's scan, where a view was taken
abbrev pub lender_of : Option Borrowed → Option ScanPlaces
lender_of None = None
lender_of (Some b) = b.lender

-- the views that a scan, its lender's scan, and so on took, so many at most
abbrev pub chain_lines : List TraceStep → Option ScanPlaces → ℕ → List ℕ
chain_lines ss s zero = []
chain_lines ss None (suc more) = []
chain_lines ss (Some s) (suc more) =
    view_lines ss s (view_taken ss s) ++ chain_lines ss (lender_of (view_taken ss s)) more

-- the places of the scan of a verdict that item t answers
abbrev pub scan_places : Verdict → ℕ → ScanPlaces
scan_places v t = record { process = v.process; from = v.call - 1; to = t - 1 }

-- the verdict, and the call
unfoldable pub call_lines : Verdict → List ℕ
call_lines v = verdict_line v ++ codes "call" ++ goto_text v.call

-- why the scan of a verdict answered so, where these are the steps of its run, so many, and this is said of its point
unfoldable pub answer_lines : List TraceStep → ℕ → Verdict → ℕ → (point : List ℕ) → List ℕ
answer_lines ss count v t point = call_lines v ++ point ++ chain_lines ss (Some (scan_places v t)) count

-- the first of these verdicts of a scan that item t answers
abbrev pub verdict_with : List Verdict → ℕ → Option Verdict
verdict_with [] t = None
verdict_with (v ∷ vs) t = if nat_eq v.answer t then Some v else verdict_with vs t
