-- What is drawn of a run: a list of shapes, a later one above the earlier ones.
use Rattle.std.specs.Prelude.{ℕ, zero, suc, ◌+◌, List, [], ◌∷◌, ◌++◌, length, drop, Option, Some, None}
use Rattle.snap_runs.specs.Audit.{audit}
use Rattle.snap_runs.specs.Run.{Run}
use Rattle.snap_runs.specs.declared.verdict.Verdict.{Verdict}
use Rattle.snap_record.specs.Record.{values_after}
use Rattle.snap_semantics.specs.declared.process.Op.{Op}
use Rattle.snap_acts.specs.Trace.{trace_of}
use Rattle.snap_acts.specs.declared.act.Act.{Act}
use Rattle.snap_acts.specs.declared.act.Act.TheVariants as act
use Rattle.snap_acts.specs.declared.act.TraceStep.{TraceStep}
use Rattle.snap_acts.specs.declared.loans.ScanPlaces.{ScanPlaces}
use Rattle.snap_picture.specs.declared.shape.Bar.{Bar}
use Rattle.snap_picture.specs.declared.shape.End.{End}
use Rattle.snap_picture.specs.declared.shape.End.TheVariants as ended
use Rattle.snap_picture.specs.declared.shape.Spot.{Spot}
use Rattle.snap_picture.specs.declared.shape.Shape.{Shape}
use Rattle.snap_picture.specs.declared.shape.Shape.TheVariants as shape
use Rattle.snap_picture.specs.declared.shape.Span.{Span}
use Rattle.snap_picture.specs.declared.shape.Written.{Written}
use Rattle.snap_acts.specs.Loans.{lender_at, source_at, step_at}
use Rattle.snap_acts.specs.Searches.{first_meeting, last_before}
use Rattle.snap_acts.specs.declared.searches.StepPattern.TheVariants as wanted

abbrev pub spot_of : TraceStep → Spot
spot_of s = record { process = s.process; item = s.item; line = s.line }

-- the item of a step, and the last item where there is none
abbrev pub item_or : ℕ → Option TraceStep → ℕ
item_or last None = last
item_or last (Some s) = s.item

-- how an operation ended
abbrev pub end_by : Act → End
end_by (act.Answer view x) = ended.Answer view
end_by act.Done = ended.Done
end_by act.Crash = ended.Crash
end_by act.Trap = ended.Trap
end_by _ = ended.Open

abbrev pub end_of : Option TraceStep → End
end_of None = ended.Open
end_of (Some s) = end_by s.act

-- the operation that a step called, where this one ended it
abbrev pub bar_to : ℕ → TraceStep → Op → Option TraceStep → Bar
bar_to last s op found =
    record { process = s.process; op = op; from = s.item; to = item_or last found; end = end_of found }

-- the operation that a step called, where these follow
abbrev pub bar_of : ℕ → TraceStep → Op → List TraceStep → Bar
bar_of last s op rest = bar_to last s op (first_meeting (wanted.End s.process) rest)

-- the scan of an update that a step began, where these follow
abbrev pub embedded_of : ℕ → TraceStep → List TraceStep → Span
embedded_of last s rest =
    record { process = s.process; from = s.item; to = item_or last (first_meeting (wanted.Closing s.process) rest) }

-- the values from an item on, up to the next write
abbrev pub period_of : ℕ → ℕ → List ℕ → List TraceStep → Shape
period_of last t values rest =
    shape.Values (record { from = t; to = item_or last (first_meeting wanted.Write rest); values = values })

abbrev pub written_by : TraceStep → Written
written_by s = record { process = s.process; item = s.item }

-- who wrote at a place, if it is one
abbrev pub written_at : List TraceStep → Option ℕ → Option Written
written_at ss None = None
written_at ss (Some k) = Some (written_by (step_at ss k))

-- an arrow from the lender's scan to the step that takes its view
abbrev pub loan_from : List TraceStep → TraceStep → Option ScanPlaces → List Shape
loan_from ss s None = []
loan_from ss s (Some lender) =
    shape.Loan (record { lender = lender.process; ended = (step_at ss lender.to).item; taken = spot_of s }) ∷ []

abbrev pub loan_of : List TraceStep → ℕ → TraceStep → List Shape
loan_of ss k s = loan_from ss s (lender_at ss (source_at ss (Some k)))

-- what is drawn of the step at a place
abbrev pub shapes_of : List TraceStep → ℕ → TraceStep → Act → List Shape
shapes_of ss k s (act.Call op) = shape.Operation (bar_of (length ss) s op (drop (k + 1) ss)) ∷ []
shapes_of ss k s act.Enter = shape.Embedded (embedded_of (length ss) s (drop (k + 1) ss)) ∷ []
shapes_of ss k s (act.Write word values x) =
    period_of (length ss) s.item values (drop (k + 1) ss)
    ∷ shape.Write (record { spot = spot_of s; word = word; values = values }) ∷ []
shapes_of ss k s (act.Read word into) =
    shape.Read
    (record { spot = spot_of s; word = word; written = written_at ss (last_before (wanted.WriteOf word) ss k) }) ∷ []
shapes_of ss k s (act.Test passed) = shape.Test (spot_of s) passed ∷ []
shapes_of ss k s act.Trap = shape.Trap (spot_of s) ∷ []
shapes_of ss k s act.Crash = shape.Crash (spot_of s) ∷ []
shapes_of ss k s (act.Borrow from x) = loan_of ss k s
shapes_of ss k s (act.Look j x) = loan_of ss k s
shapes_of ss k s _ = []

unfoldable pub shapes_at : List TraceStep → ℕ → List Shape
shapes_at ss k = shapes_of ss k (step_at ss k) (step_at ss k).act

-- what is drawn of the first k steps
abbrev pub shapes_to : List TraceStep → ℕ → List Shape
shapes_to ss zero = []
shapes_to ss (suc k) = shapes_to ss k ++ shapes_at ss k

-- the values, where they are there
abbrev pub values_or_none : Option (List ℕ) → List ℕ
values_or_none None = []
values_or_none (Some values) = values

abbrev pub scan_of : Verdict → Span
scan_of v = record { process = v.process; from = v.call; to = v.answer }

-- a point with the state that it stands for, or that there is none
abbrev pub point_of : Run → Verdict → Option ℕ → Shape
point_of r v None = shape.NoPoint (scan_of v)
point_of r v (Some t) =
    shape.Point
    (record { scan = scan_of v; item = t; collects = v.collects; values = values_or_none (values_after r t) })

unfoldable pub verdict_shape : Run → Verdict → Shape
verdict_shape r v = point_of r v v.point

abbrev pub verdict_shapes : Run → List Verdict → List Shape
verdict_shapes r [] = []
verdict_shapes r (v ∷ vs) = verdict_shape r v ∷ verdict_shapes r vs

-- the values before the first write
unfoldable pub first_period : Run → List TraceStep → Shape
first_period r ss = period_of (length ss) 0 (values_or_none (values_after r 0)) ss

-- what is drawn of a run whose items did this
unfoldable pub shapes_by : Run → List TraceStep → List Shape
shapes_by r ss = first_period r ss ∷ (shapes_to ss (length ss) ++ verdict_shapes r (audit r))

-- what is drawn of a run
abbrev pub shapes : Run → List Shape
shapes r = shapes_by r (trace_of r)
