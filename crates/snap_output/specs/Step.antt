-- `done_text`: what a trace prints of one item, made from the states before and after it: its outcome, the line that
-- it ran, and what it changed.
use Rattle.std.specs.Prelude.{ℕ, List, [], ◌++◌, Option, Some, None}
use Rattle.snap_words.specs.Shape.{Counts}
use Rattle.snap_semantics.specs.declared.process.Item.{Item}
use Rattle.snap_semantics.specs.declared.process.Item.TheVariants.{Step}
use Rattle.snap_semantics.specs.declared.process.Outcome.{Outcome}
use Rattle.snap_semantics.specs.declared.process.Status.{Status}
use Rattle.snap_semantics.specs.declared.process.Status.TheVariants.{Busy}
use Rattle.snap_semantics.specs.Run.{event_of}
use Rattle.snap_semantics.specs.Source.{Source}
use Rattle.snap_semantics.specs.State.{State, process_at}
use Rattle.snap_semantics.specs.Table.{done, who}
use Rattle.snap_listing.specs.LineTexts.{NumberedText}
use Rattle.snap_report.specs.OutcomeLine.{outcome_line}
use Rattle.snap_output.specs.Between.{between, process_text}

-- the line that an item runs: where its process steps, that at which it is
abbrev pub line_run : Item → Status → Option ℕ
line_run (Step i) (Busy a) = Some a.line
line_run _ _ = None

-- the line of item t, which came out so in this state
abbrev pub did_line : List NumberedText → State → ℕ → Item → Outcome → List ℕ
did_line texts S t x o = outcome_line texts t (who x) o (line_run x (process_at S (who x)).status)

-- what is said of item t, which is done in this state
unfoldable pub done_text : List NumberedText → Source → Counts → State → ℕ → Item → List ℕ
done_text texts s n S t x =
    did_line texts S t x (done s n S x).1
    ++ between (process_text s.kind (who x) S [])
    (process_text s.kind (who x) (done s n S x).0 (event_of t x (done s n S x).1))
