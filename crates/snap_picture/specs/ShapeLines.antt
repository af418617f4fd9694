-- `told_of`: what a picture draws of a listing's run under a schedule as lines of text, a line a shape, in items and
-- processes; or the first reason why it draws nothing.
use Rattle.std.specs.Prelude.{ℕ, Bool, List, [], ◌∷◌, ◌++◌, length, Result, Ok, codes, if◌then◌else◌}
use Rattle.snap_semantics.specs.Answers.{◌>>=◌, refused_as}
use Rattle.snap_semantics.specs.Report.{numbers_text}
use Rattle.snap_semantics.specs.Source.{Source}
use Rattle.snap_semantics.specs.declared.process.Op.{Op}
use Rattle.snap_semantics.specs.declared.process.Op.TheVariants as op
use Rattle.snap_runs.specs.Run.{run_over}
use Rattle.snap_input.specs.Schedules.{schedule_for}
use Rattle.snap_picture.specs.ShapeText.{bar_class, bar_span, is_drawn}
use Rattle.snap_picture.specs.Window.{Part}
use Rattle.snap_picture.specs.declared.shape.Bar.{Bar}
use Rattle.snap_picture.specs.declared.shape.End.{End}
use Rattle.snap_picture.specs.declared.shape.End.TheVariants as ended
use Rattle.snap_picture.specs.declared.shape.Loan.{Loan}
use Rattle.snap_picture.specs.declared.shape.Period.{Period}
use Rattle.snap_picture.specs.declared.shape.Point.{Point}
use Rattle.snap_picture.specs.declared.shape.Shape.{Shape}
use Rattle.snap_picture.specs.declared.shape.Shape.TheVariants as shape
use Rattle.snap_picture.specs.declared.shape.Span.{Span}
use Rattle.snap_picture.specs.declared.shape.Spot.{Spot}
use Rattle.snap_picture.specs.declared.shape.Write.{Write}
use Rattle.snap_picture.specs.Picture.{part_of}
use Rattle.snap_picture.specs.Shapes.{shapes}
use Rattle.snap_picture.specs.declared.options.Options.{Options}
use Rattle.snap_picture.specs.declared.refusal.PictureRefusal.{PictureRefusal}
use Rattle.snap_picture.specs.declared.refusal.PictureRefusal.TheVariants as refusal

-- `NAME I FROM TO`: a process and its first and last item
unfoldable pub span_line : List ℕ → Span → List ℕ
span_line name s = name ++ numbers_text (s.process ∷ s.from ∷ s.to ∷ [])

-- `NAME I ITEM LINE`: a process, an item of it and the line where that was
unfoldable pub spot_line : List ℕ → Spot → List ℕ
spot_line name m = name ++ numbers_text (m.process ∷ m.item ∷ m.line ∷ [])

-- `values FROM TO V1 .. VW`
unfoldable pub values_line : Period → List ℕ
values_line s = codes "values" ++ numbers_text (s.from ∷ s.to ∷ []) ++ numbers_text s.values

-- the word and the value of an update
abbrev pub op_numbers : Op → List ℕ
op_numbers op.Scan = []
op_numbers (op.Update word value) = numbers_text (word ∷ value ∷ [])

-- what came of an operation
unfoldable pub end_words : End → List ℕ
end_words (ended.Answer view) = codes " answer" ++ numbers_text view
end_words ended.Done = codes " done"
end_words ended.Crash = codes " crash"
end_words ended.Trap = codes " trap"
end_words ended.Open = codes " open"

-- `scan I FROM TO END` and `update I FROM TO WORD VALUE END`
unfoldable pub bar_line : Bar → List ℕ
bar_line b = span_line (bar_class b.op) (bar_span b) ++ op_numbers b.op ++ end_words b.end

-- `write I ITEM LINE WORD V1 .. VW`
unfoldable pub write_line : Write → List ℕ
write_line w = spot_line (codes "write") w.spot ++ numbers_text (w.word ∷ []) ++ numbers_text w.values

-- `loan LENDER ENDED I ITEM LINE`
unfoldable pub loan_line : Loan → List ℕ
loan_line l =
    codes "loan" ++ numbers_text (l.lender ∷ l.ended ∷ [])
    ++ numbers_text (l.taken.process ∷ l.taken.item ∷ l.taken.line ∷ [])

-- `point I FROM TO ITEM COLLECTS V1 .. VW`
unfoldable pub point_line : Point → List ℕ
point_line q =
    span_line (codes "point") q.scan ++ numbers_text (q.item ∷ q.collects ∷ []) ++ numbers_text q.values

-- whether a test passed
abbrev pub test_name : Bool → List ℕ
test_name passed = if passed then codes "pass" else codes "fail"

-- what a shape is, without the end of its line
abbrev pub shape_words : Shape → List ℕ
shape_words (shape.Values s) = values_line s
shape_words (shape.Operation b) = bar_line b
shape_words (shape.Embedded s) = span_line (codes "inner") s
shape_words (shape.Read r) = spot_line (codes "read") r.spot ++ numbers_text (r.word ∷ [])
shape_words (shape.Write w) = write_line w
shape_words (shape.Test m passed) = spot_line (test_name passed) m
shape_words (shape.Trap m) = spot_line (codes "trap") m
shape_words (shape.Crash m) = spot_line (codes "crash") m
shape_words (shape.Loan l) = loan_line l
shape_words (shape.Point q) = point_line q
shape_words (shape.NoPoint s) = span_line (codes "none") s
shape_words (shape.Unexplained s) = span_line (codes "wrong") s

-- a shape as a line
unfoldable pub shape_line : Shape → List ℕ
shape_line s = shape_words s ++ codes "\n"

-- the lines of the shapes that are drawn, one after another: a later one lies above
abbrev pub shape_lines : Part → List Shape → List ℕ
shape_lines p [] = []
shape_lines p (s ∷ ss) = (if is_drawn p s then shape_line s else []) ++ shape_lines p ss

-- what is drawn of a listing's run under a schedule, or the first reason why nothing is; nothing is judged
unfoldable pub told_of : Source → List ℕ → Options → Result (List ℕ) PictureRefusal
told_of l schedule o = do
  s ← refused_as refusal.Input (schedule_for l schedule)
  p ← part_of (length s.items) s.shape o
  Ok (shape_lines p (shapes (run_over l s)))
