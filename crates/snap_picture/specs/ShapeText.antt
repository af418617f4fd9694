-- The SVG of what is drawn of a run: values, operations, scans with their points, the marks of single items, and what
-- is crossed out.
use Rattle.std.specs.Prelude.{ℕ, ◌+◌, Bool, true, false, not, ◌&&◌, List, [], ◌∷◌, ◌++◌, Option, Some, None, codes}
use Rattle.std.specs.Prelude.{decimal, min, nat_le, if◌then◌else◌}
use Rattle.snap_semantics.specs.Report.{numbers_text, op_text}
use Rattle.snap_semantics.specs.declared.process.Op.{Op}
use Rattle.snap_semantics.specs.declared.process.Op.TheVariants as op
use Rattle.snap_picture.specs.Elements.{box_body, box_head, dot_text, edges_text}
use Rattle.snap_picture.specs.Elements.{group_head, line_text, path_head, words_head}
use Rattle.snap_picture.specs.Window.{Part, is_here, is_near, is_thin, width_of, x_before, x_of, y_of}
use Rattle.snap_picture.specs.declared.shape.Bar.{Bar}
use Rattle.snap_picture.specs.declared.shape.End.{End}
use Rattle.snap_picture.specs.declared.shape.End.TheVariants as ended
use Rattle.snap_picture.specs.declared.shape.Loan.{Loan}
use Rattle.snap_picture.specs.declared.shape.Spot.{Spot}
use Rattle.snap_picture.specs.declared.shape.Point.{Point}
use Rattle.snap_picture.specs.declared.shape.Read.{Read}
use Rattle.snap_picture.specs.declared.shape.Shape.{Shape}
use Rattle.snap_picture.specs.declared.shape.Shape.TheVariants as shape
use Rattle.snap_picture.specs.declared.shape.Span.{Span}
use Rattle.snap_picture.specs.declared.shape.Period.{Period}
use Rattle.snap_picture.specs.declared.shape.Write.{Write}
use Rattle.snap_picture.specs.declared.shape.Written.{Written}

-- the least width of a box that has words
abbrev pub least_words : ℕ
least_words = 22

-- the last place at which the words of what is crossed out begin, so that the picture has room for them
abbrev pub last_words : ℕ
last_words = 1450

-- `process I, items A to B: `
unfoldable pub span_text : Span → List ℕ
span_text s =
    codes "process " ++ decimal s.process ++ codes ", items " ++ decimal s.from
    ++ codes " to " ++ decimal s.to ++ codes ": "

-- `item T, process I, line L: `
unfoldable pub spot_text : Spot → List ℕ
spot_text m =
    codes "item " ++ decimal m.item ++ codes ", process " ++ decimal m.process ++ codes ", line "
    ++ decimal m.line ++ codes ": "

-- what is said of values
unfoldable pub period_title : Period → List ℕ
period_title s =
    codes "values" ++ numbers_text s.values ++ codes " from item " ++ decimal s.from
    ++ codes " to item " ++ decimal s.to

-- values, where there is room for them
unfoldable pub values_words : ℕ → List ℕ → List ℕ
values_words width values =
    if nat_le least_words width then words_head (codes "state") 5 22 ++ numbers_text values ++ codes "</text>" else []

-- the values from an item on
unfoldable pub period_box : Period → (x width : ℕ) → List ℕ
period_box s x width =
    box_head (codes "values") x 84 width 34 ++ period_title s ++ box_body
    ++ values_words width s.values ++ codes "</svg>\n"

unfoldable pub period_text : Part → Period → List ℕ
period_text p s = period_box s (x_of p s.from) (width_of (x_of p s.from) (x_of p s.to))

-- what came of an operation
unfoldable pub end_text : End → List ℕ
end_text (ended.Answer view) = codes " &#8594;" ++ numbers_text view
end_text ended.Done = []
end_text ended.Crash = codes " crashed"
end_text ended.Trap = codes " trapped"
end_text ended.Open = codes " .."

-- an operation and what came of it
unfoldable pub bar_words : Bar → List ℕ
bar_words b = op_text b.op ++ end_text b.end

-- the label of a bar, if there is room for it
unfoldable pub bar_label : ℕ → Bar → List ℕ
bar_label width b =
    if nat_le least_words width then words_head (codes "words") 5 17 ++ bar_words b ++ codes "</text>" else []

abbrev pub bar_class : Op → List ℕ
bar_class op.Scan = codes "scan"
bar_class (op.Update word value) = codes "update"

-- where an operation lies
abbrev pub bar_span : Bar → Span
bar_span b = record { process = b.process; from = b.from; to = b.to }

unfoldable pub bar_box : Bar → (x width : ℕ) → List ℕ
bar_box b x width =
    box_head (bar_class b.op) x (y_of b.process + 6) width 44 ++ span_text (bar_span b) ++ bar_words b
    ++ box_body ++ bar_label width b
    ++ codes "</svg>\n"

unfoldable pub bar_text : Part → Bar → List ℕ
bar_text p b = bar_box b (x_before p b.from) (width_of (x_before p b.from) (x_of p b.to))

-- a scan within an update
unfoldable pub embedded_box : Span → (x y width : ℕ) → List ℕ
embedded_box s x y width =
    box_head (codes "inner") x y width 18 ++ span_text s ++ codes "the scan of an update"
    ++ box_body ++ codes "</svg>\n"

unfoldable pub embedded_text : Part → Span → List ℕ
embedded_text p s =
    embedded_box s (x_before p s.from) (y_of s.process + 30) (width_of (x_before p s.from) (x_of p s.to))

-- from the last write of a word to its read
unfoldable pub trail_text : Part → Spot → Option Written → List ℕ
trail_text p m None = []
trail_text p m (Some w) =
    if p.reads
    then line_text (codes "trail") (x_of p w.item) (y_of w.process + 39) (x_of p m.item) (y_of m.process + 39) else []

unfoldable pub read_path : Spot → (word x y : ℕ) → List ℕ
read_path m word x y =
    path_head (codes "read") x y (codes "v10") ++ spot_text m ++ codes "reads r["
    ++ decimal word ++ codes "]</title></path>"

unfoldable pub read_text : Part → Read → List ℕ
read_text p r =
    read_path r.spot r.word (x_of p r.spot.item) (y_of r.spot.process + 34)
    ++ trail_text p r.spot r.written ++ codes "\n"

-- what is said of a write
unfoldable pub write_title : Write → List ℕ
write_title w =
    spot_text w.spot ++ codes "writes r[" ++ decimal w.word ++ codes "], values"
    ++ numbers_text w.values ++ codes "</title>"

unfoldable pub write_text : Part → Write → List ℕ
write_text p w =
    group_head (codes "write") ++ write_title w
    ++ line_text (codes "up") (x_of p w.spot.item) (y_of w.spot.process + 39) (x_of p w.spot.item) 118
    ++ dot_text (x_of p w.spot.item) (y_of w.spot.process + 39) ++ codes "</g>\n"

-- a test that passed is a tick, and another one a cross
unfoldable pub test_head : (x y : ℕ) → Bool → List ℕ
test_head x y true = path_head (codes "pass") x y (codes "m-5 0l4 5 7-11")
test_head x y false = path_head (codes "fail") x y (codes "m-4-4l8 8m0-8l-8 8")

abbrev pub test_words : Bool → List ℕ
test_words true = codes "a test that passes</title></path>\n"
test_words false = codes "a test that fails</title></path>\n"

unfoldable pub test_text : Part → Spot → Bool → List ℕ
test_text p m passed = test_head (x_of p m.item) (y_of m.process + 39) passed ++ spot_text m ++ test_words passed

unfoldable pub trap_path : Spot → (x y : ℕ) → List ℕ
trap_path m x y = path_head (codes "trap") x y (codes "l13 22h-26z") ++ spot_text m ++ codes "a trap</title></path>\n"

unfoldable pub trap_text : Part → Spot → List ℕ
trap_text p m = trap_path m (x_of p m.item) (y_of m.process + 8)

unfoldable pub crash_path : Spot → (x y : ℕ) → List ℕ
crash_path m x y =
    path_head (codes "crash") x y (codes "m-11-11l22 22m0-22l-22 22") ++ spot_text m ++ codes "a crash</title></path>\n"

unfoldable pub crash_text : Part → Spot → List ℕ
crash_text p m = crash_path m (x_of p m.item) (y_of m.process + 28)

-- what is said of a loan
unfoldable pub loan_words : Spot → (lender ended : ℕ) → List ℕ
loan_words m lender ended =
    codes "<g class=\"loan\"><title>" ++ spot_text m
    ++ codes "borrows the view of the scan that process " ++ decimal lender
    ++ codes " ended at item " ++ decimal ended ++ codes "</title>"

unfoldable pub loan_title : Loan → List ℕ
loan_title l = loan_words l.taken l.lender l.ended

-- the arrow goes from the lender to the borrower
unfoldable pub loan_text : Part → Loan → List ℕ
loan_text p l =
    loan_title l ++ line_text (codes "arrow") (x_of p l.ended) (y_of l.lender + 39) (x_of p l.taken.item)
    (y_of l.taken.process + 39) ++ codes "</g>\n"

-- what is said of a point
unfoldable pub found_words : Span → ℕ → List ℕ → ℕ → List ℕ
found_words s item values collects =
    span_text s ++ codes "a scan with its point after item " ++ decimal item ++ codes ", values" ++ numbers_text values
    ++ codes ", double collects " ++ decimal collects ++ codes "</title>"

unfoldable pub point_title : Point → List ℕ
point_title q = found_words q.scan q.item q.values q.collects

-- the state of a point, where there is room for it
unfoldable pub point_words : Part → Point → List ℕ
point_words p q =
    if is_thin p then [] else words_head (codes "seen") (x_of p q.item) 78 ++ numbers_text q.values ++ codes "</text>"

unfoldable pub point_path : Part → Point → (x y : ℕ) → List ℕ
point_path p q x y =
    group_head (codes "point") ++ point_title q ++ line_text (codes "drop") x 118 x y
    ++ path_head (codes "diamond") x 106 (codes "l9 12-9 12-9-12z")
    ++ codes "</title></path>" ++ point_words p q ++ codes "</g>\n"

unfoldable pub point_text : Part → Point → List ℕ
point_text p q = point_path p q (x_of p q.item) (y_of q.scan.process + 6)

-- a scan without a point has a box of its own around it
unfoldable pub none_box : Span → (x y width : ℕ) → List ℕ
none_box s x y width =
    group_head (codes "none") ++ span_text s ++ codes "a scan without a point</title><rect"
    ++ edges_text x y width 44 ++ codes "/>"
    ++ words_head (codes "without") x (y + 40) ++ codes "point none</text></g>\n"

unfoldable pub none_text : Part → Span → List ℕ
none_text p s =
    none_box s (x_before p s.from) (y_of s.process + 6) (width_of (x_before p s.from) (x_of p s.to))

-- an operation whose end nothing explains is crossed out; its words stand below it, where no scan has words
unfoldable pub wrong_box : Span → (x right y width : ℕ) → List ℕ
wrong_box s x right y width =
    group_head (codes "wrong") ++ span_text s ++ codes "no order of the operations explains how this ended: "
    ++ codes "the run is not linearizable</title><rect"
    ++ edges_text x y width 44 ++ codes "/>"
    ++ line_text (codes "bar") x y right (y + 44) ++ line_text (codes "bar") x (y + 44) right y
    ++ words_head (codes "no") (min x last_words) (y + 58) ++ codes "not linearizable</text></g>\n"

unfoldable pub wrong_text : Part → Span → List ℕ
wrong_text p s =
    wrong_box s (x_before p s.from) (x_of p s.to) (y_of s.process + 6) (width_of (x_before p s.from) (x_of p s.to))

abbrev pub shape_text : Part → Shape → List ℕ
shape_text p (shape.Values s) = period_text p s
shape_text p (shape.Operation b) = bar_text p b
shape_text p (shape.Embedded s) = embedded_text p s
shape_text p (shape.Read r) = read_text p r
shape_text p (shape.Write w) = write_text p w
shape_text p (shape.Test m passed) = test_text p m passed
shape_text p (shape.Trap m) = trap_text p m
shape_text p (shape.Crash m) = crash_text p m
shape_text p (shape.Loan l) = loan_text p l
shape_text p (shape.Point q) = point_text p q
shape_text p (shape.NoPoint s) = none_text p s
shape_text p (shape.Unexplained s) = wrong_text p s

-- What is drawn: some of its items are, and there is room for it.
abbrev pub is_drawn : Part → Shape → Bool
is_drawn p (shape.Values s) = is_near p s.from s.to
is_drawn p (shape.Operation b) = is_near p b.from b.to
is_drawn p (shape.Embedded s) = not (is_thin p) && is_near p s.from s.to
is_drawn p (shape.Read r) = not (is_thin p) && is_here p r.spot.item
is_drawn p (shape.Write w) = is_here p w.spot.item
is_drawn p (shape.Test m passed) = not (is_thin p) && is_here p m.item
is_drawn p (shape.Trap m) = is_here p m.item
is_drawn p (shape.Crash m) = is_here p m.item
is_drawn p (shape.Loan l) = is_near p l.ended l.taken.item
is_drawn p (shape.Point q) = is_here p q.item
is_drawn p (shape.NoPoint s) = is_near p s.from s.to
is_drawn p (shape.Unexplained s) = is_near p s.from s.to

-- the picture's shapes, one after another: a later one lies above
abbrev pub shapes_text : Part → List Shape → List ℕ
shapes_text p [] = []
shapes_text p (s ∷ ss) = (if is_drawn p s then shape_text p s else []) ++ shapes_text p ss
