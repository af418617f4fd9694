-- The flow of control: to which lines a process may come, in a scan and in an update, outside calls and within them.
use Rattle.std.specs.Prelude.{ℕ, Bool, true, false, not, ◌&&◌, ◌||◌, List, [], ◌∷◌, ◌++◌, map}
use Rattle.std.specs.Prelude.{Option, Some, None, is_none, if◌then◌else◌}
use Rattle.std.specs.List.{flat_map}
use Rattle.snap_lint.specs.declared.edges.Edge.{Edge}
use Rattle.snap_lint.specs.declared.mode.Mode.{Mode}
use Rattle.snap_lint.specs.declared.mode.Mode.TheVariants as mode
use Rattle.snap_lint.specs.declared.mode.Way.{Way}
use Rattle.snap_lint.specs.declared.mode.Way.TheVariants.{Outside, Within, Unwritten, UnwrittenWithin}
use Rattle.snap_semantics.specs.declared.instr.Instr.{Instr}
use Rattle.snap_semantics.specs.declared.instr.Instr.TheVariants.{Put, First, Next, If, IfAll, Goto}
use Rattle.snap_semantics.specs.declared.instr.Instr.TheVariants.{Call, Return, Finish}
use Rattle.snap_semantics.specs.declared.instr.Line.{Line}
use Rattle.snap_semantics.specs.Source.{Source, following}
use Rattle.snap_lint.specs.Marks.{is_in, numbers_where, reached}

abbrev pub is_within : Way → Bool
is_within Outside = false
is_within Within = true
is_within Unwritten = false
is_within UnwrittenWithin = true

abbrev pub is_unwritten : Way → Bool
is_unwritten Outside = false
is_unwritten Within = false
is_unwritten Unwritten = true
is_unwritten UnwrittenWithin = true

abbrev pub way_of : Mode → Way
way_of mode.Scan = Outside
way_of mode.ScanCall = Within
way_of mode.Update = Outside
way_of mode.UpdateCall = Within

-- The line behind a line may come next. Outside calls a `call` comes back to it; within one another call traps. A way
-- without writes ends at a `put` of a word.
abbrev pub may_go_on : Way → Instr → Bool
may_go_on way (Goto target) = false
may_go_on way (Call target) = not (is_within way)
may_go_on way (Put i t) = not (is_unwritten way)
may_go_on way (Return x) = false
may_go_on way Finish = false
may_go_on way _ = true

-- the line to which an instruction may jump; a `call` is none
abbrev pub jump : Instr → Option ℕ
jump (First x g k target) = Some target
jump (Next x g target) = Some target
jump (If k target) = Some target
jump (IfAll g k target) = Some target
jump (Goto target) = Some target
jump _ = None

-- the line to which a `call` leads
abbrev pub callee : Instr → List ℕ
callee (Call target) = target ∷ []
callee _ = []

-- the line that follows a line, if there is one and control can go on to it
abbrev pub line_after : List Line → Way → Line → Option ℕ
line_after lines way line = if may_go_on way line.instr then following lines line.number else None

abbrev pub edge_to : ℕ → Option ℕ → List Edge
edge_to from None = []
edge_to from (Some to) = record { from = from; to = to } ∷ []

-- from a line to the line behind it, and to the line to which it may jump
abbrev pub line_edges : List Line → Way → Line → List Edge
line_edges lines way line = edge_to line.number (line_after lines way line) ++ edge_to line.number (jump line.instr)

-- which line leads to which
abbrev pub edges : List Line → Way → List Edge
edges lines way = flat_map (line_edges lines way) lines

-- Whether a call comes back without a write of a word, where an instruction is one: it is to one of these lines.
abbrev pub comes_back : List ℕ → Instr → Bool
comes_back silent (Call target) = is_in silent target
comes_back silent _ = true

abbrev pub unwritten_line_edges : List Line → List ℕ → Line → List Edge
unwritten_line_edges lines silent line = if comes_back silent line.instr then line_edges lines Unwritten line else []

-- Which line leads to which in an update that has written no word. Calls to these lines come back without a write.
abbrev pub unwritten_edges : List Line → List ℕ → List Edge
unwritten_edges lines silent = flat_map (unwritten_line_edges lines silent) lines

-- an edge the other way round
abbrev pub turned_edge : Edge → Edge
turned_edge e = record { from = e.to; to = e.from }

abbrev pub turned : List Edge → List Edge
turned es = map turned_edge es

-- the lines to which the marked lines call
abbrev pub marked_callee : List ℕ → Line → List ℕ
marked_callee marks line = if is_in marks line.number then callee line.instr else []

abbrev pub callees : List Line → List ℕ → List ℕ
callees lines marks = flat_map (marked_callee marks) lines

-- a line may have no line behind it where one is to come next
abbrev pub may_run_off : List Line → Way → Line → Bool
may_run_off lines way line = may_go_on way line.instr && is_none (following lines line.number)

-- a line at which an operation or a call may end, or a trap may come: it leads to no line, or may run off the end
abbrev pub is_end : List Line → Way → Line → Bool
is_end lines way line = may_run_off lines way line || (not (may_go_on way line.instr) && is_none (jump line.instr))

-- the lines from which a way leads to an end
abbrev pub leading_out : List Line → Way → List ℕ
leading_out lines way = reached lines (turned (edges lines way)) (numbers_where (is_end lines way) lines)

abbrev pub is_return_instr : Instr → Bool
is_return_instr (Return x) = true
is_return_instr _ = false

abbrev pub is_return : Line → Bool
is_return line = is_return_instr line.instr

-- the lines from which a way within a call, without a write of a word, leads to its return
abbrev pub silent_calls : List Line → List ℕ
silent_calls lines = reached lines (turned (edges lines UnwrittenWithin)) (numbers_where is_return lines)

-- the lines to which an update may come before it has written a word, outside its calls
abbrev pub reached_unwritten : List Line → ℕ → List ℕ
reached_unwritten lines entry = reached lines (unwritten_edges lines (silent_calls lines)) (entry ∷ [])

-- the numbers of the lines to which control may come
pub record Reach : Type 0 where
  -- in a scan, and in calls within scans
  pub scan : List ℕ
  pub scan_call : List ℕ
  -- in an update, and in calls within updates
  pub update : List ℕ
  pub update_call : List ℕ
  -- the lines from which a way leads to an end, outside calls and within them
  pub out : List ℕ
  pub call_out : List ℕ
  -- in an update that has written no word yet, in a call neither
  pub unwritten : List ℕ

-- the reach of control, where scans and updates come to these lines outside their calls
abbrev pub reach_from : List Line → ℕ → List ℕ → List ℕ → Reach
reach_from lines entry scan update = record {
  scan = scan;
  scan_call = reached lines (edges lines Within) (callees lines scan);
  update = update;
  update_call = reached lines (edges lines Within) (callees lines update);
  out = leading_out lines Outside;
  call_out = leading_out lines Within;
  unwritten = reached_unwritten lines entry;
}

-- the reach of control in a listing
abbrev pub reach_of : Source → Reach
reach_of s =
    reach_from s.lines s.update (reached s.lines (edges s.lines Outside) (s.scan ∷ []))
    (reached s.lines (edges s.lines Outside) (s.update ∷ []))

-- the lines to which control may come in a mode
abbrev pub lines_in : Reach → Mode → List ℕ
lines_in f mode.Scan = f.scan
lines_in f mode.ScanCall = f.scan_call
lines_in f mode.Update = f.update
lines_in f mode.UpdateCall = f.update_call

-- the lines from which a way leads to an end, in a mode
abbrev pub out_in : Reach → Mode → List ℕ
out_in f mode.Scan = f.out
out_in f mode.ScanCall = f.call_out
out_in f mode.Update = f.out
out_in f mode.UpdateCall = f.call_out
