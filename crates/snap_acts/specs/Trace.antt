-- What each item of a run did, as far as a picture shows it.
use Rattle.std.specs.Prelude.{ℕ, ◌+◌, Bool, false, List, [], ◌∷◌, Option, Some, None, nat_eq}
use Rattle.snap_words.specs.Shape.{Counts}
use Rattle.snap_semantics.specs.Readers.{line_of}
use Rattle.snap_semantics.specs.Source.{Name, Source, instr_at}
use Rattle.snap_semantics.specs.State.{Process, State, initial, process_at, values}
use Rattle.snap_semantics.specs.Table.{done, who}
use Rattle.snap_semantics.specs.Value.{Context, index_value}
use Rattle.snap_semantics.specs.declared.instr.Index.{Index}
use Rattle.snap_semantics.specs.declared.instr.Instr.{Instr}
use Rattle.snap_semantics.specs.declared.instr.Instr.TheVariants as instr
use Rattle.snap_semantics.specs.declared.instr.Tuple.{Tuple}
use Rattle.snap_semantics.specs.declared.instr.Tuple.TheVariants as tuple
use Rattle.snap_semantics.specs.declared.process.Item.{Item}
use Rattle.snap_semantics.specs.declared.process.Item.TheVariants as item
use Rattle.snap_semantics.specs.declared.process.Op.{Op}
use Rattle.snap_semantics.specs.declared.process.Outcome.{Outcome}
use Rattle.snap_semantics.specs.declared.process.Outcome.TheVariants as outcome
use Rattle.snap_semantics.specs.declared.process.Status.{Status}
use Rattle.snap_semantics.specs.declared.process.Status.TheVariants.{Busy}
use Rattle.snap_runs.specs.Run.{Run}
use Rattle.snap_acts.specs.declared.act.Act.{Act}
use Rattle.snap_acts.specs.declared.act.Act.TheVariants as act
use Rattle.snap_acts.specs.declared.act.Spot.{Spot}
use Rattle.snap_acts.specs.declared.act.TraceStep.{TraceStep}
use Rattle.snap_acts.specs.declared.intent.Intent.{Intent}
use Rattle.snap_acts.specs.declared.intent.Intent.TheVariants as intent

-- who takes the values of a line
abbrev pub context_of : Counts → ℕ → Process → Op → Context
context_of shape i p op = record { shape = shape; me = i; op = op; locals = p.locals; place = 0 }

-- place I of a `words` local
abbrev pub spot_of : Context → Name → Index → Spot
spot_of c x i = record { words = x; place = index_value c i }

-- the local with the view that a tuple writes beside its value
abbrev pub view_beside : Tuple → Option Name
view_beside (tuple.Seq d q x) = Some x
view_beside (tuple.Bits d h t x) = Some x
view_beside (tuple.Multi d i t) = None

-- what a line is about to do
abbrev pub intent_of_line : Context → Instr → Intent
intent_of_line c (instr.Put i t) = intent.Write (index_value c i) (view_beside t)
intent_of_line c (instr.PutView i x) = intent.Publish (index_value c i) x
intent_of_line c (instr.Get x i j) = intent.Read (index_value c j) (spot_of c x i)
intent_of_line c (instr.Look x i) = intent.Look (index_value c i) x
intent_of_line c (instr.ViewOf x y i) = intent.Borrow (spot_of c y i) x
intent_of_line c (instr.ViewData x y) = intent.Collect x
intent_of_line c (instr.IfAll g k target) = intent.Test target
intent_of_line c (instr.Call target) = intent.Enter
intent_of_line c (instr.Return x) = intent.Leave x
intent_of_line c _ = intent.Other

abbrev pub intent_of_instr : Context → Option Instr → Intent
intent_of_instr c None = intent.Other
intent_of_instr c (Some i) = intent_of_line c i

-- what a step of a process that stands so is about to do
abbrev pub intent_in : Source → Counts → ℕ → Process → Status → Intent
intent_in s shape i p (Busy a) = intent_of_instr (context_of shape i p a.op) (instr_at s.lines a.line)
intent_in s shape i p _ = intent.Other

-- what an item is about to do
abbrev pub intent_of : Source → Counts → State → Item → Intent
intent_of s shape S (item.Step i) = intent_in s shape i (process_at S i) (process_at S i).status
intent_of s shape S (item.Call i op) = intent.Other
intent_of s shape S (item.Crash i) = intent.Other

-- whether a process stands at this line
abbrev pub stands_at : Option ℕ → ℕ → Bool
stands_at None target = false
stands_at (Some line) target = nat_eq line target

-- what a step did that was about to do this, where process i goes on in this state
abbrev pub stepped : Intent → State → ℕ → Act
stepped (intent.Write word x) S i = act.Write word (values S) x
stepped (intent.Publish k x) S i = act.Publish k x
stepped (intent.Read word spot) S i = act.Read word spot
stepped (intent.Look k x) S i = act.Look k x
stepped (intent.Borrow spot x) S i = act.Borrow spot x
stepped (intent.Collect x) S i = act.Collect x
stepped (intent.Test target) S i = act.Test (stands_at (line_of (process_at S i).status) target)
stepped intent.Enter S i = act.Enter
stepped (intent.Leave x) S i = act.Leave x
stepped intent.Other S i = act.Other

abbrev pub call_act : Item → Act
call_act (item.Call i op) = act.Call op
call_act _ = act.Other

-- the view local that a line was about to return
abbrev pub returned : Intent → Option Name
returned (intent.Leave x) = Some x
returned _ = None

-- what an item of process i did that was about to do this and came to that
abbrev pub act_of : Intent → State → ℕ → Item → Outcome → Act
act_of p S i x outcome.Called = call_act x
act_of p S i x outcome.Stepped = stepped p S i
act_of p S i x (outcome.Answered view) = act.Answer view (returned p)
act_of p S i x outcome.Finished = act.Done
act_of p S i x (outcome.Trapped cause) = act.Trap
act_of p S i x outcome.Crashed = act.Crash
act_of p S i x (outcome.Skipped reason) = act.Skip

-- a line, and 0 where there is none
abbrev pub line_number : Option ℕ → ℕ
line_number None = 0
line_number (Some line) = line

-- item t, before which there is this state
unfoldable pub step_of : Source → Counts → State → ℕ → Item → TraceStep
step_of s shape S t x = record {
  process = who x;
  item = t;
  line = line_number (line_of (process_at S (who x)).status);
  act = act_of (intent_of s shape S x) (done s shape S x).0 (who x) x (done s shape S x).1;
}

-- the items from item t on
abbrev pub steps_of : Source → Counts → State → ℕ → List Item → List TraceStep
steps_of s shape S t [] = []
steps_of s shape S t (x ∷ xs) = step_of s shape S t x ∷ steps_of s shape (done s shape S x).0 (t + 1) xs

-- the items of a run
abbrev pub trace_of : Run → List TraceStep
trace_of r = steps_of r.source r.shape (initial r.source r.shape) 1 r.items
