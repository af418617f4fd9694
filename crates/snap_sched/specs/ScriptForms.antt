-- The forms of the lines of live runs' scripts (`I scan`, `I update K X`, `I crash K`), and what they ask of each
-- process.
use Rattle.std.specs.Prelude.{ℕ, Bool, ◌&&◌, List, [], ◌∷◌, Option, Some, None, nat_eq, nat_le, codes, if◌then◌else◌}
use Rattle.snap_words.specs.Shape.{max_items}
use Rattle.snap_semantics.specs.declared.process.Op.{Op}
use Rattle.snap_semantics.specs.Rules.{◌>>=◌, or_else, number_at, keyword_at, end_at}
use Rattle.snap_semantics.specs.ScheduleForms.{ItemForm, Steps, Calls, Crashes, item_form}
use Rattle.snap_semantics.specs.Token.{Token}
use Rattle.snap_sched.specs.declared.script_forms.ScriptForm.{ScriptForm}
use Rattle.snap_sched.specs.declared.script_forms.ScriptForm.TheVariants as script

-- a call, which is one of scripts too
abbrev pub as_call : ItemForm → Option ScriptForm
as_call (Steps i count) = None
as_call (Calls i op) = Some (script.Call i op)
as_call (Crashes i) = None

-- `I scan` or `I update K X`, as in schedules
unfoldable pub call_form : List Token → Option ScriptForm
call_form ts = do
  form ← item_form ts
  as_call form

-- whether a process may crash at this turn
abbrev pub is_turn : ℕ → Bool
is_turn k = nat_le 1 k && nat_le k max_items

-- `I crash K`
unfoldable pub crash_at_form : List Token → Option ScriptForm
crash_at_form ts = do
  i ← number_at ts
  rest ← keyword_at (codes "crash") i.1
  turn ← number_at rest
  end ← end_at turn.1
  if is_turn turn.0 then Some (script.Crash i.0 turn.0) else None

-- the form that a line is, where it is one
unfoldable pub script_form : List Token → Option ScriptForm
script_form ts = or_else (call_form ts) (crash_at_form ts)

abbrev pub script_process : ScriptForm → ℕ
script_process (script.Call i op) = i
script_process (script.Crash i turn) = i

-- the operations that a process is to ask for, in order
abbrev pub ops_of : ℕ → List ScriptForm → List Op
ops_of p [] = []
ops_of p (script.Call i op ∷ forms) = if nat_eq i p then op ∷ ops_of p forms else ops_of p forms
ops_of p (script.Crash i turn ∷ forms) = ops_of p forms

-- the turn at which a process is to crash, where it is
abbrev pub crash_of : ℕ → List ScriptForm → Option ℕ
crash_of p [] = None
crash_of p (script.Call i op ∷ forms) = crash_of p forms
crash_of p (script.Crash i turn ∷ forms) = if nat_eq i p then Some turn else crash_of p forms
