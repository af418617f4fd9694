-- The numbers of a form of scripts that was read have 64 bits.
use Rattle.std.proofs.Common.{◌≡◌, List, Some, IfSome, arith}
use Rattle.std.specs.List.{AllByRecursion}
use Rattle.snap_semantics.specs.ScheduleForms.{ItemForm, item_form}
use Rattle.snap_semantics.specs.ScheduleText.{FitsWords}
use Rattle.snap_semantics.specs.Token.{Token}
use Rattle.snap_text.specs.Tokens.{IsSound}
use Rattle.snap_sched.specs.ScriptForms.{as_call, call_form, crash_at_form, script_form}
use Rattle.snap_sched.specs.declared.script_forms.ScriptForm.{ScriptForm}
use Rattle.snap_sched.specs.declared.script_forms.ScriptForm.TheVariants as script
use Rattle.snap_sched.proofs.Found.{item_found}

-- a form of scripts whose numbers have 64 bits
abbrev pub FitsForm : ScriptForm → Type 0
FitsForm (script.Call i o) = FitsWords o
FitsForm (script.Crash i turn) = Unit {0}

as_call_fits : (ts : List Token) (f : ItemForm) → item_form ts ≡ Some f → AllByRecursion IsSound ts →
    IfSome (as_call f) FitsForm
as_call_fits ts f is g = let spelled = item_found ts f is in grind arith

pub form_fits : (ts : List Token) → AllByRecursion IsSound ts → IfSome (script_form ts) FitsForm
unfolding script_form call_form crash_at_form
form_fits ts g = grind (arith, as_call_fits ts)
