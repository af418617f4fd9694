-- The grammar of scripts: a shape, and then lines, each of which is a call or tells at which turn a process crashes;
-- and why a text is refused, the first reason first. Processes and lines are counted from 1.
use Rattle.std.specs.Prelude.{◌≡◌, ℕ, zero, suc, ◌+◌, Bool, true, false, ◌&&◌, List, [], ◌∷◌, ◌++◌, length, Option}
use Rattle.std.specs.Prelude.{Some, None, Result, Ok, Err, nat_lt, nat_le, if◌then◌else◌}
use Rattle.snap_semantics.specs.Schedule.{max_schedule}
use Rattle.snap_words.specs.Shape.{Counts, IsShape}
use Rattle.snap_semantics.specs.declared.process.Op.{Op}
use Rattle.snap_semantics.specs.declared.refusal.ScheduleRefusal.{ScheduleRefusal}
use Rattle.snap_semantics.specs.declared.refusal.ScheduleRefusal.TheVariants as refusal
use Rattle.snap_semantics.specs.Answers.{◌>>=◌}
use Rattle.snap_semantics.specs.Rules.{form_or}
use Rattle.snap_semantics.specs.ScheduleForms.{shape_form}
use Rattle.snap_semantics.specs.Token.{TextLine, text_lines}
use Rattle.snap_sched.specs.ScriptForms.{script_form, script_process, ops_of, crash_of}
use Rattle.snap_sched.specs.declared.script_forms.ScriptForm.{ScriptForm}
use Rattle.snap_sched.specs.declared.script_forms.ScriptForm.TheVariants as script

-- what a process asks for, in order, and the turn at which it crashes, where it does
pub record Script : Type 0 where
  pub operations : List Op
  pub crash : Option ℕ

-- how many processes and words there are, and a script for each process, that of process 1 first
pub record Scripts : Type 0 where
  pub shape : Counts
  pub scripts : List Script

abbrev pub is_found : Option ℕ → Bool
is_found None = false
is_found (Some k) = true

-- whether a line tells of a second crash of a process
abbrev pub crashes_again : List ScriptForm → ScriptForm → Bool
crashes_again before (script.Call i op) = false
crashes_again before (script.Crash i turn) = is_found (crash_of i before)

-- a form behind others, of a process that is there, and no second crash
abbrev pub admitted_script : ℕ → List ScriptForm → ℕ → ScriptForm → Result ScriptForm ScheduleRefusal
admitted_script n before line form =
    if crashes_again before form then Err (refusal.BadItem line) else
    if nat_le 1 (script_process form) && nat_le (script_process form) n then Ok form
    else Err (refusal.NoSuchProcess line)

-- the form of a line behind others
abbrev pub script_line : ℕ → List ScriptForm → TextLine → Result ScriptForm ScheduleRefusal
script_line n before line =
    form_or (refusal.BadItem line.number) script_form line.tokens >>= λ form.
    admitted_script n before line.number form

-- the forms of the lines, behind those before them
abbrev pub script_lines : ℕ → List ScriptForm → List TextLine → Result (List ScriptForm) ScheduleRefusal
script_lines n before [] = Ok before
script_lines n before (line ∷ lines) = script_line n before line >>= λ form. script_lines n (before ++ form ∷ []) lines

-- what the lines tell of a process
abbrev pub script_of : List ScriptForm → ℕ → Script
script_of forms i = record { operations = ops_of i forms; crash = crash_of i forms }

-- the scripts of so many processes from process i on
abbrev pub scripts_from : List ScriptForm → ℕ → ℕ → List Script
scripts_from forms i zero = []
scripts_from forms i (suc count) = script_of forms i ∷ scripts_from forms (i + 1) count

-- the scripts that the lines are, or why not
abbrev pub scripts_of_lines : List TextLine → Result Scripts ScheduleRefusal
scripts_of_lines [] = Err refusal.BadShape
scripts_of_lines (line ∷ lines) =
    form_or refusal.BadShape shape_form line.tokens >>= λ shape. script_lines shape.n [] lines >>= λ forms.
    Ok (record { shape = shape; scripts = scripts_from forms 1 shape.n })

-- the scripts that a text is, or the first reason why it is none
abbrev pub scripts_of : List ℕ → Result Scripts ScheduleRefusal
scripts_of text = if nat_lt max_schedule (length text) then Err refusal.TooLong else scripts_of_lines (text_lines text)

-- one script for each process of the shape
pub record AreScripts (s : Scripts) : Type 0 where
  pub shape : IsShape s.shape.n s.shape.w
  pub each : length s.scripts ≡ s.shape.n
