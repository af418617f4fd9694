-- The numbers of scripts that were read have 64 bits.
use Rattle.std.proofs.Common.{◌≡◌, ℕ, zero, suc, ◌+◌, Bool, List, [], ◌∷◌, ◌++◌, Result, Ok, Err, nat_eq}
use Rattle.std.proofs.Common.{Option, Some, None, if◌then◌else◌, IfOk, arith}
use Rattle.std.specs.List.{AllByRecursion}
use Rattle.snap_words.specs.Shape.{Counts}
use Rattle.snap_semantics.specs.declared.process.Op.{Op}
use Rattle.snap_semantics.specs.declared.refusal.ScheduleRefusal.{ScheduleRefusal}
use Rattle.snap_semantics.specs.declared.refusal.ScheduleRefusal.TheVariants as refusal
use Rattle.snap_semantics.specs.Answers.{◌>>=◌}
use Rattle.snap_semantics.specs.Rules.{form_or}
use Rattle.snap_semantics.specs.ScheduleForms.{shape_form}
use Rattle.snap_semantics.specs.ScheduleText.{FitsWords}
use Rattle.snap_semantics.specs.Token.{TextLine, Token, text_lines}
use Rattle.snap_text.proofs.Sound.{AreSound, lines_sound}
use Rattle.snap_sched.specs.ScriptForms.{ops_of, script_form}
use Rattle.snap_sched.specs.ScriptText.{Script, Scripts, admitted_script, script_line, script_lines}
use Rattle.snap_sched.specs.ScriptText.{scripts_from, scripts_of, scripts_of_lines}
use Rattle.snap_sched.specs.declared.script_forms.ScriptForm.{ScriptForm}
use Rattle.snap_sched.specs.declared.script_forms.ScriptForm.TheVariants as script
use Rattle.snap_history_laws.proofs.reruns.FormsFit.{FitsForm, form_fits}

-- what holds of what is answered, step by step
answered_bind : {A B E : Type 0} (P : A → Type 0) (Q : B → Type 0) (r : Result A E) (f : A → Result B E) → IfOk r P →
    ((x : A) → P x → IfOk (f x) Q) → IfOk (r >>= f) Q
answered_bind P Q (Ok x) f h g = g x h
answered_bind P Q (Err e) f h g = tt

-- the form of a line
tokens_fit : (e : ScheduleRefusal) (o : Option (List Token)) → AreSound o → IfOk (form_or e script_form o) FitsForm
tokens_fit e None h = tt
tokens_fit e (Some ts) h = let fits = form_fits ts h in grind arith

line_fits : (n : ℕ) (before : List ScriptForm) (line : TextLine) → AreSound line.tokens →
    IfOk (script_line n before line) FitsForm
line_fits n before line h =
    answered_bind FitsForm FitsForm (form_or (refusal.BadItem line.number) script_form line.tokens)
    (admitted_script n before line.number) (tokens_fit (refusal.BadItem line.number) line.tokens h)
    (λ form fits. grind arith)

one_more : (before : List ScriptForm) (form : ScriptForm) → AllByRecursion FitsForm before → FitsForm form →
    AllByRecursion FitsForm (before ++ form ∷ [])
one_more [] form h fits = (fits, tt)
one_more (x ∷ before) form h fits = (h.0, one_more before form h.1 fits)

-- the forms of all lines
lines_fit : (n : ℕ) (before : List ScriptForm) (lines : List TextLine) → AllByRecursion FitsForm before →
    AllByRecursion (λ line. AreSound line.tokens) lines → IfOk (script_lines n before lines) (AllByRecursion FitsForm)
lines_fit n before [] h g = h
lines_fit n before (line ∷ lines) h g =
    answered_bind FitsForm (AllByRecursion FitsForm) (script_line n before line)
    (λ form. script_lines n (before ++ form ∷ []) lines) (line_fits n before line g.0)
    (λ form fits. lines_fit n (before ++ form ∷ []) lines (one_more before form h fits) g.1)

-- the numbers of a script have 64 bits
abbrev pub FitsScript : Script → Type 0
FitsScript s = AllByRecursion FitsWords s.operations

call_by : (o : Op) (os : List Op) (b : Bool) → FitsWords o → AllByRecursion FitsWords os →
    AllByRecursion FitsWords (if b then o ∷ os else os)
call_by o os b h g = grind arith

ops_fit : (p : ℕ) (forms : List ScriptForm) → AllByRecursion FitsForm forms → AllByRecursion FitsWords (ops_of p forms)
ops_fit p [] h = tt
ops_fit p (script.Call i o ∷ forms) h = call_by o (ops_of p forms) (nat_eq i p) h.0 (ops_fit p forms h.1)
ops_fit p (script.Crash i turn ∷ forms) h = ops_fit p forms h.1

from_fit : (forms : List ScriptForm) (i count : ℕ) → AllByRecursion FitsForm forms →
    AllByRecursion FitsScript (scripts_from forms i count)
from_fit forms i zero h = tt
from_fit forms i (suc count) h = (ops_fit i forms h, from_fit forms (i + 1) count h)

all_fit : (lines : List TextLine) → AllByRecursion (λ line. AreSound line.tokens) lines →
    IfOk (scripts_of_lines lines) (λ s. AllByRecursion FitsScript s.scripts)
all_fit [] h = tt
all_fit (line ∷ lines) h =
    answered_bind (λ (shape : Counts). Unit {0}) (λ (s : Scripts). AllByRecursion FitsScript s.scripts)
    (form_or refusal.BadShape shape_form line.tokens) _ (grind arith)
    (λ shape some. answered_bind (AllByRecursion FitsForm) (λ (s : Scripts). AllByRecursion FitsScript s.scripts)
    (script_lines shape.n [] lines) _
    (lines_fit shape.n [] lines tt h.1) (λ forms fit. from_fit forms 1 shape.n fit))

pub scripts_fit : (text : List ℕ) (s : Scripts) → scripts_of text ≡ Ok s → AllByRecursion FitsScript s.scripts
scripts_fit text s e = grind (arith, all_fit (text_lines text) (lines_sound text))
