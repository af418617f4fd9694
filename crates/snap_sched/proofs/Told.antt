-- Scripts of live runs are read line after line, and then a `Script` is made of the lines of each process.
use Rattle.std.proofs.Common.{◌≡◌, ℕ, suc, ◌+◌, ◌-◌, ◌<◌, List, [], ◌∷◌, ◌++◌, length, Option, Some, Result, Ok, Err}
use Rattle.std.proofs.Common.{◌≤◌, sym, ap, ◌∙◌, arith, append_assoc, append-nil, subst}
use Rattle.std.proofs.lemmas.List.{length-append}
use Rattle.snap_semantics.specs.declared.refusal.ScheduleRefusal.{ScheduleRefusal}
use Rattle.snap_semantics.specs.Answers.{◌>>=◌}
use Rattle.snap_semantics.specs.Token.{TextLine}
use Rattle.snap_text.specs.declared.lines.TokenLine.{TokenLine}
use Rattle.snap_text.specs.Lines.{IsNext, view_line}
use Rattle.snap_sched.specs.ScriptText.{Script, script_line, script_lines, script_of, scripts_from}
use Rattle.snap_sched.specs.declared.script_forms.ScriptForm.{ScriptForm}

-- the next line, where there is one
pub next_is : (o : Option TokenLine) (line : TokenLine) (old new : List TextLine) → IsNext o old new →
    o ≡ Some line → old ≡ view_line line ∷ new
next_is o line old new h is = subst (λ (x : Option TokenLine). IsNext x old new) is h

-- a line that is read
pub line_told : (n : ℕ) (lines rest : List TextLine) (line : TextLine) (before more : List ScriptForm)
    (f : ScriptForm) → lines ≡ line ∷ rest → script_line n before line ≡ Ok f → more ≡ before ++ f ∷ [] →
    script_lines n more rest ≡ script_lines n before lines
line_told n lines rest line before more f is found added =
    ap (λ (fs : List ScriptForm). script_lines n fs rest) added
    ∙ ap (λ (r : Result ScriptForm ScheduleRefusal). r >>= λ form. script_lines n (before ++ form ∷ []) rest)
    (sym found)
    ∙ ap (script_lines n before) (sym is)

-- a line that is refused
pub line_refused : (n : ℕ) (lines rest : List TextLine) (line : TextLine)
    (before : List ScriptForm) (e : ScheduleRefusal) →
    lines ≡ line ∷ rest → script_line n before line ≡ Err e → script_lines n before lines ≡ Err e
line_refused n lines rest line before e is found =
    ap (script_lines n before) is
    ∙ ap (λ (r : Result ScriptForm ScheduleRefusal). r >>= λ form. script_lines n (before ++ form ∷ []) rest) found

-- one script more
pub script_told : (forms : List ScriptForm) (n k : ℕ) (made more : List Script) (s : Script) →
    k < n → s ≡ script_of forms (k + 1) → more ≡ made ++ s ∷ [] →
    more ++ scripts_from forms (k + 1 + 1) (n - (k + 1)) ≡ made ++ scripts_from forms (k + 1) (n - k)
script_told forms n k made more s h is added =
    let left : suc (n - (k + 1)) ≡ n - k = omega (arith, h) in
    let behind = scripts_from forms (k + 1 + 1) (n - (k + 1)) in
    ap (λ (xs : List Script). xs ++ behind) added ∙ append_assoc made (s ∷ []) behind
    ∙ ap (λ (x : Script). made ++ x ∷ behind) is
    ∙ ap (λ (c : ℕ). made ++ scripts_from forms (k + 1) c) left

pub one_longer : (made more : List Script) (s : Script) (k : ℕ) → more ≡ made ++ s ∷ [] →
    length made ≡ k → length more ≡ k + 1
one_longer made more s k added size = ap length added ∙ length-append made (s ∷ []) ∙ ap (λ (j : ℕ). j + 1) size

-- no script is left to be made
pub all_told : (forms : List ScriptForm) (n k : ℕ) (made all : List Script) → n ≤ k →
    made ++ scripts_from forms (k + 1) (n - k) ≡ all → made ≡ all
all_told forms n k made all h told =
    let none : n - k ≡ 0 = omega (arith, h) in
    sym (append-nil made) ∙ ap (λ (c : ℕ). made ++ scripts_from forms (k + 1) c) (sym none) ∙ told
