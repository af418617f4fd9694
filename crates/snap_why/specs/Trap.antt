-- Why a process trapped: at which line, and by which operand, or why its operation cannot go on there.
use Rattle.std.specs.Prelude.{ℕ, List, [], ◌++◌, Option, Some, None, codes, decimal, map}
use Rattle.snap_words.specs.Shape.{Counts}
use Rattle.snap_report.specs.OutcomeText.{outcome_text}
use Rattle.snap_semantics.specs.Source.{Source, instr_at}
use Rattle.snap_semantics.specs.State.{State}
use Rattle.snap_semantics.specs.declared.instr.Instr.{Instr}
use Rattle.snap_semantics.specs.declared.process.Activity.{Activity}
use Rattle.snap_semantics.specs.declared.process.Cause.{Cause}
use Rattle.snap_semantics.specs.declared.process.Cause.TheVariants as cause
use Rattle.snap_semantics.specs.declared.process.Op.{Op}
use Rattle.snap_semantics.specs.declared.process.Op.TheVariants as op
use Rattle.snap_semantics.specs.declared.process.Outcome.TheVariants as outcome
use Rattle.snap_semantics.specs.declared.process.Status.{Status}
use Rattle.snap_semantics.specs.declared.process.Status.TheVariants.{Trapped}
use Rattle.snap_listing.specs.LineTexts.{NumberedText, text_with, written}
use Rattle.snap_why.specs.Troubles.{line_trouble}
use Rattle.snap_why.specs.TroubleText.{trouble_text}
use Rattle.snap_why.specs.declared.taker.Taker.{Taker}
use Rattle.snap_why.specs.declared.trouble.Trouble.{Trouble}
use Rattle.snap_why.specs.Answer.{process_text}

-- the text of a line, and its number where it is not there
abbrev pub text_or_number : ℕ → Option (List ℕ) → List ℕ
text_or_number number None = decimal number
text_or_number number (Some text) = text

-- `process I trapped CAUSE at LINE`
abbrev pub trap_line : List NumberedText → ℕ → Cause → Activity → List ℕ
trap_line texts i e a =
    process_text i ++ codes " " ++ outcome_text (outcome.Trapped e) ++ codes " at "
    ++ text_or_number a.line (text_with texts a.line) ++ codes "\n"

-- the operand of a line, where one is wrong
abbrev pub operand_line : Option Trouble → List ℕ
operand_line None = []
operand_line (Some t) = trouble_text t

abbrev pub trouble_of : Source → Counts → State → Taker → Option Instr → Option Trouble
trouble_of s shape S t None = None
trouble_of s shape S t (Some i) = line_trouble s.kind shape S t i

-- a call inside of another one
abbrev pub nested_line : Option ℕ → List ℕ
nested_line None = []
nested_line (Some link) = codes "a call inside of a call, which returns to line " ++ decimal link ++ codes "\n"

-- how an operation with this link ends
abbrev pub end_line : Op → Option ℕ → List ℕ
end_line op.Scan link = codes "a scan ends by `return`\n"
end_line (op.Update word value) None = codes "an update ends by `finish`\n"
end_line (op.Update word value) (Some link) = codes "the scan of an update ends by `return`\n"

-- why it trapped
abbrev pub cause_line : Source → Counts → State → ℕ → Cause → Activity → List ℕ
cause_line s shape S i cause.Nested a = nested_line a.link
cause_line s shape S i cause.BadEnd a = end_line a.op a.link
cause_line s shape S i cause.OffEnd a = codes "no line follows\n"
cause_line s shape S i _ a =
    operand_line (trouble_of s shape S (record { process = i; op = a.op; place = 0 }) (instr_at s.lines a.line))

-- process i, which stands so in a state
abbrev pub trap_lines : Source → Counts → State → ℕ → Status → List ℕ
trap_lines s shape S i (Trapped e a) = trap_line (map written s.lines) i e a ++ cause_line s shape S i e a
trap_lines s shape S i _ = []
