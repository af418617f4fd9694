-- `outcome_line`: the line that says of an item of a run its number, its process, its outcome, and the line of the
-- listing that it ran.
use Rattle.std.specs.Prelude.{ℕ, List, [], ◌++◌, Option, Some, None, codes, decimal}
use Rattle.snap_semantics.specs.declared.process.Outcome.{Outcome}
use Rattle.snap_listing.specs.LineTexts.{NumberedText, text_with}
use Rattle.snap_report.specs.OutcomeText.{outcome_text}

-- the text of a line, behind ` at `; nothing where there is no line
abbrev pub at_text : Option (List ℕ) → List ℕ
at_text None = []
at_text (Some text) = codes " at " ++ text

-- the text of the line that was run, among these
abbrev pub run_text : List NumberedText → Option ℕ → List ℕ
run_text texts None = []
run_text texts (Some k) = at_text (text_with texts k)

-- `item T I `
abbrev pub number_text : ℕ → ℕ → List ℕ
number_text t i = codes "item " ++ decimal t ++ codes " " ++ decimal i ++ codes " "

-- `item T I OUTCOME`, and the line that was run, where one was
unfoldable pub outcome_line : List NumberedText → ℕ → ℕ → Outcome → Option ℕ → List ℕ
outcome_line texts t i o run = number_text t i ++ outcome_text o ++ run_text texts run ++ codes "\n"
