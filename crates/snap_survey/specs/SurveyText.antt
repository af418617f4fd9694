-- The printed texts of surveys, and of many of them together.
use Rattle.std.specs.Prelude.{ℕ, ◌+◌, List, [], ◌∷◌, ◌++◌, Option, Some, None, codes, decimal}
use Rattle.snap_semantics.specs.declared.process.Outcome.TheVariants as outcome
use Rattle.snap_report.specs.OutcomeText.{outcome_text}
use Rattle.snap_judge.specs.declared.linearizability.Linearizability.{Linearizability}
use Rattle.snap_judge.specs.declared.linearizability.Linearizability.TheVariants as word
use Rattle.snap_survey.specs.Summary.{summary_of}
use Rattle.snap_survey.specs.declared.summary.Summary.{Summary}
use Rattle.snap_survey.specs.declared.findings.Skip.{Skip}
use Rattle.snap_survey.specs.declared.findings.JudgedSurvey.{JudgedSurvey}
use Rattle.snap_survey.specs.declared.findings.Survey.{Survey}
use Rattle.snap_survey.specs.declared.findings.Trap.{Trap}

-- a number behind its name
unfoldable pub field_text : List ℕ → ℕ → List ℕ
field_text name x = name ++ decimal x

-- scans that were answered, and those that were called; those without a point; the most double collects of one
unfoldable pub scans_text : Survey → List ℕ
scans_text s =
    field_text (codes " scans ") s.scans_answered ++ field_text (codes " of ") s.scans_called
    ++ field_text (codes " without point ") s.scans_without_point
    ++ field_text (codes " collects ") s.most_collects

-- updates that are done, and those that were called; operations that have not ended
unfoldable pub updates_text : Survey → List ℕ
updates_text s =
    field_text (codes " updates ") s.updates_done ++ field_text (codes " of ") s.updates_called
    ++ field_text (codes " open ") s.open_operations

-- items that trapped or crashed their process, or were skipped
unfoldable pub halts_text : Survey → List ℕ
halts_text s =
    field_text (codes " traps ") s.traps ++ field_text (codes " crashes ") s.crashes
    ++ field_text (codes " skips ") s.skips

-- an item and its process
unfoldable pub first_text : ℕ → ℕ → List ℕ
first_text t i = codes " first" ++ field_text (codes " item ") t ++ field_text (codes " process ") i

-- the first trap, where there is one
unfoldable pub trap_text : Option Trap → List ℕ
trap_text None = []
trap_text (Some x) =
    first_text x.item x.process ++ codes " " ++ outcome_text (outcome.Trapped x.cause)
    ++ field_text (codes " at ") x.line

-- the first skipped item, where there is one
unfoldable pub skip_text : Option Skip → List ℕ
skip_text None = []
skip_text (Some x) = first_text x.item x.process ++ codes " " ++ outcome_text (outcome.Skipped x.reason)

-- the word for a run, at the end of its line
abbrev pub word_text : Linearizability → List ℕ
word_text word.Linearizable = codes " linearizable"
word_text word.NotLinearizable = codes " not linearizable"
word_text word.Undecided = codes " undecided"

-- a survey, in numbers, and what it has of a first trap and a first skipped item
unfoldable pub counts_text : Survey → List ℕ
counts_text s = scans_text s ++ updates_text s ++ halts_text s ++ trap_text s.first_trap ++ skip_text s.first_skip

-- what the run over schedule k came to
unfoldable pub survey_line : ℕ → JudgedSurvey → List ℕ
survey_line k s =
    field_text (codes "schedule ") k ++ counts_text s.survey ++ word_text s.linearizability ++ codes "\n"

-- the lines of surveys, the first of which is of schedule k
abbrev pub survey_lines : ℕ → List JudgedSurvey → List ℕ
survey_lines k [] = []
survey_lines k (s ∷ ss) = survey_line k s ++ survey_lines (k + 1) ss

-- the runs in which scans were answered, and have no point; the most double collects of a scan
unfoldable pub summary_scans : Summary → List ℕ
summary_scans m =
    field_text (codes " scans ") m.answering ++ field_text (codes " without point ") m.without_point
    ++ field_text (codes " collects ") m.most_collects

-- the runs in which updates are done, and operations have not ended
unfoldable pub summary_updates : Summary → List ℕ
summary_updates m = field_text (codes " updates ") m.updating ++ field_text (codes " open ") m.unfinished

-- the runs with traps, crashes and skipped items
unfoldable pub summary_halts : Summary → List ℕ
summary_halts m =
    field_text (codes " traps ") m.trapping ++ field_text (codes " crashes ") m.crashing
    ++ field_text (codes " skips ") m.skipping

-- the runs that are linearizable, that are not, and those of which neither was found
unfoldable pub summary_words : Summary → List ℕ
summary_words m =
    field_text (codes " linearizable ") m.linearizable ++ field_text (codes " not linearizable ") m.not_linearizable
    ++ field_text (codes " undecided ") m.undecided

-- in how many of the runs there is what the fields of a survey count
unfoldable pub summary_line : Summary → List ℕ
summary_line m =
    field_text (codes "schedules ") m.schedules ++ summary_scans m ++ summary_updates m ++ summary_halts m
    ++ summary_words m ++ codes "\n"

-- a line for each survey, and one for all of them
abbrev pub surveys_text : List JudgedSurvey → List ℕ
surveys_text ss = survey_lines 1 ss ++ summary_line (summary_of ss)
