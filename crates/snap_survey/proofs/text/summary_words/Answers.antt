-- `summary_words` of snap_survey (src/text.rt): the proof of what its contract says. The text is read back from its
-- last piece to its first.
use Rattle.std.proofs.Common.{append_assoc}
use Rattle.snap_survey.specs.SurveyText.{summary_words}
use Rattle.snap_survey.proofs.text.summary_words.Goals as goal

pub returns : goal.returns
unfolding summary_words
returns c = λ well.
    let e3 = c.push_field-3.ensures well in
    let e2 = c.push_field-2.ensures e3.0 in
    let e1 = c.push_field.ensures e2.0 in
    (e1.0, rw (e3.1, e2.1, e1.1) (simp append_assoc))
