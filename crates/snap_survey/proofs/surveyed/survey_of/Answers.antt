-- `survey_of` of snap_survey (src/surveyed.rt): the proof of what its contract says.
use Rattle.std.proofs.Common.{rules, ◌≡◌, length, vec_len, subst, ◌∙◌}
use Rattle.snap_runs.specs.Audit.{audit}
use Rattle.snap_runs.specs.Run.{Run}
use Rattle.snap_audit.proofs.Watches.{whole_way}
use Rattle.snap_survey.proofs.Surveying.{survey_made}
use Rattle.snap_survey.proofs.Tallies.{skips_same}
use Rattle.snap_survey.proofs.surveyed.survey_of.Goals as goal

pub returns : goal.returns
returns g c =
    let w = c.args.walk.now in
    let vs = c.in_ok-verdicts.verdicts.items in
    let many : vec_len c.in_ok-verdicts.verdicts ≡ length vs = search rules in
    rw (
      c.len.ensures,
      many,
      c.without_point.ensures,
      c.as_slice.ensures.value,
      c.most_collects.ensures,
      c.as_slice-2.ensures.value,
    ) (survey_made w.run c.args.tally.now vs c.open_operations.result c.skipped.result
    (rw c.requires.end at c.requires.tally)
    (subst (λ (q : Run). vs ≡ audit q) (whole_way w c.requires.end) (c.in_ok-verdicts.ensures w c.requires.watch))
    (rw (c.machine.ensures.shape, c.machine.ensures.state, c.requires.end) at c.open_operations.ensures)
    (rw c.requires.end at (c.skipped.ensures ∙ skips_same w.run w.at)))
