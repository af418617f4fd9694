-- `has_history` of snap_run_judge (src/judging.rt): the proof of what its contract says.
use Rattle.std.proofs.Common.{◌∙◌, ap, subst}
use Rattle.snap_semantics.specs.IsListing.{IsListing}
use Rattle.snap_machine.specs.Configuration.{Configuration}
use Rattle.snap_run_judge.proofs.judging.has_history.Goals as goal

pub returns : goal.returns
returns g c =
    c.runs_have_histories.ensures c.args.history.now
    (subst IsListing
    (c.listing.ensures ∙ c.program.ensures.value ∙ ap (λ (m : Configuration). m.source) c.machine.ensures)
    c.lines-lines.ensures.rules)
    c.items-items.ensures.fits
