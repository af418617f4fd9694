-- `judge_history` of snap_run_judge (src/judging.rt): the proof of what its contract says.
use Rattle.std.proofs.Common.{◌∙◌, subst, sym}
use Rattle.snap_semantics.specs.IsListing.{IsListing}
use Rattle.snap_judge.specs.History.{IsHistory}
use Rattle.snap_run_judge.proofs.judging.judge_history.Goals as goal

pub judge_without_order-requires : goal.judge_without_order-requires
judge_without_order-requires c =
    let h = c.requires.1 in
    subst IsHistory (sym h.history)
    (c.runs_have_histories.ensures c.requires.0
    (subst IsListing (c.listing.ensures ∙ h.source) c.lines-lines.ensures.rules) h.fits)
