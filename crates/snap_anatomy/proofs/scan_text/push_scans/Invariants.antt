-- `push_scans` of snap_anatomy (src/scan_text.rt): what holds at the head of each of its loops.
use Rattle.snap_text.specs.Drafted.{Adds}
use Rattle.snap_anatomy.specs.ScanText.{scans_json_to}
use Rattle.snap_anatomy.proofs.scan_text.push_scans.Given as goal

abbrev pub invariant-loop-k : goal.invariant-loop-k
invariant-loop-k l = Adds l.fn.out l.out
    (scans_json_to l.told.steps.now l.told.notes.now l.told.values.now l.told.bands.now l.scans l.k)
