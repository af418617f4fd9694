-- `push_tested` of snap_anatomy (src/scan_text.rt): what holds at the head of each of its loops.
use Rattle.snap_text.specs.Drafted.{Adds}
use Rattle.snap_anatomy.specs.ScanText.{collects_to}
use Rattle.snap_anatomy.proofs.scan_text.push_tested.Given as goal

abbrev pub invariant-loop-j : goal.invariant-loop-j
invariant-loop-j l = Adds l.fn.out l.out
    (collects_to l.told.steps.now l.told.notes.now l.scan.process l.scan.from l.scan.to l.tests l.j)
