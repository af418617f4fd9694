-- `push_reads` of snap_anatomy (src/scan_text.rt): what holds at the head of each of its loops.
use Rattle.snap_text.specs.Drafted.{Adds}
use Rattle.snap_anatomy.specs.ScanText.{reads_to}
use Rattle.snap_anatomy.proofs.scan_text.push_reads.Given as goal

abbrev pub invariant-loop-j : goal.invariant-loop-j
invariant-loop-j l = Adds l.fn.out l.out (reads_to l.steps l.reads l.j)
