-- `push_spans_to` of snap_anatomy (src/scan_text.rt): what holds at the head of each of its loops.
use Rattle.snap_text.specs.Drafted.{Adds}
use Rattle.snap_anatomy.specs.ScanText.{spans_json_to}
use Rattle.snap_anatomy.proofs.scan_text.push_spans_to.Given as goal

abbrev pub invariant-loop-k : goal.invariant-loop-k
invariant-loop-k l = Adds l.fn.out l.out (spans_json_to l.spans l.k)
