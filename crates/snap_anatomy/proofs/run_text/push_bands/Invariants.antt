-- `push_bands` of snap_anatomy (src/run_text.rt): what holds at the head of each of its loops.
use Rattle.snap_text.specs.Drafted.{Adds}
use Rattle.snap_anatomy.specs.AnatomyText.{bands_json_to}
use Rattle.snap_anatomy.proofs.run_text.push_bands.Given as goal

abbrev pub invariant-loop-k : goal.invariant-loop-k
invariant-loop-k l = Adds l.fn.out l.out (bands_json_to l.values l.steps l.bands l.k)
