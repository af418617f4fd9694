-- `the_report_is_the_sum_of_the_trace` of snap_output (src/laws.rt): the proof of what its contract says.
use Rattle.snap_output.proofs.Sums.{summed}
use Rattle.snap_output.proofs.laws.the_report_is_the_sum_of_the_trace.Goals as goal

pub returns : goal.returns
returns c r t = summed r t
