-- `headline` of snap_output (src/headlines.rt): the proof of what its contract says.
use Rattle.snap_output.proofs.Refusing.{refuses_batches, refuses_inputs, refuses_texts, runs_batches}
use Rattle.snap_output.proofs.Shipping.{gives_itself_back, lists_back, prints_the_run, runs_what_is_asked}
use Rattle.snap_output.proofs.Shipping.{snapshots, writes_the_run}
use Rattle.snap_output.proofs.headlines.headline.Goals as goal

pub returns : goal.returns
returns c = record {
  prints_the_run = prints_the_run;
  lists_back = lists_back c.what_is_assembled_lists_back.ensures;
  gives_itself_back = gives_itself_back c.what_is_canonical_is_kept.ensures;
  refuses_texts = refuses_texts;
  refuses_inputs = refuses_inputs;
  refuses_batches = refuses_batches;
  runs_what_is_asked = runs_what_is_asked;
  runs_batches = runs_batches;
  writes_the_run = writes_the_run;
  snapshots = snapshots c.shipped_runs_keep_promises.ensures c.reads_only_spelled.ensures;
}
