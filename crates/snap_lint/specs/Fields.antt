-- `reach_seen`: the lint's struct `Flow`, seen as the `Reach` of the definitions, with its lists of line numbers.
use Rattle.snap_lint.specs.declared.flow.Flow.TheInside.{Inside}
use Rattle.snap_lint.specs.Flow.{Reach}

abbrev pub reach_seen : Inside → Reach
reach_seen f = record {
  scan = f.scan.items;
  scan_call = f.scan_call.items;
  update = f.update.items;
  update_call = f.update_call.items;
  out = f.out.items;
  call_out = f.call_out.items;
  unwritten = f.unwritten.items;
}
