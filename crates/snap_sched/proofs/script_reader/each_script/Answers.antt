-- `each_script` of snap_sched (src/script_reader.rt): the proof of what its contract says.
use Rattle.std.proofs.Common.{◌<◌, ◌∙◌, arith}
use Rattle.snap_sched.proofs.Told.{script_told, one_longer}
use Rattle.snap_sched.proofs.script_reader.each_script.Goals as goal

pub loop-k-preserved : goal.loop-k-preserved
loop-k-preserved c =
    let more : c.loop-k.k < c.args.n = omega arith in
    let made = c.loop-k.scripts.items in
    let all = c.push.new.self.items in
    let script = c.in_ok-script_of.field-0 in
    let added = c.in_ok-push.ensures.items in
    record {
      told =
          script_told c.args.forms.now c.args.n c.loop-k.k made all script more c.in_ok-script_of.ensures added
          ∙ c.loop-k.invariant.told;
      each = one_longer made all script c.loop-k.k added c.loop-k.invariant.each;
      within = omega (arith, more);
    }
