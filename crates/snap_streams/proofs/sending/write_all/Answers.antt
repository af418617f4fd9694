-- `write_all` of snap_streams (src/sending.rt): the proof of what its contract says.
use Rattle.std.proofs.Common.{◌≡◌, ◌≢◌, ◌==◌, ◌∙◌, ℕ, false, take, drop, arith}
use Rattle.std.proofs.lemmas.Grind.{common_steps}
use Rattle.std.proofs.lemmas.List.{length-drop, take_rest}
use Rattle.std.proofs.Math.Seq.{take-add}
use Rattle.std.proofs.KnownBytes.{Appends-trans}
use Rattle.snap_streams.proofs.sending.write_all.Goals as goal

is_some : (n : ℕ) → n ≢ 0 → (n == 0) ≡ false
is_some n h = grind (arith, common_steps)

pub loop-sent-preserved : goal.loop-sent-preserved
loop-sent-preserved g c =
    let sent = c.loop-sent.sent in
    let count = c.in-Ok.count in
    let text = c.args.text.now in
    let h = c.loop-sent.invariant in
    let rest = length-drop sent text in
    let bound = rw (take_rest text sent) at c.in-Ok.ensures.bound in
    let bytes = rw (take_rest text sent) at c.in-Ok.ensures.bytes in record {
      within = omega (arith, rest, bound, h.within);
      well = c.in-Ok.ensures.fails;
      goes_on = λ _. c.in-Ok.ensures.stalls ∙ is_some count c.in-Ok.count-test.1;
      sent =
          rw (take-add sent count text)
          (Appends-trans (g.W.ByteSink.state c.args.sink.now).taken (g.W.ByteSink.state c.loop-sent.sink).taken
          (g.W.ByteSink.state c.write.new.self).taken (take sent text) (take count (drop sent text)) h.sent bytes);
    }
