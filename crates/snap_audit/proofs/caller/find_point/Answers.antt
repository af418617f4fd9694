-- `find_point` of snap_audit (src/caller.rt): the proof of what its contract says.
use Rattle.std.proofs.Common.{rules, ◌≡◌, ℕ, ◌≤◌, ◌<◌, ◌+◌, ◌-◌, false, drop, ap, sym, ◌∙◌, arith}
use Rattle.std.specs.Prelude.{bytes_eq}
use Rattle.snap_record.specs.History.{values_by}
use Rattle.snap_audit.specs.Sweep.{least_by}
use Rattle.snap_audit.proofs.Points.{none_between}
use Rattle.snap_audit.proofs.caller.find_point.Goals as goal

pub loop-t-preserved : goal.loop-t-preserved
loop-t-preserved c =
    let old = c.args.values.now in
    let xs = drop c.args.next c.args.changes.now in
    let new = c.advance-k.new.values in
    let ys = drop c.advance-k.result c.args.changes.now in
    let view = c.args.view.now in
    let t = c.loop-t.t in
    let next = c.next_change-t.result in
    let end = c.args.item + c.args.count in
    let after = c.next_change-t.ensures.later in
    let within = c.next_change-t.ensures.within in
    let later : (u : ℕ) → t ≤ u → values_by new ys u ≡ values_by old xs u =
    (λ u low. c.advance-k.ensures.later u low ∙ c.loop-t.invariant.later u low) in
    let other : bytes_eq new view ≡ false = search rules in
    let none : (u : ℕ) → t ≤ u → u < t + (next - t) → bytes_eq (values_by old xs u) view ≡ false =
    (λ u low high.
    ap (λ v. bytes_eq v view) (sym (later u low)
    ∙ c.next_change-t.ensures.quiet new c.advance-k.ensures.now u low (omega (arith, high, after)))
    ∙ other) in
    let there : next ≡ t + (next - t) = omega (arith, after) in
    let rest : next - t + (end - next) ≡ end - t = omega (arith, after, within) in
    record {
      left =
          ap (λ u. least_by old xs view u (end - next)) there
          ∙ sym (none_between old xs view (next - t) t (end - next) none)
          ∙ ap (least_by old xs view t) rest ∙ c.loop-t.invariant.left;
      later = λ u low. later u (omega (arith, low, after));
      within = within;
    }
