-- `open` of snap_live (src/desk.rt): the proof of what its contract says.
use Rattle.std.proofs.Common.{rules, ◌≡◌, ℕ, ◌+◌, ◌++◌, ◌∷◌, [], ap, sym, ◌∙◌, add-one, suc}
use Rattle.std.proofs.Common.{Option, Some, List, subst, ◌≤◌, ◌^◌, arith}
use Rattle.atomic_table.specs.Table.{opening}
use Rattle.snap_words.specs.Shape.{max_count}
use Rattle.snap_runs.specs.Run.{Run}
use Rattle.snap_live.specs.declared.seat_state.Setting.{Setting}
use Rattle.snap_live.specs.Turns.{run_of, setting_of}
use Rattle.snap_live.specs.SeatStates.{newcomer, opener}
use Rattle.snap_live.specs.Shown.{seats_of, seat_of}
use Rattle.snap_live.specs.Rule.{TableInvariant}
use Rattle.snap_live.proofs.Opening.{opens}
use Rattle.snap_live.proofs.desk.open.Goals as goal

pub loop-i-preserved : goal.loop-i-preserved
loop-i-preserved g c =
    let inv = c.loop-i.invariant in
    let s = c.seat_next-seat.ensures in
    let n = c.loop-i.i in
    let base : Setting = record { source = c.args.program.now; shape = c.args.shape } in
    let same : c.loop-i.opener.me.0.base ≡ base = λ k. (inv.opener k).0.base in
    let made : c.seat_next-seat.result.0
    ≡ seat_of (record { id = c.in-Ok.made.0.shared.table_id; base = base }) (suc n) =
    s.seat ∙ (λ k. seat_of (record { id = inv.seat k; base = same k }) (add-one n k)) in
    record {
      table = inv.table;
      seat = s.next.0 ∙ inv.seat;
      opener = s.next.1 ∙ (λ k. (opener (same k) (n + 1), []));
      room = search rules;
      many = search rules;
      seats =
          c.push_reserved-in-loop-i.ensures.items ∙ (λ k. inv.seats k ++ made k ∷ [])
          ∙ ap (λ (m : ℕ). seats_of (record { id = c.in-Ok.made.0.shared.table_id; base = base }) m) (sym (add-one n));
    }

pub new-requires-3 : goal.new-requires-3
new-requires-3 g c =
    let base : Setting = record { source = c.args.program.now; shape = c.args.shape } in
    let few : c.args.shape.n ≤ max_count = search rules in
    let fits : base.shape.n ≤ 2 ^ 16 = omega (arith, few) in
    let empty = c.in_ok-slots.ensures.items in
    let made = c.in_ok-first.ensures in
    let held = c.in_ok-held.ensures ∙ made in
    let slots : c.push_reserved.new.self.items ≡ Some (run_of base []) ∷ [] =
    c.push_reserved.ensures.items ∙ (λ k. empty k ++ Some (held k) ∷ []) in
    let key : setting_of c.of-about.result.value ≡ base = ap setting_of (c.of-about.ensures ∙ made) in
    subst (λ (b : Setting). TableInvariant b (opening (0 ∷ 0 ∷ 0 ∷ 0 ∷ []) c.push_reserved.new.self.items (newcomer b)))
    (sym key)
    (subst (λ (xs : List (Option Run)). TableInvariant base (opening (0 ∷ 0 ∷ 0 ∷ 0 ∷ []) xs (newcomer base)))
    (sym slots) (opens base fits))
