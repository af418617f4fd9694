-- `choice_at` of snap_judge (src/choices.rt).
use Rattle.std.proofs.Common.{ℕ, sym, ap, rules, get_or, ◌∙◌}
use Rattle.snap_judge.specs.declared.config.Slot.TheVariants as kept_slot
use Rattle.snap_judge.proofs.Choosing.{scan_waits, update_waits}
use Rattle.snap_judge.proofs.choices.choice_at.Goals as goal

pub returns-in_default-clause-none : goal.returns-in_default-clause-none
returns-in_default-clause-none c =
    scan_waits c.args.steps.now c.args.config.now c.args.ending c.args.place c.requires.settled (search rules)

pub returns-clause-none : goal.returns-clause-none
returns-clause-none c =
    let found = c.in-Some.ensures.some in
    let u = found.0 in
    let alone = c.has_rival.ensures c.if-has_rival.false in
    let unwanted = c.is_wanted.ensures c.if-is_wanted.false in
    update_waits c.args.steps.now c.args.config.now c.args.ending c.args.place c.in-Some.update.call
    c.in-Some.update.word c.in-Some.update.value c.requires.steps
    (ap (λ (p : ℕ). get_or c.args.config.now.slots.items p kept_slot.Free) (sym found.1) ∙ u.is) u.action
    (let apart = c.if-place-ending.false in λ same. apart same) alone unwanted
