-- `is_dead` of snap_judge (src/search.rt).
use Rattle.std.proofs.Common.{◌≡◌, ◌∙◌, refl, sym, true, false}
use Rattle.snap_judge.proofs.Meeting.{same_decides}
use Rattle.snap_judge.proofs.Searching.{no_end, none_same, same_fails}
use Rattle.snap_judge.proofs.search.is_dead.Goals as goal
use Rattle.snap_judge.proofs.search.is_dead.Goals.{else-not-is_empty-via-then-not-is_empty+else-contains}
use Rattle.snap_judge.proofs.search.is_dead.Goals.{else-not-is_empty-via-else-not-is_empty}

pub returns-then-contains-clause-dead : goal.returns-then-contains-clause-dead
returns-then-contains-clause-dead c now =
    same_fails c.args.steps.now c.args.failed.now.keys c.args.entered.now.config c.requires.failed
    ((same_decides c.args.failed.now.keys c.args.entered.now.config).0 (sym c.contains.ensures ∙ c.if-contains.true))
    c.requires.config

pub returns-in-None-clause-dead : goal.returns-in-None-clause-dead
returns-in-None-clause-dead c now =
    no_end c.args.steps.now c.args.entered.now.config (c.requires.stuck c.if-entered.false) c.in-None.ensures.none

pub returns-in-Some-clause-alive : goal.returns-in-Some-clause-alive
returns-in-Some-clause-alive c now shut = (
  λ has. elim c.else-not-is_empty.branch [
    | else-not-is_empty-via-then-not-is_empty+else-contains w ↦ absurd
        (let is = (same_decides c.args.failed.now.keys c.args.entered.now.config).1 has in
        let other : true ≡ false = sym is ∙ sym w.contains.ensures ∙ w.if-contains.false in
        let no : ⊥ = cc in no)
    | else-not-is_empty-via-else-not-is_empty w ↦
        none_same c.args.failed.now.keys c.args.entered.now.config (w.if-not-is_empty.ensures.0 refl) has
  ],
  (c.in-Some.field-0, c.in-Some.ensures.some),
)
