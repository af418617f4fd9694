-- `may_have_all` of snap_hunt (src/candidate.rt): what holds at the head of each of its loops.
use Rattle.std.proofs.Common.{take}
use Rattle.std.specs.List.{AllByRecursion}
use Rattle.snap_words.specs.Shape.{IsOneOf}
use Rattle.snap_semantics.specs.ScheduleText.{FitsItem}
use Rattle.snap_semantics.specs.Table.{who}
use Rattle.snap_hunt.proofs.candidate.may_have_all.Given as goal

-- the items that are seen so far
abbrev pub invariant-loop-item : goal.invariant-loop-item
invariant-loop-item l = record {
  processes : AllByRecursion (λ x. IsOneOf l.shape.n (who x)) (take l.item-index l.items);
  fits : AllByRecursion FitsItem (take l.item-index l.items);
}
