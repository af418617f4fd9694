-- `first_mark` of snap_anatomy (src/collects.rt): the proof of what its contract says.
use Rattle.std.proofs.Common.{◌≡◌, ◌+◌, ◌-◌, ◌<◌, ◌∙◌, ℕ, zero, suc, List, Option, Some, false, true, sym, arith}
use Rattle.snap_acts.specs.declared.act.TraceStep.{TraceStep}
use Rattle.snap_acts.specs.Loans.{step_at}
use Rattle.snap_anatomy.specs.Collects.{first_mark, is_mark}
use Rattle.snap_anatomy.specs.Notes.{note_at}
use Rattle.snap_anatomy.specs.declared.note.Note.{Note}
use Rattle.snap_anatomy.proofs.collects.first_mark.Goals as goal

-- A search for the first mark goes on from a place where there is none.
goes_on : (ss : List TraceStep) (ns : List Note) (i k left : ℕ) → 0 < left →
    is_mark i (step_at ss k) (note_at ns k) ≡ false →
    first_mark ss ns i (k + 1) (left - 1) ≡ first_mark ss ns i k left
goes_on ss ns i k zero more away = absurd (omega arith)
goes_on ss ns i k (suc left) more away = let one : suc left - 1 ≡ left = omega arith in cc

-- It ends at a place where there is one.
ends : (ss : List TraceStep) (ns : List Note) (i k left : ℕ) → 0 < left →
    is_mark i (step_at ss k) (note_at ns k) ≡ true → Some k ≡ first_mark ss ns i k left
ends ss ns i k zero more there = absurd (omega arith)
ends ss ns i k (suc left) more there = cc

pub loop-left-preserved : goal.loop-left-preserved
loop-left-preserved c = (
  goes_on c.args.steps.now c.args.notes.now c.args.process c.loop-left.k c.loop-left.left
      (omega (arith, c.loop-left-test.true)) (sym c.is_mark.ensures ∙ c.if-is_mark.false)
      ∙ c.loop-left.invariant.0,
  omega (arith, c.loop-left-test.true, c.loop-left.invariant.1),
)
