-- `StepCounter::note` of snap_hunt (src/step_counter.rt).
use Rattle.std.proofs.Common.{sym, subst}
use Rattle.snap_hunt.specs.Counting.{HasCounted}
use Rattle.snap_hunt.proofs.Counting.{up_to_told}
use Rattle.snap_hunt.proofs.step_counter.StepCounter.note.Goals as goal

pub note_told-requires-after_bounds : goal.note_told-requires-after_bounds
note_told-requires-after_bounds g c κs within =
    let s = c.args.self.now in
    let p = c.args.passed.now in
    let w = c.requires.0 in
    let tells = c.requires.3 in
    let next = c.pass.new.self in
    let h = up_to_told w c.args.walk.now p c.requires.1 s.most s next c.requires.2 tells c.pass.ensures.counted in
    let v = tells.between in
    (v, subst (λ m. HasCounted v.run m v.at next) (sym h.most_is) h, tells.passes)

pub returns-clause-counted : goal.returns-clause-counted
returns-clause-counted g c =
    let w' = c.args.walk.now in
    subst (λ m. HasCounted w'.run m w'.at c.note_told.new.self) c.pass.ensures.most c.note_told.ensures.counted
