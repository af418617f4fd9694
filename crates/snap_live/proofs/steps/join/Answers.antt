-- `join` of snap_live (src/steps.rt): the proof of what its contract says.
use Rattle.std.proofs.Common.{rules, ap, ◌∙◌}
use Rattle.snap_live.specs.Rule.{Mine}
use Rattle.snap_live.proofs.Moves.{tells_it}
use Rattle.snap_live.proofs.Joins.{joins}
use Rattle.snap_live.proofs.steps.join.Goals as goal

pub join_seat-requires : goal.join_seat-requires
join_seat-requires g c =
    (search rules, search rules, search rules, search rules, let i = c.requires.idle in joins _ _ _ _ _ i.0.1 i.1.1)

pub load-requires : goal.load-requires
load-requires g c =
    let i = c.requires.idle in
    (search rules, search rules, tells_it _ _ _ _ (ap (λ (m : Mine). m.0.stage) c.join_seat.ensures.2 ∙ i.0.1))
