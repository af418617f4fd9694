-- `Heads::renew` of snap_output (src/heads.rt): the proof of what its contract says.
use Rattle.std.proofs.Common.{◌-◌, ◌++◌, ap, slice_set, ◌∙◌}
use Rattle.std.proofs.lemmas.List.{map-set}
use Rattle.snap_semantics.specs.Report.{head_line}
use Rattle.snap_semantics.specs.State.{process_at}
use Rattle.snap_text.specs.Drafted.{Drafted}
use Rattle.snap_output.proofs.heads.Heads.renew.Goals as goal

pub returns-clause-lines : goal.returns-clause-lines
returns-clause-lines g c =
    let j = c.args.i - 1 in
    map-set (λ (d : Drafted). d.text) c.self.inside.lines.items j c.swap.new.x
    ∙ ap (λ ls. slice_set ls j c.swap.new.x.text) c.self.view_is
    ∙ ap (λ t. slice_set c.args.self.now j t)
    (ap (λ (d : Drafted). d.text) c.swap.ensures.x_after ∙ (c.head_line.ensures c.in_ok-text-2.ensures.0).1
    ∙ ap (λ t. t ++ head_line c.args.i (process_at c.args.machine.now.state c.args.i).status) c.clear.ensures.text)
