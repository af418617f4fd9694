-- `value_of` of snap_record (src/history.rt): the proof of what its contract says.
use Rattle.std.proofs.Common.{◌+◌, Some, refl, ap, ◌∙◌}
use Rattle.snap_machine.specs.SeenContents.{seen_contents}
use Rattle.snap_machine.specs.declared.contents.Contents.{Contents}
use Rattle.snap_record.proofs.Values.{datum_read}
use Rattle.snap_record.proofs.history.value_of.Goals as goal

pub returns : goal.returns
returns g c =
    let read = c.in-Ok-Word.ensures
    ∙ ap (λ (x : Contents g.row.K.Denot g.row.K-Word.Denot). Some (seen_contents g.K.Kind.as_word x))
    c.in-Ok-Word.field-0-is in
    c.field_of.ensures ∙ datum_read c.args.machine.now.state.memory (c.args.k + 1) c.args.k
    (g.K.Kind.as_word c.in-Ok-Word.word.now) refl read
