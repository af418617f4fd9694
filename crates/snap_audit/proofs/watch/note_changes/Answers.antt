-- `note_changes` of snap_audit (src/watch.rt): the proof of what its contract says.
use Rattle.std.proofs.Common.{append-nil, sym, ◌∙◌, ap, ◌++◌}
use Rattle.snap_record.specs.History.{changes_to}
use Rattle.snap_record.proofs.Recording.{none_changed}
use Rattle.snap_audit.proofs.watch.note_changes.Goals as goal

pub returns-else-is_write : goal.returns-else-is_write
returns-else-is_write g c =
    let same = c.requires.stay (sym c.is_write.ensures ∙ c.if-is_write.false) in
    let old = c.args.now.now in
    record {
      now = sym same;
      changes =
          sym (append-nil c.args.changes.now.items) ∙ ap (λ l. c.args.changes.now.items ++ l)
          (sym (none_changed c.args.number 0 old) ∙ ap (changes_to c.args.number 0 old) (sym same));
      count = c.requires.count;
    }
