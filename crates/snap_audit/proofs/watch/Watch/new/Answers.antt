-- `Watch::new` of snap_audit (src/watch.rt): the proof of what its contract says.
use Rattle.std.proofs.Common.{ap, ◌∙◌, [], map, replicate, refl}
use Rattle.snap_words.specs.Shape.{Counts}
use Rattle.snap_semantics.specs.State.{initial}
use Rattle.snap_record.proofs.Recording.{started}
use Rattle.snap_audit.specs.Watch.{is_silent}
use Rattle.snap_audit.proofs.watch.Watch.new.Goals as goal

pub returns : goal.returns
returns c =
    let s = c.args.program.now in
    let n = c.args.schedule.now.shape in
    let shape = c.shape-shape.ensures.shape in
    record {
      shape = shape;
      roles = c.in_ok-roles.ensures;
      silent = c.in_ok-silent.ensures ∙ ap (map is_silent) c.as_slice.ensures.value;
      notes =
          started s n s.kind (record { source = s; shape = n; state = initial s n }) [] c.in_ok-zeros.field-0
          c.new.result.items c.new-2.result.items c.in_ok-zeros-2.field-0.items c.new-3.result.items refl refl refl
          (c.in_ok-zeros.ensures ∙ ap (λ k. replicate k 0) (c.w.ensures ∙ ap (λ (m : Counts). m.w) shape))
          c.new.ensures.items c.new-2.ensures.items
          (c.in_ok-zeros-2.ensures ∙ ap (λ k. replicate k 0) (c.n.ensures ∙ ap (λ (m : Counts). m.n) shape))
          c.new-3.ensures.items;
      few = c.items-items.ensures.schedule.few;
    }
