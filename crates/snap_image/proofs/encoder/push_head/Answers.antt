-- `push_head` of snap_image (src/encoder.rt): the proof of what its contract says.
use Rattle.std.proofs.Common.{◌∙◌}
use Rattle.snap_image.proofs.Heads.{head_pushed}
use Rattle.snap_image.proofs.encoder.push_head.Goals as goal

pub returns : goal.returns
returns c = λ well.
    let entries = c.push_entries.ensures well in
    let tables = c.push_tables.ensures entries.0 in
    let kind = c.push_code-2.ensures tables.0 in
    let version = c.push_code.ensures kind.0 in
    let opening = c.push.ensures version.0 in (
      opening.0,
      entries.1 ∙ head_pushed c.args.listing.now c.kind.result c.args.out.now.text _ _ _ _
          opening.1 version.1 c.kind.ensures kind.1 tables.1,
    )
