-- `new_roles` of snap_record (src/roles.rt): the proof of what its contract says.
use Rattle.std.proofs.Common.{[], ◌∷◌, ◌∙◌, length, ap, arith}
use Rattle.std.proofs.lemmas.List.{length-append}
use Rattle.snap_semantics.specs.Source.{Source, instr_at}
use Rattle.snap_record.specs.Roles.{role_of}
use Rattle.snap_record.proofs.LineRoles.{roles_more}
use Rattle.snap_record.proofs.roles.new_roles.Goals as goal

pub loop-number-preserved : goal.loop-number-preserved
loop-number-preserved c =
    let n = c.loop-number.number in
    let ms = c.loop-number.roles.items in
    let m = c.role_of.result in
    let h = c.loop-number.invariant in
    let same = h.0 in
    let longer = ap length c.in_ok-push.ensures.items ∙ length-append ms (m ∷ []) in
    let right = c.role_of.ensures
    ∙ ap role_of (c.instr.ensures.instr ∙ ap (λ (s : Source). instr_at s.lines n) c.listing-listing.ensures) in (
      omega (arith, same, longer),
      roles_more c.args.program.now ms c.push.new.self.items m n h.1 h.0 c.in_ok-push.ensures.items right,
    )
