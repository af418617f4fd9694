-- A step of a process at a line of which a record notes nothing: its role is `Nothing`.
use Rattle.std.proofs.Common.{◌≡◌, ℕ, Some, refl, sym, ap, ◌∙◌}
use Rattle.snap_semantics.specs.Readers.{line_of}
use Rattle.snap_semantics.specs.Source.{Source, instr_at}
use Rattle.snap_semantics.specs.State.{Locals}
use Rattle.snap_semantics.specs.declared.process.Activity.{Activity}
use Rattle.snap_semantics.specs.declared.process.Status.{Status}
use Rattle.snap_semantics.specs.declared.process.Status.TheVariants.{Busy}
use Rattle.snap_runs.specs.StepRoles.{step_role_at, step_role_in, Nothing}

-- a process that is at such a line, or was when it stopped
pub plain_at : (s : Source) (l : Locals) (t : Status) (n : ℕ) → Some n ≡ line_of t →
    ((a : Activity) → step_role_at a l (instr_at s.lines n) ≡ Nothing) → step_role_in s l t ≡ Nothing
plain_at s l (Busy a) n at h =
    let same : n ≡ a.line = cc in
    ap (λ k. step_role_at a l (instr_at s.lines k)) (sym same) ∙ h a
plain_at s l _ n at h = refl
