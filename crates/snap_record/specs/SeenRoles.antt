-- `seen_step_role`: the `StepRole` of the code, seen as that of the definitions.
use Rattle.snap_runs.specs.StepRoles.{StepRole, Write, Test, Answer, Nothing}
use Rattle.snap_record.specs.declared.step_role.StepRole as code
use Rattle.snap_record.specs.declared.step_role.StepRole.TheVariants as role

-- the role
abbrev pub seen_step_role : code.StepRole → StepRole
seen_step_role role.Write = Write
seen_step_role role.Test = Test
seen_step_role (role.Answer view) = Answer view
seen_step_role role.Nothing = Nothing
