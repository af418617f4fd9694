-- `LineRole`: which lines of a listing write a word, test, or return a view, for a record to note; a table by line
-- number (`AreRoles`).
use Rattle.std.specs.Prelude.{◌≡◌, ℕ, ◌≤◌, Bool, true, false, List, Option, Some, None, get_or}
use Rattle.snap_semantics.specs.Source.{Source, instr_at}
use Rattle.snap_semantics.specs.declared.instr.Instr.{Instr}
use Rattle.snap_semantics.specs.declared.instr.Instr.TheVariants.{Put, IfAll, Return}
use Rattle.snap_record.specs.declared.roles.LineRole.{LineRole}
use Rattle.snap_record.specs.declared.roles.LineRole.TheVariants as role

-- what an instruction is
abbrev pub instr_role : Instr → LineRole
instr_role (Put i t) = role.Write
instr_role (IfAll g k target) = role.Test
instr_role (Return x) = role.Return
instr_role _ = role.Nothing

-- what the instruction of a line is, if there is such a line
abbrev pub role_of : Option Instr → LineRole
role_of None = role.Nothing
role_of (Some i) = instr_role i

-- the role that a table has for a number; one that it does not have is no line's
abbrev pub role_in : List LineRole → ℕ → LineRole
role_in ms k = get_or ms k role.Nothing

-- a table of the roles of all lines
abbrev pub AreRoles : Source → List LineRole → Type 0
AreRoles s ms = (k : ℕ) → role_in ms k ≡ role_of (instr_at s.lines k)

-- no line has this number, or a greater one
abbrev pub NoneBeyond : Source → ℕ → Type 0
NoneBeyond s n = (k : ℕ) → n ≤ k → instr_at s.lines k ≡ None

-- whether a role tells that a record notes nothing of the line
abbrev pub is_plain : LineRole → Bool
is_plain role.Nothing = true
is_plain _ = false

-- whether a role tells all that a record notes of the line
abbrev pub is_telling : LineRole → Bool
is_telling role.Return = false
is_telling _ = true
