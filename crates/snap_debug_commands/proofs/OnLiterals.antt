-- What computes the reader of debugger commands on a literal: a worked sample names it in place of each rule that is
-- followed.
use Rattle.std.specs.Prelude.{⊤}
use Rattle.snap_debug_commands.specs.CommandForms.{keyword_form, number_form, numbers_form, place_form, bit_form}
use Rattle.snap_debug_commands.specs.CommandForms.{address_form, breakpoint_form, register_form, moving_form}
use Rattle.snap_debug_commands.specs.CommandForms.{marking_form, showing_form, command_form}

-- the reader of commands
unfoldable pub commands_on_literals : ⊤
unfolding keyword_form number_form numbers_form place_form bit_form address_form breakpoint_form register_form
    moving_form marking_form showing_form command_form
commands_on_literals = tt
