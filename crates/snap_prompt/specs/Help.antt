-- `help_text`: what lines at the debugger's prompt can ask for, and what each of them does.
use Rattle.std.specs.Prelude.{ℕ, List, ◌++◌}
use Rattle.snap_prompt.specs.declared.words.TheConstants.{ADDING, KEEPING, LOOKING, MOVING, SHORT, STOPS}

-- what lines can ask for, by subject
unfoldable pub help_text : List ℕ
help_text = MOVING.now ++ STOPS.now ++ LOOKING.now ++ ADDING.now ++ KEEPING.now ++ SHORT.now
