-- What is shown at the debugger's prompt beside the answers.
use Rattle.std.specs.Prelude.{Bool, true, false}
use Rattle.snap_prompt.specs.declared.shows.Shows.{Shows}
use Rattle.snap_prompt.specs.declared.shows.Shows.TheVariants as shows

-- whether the position stands before each line
abbrev pub places : Shows → Bool
places shows.Answers = false
places _ = true

-- whether a person is greeted, and asked before what was added is lost
abbrev pub greets : Shows → Bool
greets shows.Greeting = true
greets _ = false
