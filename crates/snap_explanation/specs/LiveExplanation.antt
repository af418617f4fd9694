-- `turn_limit_explanation`: what is said of a live run in which a process was not done within its turns.
use Rattle.std.specs.Prelude.{ℕ, List, ◌++◌, decimal}
use Rattle.snap_explanation.specs.declared.wording.TheConstants.{SCRIPT_OF, NOT_DONE}

abbrev pub turn_limit_explanation : (process : ℕ) → List ℕ
turn_limit_explanation i = SCRIPT_OF.now ++ decimal i ++ NOT_DONE.now
