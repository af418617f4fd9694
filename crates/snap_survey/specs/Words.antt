-- Which of the three words is said of a run.
use Rattle.std.specs.Prelude.{Bool, true, false}
use Rattle.snap_judge.specs.declared.linearizability.Linearizability.{Linearizability}
use Rattle.snap_judge.specs.declared.linearizability.Linearizability.TheVariants as word

abbrev pub is_linearizable : Linearizability → Bool
is_linearizable word.Linearizable = true
is_linearizable _ = false

abbrev pub is_not_linearizable : Linearizability → Bool
is_not_linearizable word.NotLinearizable = true
is_not_linearizable _ = false

abbrev pub is_undecided : Linearizability → Bool
is_undecided word.Undecided = true
is_undecided _ = false
