-- `FailureKind`: the kinds of failures of a run, and what is asked for of one kind alone.
use Rattle.std.specs.Prelude.{Bool, true, false, None}
use Rattle.snap_hunt.specs.declared.failures.Failure.{Failure}
use Rattle.snap_hunt.specs.declared.failures.Failure.TheVariants as failure
use Rattle.snap_hunt.specs.declared.failures.FailureKind.{FailureKind}
use Rattle.snap_hunt.specs.declared.failures.FailureKind.TheVariants as kind
use Rattle.snap_hunt.specs.declared.failures.Wanted.{Wanted}

abbrev pub kind_of : Failure → FailureKind
kind_of (failure.NotLinearizable i t) = kind.Linearizable
kind_of (failure.NoPoint v) = kind.Point
kind_of (failure.Trapped i line cause) = kind.Trap
kind_of (failure.ManySteps i t own) = kind.Steps
kind_of (failure.ManyCollects v) = kind.Collects

-- whether a failure is of this kind
abbrev pub is_kind : FailureKind → Failure → Bool
is_kind kind.Linearizable (failure.NotLinearizable i t) = true
is_kind kind.Point (failure.NoPoint v) = true
is_kind kind.Trap (failure.Trapped i line cause) = true
is_kind kind.Steps (failure.ManySteps i t own) = true
is_kind kind.Collects (failure.ManyCollects v) = true
is_kind _ _ = false

-- nothing is asked for
abbrev pub nothing_wanted : Wanted
nothing_wanted = record { linearizable = false; point = false; trap = false; steps = None; collects = None }

-- what is asked for of this kind, and nothing else
abbrev pub with_only : FailureKind → Wanted → Wanted
with_only kind.Linearizable w = record nothing_wanted { linearizable = w.linearizable }
with_only kind.Point w = record nothing_wanted { point = w.point }
with_only kind.Trap w = record nothing_wanted { trap = w.trap }
with_only kind.Steps w = record nothing_wanted { steps = w.steps }
with_only kind.Collects w = record nothing_wanted { collects = w.collects }
