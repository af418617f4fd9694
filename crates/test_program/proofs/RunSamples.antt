-- Runs of small listings, from the bytes that are read to the bytes that are written.
use Rattle.std.specs.Fmt.{digits}
use Rattle.std.specs.Prelude.{◌≡◌, [], Ok, codes, refl}
use Rattle.snap_input.specs.Input.{parted}
use Rattle.snap_output.specs.Output.{output_of}
use Rattle.snap_input.specs.Schedules.{schedule_for}
use Rattle.snap_output.specs.Perform.{perform_listing}
use Rattle.snap_tasks.specs.declared.subject.Subject.TheVariants as subject
use Rattle.snap_tasks.specs.declared.task.Task.TheVariants as task
use Rattle.snap_semantics.proofs.OnLiterals.{listings_on_literals, schedules_on_literals}
use Rattle.snap_debug_commands.proofs.OnLiterals.{commands_on_literals}

-- one update by process 1 of 2
first_run : output_of [] (task.Run subject.FirstPart) (codes
    "kind seq\nscalar j c\nrow\nwords a\nview s\nscan 10\nupdate 10\n10: let j = 1\n11: get a[j] = r[j]\n12: next j n goto 11\n13: let c = c + 1\n14: put r[me] = (arg, c, s)\n15: finish\n%\nshape 2 2\n1 update 1 7\n1*8\n")
    ≡ Ok (codes "> run\nposition 9 of 9\nreport at 9 of 9\nvalues 7 0\nr 1 = 7 seq 1 view 0 0\nr 2 = 0 seq 0 view 0 0\nprocess 1 idle\n  j = 1\n  c = 1\n  a 1 = 0 seq 0 view 0 0\n  a 2 = 0 seq 0 view 0 0\n  s = 0 0\nprocess 2 idle\n  j = 0\n  c = 0\n  a 1 = 0 seq 0 view 0 0\n  a 2 = 0 seq 0 view 0 0\n  s = 0 0\nevent 1 1 update 1 7\nevent 9 1 done\n")
unfolding digits output_of parted perform_listing schedule_for listings_on_literals schedules_on_literals
    commands_on_literals
first_run = refl

-- no line follows: the scalar stays 0
off_end : output_of [] (task.Run subject.FirstPart)
    (codes "kind seq\nscalar x\nrow m\nwords\nview s\nscan 1\nupdate 1\n1: let x = 1\n%\nshape 2 2\n1 scan\n1\n")
    ≡ Ok (codes "> run\nposition 2 of 2\nreport at 2 of 2\nvalues 0 0\nr 1 = 0 seq 0 view 0 0\nr 2 = 0 seq 0 view 0 0\nprocess 1 trapped OffEnd at 1\n  x = 0\n  m = 0 0\n  s = 0 0\nprocess 2 idle\n  x = 0\n  m = 0 0\n  s = 0 0\nevent 1 1 scan\n")
unfolding digits output_of parted perform_listing schedule_for listings_on_literals schedules_on_literals
    commands_on_literals
off_end = refl

-- a sum above 2^64 - 1: the scalar stays
overflow : output_of [] (task.Run subject.FirstPart) (codes
    "kind seq\nscalar x\nrow m\nwords\nview s\nscan 1\nupdate 1\n1: let x = 18446744073709551615\n2: let x = x + 1\n3: finish\n%\nshape 2 2\n1 update 1 5\n1*2\n")
    ≡ Ok (codes "> run\nposition 3 of 3\nreport at 3 of 3\nvalues 0 0\nr 1 = 0 seq 0 view 0 0\nr 2 = 0 seq 0 view 0 0\nprocess 1 trapped Overflow at 2\n  x = 18446744073709551615\n  m = 0 0\n  s = 0 0\nprocess 2 idle\n  x = 0\n  m = 0 0\n  s = 0 0\nevent 1 1 update 1 5\n")
unfolding digits output_of parted perform_listing schedule_for listings_on_literals schedules_on_literals
    commands_on_literals
overflow = refl

-- process 1 crashes before its write, and process 2 where it is idle
crashed_run : output_of [] (task.Run subject.FirstPart) (codes
    "kind seq\nscalar j c\nrow\nwords a\nview s\nscan 10\nupdate 10\n10: let j = 1\n11: get a[j] = r[j]\n12: next j n goto 11\n13: let c = c + 1\n14: put r[me] = (arg, c, s)\n15: finish\n%\nshape 2 2\n1 update 1 7\n1*6\n1 crash\n1\n2 crash\n")
    ≡ Ok (codes "> run\nposition 10 of 10\nreport at 10 of 10\nvalues 0 0\nr 1 = 0 seq 0 view 0 0\nr 2 = 0 seq 0 view 0 0\nprocess 1 crashed at 14\n  j = 1\n  c = 1\n  a 1 = 0 seq 0 view 0 0\n  a 2 = 0 seq 0 view 0 0\n  s = 0 0\nprocess 2 crashed\n  j = 0\n  c = 0\n  a 1 = 0 seq 0 view 0 0\n  a 2 = 0 seq 0 view 0 0\n  s = 0 0\nevent 1 1 update 1 7\nevent 8 1 crash\nevent 10 2 crash\n")
unfolding digits output_of parted perform_listing schedule_for listings_on_literals schedules_on_literals
    commands_on_literals
crashed_run = refl
