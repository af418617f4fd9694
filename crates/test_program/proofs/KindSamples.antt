-- Runs of listings of kinds bit and multi, from the bytes that are read to the bytes that are written.
use Rattle.std.specs.Fmt.{digits}
use Rattle.std.specs.Prelude.{◌≡◌, [], Ok, codes, refl}
use Rattle.snap_debug_commands.specs.CommandForms as commands
use Rattle.snap_input.specs.Input.{parted}
use Rattle.snap_output.specs.Output.{output_of}
use Rattle.snap_input.specs.Schedules.{schedule_for}
use Rattle.snap_output.specs.Perform.{perform_listing}
use Rattle.snap_tasks.specs.declared.subject.Subject.TheVariants as subject
use Rattle.snap_tasks.specs.declared.task.Task.TheVariants as task
use Rattle.snap_semantics.proofs.OnLiterals.{listings_on_literals, schedules_on_literals}

-- an update of kind bit: handshake bits in the word, a toggle and a handshake bit
bit_run : output_of [] (task.Run subject.FirstPart) (codes
    "kind bit\nscalar t\nrow f\nwords a\nview s\nscan 10\nupdate 10\n10: put q[me,2] = 1\n11: let f[2] = 1\n12: let t = not t\n13: put r[me] = (arg, f, t, s)\n14: get a[1] = r[2]\n15: finish\n%\nshape 2 2\n2 update 2 7\n2*6\n")
    ≡ Ok (codes "> run\nposition 7 of 7\nreport at 7 of 7\nvalues 0 7\nr 1 = 0 hands 0 0 toggle 0 view 0 0\nr 2 = 7 hands 0 1 toggle 1 view 0 0\nq 1 1 = 0\nq 1 2 = 0\nq 2 1 = 0\nq 2 2 = 1\nprocess 1 idle\n  t = 0\n  f = 0 0\n  a 1 = 0 hands 0 0 toggle 0 view 0 0\n  a 2 = 0 hands 0 0 toggle 0 view 0 0\n  s = 0 0\nprocess 2 idle\n  t = 1\n  f = 0 1\n  a 1 = 7 hands 0 1 toggle 1 view 0 0\n  a 2 = 0 hands 0 0 toggle 0 view 0 0\n  s = 0 0\nevent 1 2 update 2 7\nevent 7 2 done\n")
unfolding digits output_of parted perform_listing schedule_for listings_on_literals schedules_on_literals
    commands.keyword_form commands.number_form commands.numbers_form commands.place_form commands.bit_form
    commands.address_form commands.breakpoint_form commands.register_form commands.moving_form commands.marking_form
    commands.showing_form commands.command_form
bit_run = refl

-- an update of kind multi: bits of both banks, a word's writer, and a view
multi_run : output_of [] (task.Run subject.FirstPart) (codes
    "kind multi\nscalar j\nrow\nwords a\nview s\nscan 10\nupdate 10\n10: put q[me,1] = 1\n11: put p[me,2] = 1\n12: put r[word] = (arg, me, 1)\n13: get a[2] = r[word]\n14: view s = data(a)\n15: put v[me] = s\n16: finish\n%\nshape 2 3\n1 update 3 7\n1*7\n")
    ≡ Ok (codes "> run\nposition 8 of 8\nreport at 8 of 8\nvalues 0 0 7\nr 1 = 0 id 0 toggle 0\nr 2 = 0 id 0 toggle 0\nr 3 = 7 id 1 toggle 1\nq 1 1 = 1\nq 1 2 = 0\nq 2 1 = 0\nq 2 2 = 0\np 1 1 = 0\np 1 2 = 1\np 2 1 = 0\np 2 2 = 0\nv 1 = 0 7 0\nv 2 = 0 0 0\nprocess 1 idle\n  j = 0\n  a 1 = 0 id 0 toggle 0\n  a 2 = 7 id 1 toggle 1\n  a 3 = 0 id 0 toggle 0\n  s = 0 7 0\nprocess 2 idle\n  j = 0\n  a 1 = 0 id 0 toggle 0\n  a 2 = 0 id 0 toggle 0\n  a 3 = 0 id 0 toggle 0\n  s = 0 0 0\nevent 1 1 update 3 7\nevent 8 1 done\n")
unfolding digits output_of parted perform_listing schedule_for listings_on_literals schedules_on_literals
    commands.keyword_form commands.number_form commands.numbers_form commands.place_form commands.bit_form
    commands.address_form commands.breakpoint_form commands.register_form commands.moving_form commands.marking_form
    commands.showing_form commands.command_form
multi_run = refl
