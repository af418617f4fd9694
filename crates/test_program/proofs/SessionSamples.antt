-- A session, an audit and a batch, from the bytes that are read to the bytes that are written.
use Rattle.std.specs.Fmt.{digits}
use Rattle.std.specs.Prelude.{◌≡◌, [], Ok, codes, refl}
use Rattle.snap_words.specs.declared.kind.KindTag.TheVariants as kind
use Rattle.snap_batch.specs.End.{end_report}
use Rattle.snap_input.specs.Input.{parted}
use Rattle.snap_input.specs.Schedules.{schedule_for}
use Rattle.snap_output.specs.ScheduleOutput.{audit_listing, batch_text, batched}
use Rattle.snap_output.specs.Output.{output_of}
use Rattle.snap_output.specs.Perform.{perform_listing}
use Rattle.snap_tasks.specs.declared.subject.Subject.TheVariants as subject
use Rattle.snap_tasks.specs.declared.task.Task.TheVariants as task
use Rattle.snap_semantics.proofs.OnLiterals.{listings_on_literals, schedules_on_literals}
use Rattle.snap_debug_commands.proofs.OnLiterals.{commands_on_literals}

-- a session that watches a register, goes to its write, back, nowhere, to the write again and to the end, and asks
-- where it is
session : output_of [] (task.Debug subject.FirstPart) (codes
    "kind seq\nscalar j c\nrow\nwords a\nview s\nscan 10\nupdate 10\n10: let j = 1\n11: get a[j] = r[j]\n12: next j n goto 11\n13: let c = c + 1\n14: put r[me] = (arg, c, s)\n15: finish\n%\nshape 2 2\n1 update 1 7\n1*8\n%\nwatch r 1\nrun\nback 1\ngoto 10\nrun\nrun\nwhere\nevents\nshow r 1\n")
    ≡ Ok (codes "> watch r 1\nmarks 1\n> run\nposition 8 of 9\n> back 1\nposition 7 of 9\n> goto 10\nrefused: G5 NoSuchPosition\n> run\nposition 8 of 9\n> run\nposition 9 of 9\n> where\nposition 9 of 9\nlast 1 finished\nprocess 1 idle\nprocess 2 idle\n> events\nevents 2\nevent 1 1 update 1 7\nevent 9 1 done\n> show r 1\nr 1 = 7 seq 1 view 0 0\nreport at 9 of 9\nvalues 7 0\nr 1 = 7 seq 1 view 0 0\nr 2 = 0 seq 0 view 0 0\nprocess 1 idle\n  j = 1\n  c = 1\n  a 1 = 0 seq 0 view 0 0\n  a 2 = 0 seq 0 view 0 0\n  s = 0 0\nprocess 2 idle\n  j = 0\n  c = 0\n  a 1 = 0 seq 0 view 0 0\n  a 2 = 0 seq 0 view 0 0\n  s = 0 0\nevent 1 1 update 1 7\nevent 9 1 done\n")
unfolding digits output_of parted perform_listing schedule_for listings_on_literals schedules_on_literals
    commands_on_literals
session = refl

-- one process alone with U: its update writes at item 14, and its scan, called at item 15, is answered 7 at item 24;
-- the least point of the scan is its own call
point_of_its_call : output_of [] (task.Audit (subject.Shipped kind.Seq)) (codes
    "shape 1 1\n1 update 1 7\n1*13\n1 scan\n1*9\n")
    ≡ Ok (codes "scan 1 call 15 answer 24 point 15 collects 1\n")
unfolding digits output_of parted audit_listing schedule_for schedules_on_literals
point_of_its_call = refl

-- two schedules: an update, and no items
batch_of_two : output_of [] (task.Batch subject.FirstPart) (codes
    "kind seq\nscalar j c\nrow\nwords a\nview s\nscan 10\nupdate 10\n10: let j = 1\n11: get a[j] = r[j]\n12: next j n goto 11\n13: let c = c + 1\n14: put r[me] = (arg, c, s)\n15: finish\n%\nshape 2 2\n1 update 1 7\n1*8\n%\nshape 2 2\n")
    ≡ Ok (codes "schedule 1\nreport at 9 of 9\nvalues 7 0\nr 1 = 7 seq 1 view 0 0\nr 2 = 0 seq 0 view 0 0\nprocess 1 idle\n  j = 1\n  c = 1\n  a 1 = 0 seq 0 view 0 0\n  a 2 = 0 seq 0 view 0 0\n  s = 0 0\nprocess 2 idle\n  j = 0\n  c = 0\n  a 1 = 0 seq 0 view 0 0\n  a 2 = 0 seq 0 view 0 0\n  s = 0 0\nevent 1 1 update 1 7\nevent 9 1 done\nschedule 2\nreport at 0 of 0\nvalues 0 0\nr 1 = 0 seq 0 view 0 0\nr 2 = 0 seq 0 view 0 0\nprocess 1 idle\n  j = 0\n  c = 0\n  a 1 = 0 seq 0 view 0 0\n  a 2 = 0 seq 0 view 0 0\n  s = 0 0\nprocess 2 idle\n  j = 0\n  c = 0\n  a 1 = 0 seq 0 view 0 0\n  a 2 = 0 seq 0 view 0 0\n  s = 0 0\n")
unfolding digits output_of batched batch_text end_report perform_listing schedule_for listings_on_literals
    schedules_on_literals commands_on_literals
batch_of_two = refl
