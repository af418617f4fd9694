-- `Finder::new` of snap_certify (src/finder.rt): the proof of what its contract says.
use Rattle.std.proofs.Common.{None, ap, refl, replicate, ◌∙◌}
use Rattle.snap_words.specs.Shape.{Counts}
use Rattle.snap_runs.specs.Run.{run_over}
use Rattle.snap_certify.specs.Finding.{fresh}
use Rattle.snap_certify.proofs.FindingSteps.{none_found}
use Rattle.snap_certify.proofs.finder.Finder.new.Goals as goal

pub returns-clause-finds : goal.returns-clause-finds
returns-clause-finds c =
    let same = c.shape-shape.ensures.shape in
    none_found (run_over c.args.program.now c.args.schedule.now) (record {
      alloc = c.args.alloc;
      line = c.args.line;
      roles = c.in_ok-new_roles.field-0;
      values = c.args.values;
      progress = c.in_ok-new_progress.field-0;
      writes = c.new.result;
      missing = None;
    }) (record { all = c.shape-shape.ensures.schedule.processes }) c.requires.line c.in_ok-new_roles.ensures
    c.requires.values (c.in_ok-new_progress.ensures ∙ ap (λ (n : Counts). replicate n.n fresh) same)
    c.new.ensures.items refl
