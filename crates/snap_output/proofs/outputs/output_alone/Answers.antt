-- `output_alone` of snap_output (src/outputs.rt): the proof of what its contract says.
use Rattle.std.proofs.Common.{rules, refl}
use Rattle.snap_tasks.specs.declared.task.Task.TheVariants as task
use Rattle.snap_output.proofs.AtOnce.{of_image}
use Rattle.snap_output.proofs.Judged.{judged, unjudged}
use Rattle.snap_output.proofs.outputs.output_alone.Goals as goal

pub returns-in-Check-clause-output : goal.returns-in-Check-clause-output
returns-in-Check-clause-output c =
    unjudged (λ out. out.items) c.args.input.now (search rules) c.args.task.now task.Check
    c.in-Check.is c.check_of.result refl c.check_of.ensures.output

pub returns-in-Lint-clause-output : goal.returns-in-Lint-clause-output
returns-in-Lint-clause-output c =
    unjudged (λ out. out.items) c.args.input.now (search rules) c.args.task.now task.Lint
    c.in-Lint.is c.lint_of.result refl c.lint_of.ensures.output

pub returns-in-Assemble-clause-output : goal.returns-in-Assemble-clause-output
returns-in-Assemble-clause-output c =
    unjudged (λ out. out.items) c.args.input.now (search rules) c.args.task.now task.Assemble
    c.in-Assemble.is c.assemble.result refl c.assemble.ensures.image

pub returns-in-List-clause-output : goal.returns-in-List-clause-output
returns-in-List-clause-output c =
    unjudged (λ out. out.items) c.args.input.now (search rules) c.args.task.now task.List
    c.in-List.is c.list.result refl c.list.ensures.text

pub returns-in-Upgrade-clause-output : goal.returns-in-Upgrade-clause-output
returns-in-Upgrade-clause-output c =
    unjudged (λ out. out.items) c.args.input.now (search rules) c.args.task.now task.Upgrade
    c.in-Upgrade.is c.upgrade.result refl c.upgrade.ensures.image

pub returns-in-Run-clause-output : goal.returns-in-Run-clause-output
returns-in-Run-clause-output c =
    unjudged (λ out. out.items) c.args.input.now (search rules) c.args.task.now (task.Run c.in-Run.subject)
    c.in-Run.is c.run.result refl c.run.ensures.output

pub returns-in-Trace-clause-output : goal.returns-in-Trace-clause-output
returns-in-Trace-clause-output c =
    unjudged (λ out. out.items) c.args.input.now (search rules) c.args.task.now (task.Trace c.in-Trace.subject)
    c.in-Trace.is c.trace_input.result refl c.trace_input.ensures.output

pub returns-in-Debug-clause-output : goal.returns-in-Debug-clause-output
returns-in-Debug-clause-output c =
    unjudged (λ out. out.items) c.args.input.now (search rules) c.args.task.now (task.Debug c.in-Debug.subject)
    c.in-Debug.is c.debug.result refl c.debug.ensures.output

pub returns-in-Audit-clause-output : goal.returns-in-Audit-clause-output
returns-in-Audit-clause-output c =
    unjudged (λ out. out.items) c.args.input.now (search rules) c.args.task.now (task.Audit c.in-Audit.subject)
    c.in-Audit.is c.audit.result refl c.audit.ensures.output

pub returns-in-Certify-clause-output : goal.returns-in-Certify-clause-output
returns-in-Certify-clause-output c =
    judged (λ out. out.items) c.args.input.now (search rules) c.args.task.now (task.Certify c.in-Certify.subject)
    c.in-Certify.is c.certify_input.result c.certify_input.ensures.output

pub returns-in-Batch-clause-output : goal.returns-in-Batch-clause-output
returns-in-Batch-clause-output c =
    unjudged (λ out. out.items) c.args.input.now (search rules) c.args.task.now (task.Batch c.in-Batch.subject)
    c.in-Batch.is c.batch.result refl c.batch.ensures.output

pub returns-in-List-clause-at_once : goal.returns-in-List-clause-at_once
returns-in-List-clause-at_once c =
    of_image c.list.result c.args.task.now c.args.input.now (rw c.in-List.is refl) (search rules)
    c.list.ensures.not_an_image c.list.ensures.version

pub returns-in-Upgrade-clause-at_once : goal.returns-in-Upgrade-clause-at_once
returns-in-Upgrade-clause-at_once c =
    of_image c.upgrade.result c.args.task.now c.args.input.now (rw c.in-Upgrade.is refl) (search rules)
    c.upgrade.ensures.not_an_image c.upgrade.ensures.version
