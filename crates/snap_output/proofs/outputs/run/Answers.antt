-- `run` of snap_output (src/outputs.rt): the proof of what its contract says.
use Rattle.std.proofs.Common.{ℕ, List, Result, subst}
use Rattle.snap_semantics.specs.Answers.{Answers}
use Rattle.snap_semantics.specs.declared.refusal.Refusal.{Refusal}
use Rattle.snap_input.specs.Parts.{parts_of}
use Rattle.snap_output.proofs.Ended.{as_performed}
use Rattle.snap_output.proofs.outputs.run.Goals as goal

pub returns-clause-output : goal.returns-clause-output
returns-clause-output c =
    subst (λ (answer : Result (List ℕ) Refusal). Answers (λ out. out.items) c.run.result answer)
    (as_performed c.args.subject (parts_of c.args.input.now)) c.run.ensures.output
