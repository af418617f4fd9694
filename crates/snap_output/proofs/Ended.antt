-- What is written for the parts of an input whose schedule is run to its end is what a session answers to the one
-- command `run`.
use Rattle.std.proofs.Common.{◌≡◌, ℕ, List, sym, ap}
use Rattle.snap_semantics.specs.Source.{Source}
use Rattle.snap_input.specs.Input.{parted}
use Rattle.snap_input.specs.Parts.{part}
use Rattle.snap_output.proofs.ToTheEnd.{to_the_end}
use Rattle.snap_output.specs.RunOutput.{run_of_first_text, run_listing}
use Rattle.snap_output.specs.Output.{run_text}
use Rattle.snap_tasks.specs.declared.subject.Subject.{Subject}

-- over a listing and the text of a schedule
pub of_listing : (l : Source) (texts : List (List ℕ)) → run_text l texts ≡ run_of_first_text l texts
unfolding run_listing
of_listing l texts = to_the_end l (part 0 texts)

-- the parts of an input are performed alike
pub as_performed : (s : Subject) (parts : List (List ℕ)) →
    parted s 1 parts run_of_first_text ≡ parted s 1 parts run_text
as_performed s parts =
    let same : run_of_first_text ≡ run_text = λ i l texts. sym (of_listing l texts) i in
    ap (parted s 1 parts) same
