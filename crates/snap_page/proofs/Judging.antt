-- Where a page's run is refused at once, its judgement is.
use Rattle.std.proofs.Common.{◌≡◌, ℕ, Bool, true, false, List, length, nat_lt}
use Rattle.std.specs.Prelude.{Some, Result, Ok, Err, if◌then◌else◌}
use Rattle.snap_semantics.specs.Answers.{refused_as}
use Rattle.snap_semantics.specs.declared.refusal.Refusal.{Refusal}
use Rattle.snap_semantics.specs.declared.refusal.Refusal.TheVariants.{InputTooLong}
use Rattle.snap_judge_task.specs.Judged as judging
use Rattle.snap_faults.specs.declared.fault.ProgramFault.TheVariants as judge
use Rattle.snap_tasks.specs.declared.judge_request.JudgeSource.TheVariants as source
use Rattle.snap_tasks.specs.declared.subject.Subject.{Subject}
use Rattle.snap_input.specs.Input.{checked_parts}
use Rattle.snap_input.specs.Parts.{max_input, parts_of}
use Rattle.snap_output.specs.AtOnce.{why}
use Rattle.snap_page.specs.Answer.{found_at_once}
use Rattle.snap_page.specs.declared.page_request.PageRequest.TheVariants.{Judge}

of_parts : {A : Type 0} (x : Result A Refusal) (r : Refusal) → why x ≡ Some r →
    judging.why (refused_as judge.Refused x) ≡ Some (judge.Refused r)
of_parts (Ok x) r e = absurd cc
of_parts (Err q) r e = cc

of_length : {A : Type 0} (long : Bool) (x : Result A Refusal) (r : Refusal) →
    (if long then Some InputTooLong else why x) ≡ Some r →
    (if long then Some (judge.Refused InputTooLong) else judging.why (refused_as judge.Refused x)) ≡ Some (judge.Refused r)
of_length true x r e = cc
of_length false x r e = of_parts x r e

-- what a page's run is refused for at once, its judgement is
pub of_run : (s : Subject) (input : List ℕ) (r : Refusal) → found_at_once (Judge s) input ≡ Some r →
    judging.found_at_once (source.Run s) input ≡ Some (judge.Refused r)
of_run s input r = of_length (nat_lt max_input (length input)) (checked_parts s 1 (parts_of input)) r
