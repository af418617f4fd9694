-- The refusals that calls find in an input before any memory is asked for are those of `found_at_once`.
use Rattle.std.proofs.Common.{◌≡◌, ℕ, Bool, true, false, List, length, nat_lt, ◌<◌, ◌≤◌, refl}
use Rattle.std.specs.Prelude.{Option, Some, None, Result, Ok, Err, if◌then◌else◌}
use Rattle.std.proofs.lemmas.Bool.{ltb-false, ltb-true}
use Rattle.snap_semantics.specs.Answers.{refused_as}
use Rattle.snap_semantics.specs.declared.refusal.Refusal.{Refusal}
use Rattle.snap_semantics.specs.declared.refusal.Refusal.TheVariants.{InputTooLong}
use Rattle.snap_history_text.specs.HistoryText.{max_bytes}
use Rattle.snap_history_text.specs.declared.refusal.HistoryRefusal.TheVariants.{TooLong}
use Rattle.snap_tasks.specs.declared.judge_request.JudgeSource.TheVariants as source
use Rattle.snap_tasks.specs.declared.subject.Subject.{Subject}
use Rattle.snap_input.specs.Input.{checked_parts}
use Rattle.snap_input.specs.Parts.{max_input, parts_of}
use Rattle.snap_judge_task.specs.Judged.{found_at_once, why}
use Rattle.snap_faults.specs.declared.fault.ProgramFault.{ProgramFault}
use Rattle.snap_faults.specs.declared.fault.ProgramFault.TheVariants as fault

module _ {X : Type 0} (result : Result X ProgramFault) where
  -- what is found is answered
  abbrev pub Answered : Option ProgramFault → Type 0
  Answered found = (e : ProgramFault) → found ≡ Some e → result ≡ Err e

  of_one : (e : ProgramFault) → result ≡ Err e → Answered (Some e)
  of_one e h f is = cc

  of_none : Answered None
  of_none e is = absurd cc

  of_parts : {A : Type 0} (x : Result A Refusal) → ((r : Refusal) → x ≡ Err r → result ≡ Err (fault.Refused r)) →
      Answered (why (refused_as fault.Refused x))
  of_parts (Ok x) h = of_none
  of_parts (Err r) h = of_one (fault.Refused r) (h r refl)

  of_length : (long : Bool) (e : ProgramFault) (rest : Option ProgramFault) → (long ≡ true → result ≡ Err e) →
      (long ≡ false → Answered rest) → Answered (if long then Some e else rest)
  of_length true e rest h k = of_one e (h refl)
  of_length false e rest h k = k refl

  pub of_run : (s : Subject) (input : List ℕ) →
      (max_input < length input → result ≡ Err (fault.Refused InputTooLong)) →
      (length input ≤ max_input → (r : Refusal) → checked_parts s 1 (parts_of input) ≡ Err r →
      result ≡ Err (fault.Refused r)) →
      Answered (found_at_once (source.Run s) input)
  of_run s input long counted =
      of_length (nat_lt max_input (length input)) (fault.Refused InputTooLong) _
      (λ e. long (ltb-true max_input (length input) e))
      (λ e. of_parts (checked_parts s 1 (parts_of input)) (counted (ltb-false max_input (length input) e)))

  pub of_history : (input : List ℕ) → (max_bytes < length input → result ≡ Err (fault.History TooLong)) →
      Answered (found_at_once source.History input)
  of_history input long =
      of_length (nat_lt max_bytes (length input)) (fault.History TooLong) None
      (λ e. long (ltb-true max_bytes (length input) e)) (λ e. of_none)
