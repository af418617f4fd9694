-- `converse` of snap_prompt (src/conversation.rt): the proof of what its contract says.
use Rattle.std.proofs.Common.{List, ℕ, OnErr, Option, IfSome, Result}
use Rattle.snap_streams.specs.Dialog.{IsBrokenOff, ShowsTranscriptPart}
use Rattle.snap_streams.specs.Event.{Event}
use Rattle.snap_streams.specs.declared.dialog_fault.DialogFault.{DialogFault}
use Rattle.snap_streams.specs.TypedLines.{typed_lines}
use Rattle.snap_streams.proofs.Dialogs.{passed_first, shown_first}
use Rattle.snap_streams.proofs.Parts.{between_turns, on_err, shown_between}
use Rattle.snap_prompt.specs.Prompt.{Prompt, Says, next_line, prompt_text}
use Rattle.snap_prompt.proofs.conversation.converse.Goals as goal

-- where no prompt was made, nothing has passed, and nothing was shown
module _ {T : Type 0} (result : Result T DialogFault) (p : Prompt) where
  none_passed : (u : Option (List Event)) → OnErr result (IsBrokenOff prompt_text Says next_line p u u)
  none_passed u =
      on_err result (between_turns prompt_text Says next_line p p u u (passed_first prompt_text Says next_line p u))

  none_shown : (left u : Option (List ℕ)) →
      OnErr result (IfSome left (λ input. ShowsTranscriptPart prompt_text Says next_line p (typed_lines input) u u))
  none_shown left u =
      on_err result
      (shown_between prompt_text Says next_line p p left left u u (shown_first prompt_text Says next_line p left u))

pub returns-in_err-prompt-in-Seq-clause-passes_part : goal.returns-in_err-prompt-in-Seq-clause-passes_part
returns-in_err-prompt-in-Seq-clause-passes_part g c = none_passed _ _ _

pub returns-in_err-prompt-in-Seq-clause-shows_part : goal.returns-in_err-prompt-in-Seq-clause-shows_part
returns-in_err-prompt-in-Seq-clause-shows_part g c = none_shown _ _ _ _

pub returns-in_err-prompt-in-Bits-clause-passes_part : goal.returns-in_err-prompt-in-Bits-clause-passes_part
returns-in_err-prompt-in-Bits-clause-passes_part g c = none_passed _ _ _

pub returns-in_err-prompt-in-Bits-clause-shows_part : goal.returns-in_err-prompt-in-Bits-clause-shows_part
returns-in_err-prompt-in-Bits-clause-shows_part g c = none_shown _ _ _ _

pub returns-in_err-prompt-in-Multi-clause-passes_part : goal.returns-in_err-prompt-in-Multi-clause-passes_part
returns-in_err-prompt-in-Multi-clause-passes_part g c = none_passed _ _ _

pub returns-in_err-prompt-in-Multi-clause-shows_part : goal.returns-in_err-prompt-in-Multi-clause-shows_part
returns-in_err-prompt-in-Multi-clause-shows_part g c = none_shown _ _ _ _
