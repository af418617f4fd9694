-- What was read of an input to a live run: its listing, and scripts whose shape fits it and whose numbers have 64 bits.
use Rattle.std.proofs.Common.{◌≡◌, ℕ, true, List, Ok, length, nat_lt, arith}
use Rattle.std.specs.List.{AllByRecursion}
use Rattle.snap_words.specs.Kind.{fits}
use Rattle.snap_semantics.specs.declared.refusal.Refusal.TheVariants as refusal
use Rattle.snap_tasks.specs.declared.subject.Subject.{Subject}
use Rattle.snap_input.specs.Input.{listing_for, parted, texts_for}
use Rattle.snap_input.specs.Parts.{part, parts_of, max_input}
use Rattle.snap_input.proofs.Answered.{within}
use Rattle.snap_live_output.specs.LiveOutput.{Setup, scripts_for, setup_for, setup_of, setup_text}
use Rattle.snap_history_laws.proofs.reruns.ScriptsFit.{FitsScript, scripts_fit}

pub record IsRead (subject : Subject) (parts : List (List ℕ)) (g : Setup) : Type 0 where
  pub listing : listing_for subject parts ≡ Ok g.source
  pub shape : fits g.source.kind g.scripts.shape ≡ true
  pub numbers : AllByRecursion FitsScript g.scripts.scripts

parts_read : (subject : Subject) (parts : List (List ℕ)) (g : Setup) →
    setup_for subject parts ≡ Ok g → IsRead subject parts g
unfolding parted setup_text scripts_for
parts_read subject parts g e = grind (arith, scripts_fit (part 0 (texts_for subject parts)))

pub input_read : (subject : Subject) (input : List ℕ) (g : Setup) → setup_of subject input ≡ Ok g →
    IsRead subject (parts_of input) g
input_read subject input g e =
    parts_read subject (parts_of input) g
    (within (nat_lt max_input (length input)) refusal.InputTooLong (setup_for subject (parts_of input)) g e)
