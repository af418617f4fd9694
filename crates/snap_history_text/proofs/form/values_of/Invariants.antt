-- `values_of` of snap_history_text (src/form.rt): what holds at the head of each of its loops.
use Rattle.std.proofs.Common.{◌≡◌, drop}
use Rattle.snap_text.specs.Tokens.{view_tokens}
use Rattle.snap_history_text.specs.HistoryForms.{values_of}
use Rattle.snap_history_text.specs.ReaderSteps.{prefixed_values}
use Rattle.snap_history_text.proofs.form.values_of.Given as goal

-- the values so far, and those of the tokens that are left
abbrev pub invariant-loop-token : goal.invariant-loop-token
invariant-loop-token l =
    prefixed_values l.values.items (values_of (view_tokens (drop l.token-index l.tokens)))
    ≡ values_of (view_tokens l.tokens)
