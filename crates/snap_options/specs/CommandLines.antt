-- `AnswersUnasked`: what a program does about a command line that asks for no more than help, or for nothing that is
-- valid; and what arguments ask for, in which a refusal is explained in any case (`explained_if`).
use Rattle.std.specs.Prelude.{◌≡◌, ℕ, Bool, ◌||◌, string_bytes}
use Rattle.snap_streams.specs.Sent.{Says}
use Rattle.snap_streams.specs.State.{SinkState}
use Rattle.snap_faults.specs.Names.{Names}
use Rattle.snap_faults.specs.Told.{Helps, no_memory_line, no_text_line}
use Rattle.snap_options.specs.declared.invocation.Invocation.{Invocation}
use Rattle.snap_options.specs.declared.invocation.Unasked.{Unasked}
use Rattle.snap_options.specs.declared.invocation.Unasked.TheVariants as unasked
use Rattle.snap_options.specs.declared.invocation.Unread.{Unread}
use Rattle.snap_options.specs.declared.invocation.Unread.TheVariants as unread

-- the same, in which a refusal is explained in any case if `more`
abbrev pub explained_if : {A : Type 0} → Bool → Invocation A → Invocation A
explained_if more a = record { request = a.request; explains = a.explains || more }

-- What is said of a command line that cannot be read, and the status.
abbrev pub SaysUnread : Unread → (status : ℕ) → (errors errors_after : SinkState) → Type 0
SaysUnread unread.NoText status errors errors_after = (status ≡ 2) × Says no_text_line errors errors_after
SaysUnread unread.NoMemory status errors errors_after = (status ≡ 1) × Says no_memory_line errors errors_after

-- Help, or the version, is written; or what is wrong with the command line is said, and nothing written.
abbrev pub AnswersUnasked : Names → Unasked → (status : ℕ) → (sink sink_after errors errors_after : SinkState) → Type 0
AnswersUnasked names (unasked.Help text) status sink sink_after errors errors_after =
    Helps names (string_bytes text) status sink sink_after errors errors_after
AnswersUnasked names (unasked.Wrong text) status sink sink_after errors errors_after =
    (status ≡ 2) × (sink ≡ sink_after) × Says (string_bytes text) errors errors_after
AnswersUnasked names (unasked.Unread u) status sink sink_after errors errors_after =
    (sink ≡ sink_after) × SaysUnread u status errors errors_after
