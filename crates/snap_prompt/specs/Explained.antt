-- `explained`: what the prompt answers to `why` of an item, or that there is no such item.
use Rattle.std.specs.Prelude.{ℕ, Option, Some, None, nat_le, if◌then◌else◌}
use Rattle.snap_semantics.specs.declared.refusal.CommandRefusal.TheVariants as refusal
use Rattle.snap_debug.specs.Session.{Session, total}
use Rattle.snap_prompt.specs.Hints.{refused_line}
use Rattle.snap_prompt.specs.Said.{Said, text, why}

-- the item that a line names, or else that of the position
abbrev pub item_or_position : Session → Option ℕ → ℕ
item_or_position s None = s.position
item_or_position s (Some t) = t

-- why item t came out so, where there are so many items
unfoldable pub explained : Session → ℕ → Said
explained s t = if nat_le t (total s) then why s.run t else text (refused_line s refusal.NoSuchPosition)
