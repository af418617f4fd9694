-- What a hunt's plan is for the listings of a kind: where each process owns a word, updates of that word alone
-- (`owned`).
use Rattle.std.specs.Prelude.{Bool, true, false}
use Rattle.snap_words.specs.declared.kind.KindTag.{KindTag}
use Rattle.snap_words.specs.declared.kind.KindTag.TheVariants as kind
use Rattle.snap_chance.specs.Plan.{Plan, with_owned}

-- whether each process has a word of its own, which it alone may write
abbrev pub owns_words : KindTag → Bool
owns_words kind.Multi = false
owns_words _ = true

-- a plan in which each process updates its own word, where the kind wants it so
abbrev pub owned : KindTag → Plan → Plan
owned g p = with_owned (owns_words g) p
