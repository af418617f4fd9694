-- `Spells`: the tokens that a line of a listing has grown by.
use Rattle.std.specs.Prelude.{◌≡◌, false, List, ◌++◌}
use Rattle.snap_semantics.specs.Token.{Token}
use Rattle.snap_text.specs.Tokens.{view_tokens}
use Rattle.snap_listing.specs.declared.spelling.Spelling.{Spelling}

-- A spelling has grown by these tokens, unless it has failed.
abbrev pub Spells : (before after : Spelling) → List Token → Type 0
Spells before after more =
    after.failed ≡ false →
    (before.failed ≡ false) × (view_tokens after.tokens.items ≡ view_tokens before.tokens.items ++ more)
