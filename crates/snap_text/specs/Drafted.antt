-- `Drafted`: a text as far as it is put together, and `Adds`: what it has grown by.
use Rattle.std.specs.Prelude.{◌≡◌, false, ℕ, Bool, List, ◌++◌}

-- a text as far as it is put together, and whether there was no memory for a piece of it
pub record Drafted : Type 0 where
  pub text : List ℕ
  pub failed : Bool

-- A draft has grown by this text, unless it has failed.
abbrev pub Adds : (before after : Drafted) → List ℕ → Type 0
Adds before after more = after.failed ≡ false → (before.failed ≡ false) × (after.text ≡ before.text ++ more)
