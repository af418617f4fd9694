-- `AddsBut`: an explanation's text as far as a loop has come, and what is still to be added.
use Rattle.std.proofs.Common.{◌≡◌, ℕ, List, ◌++◌, false}
use Rattle.snap_text.specs.Drafted.{Drafted}

-- A draft and what is left make the earlier draft and all of it, unless it has failed.
abbrev pub AddsBut : (before after : Drafted) (left all : List ℕ) → Type 0
AddsBut before after left all =
    after.failed ≡ false → (before.failed ≡ false) × (after.text ++ left ≡ before.text ++ all)
