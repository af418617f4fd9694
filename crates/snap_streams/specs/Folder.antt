-- `Keeps`: what a folder has kept where a text was put into it under a name, or was not.
use Rattle.std.specs.Prelude.{◌≡◌, ℕ, List, [], ◌∷◌, ◌++◌, Option, Some, None, Result, Ok, Err}

-- a text under a name
pub record Kept : Type 0 where
  pub name : List ℕ
  pub text : List ℕ

-- one text more, behind what was kept before, where that is known
abbrev pub with_kept : (name text : List ℕ) → Option (List Kept) → Option (List Kept)
with_kept name text None = None
with_kept name text (Some ks) = Some (ks ++ record { name = name; text = text } ∷ [])

-- A text was kept under a name, and nothing else was; or nothing was.
abbrev pub Keeps : {E : Type 0} → Result (Unit {0}) E → (before after : Option (List Kept)) → (name text : List ℕ) →
    Type 0
Keeps (Ok done) before after name text = after ≡ with_kept name text before
Keeps (Err e) before after name text = after ≡ before
