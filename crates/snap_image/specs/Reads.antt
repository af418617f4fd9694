-- `Reads` and `Passes`: what the cursor reads from an image,
-- and what it leaves, is what a rule of the definitions gives.
use Rattle.std.specs.Prelude.{◌≡◌, Result, Ok, Err}
use Rattle.snap_semantics.specs.declared.refusal.ImageRefusal.{ImageRefusal}
use Rattle.snap_image.specs.ImageForms.{Rest, Read}

-- What was read, and what is left of the image, is what a rule gives.
abbrev pub Reads : {A : Type 0} → Result A ImageRefusal → Rest → Read A → Type 0
Reads (Ok x) rest answer = answer ≡ Ok (x, rest)
Reads (Err e) rest answer = answer ≡ Err e

-- the bytes after a part that has only one value
abbrev pub Passes : Result (Unit {0}) ImageRefusal → Rest → Result Rest ImageRefusal → Type 0
Passes (Ok x) rest answer = answer ≡ Ok rest
Passes (Err e) rest answer = answer ≡ Err e
