-- Laws of `Result`s that read an input: an answer of two steps, a refusal that is mapped, a limit or a test that was
-- passed.
use Rattle.std.proofs.Common.{◌≡◌, Bool, true, false, if◌then◌else◌, Result, Ok, Err, refl}
use Rattle.snap_semantics.specs.Answers.{◌>>=◌, refused_as}

-- two values of one answer are the same
pub same_answer : {A E : Type 0} (answer : Result A E) (x y : A) → answer ≡ Ok x → answer ≡ Ok y → y ≡ x
same_answer answer x y is_x is_y = cc

-- two steps of which both succeed
module _ {A B E : Type 0} where
  pub both : (first : Result A E) (second : A → Result B E) (found : B) → (first >>= second) ≡ Ok found →
      (x : A) × (first ≡ Ok x) × (second x ≡ Ok found)
  both (Ok x) second found e = (x, refl, e)
  both (Err r) second found e = absurd cc

-- what is not refused was found
pub not_refused : {A E F : Type 0} (f : E → F) (answer : Result A E) (found : A) →
    refused_as f answer ≡ Ok found → answer ≡ Ok found
not_refused f (Ok x) found e = cc
not_refused f (Err r) found e = absurd cc

-- what is within a limit was found
pub within : {A E : Type 0} (over : Bool) (r : E) (answer : Result A E) (found : A) →
    (if over then Err r else answer) ≡ Ok found → answer ≡ Ok found
within true r answer found e = absurd cc
within false r answer found e = e

-- a step that passes a test
pub passed : {A E : Type 0} (passes : Bool) (r : E) (x found : A) →
    (if passes then Ok x else Err r) ≡ Ok found → (passes ≡ true) × (x ≡ found)
passed true r x found e = (refl, cc)
passed false r x found e = absurd cc
