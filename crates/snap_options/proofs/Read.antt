-- What `clap` reads of an option.
use Rattle.std.proofs.Common.{◌≡◌, ℕ, Bool, true, false, List, Option, Some, None, Result, Ok, Err, refl, ap, codes}
use Rattle.std.specs.Str.Parse.{ParsesUnsigned}
use Rattle.clap.specs.Matches.{ReadsOne}
use Rattle.snap_options.specs.Given.{IsFlag, IsNumber}

module _ {E : Type 0} (gives : List ℕ → Result ℕ E → Type 0)
    (parses : (t : List ℕ) (x : Result ℕ E) → gives t x → ParsesUnsigned 64 10 t x) where
  of_text : (t : List ℕ) (given : Option ℕ) → ReadsOne gives t given → IsNumber (Some t) given
  of_text t (Some v) h = parses t (Ok v) h
  of_text t None h = parses t (Err h.0) h.1

  -- a number that was read
  pub number_read : (text : Option (List ℕ)) (given : Option ℕ) → (text ≡ None → given ≡ None) →
      ((t : List ℕ) → text ≡ Some t → ReadsOne gives t given) → IsNumber text given
  number_read None given none some = none refl
  number_read (Some t) given none some = of_text t given (some t refl)

-- a flag that was read
pub flag_read : (text : Option (List ℕ)) (given : Bool) → (text ≡ None → given ≡ false) →
    (text ≡ Some (codes "true") → given ≡ true) → (text ≡ Some (codes "false") → given ≡ false) → IsFlag text given
flag_read None given none on off = none refl
flag_read (Some t) given none on off = (λ e. on (ap Some e), λ e. off (ap Some e))
