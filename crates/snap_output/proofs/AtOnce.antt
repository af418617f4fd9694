-- The refusals that calls find in an input before any memory is asked for are those of `found_at_once`, for each
-- task.
use Rattle.std.proofs.Common.{◌≡◌, ℕ, Bool, true, false, List, [], ◌∷◌, ◌++◌, length, nat_lt, ◌<◌, ◌≤◌}
use Rattle.std.proofs.Common.{take, drop, refl, sym, ◌∙◌, ap}
use Rattle.std.specs.Prelude.{Option, Some, None, Result, Ok, Err, option_map, bytes_eq, if◌then◌else◌, ◌≢◌}
use Rattle.std.proofs.lemmas.Bool.{false≢true, le-ltb, ltb-true}
use Rattle.std.proofs.lemmas.List.{take-append-drop}
use Rattle.std.proofs.lemmas.Slice.Eq.{bytes_eq-Decides}
use Rattle.snap_image.specs.Image.{HasUnknownVersion, signature}
use Rattle.snap_image.specs.ImageCodes.{of_code, versions}
use Rattle.snap_image.specs.declared.image.ImageVersion.{ImageVersion}
use Rattle.snap_semantics.specs.declared.fault.Fault.{Fault}
use Rattle.snap_semantics.specs.declared.fault.Fault.TheVariants.{Refused}
use Rattle.snap_semantics.specs.declared.refusal.ImageRefusal.TheVariants.{NotAnImage, Version}
use Rattle.snap_semantics.specs.declared.refusal.ListingRefusal.TheVariants.{TooLong}
use Rattle.snap_semantics.specs.declared.refusal.Refusal.{Refusal}
use Rattle.snap_semantics.specs.declared.refusal.Refusal.TheVariants as refusal
use Rattle.snap_tasks.specs.declared.task.Task.{Task}
use Rattle.snap_input.specs.Parts.{max_input}
use Rattle.snap_output.specs.AtOnce.{found_at_once, long_text, refused_at_once, unknown_version, why, wrong_head}
use Rattle.snap_output.specs.AtOnce.{wrong_version}

module _ {X : Type 0} (result : Result X (Fault Refusal)) where
  -- a refusal is answered
  abbrev pub Refuses : Refusal → Type 0
  Refuses r = result ≡ Err (Refused r)

  -- what is found is answered
  abbrev pub Answered : Option Refusal → Type 0
  Answered found = (r : Refusal) → found ≡ Some r → Refuses r

  if_long : (long : Bool) (q : Refusal) → (long ≡ true → Refuses q) → Answered (if long then Some q else None)
  if_long true q h r e = let refused = h refl in cc
  if_long false q h r e = absurd cc

  pub of_text : (text : List ℕ) → (65536 < length text → Refuses (refusal.Listing TooLong)) → Answered (long_text text)
  of_text text h =
      if_long (nat_lt 65536 (length text)) (refusal.Listing TooLong) (λ e. h (ltb-true 65536 (length text) e))

  pub of_why : {A : Type 0} (x : Result A Refusal) → ((r : Refusal) → x ≡ Err r → Refuses r) → Answered (why x)
  of_why (Ok x) h r e = absurd cc
  of_why (Err q) h r e = h r cc

  of_version : (v : Option ImageVersion) → (v ≡ None → Refuses (refusal.Image Version)) →
      Answered (option_map refusal.Image (unknown_version v))
  of_version None h r e = let refused = h refl in cc
  of_version (Some v) h r e = absurd cc

  of_rest : (bytes : List ℕ) →
      ((b : ℕ) (rest : List ℕ) → bytes ≡ b ∷ rest → of_code versions b ≡ None → Refuses (refusal.Image Version)) →
      Answered (option_map refusal.Image (wrong_version bytes))
  of_rest [] h r e = absurd cc
  of_rest (b ∷ rest) h r e = of_version (of_code versions b) (h b rest refl) r e

  of_signed : (signed : Bool) (rest : List ℕ) → (signed ≡ false → Refuses (refusal.Image NotAnImage)) →
      (signed ≡ true → Answered (option_map refusal.Image (wrong_version rest))) →
      Answered (option_map refusal.Image (if signed then wrong_version rest else Some NotAnImage))
  of_signed true rest h k r e = k refl r e
  of_signed false rest h k r e = let refused = h refl in cc

  of_head : (bytes : List ℕ) → (take 4 bytes ≢ signature → Refuses (refusal.Image NotAnImage)) →
      (HasUnknownVersion bytes → Refuses (refusal.Image Version)) →
      Answered (option_map refusal.Image (wrong_head bytes))
  of_head bytes h k =
      let same = bytes_eq-Decides (take 4 bytes) signature in
      let whole = sym (take-append-drop 4 bytes) in
      of_signed (bytes_eq (take 4 bytes) signature) (drop 4 bytes) (λ e. h (λ is. false≢true (sym e ∙ same.1 is)))
      (λ e. of_rest (drop 4 bytes) (λ b rest is unknown.
      k (b, rest, whole ∙ ap (λ x. x ++ drop 4 bytes) (same.0 e) ∙ ap (λ x. signature ++ x) is, unknown)))

  -- of an image that is not too long
  pub of_image : (t : Task) (input : List ℕ) → refused_at_once t input ≡ option_map refusal.Image (wrong_head input) →
      length input ≤ max_input → (take 4 input ≢ signature → Refuses (refusal.Image NotAnImage)) →
      (HasUnknownVersion input → Refuses (refusal.Image Version)) → Answered (found_at_once t input)
  of_image t input is short h k = rw (is, le-ltb max_input (length input) short) (of_head input h k)
