-- A refusal that is found at once is handed to the page without memory: `needs_no_memory` holds of each refusal of
-- `found_at_once`.
use Rattle.std.proofs.Common.{◌≡◌, ℕ, Bool, true, false, List, [], ◌∷◌, length, nat_lt, refl}
use Rattle.std.specs.Prelude.{Option, Some, None, Ok, Err, option_map, bytes_eq, take, drop, if◌then◌else◌}
use Rattle.snap_image.specs.Image.{signature}
use Rattle.snap_image.specs.ImageCodes.{of_code, versions}
use Rattle.snap_image.specs.declared.image.ImageVersion.{ImageVersion}
use Rattle.snap_semantics.specs.declared.refusal.ImageRefusal.TheVariants as image
use Rattle.snap_semantics.specs.declared.refusal.ListingRefusal.TheVariants as listing
use Rattle.snap_semantics.specs.declared.refusal.Refusal.{Refusal}
use Rattle.snap_semantics.specs.declared.refusal.Refusal.TheVariants as refusal
use Rattle.snap_input.specs.Parts.{parts_of, max_input}
use Rattle.snap_output.specs.AtOnce.{long_text, refused_at_once, why}
use Rattle.snap_output.specs.AtOnce.{unknown_version, wrong_head, wrong_version}
use Rattle.snap_input.specs.Input.{checked_parts}
use Rattle.snap_page.specs.Answer.{found_at_once}
use Rattle.snap_page.specs.Page.{needs_no_memory}
use Rattle.snap_page.specs.declared.page_request.PageRequest.{PageRequest}
use Rattle.snap_page.specs.declared.page_request.PageRequest.TheVariants.{Do, Judge}
use Rattle.snap_tasks.specs.declared.task.Task.{Task}
use Rattle.snap_tasks.specs.declared.task.Task.TheVariants as task

-- each refusal that this may be is handed without memory
abbrev Short : Option Refusal → Type 0
Short found = (r : Refusal) → found ≡ Some r → needs_no_memory r ≡ true

of_one : (q : Refusal) → needs_no_memory q ≡ true → Short (Some q)
of_one q h r e = cc

of_none : Short None
of_none r e = absurd cc

either : (b : Bool) (p q : Option Refusal) → Short p → Short q → Short (if b then p else q)
either true p q is_p is_q = is_p
either false p q is_p is_q = is_q

-- a wrong number of parts
parts_short : (b : Bool) (n : ℕ) → Short (why {A = Unit {0}} (if b then Ok tt else Err (refusal.WrongParts n)))
parts_short true n = of_none
parts_short false n = of_one (refusal.WrongParts n) refl

text_short : (text : List ℕ) → Short (long_text text)
text_short text =
    let q = refusal.Listing listing.TooLong in
    either (nat_lt 65536 (length text)) (Some q) None (of_one q refl) of_none

known_short : (v : Option ImageVersion) → Short (option_map refusal.Image (unknown_version v))
known_short None = of_one (refusal.Image image.Version) refl
known_short (Some v) = of_none

version_short : (bytes : List ℕ) → Short (option_map refusal.Image (wrong_version bytes))
version_short [] = of_none
version_short (b ∷ rest) = known_short (of_code versions b)

signed_short : (b : Bool) (bytes : List ℕ) →
    Short (option_map refusal.Image (if b then wrong_version bytes else Some image.NotAnImage))
signed_short true bytes = version_short bytes
signed_short false bytes = of_one (refusal.Image image.NotAnImage) refl

head_short : (bytes : List ℕ) → Short (option_map refusal.Image (wrong_head bytes))
head_short bytes = signed_short (bytes_eq (take 4 bytes) signature) (drop 4 bytes)

task_short : (t : Task) (input : List ℕ) → Short (refused_at_once t input)
task_short task.Check input = text_short input
task_short task.Lint input = text_short input
task_short task.Assemble input = text_short input
task_short task.List input = head_short input
task_short task.Upgrade input = head_short input
task_short _ input = parts_short _ _

asked_short : (a : PageRequest) (input : List ℕ) → Short (found_at_once a input)
asked_short (Do t) input =
    either (nat_lt max_input (length input)) (Some refusal.InputTooLong) (refused_at_once t input)
    (of_one refusal.InputTooLong refl) (task_short t input)
asked_short (Judge s) input =
    either (nat_lt max_input (length input)) (Some refusal.InputTooLong) (why (checked_parts s 1 (parts_of input)))
    (of_one refusal.InputTooLong refl) (parts_short _ _)

-- what is found at once needs no memory to be handed
pub needs_none : (a : PageRequest) (input : List ℕ) (r : Refusal) →
    found_at_once a input ≡ Some r → needs_no_memory r ≡ true
needs_none a input = asked_short a input
