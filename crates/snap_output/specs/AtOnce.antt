-- `found_at_once`: the refusal of an input that the program finds before it asks for any memory, for each task.
use Rattle.std.specs.Prelude.{ℕ, nat_lt, List, [], ◌∷◌, length, take, drop, bytes_eq, if◌then◌else◌}
use Rattle.std.specs.Prelude.{Option, Some, None, Result, Ok, Err, option_map}
use Rattle.snap_image.specs.Image.{signature}
use Rattle.snap_image.specs.ImageCodes.{of_code, versions}
use Rattle.snap_image.specs.declared.image.ImageVersion.{ImageVersion}
use Rattle.snap_semantics.specs.declared.refusal.ImageRefusal.{ImageRefusal}
use Rattle.snap_semantics.specs.declared.refusal.ImageRefusal.TheVariants as image
use Rattle.snap_semantics.specs.declared.refusal.ListingRefusal.TheVariants as listing
use Rattle.snap_semantics.specs.declared.refusal.Refusal.{Refusal}
use Rattle.snap_semantics.specs.declared.refusal.Refusal.TheVariants as refusal
use Rattle.snap_semantics.specs.Listing.{max_text}
use Rattle.snap_input.specs.Input.{checked_parts}
use Rattle.snap_input.specs.Parts.{parts_of, max_input}
use Rattle.snap_input.specs.ManySchedules.{checked_schedules}
use Rattle.snap_tasks.specs.declared.task.Task.{Task}
use Rattle.snap_tasks.specs.declared.task.Task.TheVariants as task

-- why there is no answer
abbrev pub why : {A E : Type 0} → Result A E → Option E
why (Ok x) = None
why (Err e) = Some e

-- a text that is too long for a listing
abbrev pub long_text : List ℕ → Option Refusal
long_text text = if nat_lt max_text (length text) then Some (refusal.Listing listing.TooLong) else None

abbrev pub unknown_version : Option ImageVersion → Option ImageRefusal
unknown_version None = Some image.Version
unknown_version (Some v) = None

-- a version, behind the signature, that no image has
abbrev pub wrong_version : List ℕ → Option ImageRefusal
wrong_version [] = None
wrong_version (b ∷ rest) = unknown_version (of_code versions b)

-- bytes that do not begin as an image of a version does
abbrev pub wrong_head : List ℕ → Option ImageRefusal
wrong_head bytes = if bytes_eq (take 4 bytes) signature then wrong_version (drop 4 bytes) else Some image.NotAnImage

-- the refusal of an input that is not too long
abbrev pub refused_at_once : Task → List ℕ → Option Refusal
refused_at_once task.Check input = long_text input
refused_at_once task.Lint input = long_text input
refused_at_once task.Assemble input = long_text input
refused_at_once task.List input = option_map refusal.Image (wrong_head input)
refused_at_once task.Upgrade input = option_map refusal.Image (wrong_head input)
refused_at_once (task.Run s) input = why (checked_parts s 1 (parts_of input))
refused_at_once (task.Trace s) input = why (checked_parts s 1 (parts_of input))
refused_at_once (task.Debug s) input = why (checked_parts s 2 (parts_of input))
refused_at_once (task.Audit s) input = why (checked_parts s 1 (parts_of input))
refused_at_once (task.Certify s) input = why (checked_parts s 1 (parts_of input))
refused_at_once (task.Batch s) input = why (checked_schedules s (parts_of input))
refused_at_once (task.Survey s) input = why (checked_schedules s (parts_of input))

-- the refusal that is found before any memory is asked for
abbrev pub found_at_once : Task → List ℕ → Option Refusal
found_at_once t input = if nat_lt max_input (length input) then Some refusal.InputTooLong else refused_at_once t input
