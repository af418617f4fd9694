-- Sample outputs of the program for the text of a small listing and its image: checked, assembled, listed back and
-- upgraded.
use Rattle.std.specs.Fmt.{digits}
use Rattle.std.specs.Prelude.{◌≡◌, [], ℕ, List, take, Ok, Err, codes, refl}
use Rattle.snap_image.specs.Assembly.{assembled, listed, upgraded}
use Rattle.snap_semantics.specs.Comments.{commented_of}
use Rattle.snap_lint.specs.Check.{check_of}
use Rattle.snap_output.specs.Output.{output_of}
use Rattle.snap_semantics.specs.declared.refusal.ImageRefusal.TheVariants.{Truncated}
use Rattle.snap_semantics.specs.declared.refusal.ListingRefusal.TheVariants.{BadHeader}
use Rattle.snap_semantics.specs.declared.refusal.Refusal.TheVariants as refusal
use Rattle.snap_tasks.specs.declared.task.Task.TheVariants as task
use Rattle.snap_image.proofs.ImageSamples.{first_image, small_image}
use Rattle.snap_semantics.proofs.OnLiterals.{listings_on_literals}
use Rattle.snap_image.proofs.InstrLaws.{instrs_on_literals}
use Rattle.snap_image.proofs.OnLiterals.{images_on_literals}

abbrev small_text : List ℕ
small_text = codes "kind seq\nscalar\nrow\nwords\nview s\nscan 1\nupdate 2\n1: return s\n2: finish\n"

-- checked, assembled, listed back, and upgraded; an image that is cut, and a text that is empty
outputs :
    (output_of [] task.Check small_text ≡ Ok (codes "ok: seq, 2 lines\n"))
    × (output_of [] task.Assemble small_text ≡ Ok small_image)
    × (output_of [] task.List small_image ≡ Ok small_text)
    × (output_of [] task.Upgrade first_image ≡ Ok small_image)
    × (output_of [] task.List (take 4 small_image) ≡ Err (refusal.Image Truncated))
    × (output_of [] task.Check (codes "") ≡ Err (refusal.Listing (BadHeader 1)))
unfolding digits output_of check_of assembled listed upgraded commented_of listings_on_literals images_on_literals
    instrs_on_literals
outputs = (refl, refl, refl, refl, refl, refl)
