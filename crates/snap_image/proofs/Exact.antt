-- Bytes are decoded exactly where they are the image of a listing.
use Rattle.std.proofs.Common.{◌≡◌, ℕ, List, ◌∷◌, Result, Ok, Err, IfOk, Fits, w8, slice_index_or, sym, ap, ◌∙◌, subst}
use Rattle.snap_semantics.specs.declared.fault.Fault.{Fault}
use Rattle.snap_image.specs.declared.image.ImageVersion.{ImageVersion}
use Rattle.snap_semantics.specs.declared.instr.Line.{Line}
use Rattle.snap_semantics.specs.declared.refusal.ImageRefusal.{ImageRefusal}
use Rattle.snap_semantics.specs.Answers.{Answers}
use Rattle.snap_semantics.specs.Comments.{Comment, Commented, IsCommented}
use Rattle.snap_image.specs.Image.{IsImageOf}
use Rattle.snap_image.specs.ImageForms.{Rest}
use Rattle.snap_image.specs.ImageListing.{commented_in, ended, head_in, lines_in}
use Rattle.snap_semantics.specs.Listing.{checked_targets, line_targets, with_lines}
use Rattle.snap_semantics.specs.Source.{Source}
use Rattle.snap_image.proofs.AgainListing.{decodes_all}
use Rattle.snap_image.proofs.SaidListing.{decodes_only, are_bytes, decoded_is_listing}

pub only_images : (bytes : List ℕ) → ((i : ℕ) → Fits w8 (slice_index_or bytes i 0)) →
    (answer : Result Commented (Fault ImageRefusal)) →
    Answers (λ (l : Commented). l) answer (commented_in bytes) → IfOk answer (λ (l : Commented). IsImageOf bytes l)
only_images bytes fits (Ok l) h = (decodes_only bytes l (are_bytes bytes fits) h).1
only_images bytes fits (Err fault) h = tt

pub every_image : (bytes : List ℕ) (answer : Result Commented (Fault ImageRefusal)) →
    Answers (λ (l : Commented). l) answer (commented_in bytes) →
    (c : Commented) → IsCommented c → IsImageOf bytes c →
    Answers (λ (l : Commented). l) answer (let r : Result Commented ImageRefusal = Ok c in r)
every_image bytes answer h c listing image =
    subst (λ (r : Result Commented ImageRefusal). Answers (λ (l : Commented). l) answer r)
    (ap commented_in image.2 ∙ decodes_all image.0 c listing image.1) h

-- what was read keeps the rules of listings with comments, where the targets were looked for among its lines
pub read_is_listing : (bytes : List ℕ) → ((i : ℕ) → Fits w8 (slice_index_or bytes i 0)) →
    (v : ImageVersion) (s : Source) (count : ℕ) (r after : Rest)
    (lines seen : List Line) (comments : List Comment) → head_in bytes ≡ Ok ((v, s, count), r) →
    lines_in s v count 1 0 r ≡ Ok ((lines, comments), after) →
    Ok tt ≡ ended after.bytes → seen ≡ lines → Ok tt ≡ checked_targets seen (s.scan ∷ s.update ∷ line_targets seen) →
    IsCommented (record { source = with_lines lines s; comments = comments })
read_is_listing bytes fits v s count r after lines seen comments e f g same h =
    decoded_is_listing bytes fits v s count r after lines comments e f (sym g)
    (subst (λ (ls : List Line). checked_targets ls (s.scan ∷ s.update ∷ line_targets ls) ≡ Ok tt) same (sym h))
