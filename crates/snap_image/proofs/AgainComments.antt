-- What an image says is read from it again: the version, and the comments behind the lines.
use Rattle.std.proofs.Common.{◌≡◌, ℕ, Bool, true, false, List, [], ◌∷◌, length, Option, Some, None, Ok, nat_eq}
use Rattle.std.proofs.Common.{if◌then◌else◌, refl, sym, ap, subst, arith}
use Rattle.std.specs.List.{AllByRecursion}
use Rattle.snap_image.specs.declared.image.ImageVersion.{ImageVersion}
use Rattle.snap_image.specs.declared.image.ImageVersion.TheVariants as version
use Rattle.snap_semantics.specs.Comments.{Comment, IsCommentByte, IsComment}
use Rattle.snap_image.specs.Image.{comment_image, behind_line}
use Rattle.snap_image.specs.ImageCodes.{of_code, versions, version_code}
use Rattle.snap_image.specs.ImageForms.{Rest, Read, of_one, byte_in}
use Rattle.snap_image.specs.ImageListing.{known_version, version_in, comment_byte_in, comment_bytes_in}
use Rattle.snap_image.specs.ImageListing.{some_comment_in, comment_in, comment_of_flag, behind_line_in}
use Rattle.snap_image.proofs.AgainForms.{a_flag}
use Rattle.snap_image.proofs.AgainParts.{Gives, Again, then_gives, then_again, nothing_again, one_again, two_again}
use Rattle.snap_image.proofs.AgainParts.{byte_again, a_short, known_again}
use Rattle.snap_image.proofs.SaidComments.{IsSayable}

version_coded : (v : ImageVersion) → of_code versions (version_code v) ≡ Some v
version_coded version.First = refl
version_coded version.Second = refl

pub version_again : (v : ImageVersion) (after : List ℕ) (r : Rest) →
    r.bytes ≡ version_code v ∷ after → Gives (version_in r) v after
unfolding version_in
version_again v after r e =
    then_gives (version_code v) after (byte_in r) _ v after (byte_again (version_code v) after r e)
    (λ t p. subst (λ (o : Option ImageVersion). Gives (known_version o t) v after) (sym (version_coded v)) (t, refl, p))

a_comment_byte : (b : ℕ) → nat_eq b 10 ≡ false → Again b (b ∷ []) comment_byte_in
unfolding comment_byte_in
a_comment_byte b f = record {
  again = λ after r e. then_gives b after (byte_in r) _ b after (byte_again b after r e) (λ t p.
      known_again r.passed t _ b after (ap (λ (feed : Bool). let o : Option ℕ = if feed then None else Some b in o) f)
      p);
}

some_comment_bytes : (xs : List ℕ) → AllByRecursion IsCommentByte xs → Again xs xs (comment_bytes_in (length xs))
unfolding comment_bytes_in
some_comment_bytes [] h = nothing_again []
some_comment_bytes (b ∷ xs) h = two_again (λ b bs. b ∷ bs) (a_comment_byte b h.0) (some_comment_bytes xs h.1)

a_comment : (c : Comment) → IsComment c → Again c (comment_image c) comment_in
unfolding comment_in some_comment_in
a_comment None h = then_again comment_of_flag (a_flag false) (nothing_again None)
a_comment (Some xs) h =
    let made : List ℕ → Comment = λ bytes. Some bytes in
    then_again comment_of_flag (a_flag true)
    (then_again (λ n r. of_one (comment_bytes_in n) made r) (a_short (length xs) (omega (arith, h.0)))
    (one_again made (some_comment_bytes xs h.1)))

pub a_behind : (v : ImageVersion) (c : Comment) → IsComment c → IsSayable v c →
    Again c (behind_line v c) (behind_line_in v)
a_behind version.First c h f = record {
  again = λ after r e. (r, ap (λ (d : Comment). let a : Read Comment = Ok (d, r) in a) (sym f), e);
}
a_behind version.Second c h f = a_comment c h
