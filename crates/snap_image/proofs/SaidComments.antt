-- What is read from an image is what the image says: the version, and the comments behind the lines.
use Rattle.std.proofs.Common.{◌≡◌, ℕ, ◌≤◌, zero, suc, Bool, true, false, List, [], ◌∷◌, ◌++◌, length, Option, Some}
use Rattle.std.proofs.Common.{None, nat_eq, if◌then◌else◌, refl, sym, ap, ◌∙◌, subst, arith}
use Rattle.std.specs.Int.{w16, to_be_bytes}
use Rattle.std.specs.List.{AllByRecursion}
use Rattle.snap_image.specs.declared.image.ImageVersion.{ImageVersion}
use Rattle.snap_image.specs.declared.image.ImageVersion.TheVariants as version
use Rattle.snap_semantics.specs.Comments.{Comment, IsCommentByte, IsComment}
use Rattle.snap_image.specs.Image.{comment_image, behind_line}
use Rattle.snap_image.specs.ImageCodes.{versions, version_code, of_code}
use Rattle.snap_image.specs.ImageForms.{Rest, known_code}
use Rattle.snap_image.specs.ImageListing.{known_version, version_in, comment_byte_in, comment_bytes_in}
use Rattle.snap_image.specs.ImageListing.{some_comment_in, comment_of_flag, comment_in, behind_line_in}
use Rattle.snap_semantics.specs.Source.{Source}
use Rattle.snap_image.proofs.Parts.{Holds, holds_as, Says, then_said, Part, both, reformed, none, one_byte, a_byte}
use Rattle.snap_image.proofs.Parts.{Known, coded_is, CodeIs, a_short}
use Rattle.snap_image.proofs.SaidForms.{behind, flag_byte, a_flag}

known_version_is : (r after : Rest) (b : ℕ) (o : Option ImageVersion) → r.bytes ≡ b ∷ after.bytes →
    Known (λ v. version_code v ≡ b) o → Holds (CodeIs versions r) (known_version o after)
known_version_is r after b None e h = tt
known_version_is r after b (Some v) e h = e ∙ ap (λ (k : ℕ). k ∷ after.bytes) (sym h)

pub a_version : Says (CodeIs versions) version_in
unfolding version_in
a_version = record {
  said = λ r. then_said (CodeIs versions r) _ a_byte r
      (λ b e. known_version_is r b.1 b.0 (of_code versions b.0) e (coded_is version_code versions.all b.0));
}

abbrev CommentByteIs : Source → Rest → (ℕ × Rest) → Type 0
CommentByteIs g r x = Part g r.bytes (x.0 ∷ []) x.1.bytes [] (IsCommentByte x.0)

comment_byte_by : (g : Source) (r after : Rest) (at b : ℕ) (feed : Bool) → nat_eq b 10 ≡ feed →
    r.bytes ≡ b ∷ after.bytes → Holds (CommentByteIs g r) (known_code at after (if feed then None else Some b))
comment_byte_by g r after at b true f e = tt
comment_byte_by g r after at b false f e = reformed (λ h. f) (one_byte g r.bytes after.bytes b e)

a_comment_byte : (g : Source) → Says (CommentByteIs g) comment_byte_in
unfolding comment_byte_in
a_comment_byte g = record {
  said = λ r. then_said (CommentByteIs g r) _ a_byte r
      (λ b e. comment_byte_by g r b.1 r.passed b.0 (nat_eq b.0 10) refl e);
}

abbrev CommentBytesAre : Source → ℕ → Rest → (List ℕ × Rest) → Type 0
CommentBytesAre g count r x = (length x.0 ≡ count) × Part g r.bytes x.0 x.1.bytes [] (AllByRecursion IsCommentByte x.0)

some_comment_bytes : (g : Source) (count : ℕ) → Says (CommentBytesAre g count) (comment_bytes_in count)
unfolding comment_bytes_in
some_comment_bytes g zero = record { said = λ r. (refl, reformed (λ f. tt) (none g r.bytes)) }
some_comment_bytes g (suc count) = record {
  said = λ r.
      let C = CommentBytesAre g (suc count) r in
      then_said C _ (a_comment_byte g) r (λ b p.
      then_said C _ (some_comment_bytes g count) b.1 (λ bytes q. (ap (λ (n : ℕ). suc n) q.0, both p q.1)));
}

abbrev CommentIs : Source → Rest → (Comment × Rest) → Type 0
CommentIs g r x = Part g r.bytes (comment_image x.0) x.1.bytes [] (IsComment x.0)

comment_by : (g : Source) (flag : Bool) (r after : Rest) → r.bytes ≡ flag_byte flag ∷ after.bytes →
    Holds (CommentIs g r) (comment_of_flag flag after)
unfolding some_comment_in
comment_by g false r after e = behind 0 e (none g after.bytes)
comment_by g true r after e =
    then_said (CommentIs g r) _ (a_short g) after (λ n p.
    then_said (CommentIs g r) _ (some_comment_bytes g n.0) n.1 (λ x q.
    let said : Part g after.bytes (to_be_bytes w16 n.0 ++ x.0) x.1.bytes []
    ((n.0 ≤ 65535) × AllByRecursion IsCommentByte x.0) =
    reformed (λ f. (omega (arith, f.0), f.1)) (both p q.1) in
    behind 1 e
    (subst (λ (k : ℕ). Part g after.bytes (to_be_bytes w16 k ++ x.0) x.1.bytes []
    ((k ≤ 65535) × AllByRecursion IsCommentByte x.0)) (sym q.0) said)))

a_comment : (g : Source) → Says (CommentIs g) comment_in
unfolding comment_in
a_comment g = record {
  said = λ r. then_said (CommentIs g r) _ a_flag r (λ flag e. comment_by g flag.0 r flag.1 e);
}

-- a comment that a version can say
abbrev pub IsSayable : ImageVersion → Comment → Type 0
IsSayable version.First c = c ≡ None
IsSayable version.Second c = Unit {0}

abbrev pub BehindIs : Source → ImageVersion → Rest → (Comment × Rest) → Type 0
BehindIs g v r x = Part g r.bytes (behind_line v x.0) x.1.bytes [] (IsComment x.0 × IsSayable v x.0)

pub a_behind : (g : Source) (v : ImageVersion) → Says (BehindIs g v) (behind_line_in v)
a_behind g version.First = record { said = λ r. reformed (λ f. (tt, refl)) (none g r.bytes) }
a_behind g version.Second = record {
  said = λ r. holds_as (CommentIs g r) (BehindIs g version.Second r) (comment_in r) ((a_comment g).said r)
      (λ x p. reformed (λ f. (f, tt)) p);
}
