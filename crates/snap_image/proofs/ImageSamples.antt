-- Images at work: the image of a small listing, and what is wrong with bytes that are none.
use Rattle.std.specs.Prelude.{◌≡◌, ℕ, List, [], ◌∷◌, ◌++◌, take, drop, Some, None, Ok, Err, codes, refl}
use Rattle.snap_words.specs.declared.kind.KindTag.TheVariants.{Seq}
use Rattle.snap_image.specs.declared.image.ImageVersion.TheVariants as version
use Rattle.snap_semantics.specs.declared.instr.Condition.TheVariants.{One}
use Rattle.snap_semantics.specs.declared.instr.Index.TheVariants as index
use Rattle.snap_semantics.specs.declared.instr.Instr.TheVariants.{Get, If, IfAll, Return, Finish}
use Rattle.snap_semantics.specs.declared.instr.Range.TheVariants as range
use Rattle.snap_semantics.specs.declared.instr.Relation.TheVariants as relation
use Rattle.snap_semantics.specs.declared.instr.Term.TheVariants as term
use Rattle.snap_words.specs.declared.kind.Field.TheVariants as field
use Rattle.snap_semantics.specs.declared.refusal.ImageRefusal.TheVariants.{NotAnImage, Version, Truncated}
use Rattle.snap_semantics.specs.declared.refusal.ImageRefusal.TheVariants.{BadCode, Invalid, Extra}
use Rattle.snap_semantics.specs.declared.refusal.ListingRefusal.TheVariants as refusal
use Rattle.snap_semantics.specs.Comments.{Commented, uncommented}
use Rattle.snap_image.specs.Image.{image_in, image_of, line_image}
use Rattle.snap_image.specs.ImageListing.{commented_in, listing_of_image}
use Rattle.snap_semantics.specs.Source.{Source}
use Rattle.snap_image.proofs.InstrLaws.{instrs_on_literals}
use Rattle.snap_image.proofs.OnLiterals.{images_on_literals}

abbrev pub small : Source
small = record {
  kind = Seq;
  scalars = [];
  rows = [];
  words = [];
  views = codes "s" ∷ [];
  scan = 1;
  update = 2;
  lines = record { number = 1; instr = Return (codes "s") } ∷ record { number = 2; instr = Finish } ∷ [];
}

-- without comments, in both versions
abbrev pub first_image : List ℕ
first_image = 83 ∷ 78 ∷ 65 ∷ 80 ∷ 1 ∷ 0 ∷ 0 ∷ 0 ∷ 0 ∷ 1 ∷ 1 ∷ 115 ∷ 0 ∷ 1 ∷ 0 ∷ 2 ∷ 0 ∷ 2 ∷ 0 ∷ 1 ∷ 22 ∷ 0 ∷ 0 ∷ 2 ∷ 23 ∷ []

abbrev pub small_image : List ℕ
small_image = 83 ∷ 78 ∷ 65 ∷ 80 ∷ 2 ∷ 0 ∷ 0 ∷ 0 ∷ 0 ∷ 1 ∷ 1 ∷ 115 ∷ 0 ∷ 1 ∷ 0 ∷ 2 ∷ 0 ∷ 2 ∷ 0 ∷ 1 ∷ 22 ∷ 0 ∷ 0 ∷ 0 ∷ 2 ∷ 23 ∷ 0 ∷ []

-- with the comment ` done` on the second line
abbrev pub done : Commented
done = record { source = small; comments = None ∷ Some (codes " done") ∷ [] }

abbrev pub done_image : List ℕ
done_image = take 26 small_image ++ 1 ∷ 0 ∷ 5 ∷ codes " done"

images_of_small :
    (image_in version.First (uncommented small) ≡ first_image) × (image_of (uncommented small) ≡ small_image)
    × (image_of done ≡ done_image)
images_of_small = (refl, refl, refl)

-- Both versions read again; three bytes; ten; one byte too many; another version; a kind that is
-- none; an entry that is no line.
image_read :
    (commented_in first_image ≡ Ok (uncommented small))
    × (commented_in small_image ≡ Ok (uncommented small))
    × (commented_in done_image ≡ Ok done)
    × (listing_of_image done_image ≡ Ok small)
    × (listing_of_image (take 3 first_image) ≡ Err NotAnImage)
    × (listing_of_image (take 10 first_image) ≡ Err Truncated)
    × (listing_of_image (first_image ++ 0 ∷ []) ≡ Err Extra)
    × (listing_of_image (83 ∷ 78 ∷ 65 ∷ 80 ∷ 9 ∷ drop 5 first_image) ≡ Err Version)
    × (listing_of_image (83 ∷ 78 ∷ 65 ∷ 80 ∷ 1 ∷ 3 ∷ drop 6 first_image) ≡ Err (BadCode 5))
    × (listing_of_image (take 13 first_image ++ 7 ∷ drop 14 first_image) ≡ Err (Invalid (refusal.NoSuchLine 7)))
unfolding images_on_literals instrs_on_literals
image_read = (refl, refl, refl, refl, refl, refl, refl, refl, refl, refl)

-- The first version's bytes as the second version's, and the other way round; a byte too many; a byte that says
-- neither that there is a comment nor that there is none; a comment cut short; a line feed in a comment; a line
-- number that the first version does not have.
versions_apart :
    (commented_in (83 ∷ 78 ∷ 65 ∷ 80 ∷ 2 ∷ drop 5 first_image) ≡ Err Truncated)
    × (commented_in (83 ∷ 78 ∷ 65 ∷ 80 ∷ 1 ∷ drop 5 small_image) ≡ Err (Invalid (refusal.BadLine 2)))
    × (commented_in (small_image ++ 0 ∷ []) ≡ Err Extra)
    × (commented_in (take 26 small_image ++ 2 ∷ []) ≡ Err (BadCode 26))
    × (commented_in (take 33 done_image) ≡ Err Truncated)
    × (commented_in (take 29 done_image ++ 10 ∷ drop 30 done_image) ≡ Err (BadCode 29))
    × (listing_of_image (take 22 first_image ++ 3 ∷ 232 ∷ drop 24 first_image) ≡ Err (Invalid (refusal.BadLine 2)))
unfolding images_on_literals instrs_on_literals
versions_apart = (refl, refl, refl, refl, refl, refl, refl)

-- one comparison has the join `and`: another is no code there
abbrev if_image : List ℕ
if_image = 83 ∷ 78 ∷ 65 ∷ 80 ∷ 1 ∷ 0 ∷ 0 ∷ 0 ∷ 0 ∷ 0 ∷ 0 ∷ 1 ∷ 0 ∷ 1 ∷ 0 ∷ 1 ∷ 0 ∷ 1 ∷ 18 ∷ 1 ∷ 0 ∷ 0 ∷ 0 ∷ 0 ∷ 0 ∷ 0 ∷ 0 ∷ 0 ∷ 0 ∷ 0 ∷ 1 ∷ 0 ∷ 0 ∷ 0 ∷ 0 ∷ 0 ∷ 0 ∷ 0 ∷ 0 ∷ 1 ∷ 0 ∷ 1 ∷ []

abbrev join_of_one : List ℕ
join_of_one = 83 ∷ 78 ∷ 65 ∷ 80 ∷ 1 ∷ 0 ∷ 0 ∷ 0 ∷ 0 ∷ 0 ∷ 0 ∷ 1 ∷ 0 ∷ 1 ∷ 0 ∷ 1 ∷ 0 ∷ 1 ∷ 18 ∷ 1 ∷ 1 ∷ 0 ∷ 0 ∷ 0 ∷ 0 ∷ 0 ∷ 0 ∷ 0 ∷ 0 ∷ 0 ∷ 1 ∷ 0 ∷ 0 ∷ 0 ∷ 0 ∷ 0 ∷ 0 ∷ 0 ∷ 0 ∷ 1 ∷ 0 ∷ 1 ∷ []

abbrev if_source : Source
if_source = record {
  kind = Seq;
  scalars = [];
  rows = [];
  words = [];
  views = [];
  scan = 1;
  update = 1;
  lines = record {
    number = 1;
    instr = If (One (record {
      left = term.Index (index.Number 1);
      relation = relation.Equal;
      right = term.Index (index.Number 1);
    })) 1;
  } ∷ [];
}

joins_read : (image_in version.First (uncommented if_source) ≡ if_image) × (listing_of_image if_image ≡ Ok if_source)
    × (listing_of_image join_of_one ≡ Err (BadCode 20))
unfolding images_on_literals instrs_on_literals
joins_read = (refl, refl, refl)

-- two lines of listing U
abbrev names_u : Source
names_u = record {
  kind = Seq;
  scalars = codes "j" ∷ codes "c" ∷ [];
  rows = codes "moved" ∷ [];
  words = codes "a" ∷ codes "b" ∷ [];
  views = codes "s" ∷ [];
  scan = 10;
  update = 30;
  lines = [];
}

lines_of_u :
    (line_image names_u
    (record { number = 12; instr = Get (codes "a") (index.Scalar (codes "j")) (index.Scalar (codes "j")) })
    ≡ 0 ∷ 12 ∷ 3 ∷ 0 ∷ 7 ∷ 0 ∷ 7 ∷ 0 ∷ [])
    × (line_image names_u (record {
      number = 16;
      instr = IfAll range.Processes (One (record {
        left = term.Field field.Seq (codes "a") index.Place;
        relation = relation.Equal;
        right = term.Field field.Seq (codes "b") index.Place;
      })) 21;
    }) ≡ 0 ∷ 16 ∷ 19 ∷ 0 ∷ 1 ∷ 0 ∷ 0 ∷ 9 ∷ 0 ∷ 6 ∷ 9 ∷ 1 ∷ 6 ∷ 0 ∷ 21 ∷ [])
lines_of_u = (refl, refl)
