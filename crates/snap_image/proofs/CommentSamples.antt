-- Comments at work: those of a small listing's text, and its canonical text.
use Rattle.std.specs.Prelude.{◌≡◌, List, [], ◌∷◌, Ok, Some, None, codes, refl}
use Rattle.snap_semantics.specs.CanonicalText.{commented_text}
use Rattle.snap_semantics.specs.Comments.{comment_of, line_comments, commented_of}
use Rattle.snap_semantics.specs.Token.{Token, Identifier, lines_of}
use Rattle.snap_image.proofs.ImageSamples.{done}
use Rattle.snap_semantics.proofs.OnLiterals.{listings_on_literals}

abbrev finish : List Token
finish = Identifier (codes "finish") ∷ []

-- none; an empty one; with its own `#`, spaces and carriage return
comments_read :
    (comment_of (codes "2: finish") ≡ None)
    × (comment_of (codes "2: finish#") ≡ Some [])
    × (comment_of (codes "2: finish # done # \r") ≡ Some (codes " done # \r"))
comments_read = (refl, refl, refl)

-- lines without tokens are passed over
lines_read : line_comments (lines_of (codes "# none\n1: return s\n  \n2: finish# done"))
    ≡ None ∷ Some (codes " done") ∷ []
lines_read = refl

-- an empty comment is not none
ends_written :
    commented_text (None ∷ Some [] ∷ Some (codes " done") ∷ []) (finish ∷ finish ∷ finish ∷ finish ∷ [])
    ≡ codes "finish\nfinish #\nfinish # done\nfinish\n"
ends_written = refl

-- comments of the header are not kept
done_read : commented_of
    (codes "kind seq # U\nscalar\nrow\nwords\nview s\nscan 1 # here\nupdate 2\n1: return s\n# between\n2: finish# done")
    ≡ Ok done
unfolding commented_of listings_on_literals
done_read = refl
