-- The comments of the lines of a text: one for each line with tokens, and each can stand in a text.
use Rattle.std.proofs.Common.{◌≡◌, ℕ, suc, ◌+◌, ◌≤◌, List, [], ◌∷◌, length, Option, Some, None, nat_eq, refl, ap, arith}
use Rattle.std.proofs.lemmas.Bool.{cond_both}
use Rattle.std.specs.List.{AllByRecursion}
use Rattle.snap_semantics.specs.Comments.{Comment, IsCommentByte, IsComment, comment_of, with_comment, line_comments}
use Rattle.snap_semantics.specs.Token.{Token, TextLine, tokens_of, onto_line, lines_of, with_line, numbered}

one_more : (k : ℕ) (o : Option (List Token)) (c : Comment) (cs : List Comment) (lines : List TextLine) →
    length cs ≡ length lines → length (with_comment o c cs) ≡ length (with_line k o lines)
one_more k None c cs lines e = ap suc e
one_more k (Some []) c cs lines e = e
one_more k (Some (t ∷ ts)) c cs lines e = ap suc e

-- a comment, or none, for each line with tokens
pub comments_each : (k : ℕ) (lines : List (List ℕ)) → length (line_comments lines) ≡ length (numbered k lines)
comments_each k [] = refl
comments_each k (line ∷ lines) =
    one_more k (tokens_of line) (comment_of line) (line_comments lines)
    (numbered (k + 1) lines) (comments_each (k + 1) lines)

-- a line of a text that has so many bytes
abbrev IsWithin : ℕ → List ℕ → Type 0
IsWithin most line = (length line ≤ most) × AllByRecursion IsCommentByte line

within_more : (most : ℕ) (lines : List (List ℕ)) → AllByRecursion (IsWithin most) lines →
    AllByRecursion (IsWithin (suc most)) lines
within_more most [] h = tt
within_more most (line ∷ lines) h = let fits = h.0.0 in ((omega (arith, fits), h.0.1), within_more most lines h.1)

onto_within : (b most : ℕ) (lines : List (List ℕ)) → IsCommentByte b → AllByRecursion (IsWithin most) lines →
    AllByRecursion (IsWithin (suc most)) (onto_line b lines)
onto_within b most [] h g = ((omega arith, (h, tt)), tt)
onto_within b most (line ∷ lines) h g =
    let fits = g.0.0 in
    ((omega (arith, fits), (h, g.0.1)), within_more most lines g.1)

lines_within : (text : List ℕ) → AllByRecursion (IsWithin (length text)) (lines_of text)
lines_within [] = tt
lines_within (b ∷ bytes) =
    let rest = lines_within bytes in
    cond_both (nat_eq b 10) ([] ∷ lines_of bytes) (onto_line b (lines_of bytes))
    (AllByRecursion (IsWithin (suc (length bytes))))
    (λ e. ((omega arith, tt), within_more (length bytes) (lines_of bytes) rest)) (λ e.
    onto_within b (length bytes) (lines_of bytes) e rest)

-- the `#` is one of the bytes
comment_good : (line : List ℕ) → length line ≤ 65536 → AllByRecursion IsCommentByte line → IsComment (comment_of line)
comment_good [] fits h = tt
comment_good (b ∷ bytes) fits h =
    cond_both (nat_eq b 35) (Some bytes) (comment_of bytes) IsComment (λ e. (omega (arith, fits), h.1))
    (λ e. comment_good bytes (omega (arith, fits)) h.1)

with_good : (o : Option (List Token)) (c : Comment) (cs : List Comment) → IsComment c → AllByRecursion IsComment cs →
    AllByRecursion IsComment (with_comment o c cs)
with_good None c cs h g = (h, g)
with_good (Some []) c cs h g = g
with_good (Some (t ∷ ts)) c cs h g = (h, g)

lines_good : (most : ℕ) (lines : List (List ℕ)) → most ≤ 65536 → AllByRecursion (IsWithin most) lines →
    AllByRecursion IsComment (line_comments lines)
lines_good most [] small h = tt
lines_good most (line ∷ lines) small h =
    let fits = h.0.0 in
    with_good (tokens_of line) (comment_of line) (line_comments lines)
    (comment_good line (omega (arith, fits, small)) h.0.1) (lines_good most lines small h.1)

-- the comments of a text
pub comments_good : (text : List ℕ) → length text ≤ 65536 → AllByRecursion IsComment (line_comments (lines_of text))
comments_good text small = lines_good (length text) (lines_of text) small (lines_within text)
