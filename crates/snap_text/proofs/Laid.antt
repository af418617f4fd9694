-- Lines that are laid out are read as the tokens that were laid out, and with their comments.
use Rattle.std.proofs.Common.{◌≡◌, ℕ, ◌+◌, Bool, true, false, ◌&&◌, List, [], ◌∷◌, ◌++◌, length, Option, Some, codes}
use Rattle.std.proofs.Common.{if◌then◌else◌, refl, sym, ap, ◌∙◌, subst, arith}
use Rattle.std.proofs.lemmas.Bool.{and_from}
use Rattle.std.proofs.lemmas.List.Folds.{list_all-append}
use Rattle.std.specs.List.{AllByRecursion, list_all}
use Rattle.snap_semantics.specs.CanonicalText.{comment_end, commented_text}
use Rattle.snap_semantics.specs.Comments.{Comment, IsComment, first_comment, other_comments}
use Rattle.snap_semantics.specs.Comments.{comment_of, with_comment, line_comments}
use Rattle.snap_semantics.specs.Layout.{token_text, depth_behind, parts_behind, parts_before, gap}
use Rattle.snap_semantics.specs.Layout.{layout, line_to, line_text, lines_text}
use Rattle.snap_semantics.specs.Token.{Token, Identifier, Number, Sign, tokens_of, lines_of, numbered}
use Rattle.snap_text.specs.Laws.{IsSoundLine, ReadsCommented, ReadsLaidOut}
use Rattle.snap_text.specs.Lines.{line_tokens, found_lines}
use Rattle.snap_text.specs.Tokens.{IsSound}
use Rattle.snap_text.proofs.Before.{is_plain, is_bare, bare_plain, line_before, numbered_before}
use Rattle.snap_text.proofs.Commented.{comment_text, commented_line, tokens_same, comment_found, comment_plain}
use Rattle.snap_text.proofs.Printed.{is_sign, Reads, space, reads_end, reads_first}
use Rattle.snap_text.proofs.Printed.{reads_more, token_bare, space_bare, joined_bare}

-- the tokens behind one, laid out without an end
abbrev laid : ℕ → Token → List Token → List ℕ
laid depth t us = layout [] depth t us

-- whether a space stands between two tokens
abbrev are_parted : ℕ → Token → Token → Bool
are_parted depth t u = parts_behind depth t && parts_before t u

gap_by : (b c : Bool) → (if b then (if c then codes " " else []) else []) ≡ space (b && c)
gap_by true true = refl
gap_by true false = refl
gap_by false c = refl

gap_is : (depth : ℕ) (t u : Token) → gap depth t u ≡ space (are_parted depth t u)
gap_is depth t u = gap_by (parts_behind depth t) (parts_before t u)

-- identifiers and numbers are parted
both_parted : (depth : ℕ) (t u : Token) → is_sign t ≡ false → is_sign u ≡ false → are_parted depth t u ≡ true
both_parted depth (Identifier w) (Identifier v) e d = refl
both_parted depth (Identifier w) (Number k) e d = refl
both_parted depth (Number j) (Identifier v) e d = refl
both_parted depth (Number j) (Number k) e d = refl
both_parted depth (Sign m) u e d = absurd cc
both_parted depth (Identifier w) (Sign m) e d = absurd cc
both_parted depth (Number j) (Sign m) e d = absurd cc

laid_reads : (depth : ℕ) (t : Token) (us : List Token) → AllByRecursion IsSound us → Reads t (laid depth t us) us
laid_reads depth t [] h = reads_end t
laid_reads depth t (u ∷ us) h =
    let behind = laid (depth_behind depth t u) u us in
    subst (λ (g : List ℕ). Reads t (g ++ (token_text u ++ behind)) (u ∷ us)) (sym (gap_is depth t u))
    (reads_more t u (are_parted depth t u) behind us (both_parted depth t u) h.0
    (laid_reads (depth_behind depth t u) u us h.1))

laid_bare : (depth : ℕ) (t : Token) (us : List Token) → AllByRecursion IsSound us →
    list_all is_bare (laid depth t us) ≡ true
laid_bare depth t [] h = refl
laid_bare depth t (u ∷ us) h =
    let behind = laid (depth_behind depth t u) u us in
    joined_bare (gap depth t u) (token_text u ++ behind)
    (ap (list_all is_bare) (gap_is depth t u) ∙ space_bare (are_parted depth t u))
    (joined_bare (token_text u) behind (token_bare u h.0) (laid_bare (depth_behind depth t u) u us h.1))

-- a line that is laid out: no line feed and no `#` stands in it, and it has these tokens
record IsLaid (line : List ℕ) (t : Token) (ts : List Token) : Type 0 where
  bare : list_all is_bare line ≡ true
  tokens : tokens_of line ≡ Some (t ∷ ts)

line_laid : (t : Token) (ts : List Token) → IsSound t → AllByRecursion IsSound ts → IsLaid (line_to [] (t ∷ ts)) t ts
line_laid t ts h hs =
    record {
      bare = joined_bare (token_text t) (laid 0 t ts) (token_bare t h) (laid_bare 0 t ts hs);
      tokens = reads_first t (laid 0 t ts) ts h (laid_reads 0 t ts hs);
    }

-- the first of the lines, and the others
lines_laid : (c : Comment) (t : Token) (ts : List Token) (rest : List ℕ) →
    IsComment c → IsSound t → AllByRecursion IsSound ts →
    lines_of (line_to (comment_end c) (t ∷ ts) ++ rest) ≡ (line_to [] (t ∷ ts) ++ comment_text c) ∷ lines_of rest
lines_laid c t ts rest good h hs =
    let line = line_to [] (t ∷ ts) in
    let plain = bare_plain line (line_laid t ts h hs).bare in
    let all = list_all-append is_plain line (comment_text c)
    ∙ and_from (list_all is_plain line) (list_all is_plain (comment_text c)) plain (comment_plain c good) in
    ap lines_of (commented_line c (t ∷ ts) rest) ∙ line_before (line ++ comment_text c) rest all

first_good : (cs : List Comment) → AllByRecursion IsComment cs → IsComment (first_comment cs)
first_good [] h = tt
first_good (c ∷ cs) h = h.0

others_good : (cs : List Comment) → AllByRecursion IsComment cs → AllByRecursion IsComment (other_comments cs)
others_good [] h = tt
others_good (c ∷ cs) h = h.1

-- the tokens of lines with comments
tokens_laid : (k : ℕ) (cs : List Comment) (lines : List (List Token)) →
    AllByRecursion IsComment cs → AllByRecursion IsSoundLine lines →
    line_tokens (numbered k (lines_of (commented_text cs lines))) ≡ found_lines lines
tokens_laid k cs [] good h = refl
tokens_laid k cs ([] ∷ lines) good h = absurd (let no = h.0.0 in cc)
tokens_laid k cs ((t ∷ ts) ∷ lines) good h =
    let c = first_comment cs in
    let line = line_to [] (t ∷ ts) in
    let rest = commented_text (other_comments cs) lines in
    let tokens = tokens_same line c ∙ (line_laid t ts h.0.1.0 h.0.1.1).tokens in
    ap (λ (ls : List (List ℕ)). line_tokens (numbered k ls))
    (lines_laid c t ts rest (first_good cs good) h.0.1.0 h.0.1.1)
    ∙ ap line_tokens (numbered_before k (line ++ comment_text c) (lines_of rest) t ts tokens)
    ∙ ap (λ (ls : List (Option (List Token))). Some (t ∷ ts) ∷ ls)
    (tokens_laid (k + 1) (other_comments cs) lines (others_good cs good) h.1)

-- the comments of lines that are laid out
comments_laid : (cs : List Comment) (lines : List (List Token)) → length cs ≡ length lines →
    AllByRecursion IsComment cs → AllByRecursion IsSoundLine lines →
    line_comments (lines_of (commented_text cs lines)) ≡ cs
comments_laid [] [] e good h = refl
comments_laid [] (ts ∷ lines) e good h = absurd (omega (arith, e))
comments_laid (c ∷ cs) [] e good h = absurd (omega (arith, e))
comments_laid (c ∷ cs) ([] ∷ lines) e good h = absurd (let no = h.0.0 in cc)
comments_laid (c ∷ cs) ((t ∷ ts) ∷ lines) e good h =
    let line = line_to [] (t ∷ ts) in
    let is_laid = line_laid t ts h.0.1.0 h.0.1.1 in
    let rest = commented_text cs lines in
    let others = line_comments (lines_of rest) in
    ap line_comments (lines_laid c t ts rest good.0 h.0.1.0 h.0.1.1)
    ∙ ap (λ (o : Option (List Token)). with_comment o (comment_of (line ++ comment_text c)) others)
    (tokens_same line c ∙ is_laid.tokens)
    ∙ ap (λ (d : Comment). d ∷ others) (comment_found line c is_laid.bare)
    ∙ ap (λ (ds : List Comment). c ∷ ds) (comments_laid cs lines (omega (arith, e)) good.1 h.1)

-- the lines of a text that was laid out with comments
pub commented_read : ReadsCommented
commented_read cs lines e good h = (tokens_laid 1 cs lines good h, comments_laid cs lines e good h)

-- lines for which there are no comments
uncommented_text : (lines : List (List Token)) → commented_text [] lines ≡ lines_text lines
uncommented_text [] = refl
uncommented_text (ts ∷ lines) = ap (λ (z : List ℕ). line_text ts ++ z) (uncommented_text lines)

-- the lines of a text that was laid out without comments
pub laid_read : ReadsLaidOut
laid_read lines h =
    ap (λ (z : List ℕ). line_tokens (numbered 1 (lines_of z))) (sym (uncommented_text lines))
    ∙ tokens_laid 1 [] lines tt h
