-- Laws for the explanation of a refused input: how many lines precede a part, and which words precede a line, where
-- there are none.
use Rattle.std.proofs.Common.{◌≡◌, ℕ, List, [], ◌∷◌, ◌++◌, length, map, refl, ap, append-nil, None}
use Rattle.std.proofs.lemmas.List.{length-map}
use Rattle.snap_semantics.specs.Token.{Token, TextLine}
use Rattle.snap_explanation.specs.Steps.{view_placed_token, placed_tokens}
use Rattle.snap_explanation.specs.declared.pieces.PlacedToken as token
use Rattle.snap_text.specs.Tokens.{view_token}
use Rattle.snap_explanation.specs.Names.{words_before, tokens_of_placed}
use Rattle.snap_explanation.specs.Part.{lines_before}
use Rattle.snap_explanation.specs.Sorts.{names_of, source_in, of_sort}
use Rattle.snap_semantics.specs.declared.text.Sort.{Sort}
use Rattle.snap_semantics.specs.declared.text.Sort.TheVariants as sort
use Rattle.snap_words.specs.declared.kind.KindTag.{KindTag}

pub none_before : (before : ℕ) (parts : List (List ℕ)) → lines_before 0 before parts ≡ before
none_before before [] = refl
none_before before (p ∷ parts) = refl

pub no_words : (line : ℕ) (ls : List TextLine) → words_before line 0 ls ≡ []
no_words line [] = refl
no_words line (l ∷ ls) = refl

-- where no more lines are taken
pub exhausted : (line k : ℕ) (ws all : List (List ℕ)) (ls : List TextLine) → k ≡ 0 →
    ws ++ words_before line k ls ≡ all → ws ≡ all
exhausted line k ws all ls e h = rw (e, no_words, append-nil) at h

-- tokens are the same with their columns and without
pub same_tokens : (ts : List token.PlacedToken) → tokens_of_placed (map view_placed_token ts) ≡ placed_tokens ts
same_tokens [] = refl
same_tokens (t ∷ ts) = ap (λ (us : List Token). view_token t.token ∷ us) (same_tokens ts)

pub placed_length : (ts : List token.PlacedToken) → length (placed_tokens ts) ≡ length ts
placed_length ts = length-map ts (λ (t : token.PlacedToken). view_token t.token)

-- the names of a sort are those behind its words
pub names_of_sort : (k : KindTag) (ws : List (List ℕ)) (wanted : Sort) →
    of_sort (source_in k ws) wanted ≡ names_of wanted None ws
names_of_sort k ws sort.Scalar = refl
names_of_sort k ws _ = refl
