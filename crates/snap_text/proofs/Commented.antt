-- A comment at the end of a line: the line's tokens are those before it, and it is what is found as the line's comment.
use Rattle.std.proofs.Common.{◌≡◌, ℕ, Bool, true, not, List, [], ◌∷◌, ◌++◌, Some, None, nat_eq, codes, if◌then◌else◌}
use Rattle.std.proofs.Common.{refl, sym, ap, ◌∙◌, append-nil, append_assoc}
use Rattle.std.proofs.lemmas.Bool.{and_parts, and_from, cond-false, not-true}
use Rattle.std.specs.List.{AllByRecursion, list_all}
use Rattle.snap_semantics.specs.CanonicalText.{comment_end}
use Rattle.snap_semantics.specs.Comments.{Comment, IsCommentByte, IsComment, comment_of}
use Rattle.snap_semantics.specs.Layout.{line_to}
use Rattle.snap_semantics.specs.Token.{Token, Front, is_lexeme_byte, is_space, symbol_of, symbol_token, with_token}
use Rattle.snap_semantics.specs.Token.{with_different, begins_with, longer_lexeme}
use Rattle.snap_semantics.specs.Token.{no_lexeme, front_of, front_tokens, tokens_of}
use Rattle.snap_text.proofs.Before.{is_plain, is_bare}
use Rattle.snap_text.proofs.Ends.{line_ends}

-- a comment, and what parts it from its line
abbrev pub comment_text : Comment → List ℕ
comment_text None = []
comment_text (Some bytes) = codes " #" ++ bytes

end_is : (c : Comment) → comment_end c ≡ comment_text c ++ codes "\n"
end_is None = refl
end_is (Some bytes) = refl

-- a line with its comment, and what stands behind it
pub commented_line : (c : Comment) (ts : List Token) (rest : List ℕ) →
    line_to (comment_end c) ts ++ rest ≡ (line_to [] ts ++ comment_text c) ++ 10 ∷ rest
commented_line c ts rest =
    let line = line_to [] ts in
    ap (λ (z : List ℕ). z ++ rest) (line_ends (comment_end c) ts ∙ ap (λ (z : List ℕ). line ++ z) (end_is c)
    ∙ sym (append_assoc line (comment_text c) (codes "\n")))
    ∙ append_assoc (line ++ comment_text c) (codes "\n") rest

-- a byte before what stands behind it, which begins with `=` or doesn't
abbrev front_before : ℕ → Bool → Front → Front
front_before b equal behind =
    if is_lexeme_byte b then longer_lexeme b behind else
    if is_space b then no_lexeme (front_tokens behind) else
    if nat_eq b 35 then Some ([], []) else
    if nat_eq b 33 then (if equal then no_lexeme (with_different (front_tokens behind)) else None) else
    no_lexeme (with_token (symbol_token (symbol_of b)) (front_tokens behind))

equal_same : (xs bytes : List ℕ) → begins_with 61 (xs ++ 32 ∷ 35 ∷ bytes) ≡ begins_with 61 xs
equal_same [] bytes = refl
equal_same (x ∷ xs) bytes = refl

front_same : (xs bytes : List ℕ) → front_of (xs ++ 32 ∷ 35 ∷ bytes) ≡ front_of xs
front_same [] bytes = refl
front_same (b ∷ xs) bytes =
    ap (λ (w : Bool). front_before b w (front_of (xs ++ 32 ∷ 35 ∷ bytes))) (equal_same xs bytes)
    ∙ ap (front_before b (begins_with 61 xs)) (front_same xs bytes)

-- the tokens of a line are those before its comment
pub tokens_same : (xs : List ℕ) (c : Comment) → tokens_of (xs ++ comment_text c) ≡ tokens_of xs
tokens_same xs None = ap tokens_of (append-nil xs)
tokens_same xs (Some bytes) = ap front_tokens (front_same xs bytes)

-- the first `#` begins the comment
pub comment_found : (xs : List ℕ) (c : Comment) → list_all is_bare xs ≡ true → comment_of (xs ++ comment_text c) ≡ c
comment_found [] None h = refl
comment_found [] (Some bytes) h = refl
comment_found (b ∷ xs) c h =
    let parts = and_parts (is_bare b) (list_all is_bare xs) h in
    let other = not-true (nat_eq b 35) (and_parts (is_plain b) (not (nat_eq b 35)) parts.0).1 in
    cond-false (nat_eq b 35) (Some (xs ++ comment_text c)) (comment_of (xs ++ comment_text c)) other
    ∙ comment_found xs c parts.1

bytes_plain : (bytes : List ℕ) → AllByRecursion IsCommentByte bytes → list_all is_plain bytes ≡ true
bytes_plain [] h = refl
bytes_plain (b ∷ bytes) h = and_from (is_plain b) (list_all is_plain bytes) (ap not h.0) (bytes_plain bytes h.1)

-- no line feed stands in a comment
pub comment_plain : (c : Comment) → IsComment c → list_all is_plain (comment_text c) ≡ true
comment_plain None h = refl
comment_plain (Some bytes) h = bytes_plain bytes h.1
