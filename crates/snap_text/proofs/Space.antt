-- Whether a line has tokens, by its first byte after the space
-- at its front: it has none where that byte begins a comment.
use Rattle.std.proofs.Common.{◌≡◌, ℕ, suc, ◌+◌, ◌<◌, Bool, true, false, not, List, [], ◌∷◌, drop, get_or, drop-cons}
use Rattle.std.proofs.Common.{length, Option, Some, None, if◌then◌else◌, refl, sym}
use Rattle.std.proofs.Common.{ap, ◌∙◌, add-one, nat_eq, arith, subst}
use Rattle.std.proofs.lemmas.Bool.{ne_eqb}
use Rattle.std.proofs.lemmas.Grind.{common_steps}
use Rattle.snap_semantics.specs.Token.{Token, Front, is_lexeme_byte, is_space, symbol_of, symbol_token, lexeme_token}
use Rattle.snap_semantics.specs.Token.{with_token, with_different, front_of, front_tokens}
use Rattle.snap_semantics.specs.Token.{longer_lexeme, no_lexeme, begins_with, tokens_of}
use Rattle.snap_text.specs.Tokens.{has_tokens}
use Rattle.snap_text.proofs.Lexemes.{no_lexeme_tokens, space_first}

has_token : (t : Option Token) (o : Option (List Token)) → has_tokens (with_token t o) ≡ true
has_token None o = refl
has_token (Some t) None = refl
has_token (Some t) (Some ts) = refl

has_different : (o : Option (List Token)) → has_tokens (with_different o) ≡ true
has_different None = refl
has_different (Some []) = refl
has_different (Some (t ∷ ts)) = refl

has_lexeme : (b : ℕ) (f : Front) → has_tokens (front_tokens (longer_lexeme b f)) ≡ true
has_lexeme b None = refl
has_lexeme b (Some r) = has_token (lexeme_token (b ∷ r.0)) (Some r.1)

has_no_lexeme : (o : Option (List Token)) → has_tokens o ≡ true → has_tokens (front_tokens (no_lexeme o)) ≡ true
has_no_lexeme o h = ap has_tokens (no_lexeme_tokens o) ∙ h

has_by : (b : ℕ) (bs : List ℕ) (w s c d e : Bool) (f : Front) (t : Option Token) → (w ≡ true → c ≡ false) → s ≡ false →
    has_tokens (front_tokens (if w then longer_lexeme b (front_of bs) else if s then f else if c then Some ([], []) else
    if d then (if e then no_lexeme (with_different (tokens_of bs)) else None)
    else no_lexeme (with_token t (tokens_of bs))))
    ≡ not c
has_by b bs true s c d e f t h i = has_lexeme b (front_of bs) ∙ sym (ap not (h refl))
has_by b bs false true c d e f t h i = absurd cc
has_by b bs false false true d e f t h i = refl
has_by b bs false false false true true f t h i =
    has_no_lexeme (with_different (tokens_of bs)) (has_different (tokens_of bs))
has_by b bs false false false true false f t h i = refl
has_by b bs false false false false e f t h i = has_no_lexeme (with_token t (tokens_of bs)) (has_token t (tokens_of bs))

lexeme_is_no_comment : (b : ℕ) → is_lexeme_byte b ≡ true → nat_eq b 35 ≡ false
lexeme_is_no_comment b lexeme =
    ne_eqb b 35 (λ is. let no : false ≡ true = subst (λ (x : ℕ). is_lexeme_byte x ≡ true) is lexeme in absurd cc)

space_is_no_lexeme : (b : ℕ) → is_space b ≡ true → is_lexeme_byte b ≡ false
space_is_no_lexeme b space = grind (arith, common_steps, space)

-- behind the space at its front, a line is more than space where no comment begins
pub not_space : (line : List ℕ) (k : ℕ) → k < length line → is_space (get_or line k 0) ≡ false →
    has_tokens (tokens_of (drop k line)) ≡ not (nat_eq (get_or line k 0) 35)
not_space line k h space =
    let b = get_or line k 0 in
    ap (λ (xs : List ℕ). has_tokens (tokens_of xs)) (drop-cons line k 0 h)
    ∙ has_by b (drop (suc k) line) (is_lexeme_byte b) (is_space b) (nat_eq b 35) (nat_eq b 33)
    (begins_with 61 (drop (suc k) line)) _ (symbol_token (symbol_of b))
    (lexeme_is_no_comment b) space

-- space at the front of a line
pub space_more : (line : List ℕ) (k : ℕ) → k < length line → is_space (get_or line k 0) ≡ true →
    tokens_of (drop (k + 1) line) ≡ tokens_of (drop k line)
space_more line k h space =
    rw add-one (sym (ap tokens_of (drop-cons line k 0 h)
    ∙ space_first (get_or line k 0 ∷ drop (suc k) line) 0 (omega arith)
    (space_is_no_lexeme (get_or line k 0) space) space))
