-- The tokens of a line from its front: the token of a lexeme of
-- letters and digits, or of a symbol, and then the tokens after it.
use Rattle.std.proofs.Common.{◌≡◌, ℕ, ◌+◌, ◌-◌, ◌<◌, Bool, true, false, List, [], ◌∷◌, ◌++◌, take, drop, Option, Some}
use Rattle.std.proofs.Common.{None, if◌then◌else◌, refl, sym, ap, ◌∙◌, add-one, nat_eq, append_assoc, length, get_or}
use Rattle.std.proofs.Common.{arith, ◌≢◌, ◌⊎◌, inl, inr, subst}
use Rattle.std.proofs.lemmas.List.{map-append}
use Rattle.std.proofs.lemmas.Bool.{eq-eqb, ne_eqb}
use Rattle.std.proofs.lemmas.Bool.Decides.{eqb_tells}
use Rattle.snap_semantics.specs.declared.text.Symbol.{Symbol}
use Rattle.snap_semantics.specs.declared.text.Symbol.TheVariants as symbol
use Rattle.snap_semantics.specs.Token.{Token, Sign, Front, is_lexeme_byte, is_space, symbol_of, symbol_token}
use Rattle.snap_semantics.specs.Token.{lexeme_token, with_token, with_different, front_of, front_tokens}
use Rattle.snap_semantics.specs.Token.{longer_lexeme, no_lexeme, begins_with, tokens_of}
use Rattle.snap_text.specs.declared.lexer.Token as code
use Rattle.snap_text.proofs.Splits.{behind}
use Rattle.snap_text.specs.Tokens.{Finds, lexeme_len, marked, different, front_symbol, view_token, view_tokens}

-- tokens before others
abbrev pub prepend : List Token → Option (List Token) → Option (List Token)
prepend xs None = None
prepend xs (Some ts) = Some (xs ++ ts)

-- a lexeme before tokens
abbrev pub ran : List ℕ → Option (List Token) → Front
ran lexeme None = None
ran lexeme (Some ts) = Some (lexeme, ts)

ran_more : (b : ℕ) (lexeme : List ℕ) (o : Option (List Token)) → longer_lexeme b (ran lexeme o) ≡ ran (b ∷ lexeme) o
ran_more b lexeme None = refl
ran_more b lexeme (Some ts) = refl

pub no_lexeme_tokens : (o : Option (List Token)) → front_tokens (no_lexeme o) ≡ o
no_lexeme_tokens None = refl
no_lexeme_tokens (Some ts) = refl

no_lexeme_ran : (o : Option (List Token)) → no_lexeme o ≡ ran [] (front_tokens (no_lexeme o))
no_lexeme_ran None = refl
no_lexeme_ran (Some ts) = refl

-- what a byte that is of no lexeme makes of the tokens behind it
abbrev other : ℕ → List ℕ → Front
other b bs =
    if is_space b then no_lexeme (front_tokens (front_of bs)) else
    if nat_eq b 35 then Some ([], []) else
    if nat_eq b 33
    then (if begins_with 61 bs then no_lexeme (with_different (front_tokens (front_of bs))) else None) else
    no_lexeme (with_token (symbol_token (symbol_of b)) (front_tokens (front_of bs)))

abbrev other_front : Bool → Bool → Bool → Bool → Option (List Token) → Option (List Token) → Option (List Token) → Front
other_front s c d e x y z =
    if s then no_lexeme x else if c then Some ([], []) else if d then (if e then no_lexeme y else None) else no_lexeme z

other_by : (s c d e : Bool) (x y z : Option (List Token)) →
    other_front s c d e x y z ≡ ran [] (front_tokens (other_front s c d e x y z))
other_by true c d e x y z = no_lexeme_ran x
other_by false true d e x y z = refl
other_by false false true true x y z = no_lexeme_ran y
other_by false false true false x y z = refl
other_by false false false e x y z = no_lexeme_ran z

pub front_lexeme : (bs : List ℕ) → front_of bs ≡ ran (take (lexeme_len bs) bs) (tokens_of (drop (lexeme_len bs) bs))
front_lexeme [] = refl
front_lexeme (b ∷ bs) =
    elim (is_lexeme_byte b) as (λ w. is_lexeme_byte b ≡ w →
    (if w then longer_lexeme b (front_of bs) else other b bs) ≡ ran (take (if w then lexeme_len bs + 1 else 0) (b ∷ bs))
    (tokens_of (drop (if w then lexeme_len bs + 1 else 0) (b ∷ bs)))) [
      | true ↦
          λ e. rw add-one (ap (longer_lexeme b) (front_lexeme bs)
          ∙ ran_more b (take (lexeme_len bs) bs) (tokens_of (drop (lexeme_len bs) bs)))
      | false ↦ λ e.
          other_by (is_space b) (nat_eq b 35) (nat_eq b 33) (begins_with 61 bs) (front_tokens (front_of bs))
          (with_different (front_tokens (front_of bs)))
          (with_token (symbol_token (symbol_of b)) (front_tokens (front_of bs)))
          ∙ ap (λ (w : Bool). ran [] (front_tokens (if w then longer_lexeme b (front_of bs) else other b bs))) (sym e)
    ] refl

with_none : (o : Option Token) → None ≡ with_token o None
with_none None = refl
with_none (Some t) = refl

ran_tokens : (b : ℕ) (lexeme : List ℕ) (o : Option (List Token)) →
    front_tokens (ran (b ∷ lexeme) o) ≡ with_token (lexeme_token (b ∷ lexeme)) o
ran_tokens b lexeme (Some ts) = refl
ran_tokens b lexeme None = with_none (lexeme_token (b ∷ lexeme))

first_lexeme_by : (b : ℕ) (bs : List ℕ) (w : Bool) (o : Option (List Token)) → w ≡ true →
    front_tokens (ran (take (if w then lexeme_len bs + 1 else 0) (b ∷ bs)) o)
    ≡ with_token (lexeme_token (take (if w then lexeme_len bs + 1 else 0) (b ∷ bs))) o
first_lexeme_by b bs true o e = rw add-one (ran_tokens b (take (lexeme_len bs) bs) o)
first_lexeme_by b bs false o e = absurd cc

-- a line that begins with a lexeme: the lexeme's token, and the tokens after it
pub first_lexeme : (bs : List ℕ) (d : ℕ) → 0 < length bs → is_lexeme_byte (get_or bs 0 d) ≡ true →
    tokens_of bs ≡ with_token (lexeme_token (take (lexeme_len bs) bs)) (tokens_of (drop (lexeme_len bs) bs))
first_lexeme [] d h e = absurd (omega arith)
first_lexeme (b ∷ bs) d h e =
    ap front_tokens (front_lexeme (b ∷ bs))
    ∙ first_lexeme_by b bs (is_lexeme_byte b) (tokens_of (drop (lexeme_len (b ∷ bs)) (b ∷ bs))) e

pub prepend_more : (xs : List Token) (t : Token) (o : Option (List Token)) →
    prepend (xs ++ t ∷ []) o ≡ prepend xs (with_token (Some t) o)
prepend_more xs t None = refl
prepend_more xs t (Some ts) = ap (λ (ys : List Token). Some ys) (append_assoc xs (t ∷ []) ts)

-- a turn of the loop at a token
pub turn : (bytes rest after : List ℕ) (out out' : List code.Token) (t : code.Token) →
    prepend (view_tokens out) (tokens_of rest) ≡ tokens_of bytes →
    tokens_of rest ≡ with_token (Some (view_token t)) (tokens_of after) → out' ≡ out ++ t ∷ [] →
    prepend (view_tokens out') (tokens_of after) ≡ tokens_of bytes
turn bytes rest after out out' t so_far first more =
    ap (λ (xs : List code.Token). prepend (view_tokens xs) (tokens_of after)) more
    ∙ ap (λ (xs : List Token). prepend xs (tokens_of after)) (map-append view_token out (t ∷ []))
    ∙ prepend_more (view_tokens out) (view_token t) (tokens_of after)
    ∙ ap (prepend (view_tokens out)) (sym first) ∙ so_far

-- where the rest has no tokens, the line has none
pub stop : (bytes rest : List ℕ) (out : List code.Token) →
    prepend (view_tokens out) (tokens_of rest) ≡ tokens_of bytes → tokens_of rest ≡ None → None ≡ tokens_of bytes
stop bytes rest out so_far none = ap (prepend (view_tokens out)) (sym none) ∙ so_far

lexeme_found : (lexeme : List ℕ) (r : Option code.Token) (t : code.Token) → Finds view_token r (lexeme_token lexeme) →
    r ≡ Some t → lexeme_token lexeme ≡ Some (view_token t)
lexeme_found lexeme r t finds is = subst (λ (o : Option code.Token). Finds view_token o (lexeme_token lexeme)) is finds

lexeme_none : (lexeme : List ℕ) (r : Option code.Token) → Finds view_token r (lexeme_token lexeme) →
    r ≡ None → lexeme_token lexeme ≡ None
lexeme_none lexeme r finds is = subst (λ (o : Option code.Token). Finds view_token o (lexeme_token lexeme)) is finds

-- the first token is that of the lexeme
pub lexeme_first : (rest lexeme after : List ℕ) (n d : ℕ) (r : Option code.Token) (t : code.Token) →
    0 < length rest → is_lexeme_byte (get_or rest 0 d) ≡ true → lexeme ≡ take n rest →
    after ≡ drop n rest → n ≡ lexeme_len rest → Finds view_token r (lexeme_token lexeme) → r ≡ Some t →
    tokens_of rest ≡ with_token (Some (view_token t)) (tokens_of after)
lexeme_first rest lexeme after n d r t some w is_lexeme is_after is_n finds is =
    first_lexeme rest d some w
    ∙ ap (λ (k : ℕ). with_token (lexeme_token (take k rest)) (tokens_of (drop k rest))) (sym is_n)
    ∙ ap (λ (xs : List ℕ). with_token (lexeme_token xs) (tokens_of (drop n rest))) (sym is_lexeme)
    ∙ ap (λ (xs : List ℕ). with_token (lexeme_token lexeme) (tokens_of xs)) (sym is_after)
    ∙ ap (λ (o : Option Token). with_token o (tokens_of after)) (lexeme_found lexeme r t finds is)

-- a lexeme that is no token
pub lexeme_stops : (rest lexeme : List ℕ) (n d : ℕ) (r : Option code.Token) → 0 < length rest →
    is_lexeme_byte (get_or rest 0 d) ≡ true → lexeme ≡ take n rest → n ≡ lexeme_len rest →
    Finds view_token r (lexeme_token lexeme) → r ≡ None → tokens_of rest ≡ None
lexeme_stops rest lexeme n d r some w is_lexeme is_n finds is =
    first_lexeme rest d some w
    ∙ ap (λ (k : ℕ). with_token (lexeme_token (take k rest)) (tokens_of (drop k rest))) (sym is_n)
    ∙ ap (λ (xs : List ℕ). with_token (lexeme_token xs) (tokens_of (drop n rest))) (sym is_lexeme)
    ∙ ap (λ (o : Option Token). with_token o (tokens_of (drop n rest))) (lexeme_none lexeme r finds is)

space_by : (b : ℕ) (bs : List ℕ) (w s : Bool) (f : Front) → w ≡ false → s ≡ true →
    front_tokens (if w then longer_lexeme b (front_of bs) else if s then no_lexeme (tokens_of bs) else f) ≡ tokens_of bs
space_by b bs true s f e g = absurd cc
space_by b bs false true f e g = no_lexeme_tokens (tokens_of bs)
space_by b bs false false f e g = absurd cc

-- space before tokens
pub space_first : (bs : List ℕ) (d : ℕ) → 0 < length bs → is_lexeme_byte (get_or bs 0 d) ≡ false →
    is_space (get_or bs 0 d) ≡ true → tokens_of bs ≡ tokens_of (drop 1 bs)
space_first [] d some w s = absurd (omega arith)
space_first (b ∷ bs) d some w s = space_by b bs (is_lexeme_byte b) (is_space b) _ w s

-- the tokens from a symbol on
abbrev pub signed : Option (Symbol × List ℕ) → Option (List Token)
signed None = None
signed (Some x) = with_token (Some (Sign x.0)) (tokens_of x.1)

equal_then : (c : ℕ) (cs : List ℕ) → c ≡ 61 → tokens_of (c ∷ cs) ≡ with_token (Some (Sign symbol.Equal)) (tokens_of cs)
equal_then c cs e =
    subst (λ (x : ℕ). tokens_of (x ∷ cs) ≡ with_token (Some (Sign symbol.Equal)) (tokens_of cs)) (sym e)
    (no_lexeme_tokens (with_token (Some (Sign symbol.Equal)) (tokens_of cs)))

with_different_for : (o : Option (List Token)) →
    with_different (with_token (Some (Sign symbol.Equal)) o) ≡ with_token (Some (Sign symbol.Different)) o
with_different_for None = refl
with_different_for (Some ts) = refl

different_by : (c : ℕ) (cs : List ℕ) (x y : Bool) → ((y ≡ true) × (c ≡ 61)) ⊎ (y ≡ false) → x ≡ y →
    front_tokens (if x then no_lexeme (with_different (tokens_of (c ∷ cs))) else None)
    ≡ signed (if y then Some (symbol.Different, cs) else None)
different_by c cs true true (inl h) e =
    no_lexeme_tokens (with_different (tokens_of (c ∷ cs))) ∙ ap with_different (equal_then c cs h.1)
    ∙ with_different_for (tokens_of cs)
different_by c cs false false h e = refl
different_by c cs true true (inr h) e = absurd cc
different_by c cs true false h e = absurd cc
different_by c cs false true h e = absurd cc

is_equal : (c : ℕ) → ((nat_eq c 61 ≡ true) × (c ≡ 61)) ⊎ ((nat_eq c 61 ≡ false) × (c ≢ 61)) →
    ((nat_eq c 61 ≡ true) × (c ≡ 61)) ⊎ (nat_eq c 61 ≡ false)
is_equal c (inl h) = inl h
is_equal c (inr h) = inr h.0

nat_eq-sym : (a b : ℕ) → ((nat_eq a b ≡ true) × (a ≡ b)) ⊎ ((nat_eq a b ≡ false) × (a ≢ b)) → nat_eq a b ≡ nat_eq b a
nat_eq-sym a b (inl h) = h.0 ∙ sym (eq-eqb b a (sym h.1))
nat_eq-sym a b (inr h) = h.0 ∙ sym (ne_eqb b a (λ e. h.1 (sym e)))

different_first : (bs : List ℕ) →
    front_tokens (if begins_with 61 bs then no_lexeme (with_different (tokens_of bs)) else None) ≡ signed (different bs)
different_first [] = refl
different_first (c ∷ cs) =
    different_by c cs (nat_eq 61 c) (nat_eq c 61) (is_equal c (eqb_tells c 61)) (nat_eq-sym 61 c (eqb_tells 61 c))

sign_by : (b : ℕ) (bs : List ℕ) (w s c e : Bool) (f : Front) (o : Option Symbol) → w ≡ false → s ≡ false → c ≡ false →
    front_tokens (if w then longer_lexeme b (front_of bs) else if s then f else if c then Some ([], []) else
    if e then (if begins_with 61 bs then no_lexeme (with_different (tokens_of bs)) else None)
    else no_lexeme (with_token (symbol_token o) (tokens_of bs)))
    ≡ signed (if e then different bs else marked bs o)
sign_by b bs true s c e f o i j k = absurd cc
sign_by b bs false true c e f o i j k = absurd cc
sign_by b bs false false true e f o i j k = absurd cc
sign_by b bs false false false true f o i j k = different_first bs
sign_by b bs false false false false f None i j k = refl
sign_by b bs false false false false f (Some m) i j k = no_lexeme_tokens (with_token (Some (Sign m)) (tokens_of bs))

-- a line that begins with neither: its symbol, and the tokens after it
pub sign_first : (bs : List ℕ) (d : ℕ) → 0 < length bs → is_lexeme_byte (get_or bs 0 d) ≡ false →
    is_space (get_or bs 0 d) ≡ false → get_or bs 0 d ≢ 35 → tokens_of bs ≡ signed (front_symbol bs)
sign_first [] d some w s c = absurd (omega arith)
sign_first (b ∷ bs) d some w s c =
    sign_by b bs (is_lexeme_byte b) (is_space b) (nat_eq b 35) (nat_eq b 33) _ (symbol_of b) w s (ne_eqb b 35 c)

-- a turn of the loop at a space
pub space_turn : (bytes rest : List ℕ) (out : List code.Token) (d : ℕ) →
    prepend (view_tokens out) (tokens_of rest) ≡ tokens_of bytes →
    0 < length rest → is_lexeme_byte (get_or rest 0 d) ≡ false → is_space (get_or rest 0 d) ≡ true →
    prepend (view_tokens out) (tokens_of (take (length rest - 1) (drop 1 rest))) ≡ tokens_of bytes
space_turn bytes rest out d so_far some w s =
    ap (λ (xs : List ℕ). prepend (view_tokens out) (tokens_of xs)) (behind rest 1)
    ∙ ap (prepend (view_tokens out)) (sym (space_first rest d some w s)) ∙ so_far

-- the first token is that of the symbol
pub sign_is_first : {A : Type 0} (view : A → Symbol × List ℕ) (r : Option A) (x : A) (rest : List ℕ) (d : ℕ) →
    Finds view r (front_symbol rest) → r ≡ Some x → 0 < length rest →
    is_lexeme_byte (get_or rest 0 d) ≡ false → is_space (get_or rest 0 d) ≡ false → get_or rest 0 d ≢ 35 →
    tokens_of rest ≡ with_token (Some (Sign (view x).0)) (tokens_of (view x).1)
sign_is_first view r x rest d finds is some w s c =
    sign_first rest d some w s c ∙ ap signed (subst (λ o. Finds view o (front_symbol rest)) is finds)
