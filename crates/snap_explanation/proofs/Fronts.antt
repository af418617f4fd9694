-- A line with its first piece taken off: how its tokens with their columns, `placed_from`, go on after a lexeme, a
-- symbol or a byte that begins no token.
use Rattle.std.proofs.Common.{◌≡◌, ℕ, ◌+◌, ◌<◌, List, [], ◌∷◌, ◌++◌, length, take, drop, get_or}
use Rattle.std.proofs.Common.{Some, None, refl, ap, ◌∙◌, arith, true, false, Bool, ◌&&◌, ◌||◌, nat_eq, add-one}
use Rattle.std.proofs.Common.{inl, inr, append-nil, append_assoc}
use Rattle.std.proofs.lemmas.Bool.{and_parts, cases_Bool, eqb-true, ne_eqb}
use Rattle.snap_semantics.specs.Token.{Token, begins_with, is_lexeme_byte, tokens_of}
use Rattle.snap_text.specs.Tokens.{lexeme_len}
use Rattle.snap_explanation.specs.Pieces.{PlacedToken, PlacedTokens, is_joined, onto_piece, pieces_of}
use Rattle.snap_explanation.specs.Pieces.{piece_len, first_placed, placed_from}

-- tokens before others
abbrev pub before_placed : List PlacedToken → PlacedTokens → PlacedTokens
before_placed ts p = record { tokens = ts ++ p.tokens; stray = p.stray }

-- whether two bytes side by side are of one piece
abbrev are_joined : ℕ → ℕ → Bool
are_joined b c = (is_lexeme_byte b && is_lexeme_byte c) || (nat_eq b 33 && nat_eq 61 c)

onto_apart : (b c : ℕ) (ps : List (List ℕ)) → are_joined b c ≡ false →
    onto_piece b (onto_piece c ps) ≡ (b ∷ []) ∷ onto_piece c ps
onto_apart b c [] e = rw e refl
onto_apart b c (piece ∷ ps) e = elim (cases_Bool (is_joined c piece)) [
  | inl h ↦ rw (h, e) refl
  | inr h ↦ rw (h, e) refl
]

-- a byte that is not joined to the one behind it is a piece
apart : (b c : ℕ) (cs : List ℕ) → are_joined b c ≡ false →
    onto_piece b (pieces_of (c ∷ cs)) ≡ (b ∷ []) ∷ pieces_of (c ∷ cs)
apart b c cs e = elim (cases_Bool (nat_eq c 35)) [
  | inl h ↦ rw h refl
  | inr h ↦ rw h (onto_apart b c (pieces_of cs) e)
]

lexeme_is : (b k : ℕ) → is_lexeme_byte b ≡ true → is_lexeme_byte k ≡ false → nat_eq b k ≡ false
lexeme_is b k e f = ne_eqb b k (λ same. let joined : is_lexeme_byte k ≡ true = rw same at e in cc)

-- where no comment begins
with_byte : (b : ℕ) (bs : List ℕ) → nat_eq b 35 ≡ false → pieces_of (b ∷ bs) ≡ onto_piece b (pieces_of bs)
with_byte b bs e = rw e refl

-- a lexeme is one piece
lexeme_piece : (b : ℕ) (bs : List ℕ) → is_lexeme_byte b ≡ true →
    onto_piece b (pieces_of bs) ≡ (b ∷ take (lexeme_len bs) bs) ∷ pieces_of (drop (lexeme_len bs) bs)
lexeme_piece b [] e = refl
lexeme_piece b (c ∷ cs) e = elim (cases_Bool (is_lexeme_byte c)) [
  | inl f ↦ let plain = lexeme_is c 35 f refl in rw (f, add-one, plain, lexeme_piece c cs f, e, f) refl
  | inr f ↦ let other = lexeme_is b 33 e refl in rw f (apart b c cs (rw (e, f, other) refl))
]

-- `=` is a piece
equal_alone : (cs : List ℕ) → onto_piece 61 (pieces_of cs) ≡ (61 ∷ []) ∷ pieces_of cs
equal_alone [] = refl
equal_alone (c ∷ cs) = apart 61 c cs refl

other_piece : (b : ℕ) (bs : List ℕ) → is_lexeme_byte b ≡ false → (nat_eq b 33 && begins_with 61 bs) ≡ false →
    onto_piece b (pieces_of bs) ≡ (b ∷ []) ∷ pieces_of bs
other_piece b [] e f = refl
other_piece b (c ∷ cs) e f = apart b c cs (rw e f)

-- the byte behind a mark that begins `!=`
different_by : (b : ℕ) (bs : List ℕ) → (nat_eq b 33 && begins_with 61 bs) ≡ true →
    onto_piece b (pieces_of bs) ≡ take 2 (b ∷ bs) ∷ pieces_of (drop 2 (b ∷ bs))
different_by b [] e = grind arith
different_by b (c ∷ cs) e =
    let h = and_parts (nat_eq b 33) (nat_eq 61 c) e in
    rw (eqb-true b 33 h.0, ← eqb-true 61 c h.1) (ap (onto_piece 33) (equal_alone cs))

by_byte : (b : ℕ) (bs : List ℕ) →
    onto_piece b (pieces_of bs) ≡ take (piece_len (b ∷ bs)) (b ∷ bs) ∷ pieces_of (drop (piece_len (b ∷ bs)) (b ∷ bs))
by_byte b bs = elim (cases_Bool (is_lexeme_byte b)) [
  | inl e ↦ rw (e, add-one) (lexeme_piece b bs e)
  | inr e ↦ elim (cases_Bool (nat_eq b 33 && begins_with 61 bs)) [
    | inl f ↦ rw (e, f) (different_by b bs f)
    | inr f ↦ rw (e, f) (other_piece b bs e f)
  ]
]

-- the first piece of a line that no comment begins, and those behind it
first_piece : (bs : List ℕ) (d : ℕ) → 0 < length bs → nat_eq (get_or bs 0 d) 35 ≡ false →
    pieces_of bs ≡ take (piece_len bs) bs ∷ pieces_of (drop (piece_len bs) bs)
first_piece [] d h e = absurd (omega arith)
first_piece (b ∷ bs) d h e = with_byte b bs e ∙ by_byte b bs

-- tokens, and then a byte that begins none
abbrev stray_behind : List PlacedToken → ℕ → PlacedTokens
stray_behind ts column = record { tokens = ts; stray = Some column }

-- the first piece is no token
pub ends_here : (rest piece : List ℕ) (n column d : ℕ) (out : List PlacedToken) (all : PlacedTokens) →
    0 < length rest → nat_eq (get_or rest 0 d) 35 ≡ false →
    n ≡ piece_len rest → piece ≡ take n rest → tokens_of piece ≡ None →
    before_placed out (placed_from column (pieces_of rest)) ≡ all → stray_behind out column ≡ all
ends_here rest piece n column d out all some h len front e inv =
    let none : tokens_of (take (piece_len rest) rest) ≡ None = cc in
    rw (first_piece rest d some h, none, append-nil) at inv

-- the first piece is a token, or space
pub goes_on : (rest piece after : List ℕ) (n column d : ℕ) (out longer : List PlacedToken) (ts : List Token)
    (all : PlacedTokens) → 0 < length rest → nat_eq (get_or rest 0 d) 35 ≡ false →
    n ≡ piece_len rest → piece ≡ take n rest → after ≡ drop n rest → tokens_of piece ≡ Some ts →
    longer ≡ out ++ first_placed column ts → before_placed out (placed_from column (pieces_of rest)) ≡ all →
    before_placed longer (placed_from (column + length piece) (pieces_of after)) ≡ all
goes_on rest piece after n column d out longer ts all some h len front back e more inv =
    let found : tokens_of (take (piece_len rest) rest) ≡ Some ts = cc in
    rw (more, back, front, len, append_assoc) (rw (first_piece rest d some h, found) at inv)
