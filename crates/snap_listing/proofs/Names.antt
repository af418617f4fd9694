-- The reader's loop over the names of a header line of a listing:
-- one name further, a name that is refused, and no more names.
use Rattle.std.proofs.Common.{◌≡◌, ℕ, ◌+◌, ◌<◌, add-one, drop, get_or, drop-cons, map, ◌∙◌, sym, Bool, true, false}
use Rattle.std.proofs.Common.{List, [], ◌∷◌, ◌++◌, length, Some, None, Result, Ok, Err}
use Rattle.std.proofs.Common.{nat_le, if◌then◌else◌, refl, ap, append_assoc}
use Rattle.std.proofs.lemmas.List.{append-nil}
use Rattle.std.specs.List.{list_all}
use Rattle.snap_semantics.specs.declared.refusal.ListingRefusal.{ListingRefusal}
use Rattle.snap_semantics.specs.declared.refusal.ListingRefusal.TheVariants as refusal
use Rattle.snap_semantics.specs.Answers.{◌>>=◌}
use Rattle.snap_semantics.specs.HeaderForms.{words_form}
use Rattle.snap_semantics.specs.Listing.{is_bad_name, new_names}
use Rattle.snap_semantics.specs.Source.{Name}
use Rattle.snap_semantics.specs.Uses.{is_among}
use Rattle.snap_listing.specs.ReaderSteps.{is_identifier, letters_of, new_name, onto}
use Rattle.snap_text.specs.declared.lexer.Token.{Token}
use Rattle.snap_text.specs.declared.lexer.Token.TheVariants as given
use Rattle.snap_text.specs.Tokens.{view_tokens}

-- where all tokens are identifiers, their letters are these
pub words_found : (ts : List Token) → list_all is_identifier ts ≡ true →
    words_form (view_tokens ts) ≡ Some (map letters_of ts)
words_found [] e = refl
words_found (given.Identifier w ∷ ts) e = rw (words_found ts e)
words_found (given.Number k ∷ ts) e = absurd cc
words_found (given.Sign m ∷ ts) e = absurd cc

pub words_missed : (ts : List Token) → list_all is_identifier ts ≡ false → words_form (view_tokens ts) ≡ None
words_missed [] e = absurd cc
words_missed (given.Identifier w ∷ ts) e = rw (words_missed ts e)
words_missed (given.Number k ∷ ts) e = refl
words_missed (given.Sign m ∷ ts) e = refl

names_by : (a b c : Bool) (d e f : ListingRefusal) (w : Name) (next : Name → Result (List Name) ListingRefusal) →
    (if a then Err d else if b then Err e else if c then Err f else next w)
    ≡ ((if a then Err d else if b then Err e else if c then Err f else Ok w) >>= next)
names_by true b c d e f w next = refl
names_by false true c d e f w next = refl
names_by false false true d e f w next = refl
names_by false false false d e f w next = refl

-- the first name, and then the others behind it
new_names_on : (line : ℕ) (known : List Name) (w : List ℕ) (ws : List (List ℕ)) →
    new_names line known (w ∷ ws)
    ≡ (new_name line known w >>= λ name. new_names line (known ++ name ∷ []) ws >>= λ names. Ok (name ∷ names))
new_names_on line known w ws =
    names_by (is_bad_name w) (is_among w known) (nat_le 32 (length known)) (refusal.BadName line)
    (refusal.NameTwice line) (refusal.TooMany line) w
    (λ name. new_names line (known ++ name ∷ []) ws >>= λ names. Ok (name ∷ names))

onto_more : (names : List Name) (name : Name) (more : Result (List Name) ListingRefusal) →
    onto (names ++ name ∷ []) more ≡ onto names (more >>= λ xs. Ok (name ∷ xs))
onto_more names name (Ok xs) =
    ap (λ (ys : List Name). let r : Result (List Name) ListingRefusal = Ok ys in r) (append_assoc names (name ∷ []) xs)
onto_more names name (Err e) = refl

-- one name further
pub name_more : (line : ℕ) (names known : List Name) (w : List ℕ) (ws : List (List ℕ)) (name : Name) →
    new_name line known w ≡ Ok name →
    onto (names ++ name ∷ []) (new_names line (known ++ name ∷ []) ws) ≡ onto names (new_names line known (w ∷ ws))
name_more line names known w ws name e =
    onto_more names name (new_names line (known ++ name ∷ []) ws)
    ∙ ap (λ (r : Result Name ListingRefusal).
    onto names (r >>= λ x. new_names line (known ++ x ∷ []) ws >>= λ xs. Ok (x ∷ xs))) (sym e)
    ∙ ap (λ (r : Result (List Name) ListingRefusal). onto names r) (sym (new_names_on line known w ws))

-- a name that is refused
pub name_refused : (line : ℕ) (names known : List Name) (w : List ℕ) (ws : List (List ℕ)) (e : ListingRefusal) →
    new_name line known w ≡ Err e → onto names (new_names line known (w ∷ ws)) ≡ Err e
name_refused line names known w ws e refused =
    ap (λ (r : Result (List Name) ListingRefusal). onto names r) (new_names_on line known w ws)
    ∙ ap (λ (r : Result Name ListingRefusal).
    onto names (r >>= λ x. new_names line (known ++ x ∷ []) ws >>= λ xs. Ok (x ∷ xs))) refused

-- no more names
pub names_end : (line : ℕ) (names known : List Name) → onto names (new_names line known []) ≡ Ok names
names_end line names known =
    ap (λ (xs : List Name). let r : Result (List Name) ListingRefusal = Ok xs in r) (append-nil names)

tokens_more : (ts : List Token) (k : ℕ) (d : Token) → k < length ts →
    map letters_of (drop k ts) ≡ letters_of (get_or ts k d) ∷ map letters_of (drop (k + 1) ts)
tokens_more ts k d h = rw (add-one, drop-cons ts k d)

-- the name of the token at k
pub names_step : (line : ℕ) (names names' known known' : List Name) (ts : List Token) (k : ℕ)
    (d : Token) (w : List ℕ) (name : Name) → k < length ts → w ≡ letters_of (get_or ts k d) →
    Ok name ≡ new_name line known w → names' ≡ names ++ name ∷ [] → known' ≡ known ++ name ∷ [] →
    onto names' (new_names line known' (map letters_of (drop (k + 1) ts)))
    ≡ onto names (new_names line known (map letters_of (drop k ts)))
names_step line names names' known known' ts k d w name h o e p q =
    let ws = map letters_of (drop (k + 1) ts) in
    ap (λ (xs : List Name). onto xs (new_names line known' ws)) p
    ∙ ap (λ (xs : List Name). onto (names ++ name ∷ []) (new_names line xs ws)) q
    ∙ name_more line names known w ws name (sym e)
    ∙ ap (λ (x : List ℕ). onto names (new_names line known (x ∷ ws))) o
    ∙ ap (λ (us : List (List ℕ)). onto names (new_names line known us)) (sym (tokens_more ts k d h))

pub names_stop : (line : ℕ) (names known : List Name) (ts : List Token) (k : ℕ) (d : Token) (w : List ℕ)
    (e : ListingRefusal) → k < length ts → w ≡ letters_of (get_or ts k d) → Err e ≡ new_name line known w →
    onto names (new_names line known (map letters_of (drop k ts))) ≡ Err e
names_stop line names known ts k d w e h o refused =
    ap (λ (us : List (List ℕ)). onto names (new_names line known us)) (tokens_more ts k d h)
    ∙ ap (λ (x : List ℕ). onto names (new_names line known (x ∷ map letters_of (drop (k + 1) ts)))) (sym o)
    ∙ name_refused line names known w (map letters_of (drop (k + 1) ts)) e (sym refused)

pub added_on : (known known' before names names' : List Name) (name : Name) → known ≡ before ++ names →
    known' ≡ known ++ name ∷ [] → names' ≡ names ++ name ∷ [] → known' ≡ before ++ names'
added_on known known' before names names' name p q r =
    q ∙ ap (λ (xs : List Name). xs ++ name ∷ []) p ∙ append_assoc before names (name ∷ [])
    ∙ ap (λ (xs : List Name). before ++ xs) (sym r)
