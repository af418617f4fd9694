-- What the rules for terms, conditions and tuples find is spelled as they found it, where its names have at most eight
-- letters, and has the forms that listings allow, where the tokens can stand in a text.
use Rattle.std.proofs.Common.{◌≡◌, ℕ, ◌≤◌, ◌++◌, length, take_all, sym, ◌∙◌, ap, append_assoc, arith, nat_eq, Bool}
use Rattle.std.proofs.Common.{true, false, List, [], ◌∷◌, Option, Some, None, bytes_eq, codes, if◌then◌else◌, refl}
use Rattle.std.proofs.Common.{subst}
use Rattle.snap_words.specs.declared.kind.Field.{Field}
use Rattle.snap_semantics.specs.declared.instr.Comparison.{Comparison}
use Rattle.snap_semantics.specs.declared.instr.Condition.{Condition}
use Rattle.snap_semantics.specs.declared.instr.Expr.{Expr}
use Rattle.snap_semantics.specs.declared.instr.Index.{Index}
use Rattle.snap_semantics.specs.declared.instr.Index.TheVariants as index
use Rattle.snap_semantics.specs.declared.instr.Join.{Join}
use Rattle.snap_semantics.specs.declared.instr.Join.TheVariants.{And, Or}
use Rattle.snap_semantics.specs.declared.instr.Term.{Term}
use Rattle.snap_semantics.specs.declared.text.Symbol.TheVariants as symbol
use Rattle.snap_semantics.specs.Rules.{number_at, identifier_at, keyword_at, symbol_at, end_at}
use Rattle.std.proofs.lemmas.Bool.{eqb-true}
use Rattle.std.proofs.lemmas.List.{length-take}
use Rattle.std.specs.Cmp.Lexicographic.{same_text}
use Rattle.std.specs.List.{AllByRecursion}
use Rattle.snap_semantics.specs.declared.instr.Range.{Range}
use Rattle.snap_semantics.specs.declared.instr.Relation.{Relation}
use Rattle.snap_semantics.specs.declared.text.Symbol.{Symbol}
use Rattle.snap_semantics.specs.ListingForms.{is_reserved, name_of_identifier, name_at, index_of_identifier}
use Rattle.snap_semantics.specs.ListingForms.{number_index, place_index, identifier_index, index_at, place_at}
use Rattle.snap_semantics.specs.ListingForms.{named_place_at, arg_term, row_term, field_of_keyword, field_term}
use Rattle.snap_semantics.specs.ListingForms.{handshake_term, index_term, term_at, not_expr, plus_expr, term_expr}
use Rattle.snap_semantics.specs.ListingForms.{expr_at, relation_at, comparison_at, join_keyword, joined_at, third_on}
use Rattle.snap_semantics.specs.ListingForms.{second_on, first_on, condition_at, where_at, range_at, target_at}
use Rattle.snap_semantics.specs.ListingForms.{pair_at, bit_bank_at, seq_tuple_at, bits_tuple_at, multi_tuple_at}
use Rattle.snap_semantics.specs.ListingForms.{triple_at, tuple_at}
use Rattle.snap_semantics.specs.Source.{Name}
use Rattle.snap_semantics.specs.Spelling.{in_brackets, spelled_index, spelled_place, field_keyword, spelled_term}
use Rattle.snap_semantics.specs.Spelling.{spelled_expr, spelled_relation, spelled_comparison, spelled_condition}
use Rattle.snap_semantics.specs.Spelling.{spelled_where, spelled_range, spelled_target, spelled_pair, bank_keyword}
use Rattle.snap_semantics.specs.Spelling.{spelled_tuple}
use Rattle.snap_semantics.specs.Token.{Token, Identifier, Number, Sign, symbol_byte, same_symbol}
use Rattle.snap_semantics.specs.Uses.{Use, Named, index_uses, term_uses, expr_uses, comparison_uses, condition_uses}
use Rattle.snap_semantics.specs.Uses.{where_uses, tuple_uses}
use Rattle.snap_listing.proofs.Alls.{all_first, all_rest}
use Rattle.snap_listing.proofs.HasTerms.{Holds, Finds, found, missed, on, first_of_two, when, so, Sounds}
use Rattle.snap_words.specs.declared.kind.KindTag.{KindTag}
use Rattle.snap_words.specs.declared.kind.KindTag.TheVariants as kind
use Rattle.snap_semantics.specs.declared.instr.BitBank.{BitBank}
use Rattle.snap_semantics.specs.declared.instr.Tuple.{Tuple}
use Rattle.snap_semantics.specs.declared.text.Sort.{Sort}
use Rattle.snap_semantics.specs.declared.text.Sort.TheVariants as sort
use Rattle.snap_semantics.specs.IsListing.{HasIndex, HasTerm, HasExpr, HasComparison, HasCondition, HasWhere}
use Rattle.snap_semantics.specs.IsListing.{HasTuple}
use Rattle.snap_text.specs.Tokens.{IsSound}

abbrev pub IsShort : Use → Type 0
IsShort (Named wanted x) = length x ≤ 8
IsShort _ = Unit {0}

abbrev pub Shorts : List Use → Type 0
Shorts us = AllByRecursion IsShort us

pub shorts_first : (us vs : List Use) → Shorts (us ++ vs) → Shorts us
shorts_first us vs h = all_first IsShort us vs h

pub shorts_rest : (us vs : List Use) → Shorts (us ++ vs) → Shorts vs
shorts_rest us vs h = all_rest IsShort us vs h

pub if_when : {A : Type 0} (P : A → Type 0) (b : Bool) (o p : Option A) → (b ≡ true → Holds P o) →
    Holds P p → Holds P (if b then o else p)
if_when P true o p g h = g refl
if_when P false o p g h = h

-- tokens, one sort behind the other
pub on_cons : (t : Token) (ts a b : List Token) → ts ≡ t ∷ a → a ≡ b → ts ≡ t ∷ b
on_cons t ts a b p q = p ∙ ap (λ (x : List Token). t ∷ x) q

abbrev pub WordIs : List Token → (List ℕ × List Token) → Type 0
WordIs ts x = ts ≡ Identifier x.0 ∷ x.1

pub word_is : (ts : List Token) → Holds (WordIs ts) (identifier_at ts)
word_is (Identifier w ∷ ts) = refl
word_is _ = tt

abbrev pub NumberIs : List Token → (ℕ × List Token) → Type 0
NumberIs ts x = ts ≡ Number x.0 ∷ x.1

pub number_is : (ts : List Token) → Holds (NumberIs ts) (number_at ts)
number_is (Number k ∷ ts) = refl
number_is _ = tt

abbrev pub KeywordIs : List ℕ → List Token → List Token → Type 0
KeywordIs x ts rest = ts ≡ Identifier x ∷ rest

pub same_word : (w x : List ℕ) (ts : List Token) → bytes_eq w x ≡ true → Identifier w ∷ ts ≡ Identifier x ∷ ts
same_word w x ts e = ap (λ (y : List ℕ). Identifier y ∷ ts) (same_text w x (sym e))

pub keyword_is : (x : List ℕ) (ts : List Token) → Holds (KeywordIs x ts) (keyword_at x ts)
keyword_is x (Identifier w ∷ ts) =
    if_when (KeywordIs x (Identifier w ∷ ts)) (bytes_eq w x) _ _ (λ e. same_word w x ts e) tt
keyword_is x _ = tt

-- the symbol with this byte
abbrev symbol_with : ℕ → Symbol
symbol_with b =
    if nat_eq b 58 then symbol.Colon else if nat_eq b 61 then symbol.Equal else if nat_eq b 33 then symbol.Different
    else if nat_eq b 60 then symbol.Less else
    if nat_eq b 43 then symbol.Plus else if nat_eq b 44 then symbol.Comma
    else if nat_eq b 40 then symbol.OpenParenthesis else
    if nat_eq b 41 then symbol.CloseParenthesis else if nat_eq b 91 then symbol.OpenBracket
    else if nat_eq b 93 then symbol.CloseBracket else
    if nat_eq b 64 then symbol.At else symbol.Star

symbol_back : (m : Symbol) → symbol_with (symbol_byte m) ≡ m
symbol_back symbol.Colon = refl
symbol_back _ = refl

same_marks : (m x : Symbol) → same_symbol m x ≡ true → m ≡ x
same_marks m x e =
    sym (symbol_back m) ∙ ap (λ (b : ℕ). symbol_with b) (eqb-true (symbol_byte m) (symbol_byte x) e) ∙ symbol_back x

abbrev pub SymbolIs : Symbol → List Token → List Token → Type 0
SymbolIs x ts rest = ts ≡ Sign x ∷ rest

pub symbol_is : (x : Symbol) (ts : List Token) → Holds (SymbolIs x ts) (symbol_at x ts)
symbol_is x (Sign m ∷ ts) =
    if_when (SymbolIs x (Sign m ∷ ts)) (same_symbol m x) _ _
    (λ e. ap (λ (y : Symbol). let us : List Token = Sign y ∷ ts in us) (same_marks m x e)) tt
symbol_is x _ = tt

abbrev pub EndIs : List Token → Unit {0} → Type 0
EndIs ts x = ts ≡ []

pub end_is : (ts : List Token) → Holds (EndIs ts) (end_at ts)
end_is [] = refl
end_is (t ∷ ts) = tt

-- tokens that sp spells in front of others, where what it uses has short names
pub record Reads (us : List Use) (ts sp rest : List Token) : Type 0 where
  pub spelled : Shorts us → ts ≡ sp ++ rest

pub unread : {ts : List Token} → Reads [] ts [] ts
unread = record { spelled = λ short. refl }

-- a part in front of another one, or of tokens that use nothing
infixr 20 ◌⊳◌
pub ◌⊳◌ : {us vs : List Use} {ts a b sp sq : List Token} → Reads us ts sp a → Reads vs a sq b →
    Reads (us ++ vs) ts (sp ++ sq) b
◌⊳◌ {us} {vs} {ts} {a} {b} {sp} {sq} h g = record {
  spelled = λ short.
      h.spelled (shorts_first us vs short) ∙ ap (λ (x : List Token). sp ++ x) (g.spelled (shorts_rest us vs short))
      ∙ sym (append_assoc sp sq b);
}

infixr 20 ◌▹◌
pub ◌▹◌ : {us : List Use} {ts a b sp sq : List Token} → Reads us ts sp a → Reads [] a sq b → Reads us ts (sp ++ sq) b
◌▹◌ {us} {ts} {a} {b} {sp} {sq} h g = record {
  spelled = λ short.
      h.spelled short ∙ ap (λ (x : List Token). sp ++ x) (g.spelled tt) ∙ sym (append_assoc sp sq b);
}

-- a use that is no name
pub unnamed : {us : List Use} {ts sp rest : List Token} {u : Use} → Reads us ts sp rest → Reads (u ∷ us) ts sp rest
unnamed h = record { spelled = λ short. h.spelled short.1 }

-- an identifier, by what it says
respelled : {us : List Use} {ts sp rest : List Token} {w : List ℕ} → Reads [] ts (Identifier w ∷ []) rest →
    (Shorts us → Identifier w ∷ [] ≡ sp) → Reads us ts sp rest
respelled {rest = rest} h e = record { spelled = λ short. h.spelled tt ∙ ap (λ (x : List Token). x ++ rest) (e short) }

-- What a rule has read: its spelling with its uses, and, where the tokens of the line can stand in a text (G), its form
-- and that those behind it can.
pub record Part (G : Type 0) (us : List Use) (ts sp : List Token) (Has : Type 0) (rest : List Token) : Type 0 where
  pub reads : Reads us ts sp rest
  pub has : G → Has
  pub sound : G → Sounds rest

pub part : {G Has : Type 0} {us : List Use} {ts sp rest : List Token} → Reads us ts sp rest → (G → Has) →
    (G → Sounds rest) → Part G us ts sp Has rest
part r h s = record { reads = r; has = h; sound = s }

-- a token
abbrev pub TokenPart : Type 0 → Token → List Token → List Token → Type 0
TokenPart G t ts rest = Part G [] ts (t ∷ []) (IsSound t) rest

token : {G : Type 0} {t : Token} {ts rest : List Token} → (G → Sounds ts) → ts ≡ t ∷ rest → TokenPart G t ts rest
token s e =
    part (record { spelled = λ short. e }) (λ g. let h = subst Sounds e (s g) in h.0)
    (λ g. let h = subst Sounds e (s g) in h.1)

pub sign : {G : Type 0} (m : Symbol) (ts : List Token) → (G → Sounds ts) →
    Finds (TokenPart G (Sign m) ts) (symbol_at m ts)
sign m ts s = so {Q = SymbolIs m ts} (record { holds = symbol_is m ts }) (λ rest e. token s e)

pub keyword : {G : Type 0} (w : List ℕ) (ts : List Token) → (G → Sounds ts) →
    Finds (TokenPart G (Identifier w) ts) (keyword_at w ts)
keyword w ts s = so {Q = KeywordIs w ts} (record { holds = keyword_is w ts }) (λ rest e. token s e)

abbrev NumberPart : Type 0 → List Token → (ℕ × List Token) → Type 0
NumberPart G ts x = TokenPart G (Number x.0) ts x.1

pub number : {G : Type 0} (ts : List Token) → (G → Sounds ts) → Finds (NumberPart G ts) (number_at ts)
number ts s = so {Q = NumberIs ts} (record { holds = number_is ts }) (λ x e. token s e)

abbrev WordPart : Type 0 → List Token → (List ℕ × List Token) → Type 0
WordPart G ts x = TokenPart G (Identifier x.0) ts x.1

pub word : {G : Type 0} (ts : List Token) → (G → Sounds ts) → Finds (WordPart G ts) (identifier_at ts)
word ts s = so {Q = WordIs ts} (record { holds = word_is ts }) (λ x e. token s e)

pub ending : (ts : List Token) → Finds (EndIs ts) (end_at ts)
ending ts = record { holds = end_is ts }

same_letters : (w x : List ℕ) → w ≡ x → Identifier w ∷ [] ≡ Identifier x ∷ []
same_letters w x e = ap (λ (y : List ℕ). let us : List Token = Identifier y ∷ [] in us) e

-- a name of at most eight letters is the whole identifier
abbrev NameOf : List ℕ → Name → Type 0
NameOf w x = length x ≤ 8 → w ≡ x

name_of : (w : List ℕ) → Finds (NameOf w) (name_of_identifier w)
name_of w =
    when (is_reserved w) (λ e. missed) (found (λ short.
    let n : length w ≤ 9 = omega (arith, length-take 9 w) in sym (take_all 9 w n)))

abbrev NamePart : Type 0 → Sort → List Token → (Name × List Token) → Type 0
NamePart G k ts x = Part G (Named k x.0 ∷ []) ts (Identifier x.0 ∷ []) (Unit {0}) x.1

pub name : {G : Type 0} (k : Sort) (ts : List Token) → (G → Sounds ts) → Finds (NamePart G k ts) (name_at ts)
unfolding name_at
name k ts s =
    on _ (word ts s) (λ w p. on _ (name_of w.0) (λ x h.
    found (part (respelled p.reads (λ short. same_letters w.0 x (h short.0))) (λ g. tt) p.sound)))

abbrev IndexPart : Type 0 → Bool → List Token → (Index × List Token) → Type 0
IndexPart G q ts x = Part G (index_uses x.0) ts (spelled_index x.0) (HasIndex q x.0) x.1

abbrev WordIndex : Bool → List ℕ → Index → Type 0
WordIndex q w i = (Shorts (index_uses i) → Identifier w ∷ [] ≡ spelled_index i) × HasIndex q i

word_index : (q : Bool) (w : List ℕ) → Finds (WordIndex q w) (index_of_identifier w)
word_index q w =
    when (bytes_eq w (codes "n")) (λ e. found (λ short. same_word w (codes "n") [] e, tt))
    (when (bytes_eq w (codes "w")) (λ e. found (λ short. same_word w (codes "w") [] e, tt))
    (when (bytes_eq w (codes "me")) (λ e. found (λ short. same_word w (codes "me") [] e, tt))
    (when (bytes_eq w (codes "word")) (λ e. found (λ short. same_word w (codes "word") [] e, tt))
    (on _ (name_of w) (λ x h. found (λ short. same_letters w x (h short.0), tt))))))

place_by : {G : Type 0} (q : Bool) (ts rest : List Token) → TokenPart G (Sign symbol.At) ts rest →
    Finds (IndexPart G q ts) (if q then Some (index.Place, rest) else None)
place_by true ts rest p = found (part p.reads (λ g. refl) p.sound)
place_by false ts rest p = missed

pub index_part : {G : Type 0} (q : Bool) (ts : List Token) → (G → Sounds ts) → Finds (IndexPart G q ts) (index_at q ts)
unfolding index_at number_index place_index identifier_index
index_part q ts s =
    first_of_two (on _ (number ts s) (λ k p. found p))
    (first_of_two (on _ (sign symbol.At ts s) (λ rest p. place_by q ts rest p))
    (on _ (word ts s) (λ w p. on _ (word_index q w.0) (λ i h.
    found (part (respelled p.reads h.0) (λ g. h.1) p.sound)))))

abbrev BracketPart : Type 0 → Bool → List Token → (Index × List Token) → Type 0
BracketPart G q ts x = Part G (index_uses x.0) ts (in_brackets (spelled_index x.0)) (HasIndex q x.0) x.1

pub bracket : {G : Type 0} (q : Bool) (ts : List Token) → (G → Sounds ts) → Finds (BracketPart G q ts) (place_at q ts)
unfolding place_at
bracket q ts s =
    on _ (sign symbol.OpenBracket ts s) (λ a o. on _ (index_part q a o.sound) (λ i h.
    on _ (sign symbol.CloseBracket i.1 h.sound) (λ b c. found (part (o.reads ⊳ h.reads ▹ c.reads) h.has c.sound))))

abbrev PlacePart : Type 0 → Sort → Bool → List Token → ((Name × Index) × List Token) → Type 0
PlacePart G k q ts x =
    Part G (Named k x.0.0 ∷ index_uses x.0.1) ts (spelled_place x.0.0 x.0.1) (HasIndex q x.0.1) x.1

pub place : {G : Type 0} (k : Sort) (q : Bool) (ts : List Token) → (G → Sounds ts) →
    Finds (PlacePart G k q ts) (named_place_at q ts)
unfolding named_place_at
place k q ts s =
    on _ (name k ts s) (λ x n. on _ (bracket q x.1 n.sound) (λ i h. found (part (n.reads ⊳ h.reads) h.has h.sound)))

abbrev TermPart : Type 0 → Bool → List Token → (Term × List Token) → Type 0
TermPart G q ts x = Part G (term_uses x.0) ts (spelled_term x.0) (HasTerm q x.0) x.1

abbrev FieldOf : List ℕ → Field → Type 0
FieldOf w f = Identifier w ∷ [] ≡ Identifier (field_keyword f) ∷ []

field_of : (w : List ℕ) → Finds (FieldOf w) (field_of_keyword w)
field_of w =
    when (bytes_eq w (codes "seq")) (λ e. found (same_word w (codes "seq") [] e))
    (when (bytes_eq w (codes "data")) (λ e. found (same_word w (codes "data") [] e))
    (when (bytes_eq w (codes "toggle")) (λ e. found (same_word w (codes "toggle") [] e))
    (when (bytes_eq w (codes "id")) (λ e. found (same_word w (codes "id") [] e)) missed)))

field_part : {G : Type 0} (q : Bool) (ts : List Token) → (G → Sounds ts) → Finds (TermPart G q ts) (field_term q ts)
unfolding field_term
field_part q ts s =
    on _ (word ts s) (λ w e. on _ (field_of w.0) (λ f g. on _ (sign symbol.OpenParenthesis w.1 e.sound) (λ a o.
    on _ (place sort.Words q a o.sound) (λ x h. on _ (sign symbol.CloseParenthesis x.1 h.sound) (λ b c.
    let keyword = respelled {us = []} e.reads (λ short. g) in
    found (part (unnamed (keyword ⊳ o.reads ⊳ h.reads ▹ c.reads)) h.has c.sound))))))

handshake_part : {G : Type 0} (q : Bool) (ts : List Token) → (G → Sounds ts) →
    Finds (TermPart G q ts) (handshake_term q ts)
unfolding handshake_term
handshake_part q ts s =
    on _ (keyword (codes "hand") ts s) (λ a w. on _ (sign symbol.OpenParenthesis a w.sound) (λ b o.
    on _ (place sort.Words q b o.sound) (λ x g. on _ (sign symbol.Comma x.1 g.sound) (λ c p.
    on _ (index_part q c p.sound) (λ j h. on _ (sign symbol.CloseParenthesis j.1 h.sound) (λ d e.
    found (part (unnamed (w.reads ⊳ o.reads ⊳ (g.reads ⊳ p.reads ⊳ h.reads) ▹ e.reads))
    (λ s. (g.has s, h.has s)) e.sound)))))))

pub term_part : {G : Type 0} (q : Bool) (ts : List Token) → (G → Sounds ts) → Finds (TermPart G q ts) (term_at q ts)
unfolding term_at arg_term row_term index_term
term_part q ts s =
    first_of_two (on _ (keyword (codes "arg") ts s) (λ rest w. found (part w.reads (λ g. tt) w.sound)))
    (first_of_two (on _ (place sort.Row q ts s) (λ x h. found h))
    (first_of_two (field_part q ts s)
    (first_of_two (handshake_part q ts s) (on _ (index_part q ts s) (λ i h. found h)))))

abbrev ExprPart : Type 0 → Bool → List Token → (Expr × List Token) → Type 0
ExprPart G q ts x = Part G (expr_uses x.0) ts (spelled_expr x.0) (HasExpr q x.0) x.1

pub expr_part : {G : Type 0} (q : Bool) (ts : List Token) → (G → Sounds ts) → Finds (ExprPart G q ts) (expr_at q ts)
unfolding expr_at not_expr term_expr plus_expr
expr_part q ts s =
    first_of_two (on _ (keyword (codes "not") ts s) (λ a w. on _ (term_part q a w.sound) (λ t h.
    found (part (w.reads ⊳ h.reads) h.has h.sound))))
    (on _ (term_part q ts s) (λ t h.
    first_of_two (on _ (sign symbol.Plus t.1 h.sound) (λ a p. on _ (term_part q a p.sound) (λ u g.
    found (part (h.reads ⊳ p.reads ⊳ g.reads) (λ s. (h.has s, g.has s)) g.sound))))
    (found h)))

abbrev RelationPart : Type 0 → List Token → (Relation × List Token) → Type 0
RelationPart G ts x = TokenPart G (spelled_relation x.0) ts x.1

relation_part : {G : Type 0} (ts : List Token) → (G → Sounds ts) → Finds (RelationPart G ts) (relation_at ts)
unfolding relation_at
relation_part ts s =
    first_of_two (on _ (sign symbol.Equal ts s) (λ rest p. found p))
    (first_of_two (on _ (sign symbol.Different ts s) (λ rest p. found p))
    (on _ (sign symbol.Less ts s) (λ rest p. found p)))

abbrev ComparisonPart : Type 0 → Bool → List Token → (Comparison × List Token) → Type 0
ComparisonPart G q ts x = Part G (comparison_uses x.0) ts (spelled_comparison x.0) (HasComparison q x.0) x.1

comparison_part : {G : Type 0} (q : Bool) (ts : List Token) → (G → Sounds ts) →
    Finds (ComparisonPart G q ts) (comparison_at q ts)
unfolding comparison_at
comparison_part q ts s =
    on _ (term_part q ts s) (λ t h. on _ (relation_part t.1 h.sound) (λ r p. on _ (term_part q r.1 p.sound) (λ u g.
    found (part (h.reads ⊳ p.reads ⊳ g.reads) (λ s. (h.has s, g.has s)) g.sound))))

-- a comparison behind `and` or `or`
abbrev JoinedPart : Type 0 → Bool → Join → List Token → (Comparison × List Token) → Type 0
JoinedPart G q j ts x =
    Part G (comparison_uses x.0) ts (Identifier (join_keyword j) ∷ spelled_comparison x.0) (HasComparison q x.0) x.1

joined_part : {G : Type 0} (q : Bool) (j : Join) (ts : List Token) → (G → Sounds ts) →
    Finds (JoinedPart G q j ts) (joined_at q j ts)
unfolding joined_at
joined_part q j ts s =
    on _ (keyword (join_keyword j) ts s) (λ a w.
    so (comparison_part q a w.sound) (λ k h. part (w.reads ⊳ h.reads) h.has h.sound))

abbrev ConditionPart : Type 0 → Bool → List Token → (Condition × List Token) → Type 0
ConditionPart G q ts x = Part G (condition_uses x.0) ts (spelled_condition x.0) (HasCondition q x.0) x.1

third_part : {G : Type 0} (q : Bool) (j : Join) (k l m : Comparison × List Token) (ts : List Token) →
    ComparisonPart G q ts k → JoinedPart G q j k.1 l → JoinedPart G q j l.1 m →
    Finds (ConditionPart G q ts) (third_on q j k.0 l.0 m.0 m.1)
unfolding third_on
third_part q j k l m ts a b c =
    first_of_two (on _ (joined_part q j m.1 c.sound) (λ o d.
    found (part (a.reads ⊳ b.reads ⊳ c.reads ⊳ d.reads) (λ s. (a.has s, b.has s, c.has s, d.has s)) d.sound)))
    (found (part (a.reads ⊳ b.reads ⊳ c.reads) (λ s. (a.has s, b.has s, c.has s)) c.sound))

second_part : {G : Type 0} (q : Bool) (j : Join) (k l : Comparison × List Token) (ts : List Token) →
    ComparisonPart G q ts k → JoinedPart G q j k.1 l → Finds (ConditionPart G q ts) (second_on q j k.0 l.0 l.1)
unfolding second_on
second_part q j k l ts a b =
    first_of_two (on _ (joined_part q j l.1 b.sound) (λ m c. third_part q j k l m ts a b c))
    (found (part (a.reads ⊳ b.reads) (λ s. (a.has s, b.has s)) b.sound))

pub condition : {G : Type 0} (q : Bool) (ts : List Token) → (G → Sounds ts) →
    Finds (ConditionPart G q ts) (condition_at q ts)
unfolding condition_at first_on
condition q ts s =
    on _ (comparison_part q ts s) (λ k a.
    first_of_two (on _ (joined_part q And k.1 a.sound) (λ l b. second_part q And k l ts a b))
    (first_of_two (on _ (joined_part q Or k.1 a.sound) (λ l b. second_part q Or k l ts a b)) (found a)))

abbrev WherePart : Type 0 → List Token → (Option Condition × List Token) → Type 0
WherePart G ts x = Part G (where_uses x.0) ts (spelled_where x.0) (HasWhere x.0) x.1

pub where_part : {G : Type 0} (ts : List Token) → (G → Sounds ts) → Finds (WherePart G ts) (where_at ts)
unfolding where_at
where_part ts s =
    first_of_two (on _ (keyword (codes "where") ts s) (λ a w. on _ (condition true a w.sound) (λ k h.
    found (part (w.reads ⊳ h.reads) h.has h.sound))))
    (found (part unread (λ g. tt) s))

abbrev RangePart : Type 0 → List Token → (Range × List Token) → Type 0
RangePart G ts x = TokenPart G (spelled_range x.0) ts x.1

pub range_part : {G : Type 0} (ts : List Token) → (G → Sounds ts) → Finds (RangePart G ts) (range_at ts)
unfolding range_at
range_part ts s =
    first_of_two (on _ (keyword (codes "n") ts s) (λ rest w. found w))
    (on _ (keyword (codes "w") ts s) (λ rest w. found w))

abbrev TargetPart : Type 0 → List Token → (ℕ × List Token) → Type 0
TargetPart G ts x = Part G [] ts (spelled_target x.0) (Unit {0}) x.1

pub target : {G : Type 0} (ts : List Token) → (G → Sounds ts) → Finds (TargetPart G ts) (target_at ts)
unfolding target_at
target ts s =
    on _ (keyword (codes "goto") ts s) (λ a w.
    so (number a w.sound) (λ k p. part (w.reads ⊳ p.reads) (λ g. tt) p.sound))

abbrev PairPart : Type 0 → List Token → ((Index × Index) × List Token) → Type 0
PairPart G ts x =
    Part G (index_uses x.0.0 ++ index_uses x.0.1) ts (spelled_pair x.0.0 x.0.1)
    (HasIndex false x.0.0 × HasIndex false x.0.1) x.1

pub pair : {G : Type 0} (ts : List Token) → (G → Sounds ts) → Finds (PairPart G ts) (pair_at ts)
unfolding pair_at
pair ts s =
    on _ (sign symbol.OpenBracket ts s) (λ a o. on _ (index_part false a o.sound) (λ i g.
    on _ (sign symbol.Comma i.1 g.sound) (λ b p. on _ (index_part false b p.sound) (λ j h.
    on _ (sign symbol.CloseBracket j.1 h.sound) (λ c e.
    found (part (o.reads ⊳ (g.reads ⊳ p.reads ⊳ h.reads) ▹ e.reads) (λ s. (g.has s, h.has s)) e.sound))))))

abbrev BankPart : Type 0 → List Token → (BitBank × List Token) → Type 0
BankPart G ts x = TokenPart G (Identifier (bank_keyword x.0)) ts x.1

pub bank_part : {G : Type 0} (ts : List Token) → (G → Sounds ts) → Finds (BankPart G ts) (bit_bank_at ts)
unfolding bit_bank_at
bank_part ts s =
    first_of_two (on _ (keyword (codes "q") ts s) (λ rest w. found w))
    (on _ (keyword (codes "p") ts s) (λ rest w. found w))

abbrev TuplePart : Type 0 → List Token → (Tuple × List Token) → Type 0
TuplePart G ts x = Part G (tuple_uses x.0) ts (spelled_tuple x.0) (HasTuple x.0) x.1

seq_part : {G : Type 0} (ts : List Token) → (G → Sounds ts) → Finds (TuplePart G ts) (seq_tuple_at ts)
unfolding seq_tuple_at
seq_part ts s =
    on _ (sign symbol.OpenParenthesis ts s) (λ a o. on _ (expr_part false a o.sound) (λ d g.
    on _ (sign symbol.Comma d.1 g.sound) (λ b p. on _ (expr_part false b p.sound) (λ q h.
    on _ (sign symbol.Comma q.1 h.sound) (λ c r. on _ (name sort.View c r.sound) (λ x n.
    on _ (sign symbol.CloseParenthesis x.1 n.sound) (λ e f.
    found (part (unnamed (o.reads ⊳ (g.reads ⊳ p.reads ⊳ h.reads ⊳ r.reads ⊳ n.reads) ▹ f.reads))
    (λ s. (g.has s, h.has s)) f.sound))))))))

bits_part : {G : Type 0} (ts : List Token) → (G → Sounds ts) → Finds (TuplePart G ts) (bits_tuple_at ts)
unfolding bits_tuple_at
bits_part ts s =
    on _ (sign symbol.OpenParenthesis ts s) (λ a o. on _ (expr_part false a o.sound) (λ d g.
    on _ (sign symbol.Comma d.1 g.sound) (λ b p. on _ (name sort.Row b p.sound) (λ y m.
    on _ (sign symbol.Comma y.1 m.sound) (λ c v. on _ (expr_part false c v.sound) (λ t h.
    on _ (sign symbol.Comma t.1 h.sound) (λ i r. on _ (name sort.View i r.sound) (λ x n.
    on _ (sign symbol.CloseParenthesis x.1 n.sound) (λ e f.
    let inner = g.reads ⊳ p.reads ⊳ m.reads ⊳ v.reads ⊳ h.reads ⊳ r.reads ⊳ n.reads in
    found (part (unnamed (o.reads ⊳ inner ▹ f.reads)) (λ s. (g.has s, h.has s)) f.sound))))))))))

multi_part : {G : Type 0} (ts : List Token) → (G → Sounds ts) → Finds (TuplePart G ts) (multi_tuple_at ts)
unfolding multi_tuple_at
multi_part ts s =
    on _ (sign symbol.OpenParenthesis ts s) (λ a o. on _ (expr_part false a o.sound) (λ d g.
    on _ (sign symbol.Comma d.1 g.sound) (λ b p. on _ (expr_part false b p.sound) (λ i h.
    on _ (sign symbol.Comma i.1 h.sound) (λ c r. on _ (expr_part false c r.sound) (λ t k.
    on _ (sign symbol.CloseParenthesis t.1 k.sound) (λ e f.
    found (part (unnamed (o.reads ⊳ (g.reads ⊳ p.reads ⊳ h.reads ⊳ r.reads ⊳ k.reads) ▹ f.reads))
    (λ s. (g.has s, h.has s, k.has s)) f.sound))))))))

triple_part : {G : Type 0} (k : KindTag) (ts : List Token) → (G → Sounds ts) → Finds (TuplePart G ts) (triple_at k ts)
unfolding triple_at
triple_part kind.Seq ts s = first_of_two (seq_part ts s) (multi_part ts s)
triple_part kind.Bits ts s = multi_part ts s
triple_part kind.Multi ts s = multi_part ts s

pub tuple_part : {G : Type 0} (k : KindTag) (ts : List Token) → (G → Sounds ts) →
    Finds (TuplePart G ts) (tuple_at k ts)
unfolding tuple_at
tuple_part k ts s = first_of_two (bits_part ts s) (triple_part k ts s)
