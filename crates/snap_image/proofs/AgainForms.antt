-- What an image says is read from it again: indices, terms, expressions and conditions.
use Rattle.std.proofs.Common.{◌≡◌, ℕ, Bool, true, false, ◌&&◌, List, [], ◌∷◌, ◌++◌, Option, Some, None, nat_eq, nat_le}
use Rattle.std.proofs.Common.{if◌then◌else◌, refl, sym, ap, subst}
use Rattle.std.specs.Int.{w64, to_be_bytes}
use Rattle.snap_words.specs.declared.kind.Field.{Field}
use Rattle.snap_words.specs.declared.kind.Field.TheVariants as field
use Rattle.snap_image.specs.declared.image.ExprTag.{ExprTag}
use Rattle.snap_image.specs.declared.image.ExprTag.TheVariants as etag
use Rattle.snap_image.specs.declared.image.TermTag.{TermTag}
use Rattle.snap_image.specs.declared.image.TermTag.TheVariants as tag
use Rattle.snap_semantics.specs.declared.instr.Comparison.{Comparison}
use Rattle.snap_semantics.specs.declared.instr.Condition.{Condition}
use Rattle.snap_semantics.specs.declared.instr.Condition.TheVariants.{One, Two, Three, Four}
use Rattle.snap_semantics.specs.declared.instr.Expr.{Expr}
use Rattle.snap_semantics.specs.declared.instr.Expr.TheVariants as expr
use Rattle.snap_semantics.specs.declared.instr.Index.{Index}
use Rattle.snap_semantics.specs.declared.instr.Index.TheVariants as index
use Rattle.snap_semantics.specs.declared.instr.Join.{Join}
use Rattle.snap_semantics.specs.declared.instr.Join.TheVariants as join
use Rattle.snap_semantics.specs.declared.instr.Relation.{Relation}
use Rattle.snap_semantics.specs.declared.instr.Relation.TheVariants as relation
use Rattle.snap_semantics.specs.declared.instr.Term.{Term}
use Rattle.snap_semantics.specs.declared.instr.Term.TheVariants as term
use Rattle.snap_image.specs.Image.{slot, index_image, field_tag, term_image, expr_image, comparison_image}
use Rattle.snap_image.specs.Image.{condition_image, where_image}
use Rattle.snap_image.specs.ImageCodes.{of_code, terms, exprs, relations, joins}
use Rattle.snap_image.specs.ImageCodes.{expr_code, term_code, relation_code, join_code}
use Rattle.snap_image.specs.ImageForms.{Rest, expr_of_tag, byte_in, number_index, scalar_index, index_of_tag, index_in}
use Rattle.snap_image.specs.ImageForms.{row_term, field_term, handshake_term, index_term, term_of_tag, term_in}
use Rattle.snap_image.specs.ImageForms.{plain_expr, sum_expr, not_expr, expr_in, comparison_in, two_in, three_in}
use Rattle.snap_image.specs.ImageForms.{four_in, one_in, comparisons_in, count_in, condition_in, flag_in, where_of_flag}
use Rattle.snap_image.specs.ImageForms.{where_in}
use Rattle.snap_semantics.specs.IsListing.{HasIndex, HasTerm, HasExpr, HasComparison, HasCondition, HasWhere}
use Rattle.snap_semantics.specs.Listing.{with_lines}
use Rattle.snap_semantics.specs.RightUses.{IsRight}
use Rattle.snap_semantics.specs.Source.{Name, Source}
use Rattle.snap_semantics.specs.Uses.{Use, FieldUse, HandshakeUse, index_uses, term_uses, expr_uses, comparison_uses}
use Rattle.snap_semantics.specs.Uses.{condition_uses, where_uses}
use Rattle.snap_image.proofs.AgainParts.{Gives, then_gives, gives_if, Again, one_again, two_again, three_again}
use Rattle.snap_image.proofs.AgainParts.{four_again, byte_again, a_long, known_again, a_code, coded_again, a_scalar}
use Rattle.snap_image.proofs.AgainParts.{a_row, some_words, Right, allowed_then, nothing_again, then_again}
use Rattle.snap_image.proofs.SaidForms.{flag_byte}
use Rattle.snap_listing.proofs.Alls.{all_first, all_rest}

count_again : (n : ℕ) → (nat_le 1 n && nat_le n 4) ≡ true → (after : List ℕ) (r : Rest) →
    r.bytes ≡ n ∷ after → Gives (count_in r) n after
unfolding count_in
count_again n few after r e =
    then_gives n after (byte_in r) _ n after (byte_again n after r e)
    (λ t p. known_again r.passed t (if nat_le 1 n && nat_le n 4 then Some n else None) n after
    (ap (λ (b : Bool). if b then Some n else None) few) p)

-- what stands before the lines of a listing; with it they are read
abbrev pub head : Source → Source
head g = with_lines [] g

-- of what two parts speak of
pub first : (g : Source) (us vs : List Use) → Right g (us ++ vs) → Right g us
first g us vs h = all_first (IsRight g) us vs h

pub rest : (g : Source) (us vs : List Use) → Right g (us ++ vs) → Right g vs
rest g us vs h = all_rest (IsRight g) us vs h

term_coded : (t : TermTag) → of_code terms (term_code t) ≡ Some t
term_coded tag.Number = refl
term_coded _ = refl

relation_coded : (k : Relation) → of_code relations (relation_code k) ≡ Some k
relation_coded relation.Equal = refl
relation_coded _ = refl

join_coded : (j : Join) → of_code joins (join_code j) ≡ Some j
join_coded join.And = refl
join_coded join.Or = refl

-- the tag of an index, and what stands behind it
abbrev index_tag : Index → TermTag
index_tag (index.Number k) = tag.Number
index_tag index.Processes = tag.Processes
index_tag index.Words = tag.Words
index_tag index.Me = tag.Me
index_tag index.Word = tag.Word
index_tag index.Place = tag.Place
index_tag (index.Scalar x) = tag.Scalar

abbrev index_said : Source → Index → List ℕ
index_said g (index.Number k) = to_be_bytes w64 k
index_said g (index.Scalar x) = slot g.scalars x ∷ []
index_said g _ = []

index_parts : (g : Source) (i : Index) → index_image g i ≡ term_code (index_tag i) ∷ index_said g i
index_parts g (index.Number k) = refl
index_parts g _ = refl

module _ (g : Source) (line : ℕ) (q : Bool) where
  -- an index behind its tag
  tagged : (at : ℕ) (i : Index) → HasIndex q i → Right g (index_uses i) →
      Again i (index_said g i) (index_of_tag (head g) line q at (index_tag i))
  unfolding number_index scalar_index
  tagged at (index.Number k) h uses = one_again index.Number (a_long k h)
  tagged at (index.Scalar x) h uses = one_again index.Scalar (a_scalar g line x uses.0)
  tagged at index.Place h uses = record { again = λ after r e. gives_if q _ _ index.Place after h (r, refl, e) }
  tagged at i h uses = nothing_again i

  pub an_index : (i : Index) → HasIndex q i → Right g (index_uses i) →
      Again i (index_image g i) (index_in (head g) line q)
  unfolding index_in
  an_index i h uses =
      subst (λ (z : List ℕ). Again i z (index_in (head g) line q)) (sym (index_parts g i))
      (coded_again terms (index_tag i) i (index_said g i) (λ at t r. index_of_tag (head g) line q at t r)
      (term_coded (index_tag i)) (λ at. tagged at i h uses))

  -- a term behind its tag
  in_term : (t : TermTag) (x : Term) (image : List ℕ) →
      ((at : ℕ) → Again x image (term_of_tag (head g) line q at t)) →
      Again x (term_code t ∷ image) (term_in (head g) line q)
  unfolding term_in
  in_term t x image h = coded_again terms t x image (λ at u r. term_of_tag (head g) line q at u r) (term_coded t) h

  index_term_again : (at : ℕ) (i : Index) → HasIndex q i → Right g (index_uses i) →
      Again (term.Index i) (index_said g i) (term_of_tag (head g) line q at (index_tag i))
  unfolding index_term
  index_term_again at (index.Number k) h uses = one_again term.Index (tagged at (index.Number k) h uses)
  index_term_again at i h uses = one_again term.Index (tagged at i h uses)

  a_field : (at : ℕ) (f : Field) (x : Name) (i : Index) → HasIndex q i → Right g (term_uses (term.Field f x i)) →
      Again (term.Field f x i) (slot g.words x ∷ index_image g i) (field_term (head g) line q f)
  unfolding field_term
  a_field at f x i h uses =
      allowed_then (head g) line (FieldUse f ∷ []) (uses.0, tt)
      (two_again (term.Field f) (some_words g line x uses.1.0) (an_index i h uses.1.1))

  field_again : (at : ℕ) (f : Field) (x : Name) (i : Index) → HasIndex q i → Right g (term_uses (term.Field f x i)) →
      Again (term.Field f x i) (slot g.words x ∷ index_image g i) (term_of_tag (head g) line q at (field_tag f))
  field_again at field.Seq x i h uses = a_field at field.Seq x i h uses
  field_again at f x i h uses = a_field at f x i h uses

  a_term : (t : Term) → HasTerm q t → Right g (term_uses t) → Again t (term_image g t) (term_in (head g) line q)
  unfolding row_term handshake_term
  a_term (term.Index i) h uses =
      subst (λ (z : List ℕ). Again (term.Index i) z (term_in (head g) line q)) (sym (index_parts g i))
      (in_term (index_tag i) (term.Index i) (index_said g i) (λ at. index_term_again at i h uses))
  a_term term.Arg h uses = in_term tag.Arg term.Arg [] (λ at. nothing_again term.Arg)
  a_term (term.Row x i) h uses =
      in_term tag.Row _ _ (λ at. two_again term.Row (a_row g line x uses.0) (an_index i h uses.1))
  a_term (term.Field f x i) h uses = in_term (field_tag f) _ _ (λ at. field_again at f x i h uses)
  a_term (term.Handshake x i j) h uses =
      in_term tag.Handshake _ _ (λ at. allowed_then (head g) line (HandshakeUse ∷ []) (uses.0, tt)
      (three_again term.Handshake (some_words g line x uses.1.0) (an_index i h.0 (first g _ _ uses.1.1))
      (an_index j h.1 (rest g _ _ uses.1.1))))

  -- an expression behind its tag
  in_expr : (t : ExprTag) (x : Expr) (image : List ℕ) → of_code exprs (expr_code t) ≡ Some t →
      Again x image (expr_of_tag (head g) line q t) → Again x (expr_code t ∷ image) (expr_in (head g) line q)
  unfolding expr_in
  in_expr t x image coded h =
      coded_again exprs t x image (λ at u r. expr_of_tag (head g) line q u r) coded (λ at. h)

  pub an_expr : (x : Expr) → HasExpr q x → Right g (expr_uses x) →
      Again x (expr_image g x) (expr_in (head g) line q)
  unfolding plain_expr sum_expr not_expr
  an_expr (expr.Term t) h uses = in_expr etag.Term _ _ refl (one_again expr.Term (a_term t h uses))
  an_expr (expr.Sum t u) h uses =
      in_expr etag.Sum _ _ refl
      (two_again expr.Sum (a_term t h.0 (first g _ _ uses)) (a_term u h.1 (rest g _ _ uses)))
  an_expr (expr.Not t) h uses = in_expr etag.Not _ _ refl (one_again expr.Not (a_term t h uses))

  a_comparison : (k : Comparison) → HasComparison q k → Right g (comparison_uses k) →
      Again k (comparison_image g k) (comparison_in (head g) line q)
  unfolding comparison_in
  a_comparison k h uses =
      three_again (λ k t u. let c : Comparison = record { left = t; relation = k; right = u } in c)
      (a_code relations k.relation (relation_coded k.relation)) (a_term k.left h.0 (first g _ _ uses))
      (a_term k.right h.1 (rest g _ _ uses))

  -- the count and the join stand before the comparisons
  opened : (n : ℕ) (j : Join) (x : Condition) (image : List ℕ) → (nat_le 1 n && nat_le n 4) ≡ true →
      ((at : ℕ) → Again x image (comparisons_in (head g) line q at n j)) →
      Again x (n ∷ join_code j ∷ image) (condition_in (head g) line q)
  unfolding condition_in
  opened n j x image few h = record {
    again = λ after r e.
        then_gives n _ (count_in r) _ x after (count_again n few (join_code j ∷ (image ++ after)) r e) (λ a p.
        (coded_again joins j x image (λ at k t. comparisons_in (head g) line q at n k t) (join_coded j) h).again after
        a p);
  }

  pub a_condition : (x : Condition) → HasCondition q x → Right g (condition_uses x) →
      Again x (condition_image g x) (condition_in (head g) line q)
  unfolding one_in two_in three_in four_in
  a_condition (One k) h uses = opened 1 join.And _ _ refl (λ at. one_again One (a_comparison k h uses))
  a_condition (Two j k l) h uses =
      opened 2 j _ _ refl (λ at.
      two_again (Two j) (a_comparison k h.0 (first g _ _ uses)) (a_comparison l h.1 (rest g _ _ uses)))
  a_condition (Three j k l m) h uses =
      let more : Right g (comparison_uses l ++ comparison_uses m) = rest g _ _ uses in
      opened 3 j _ _ refl (λ at.
      three_again (Three j) (a_comparison k h.0 (first g _ _ uses)) (a_comparison l h.1 (first g _ _ more))
      (a_comparison m h.2 (rest g _ _ more)))
  a_condition (Four j k l m o) h uses =
      let more : Right g (comparison_uses l ++ (comparison_uses m ++ comparison_uses o)) = rest g _ _ uses in
      let more1 : Right g (comparison_uses m ++ comparison_uses o) = rest g _ _ more in
      opened 4 j _ _ refl (λ at.
      four_again (Four j) (a_comparison k h.0 (first g _ _ uses)) (a_comparison l h.1 (first g _ _ more))
      (a_comparison m h.2 (first g _ _ more1)) (a_comparison o h.3 (rest g _ _ more1)))

flag_known : (flag : Bool) → (let b = flag_byte flag in
    (if nat_eq b 0 then Some false else if nat_eq b 1 then Some true else None) ≡ Some flag)
flag_known false = refl
flag_known true = refl

pub a_flag : (flag : Bool) → Again flag (flag_byte flag ∷ []) flag_in
unfolding flag_in
a_flag flag = record {
  again = λ after r e.
      then_gives (flag_byte flag) after (byte_in r) _ flag after (byte_again (flag_byte flag) after r e)
      (λ t p. known_again r.passed t _ flag after (flag_known flag) p);
}

pub a_where : (g : Source) (line : ℕ) (k : Option Condition) → HasWhere k → Right g (where_uses k) →
    Again k (where_image g k) (where_in (head g) line)
unfolding where_in where_of_flag
a_where g line None h uses = then_again (where_of_flag (head g) line) (a_flag false) (nothing_again None)
a_where g line (Some k) h uses =
    then_again (where_of_flag (head g) line) (a_flag true)
    (one_again (λ c. let o : Option Condition = Some c in o) (a_condition g line true k h uses))
