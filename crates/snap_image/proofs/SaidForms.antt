-- What is read from an image is what the image says: indices, terms, expressions and conditions.
use Rattle.std.proofs.Common.{◌≡◌, ℕ, Bool, true, false, List, [], ◌∷◌, Option, Some, None, Result, Ok, Err, nat_eq}
use Rattle.std.proofs.Common.{nat_le, ◌&&◌, if◌then◌else◌, refl, ap, ◌∙◌, subst, arith}
use Rattle.std.proofs.lemmas.Bool.{eqb-true}
use Rattle.snap_words.specs.declared.kind.Field.{Field}
use Rattle.snap_words.specs.declared.kind.Field.TheVariants as field
use Rattle.snap_words.specs.Kind.{has_field, has_handshakes}
use Rattle.snap_image.specs.declared.image.ExprTag.{ExprTag}
use Rattle.snap_image.specs.declared.image.ExprTag.TheVariants as etag
use Rattle.snap_image.specs.declared.image.TermTag.{TermTag}
use Rattle.snap_image.specs.declared.image.TermTag.TheVariants as tag
use Rattle.snap_semantics.specs.declared.instr.Comparison.{Comparison}
use Rattle.snap_semantics.specs.declared.instr.Condition.{Condition}
use Rattle.snap_semantics.specs.declared.instr.Condition.TheVariants.{One, Two, Three, Four}
use Rattle.snap_semantics.specs.declared.instr.Expr.{Expr}
use Rattle.snap_semantics.specs.declared.instr.Expr.TheVariants as expr
use Rattle.snap_semantics.specs.declared.instr.Index.{Index}
use Rattle.snap_semantics.specs.declared.instr.Index.TheVariants as index
use Rattle.snap_semantics.specs.declared.instr.Join.{Join}
use Rattle.snap_semantics.specs.declared.instr.Join.TheVariants.{And, Or}
use Rattle.snap_semantics.specs.declared.instr.Line.{Line}
use Rattle.snap_semantics.specs.declared.instr.Term.{Term}
use Rattle.snap_semantics.specs.declared.instr.Term.TheVariants as term
use Rattle.snap_semantics.specs.declared.refusal.ImageRefusal.{ImageRefusal}
use Rattle.snap_semantics.specs.declared.refusal.ImageRefusal.TheVariants.{Invalid}
use Rattle.snap_semantics.specs.declared.refusal.ListingRefusal.{ListingRefusal}
use Rattle.snap_semantics.specs.declared.refusal.ListingRefusal.TheVariants as refusal
use Rattle.snap_semantics.specs.declared.text.Sort.TheVariants as sort
use Rattle.snap_semantics.specs.Answers.{◌>>=◌, refused_as}
use Rattle.snap_image.specs.Image.{index_image, field_tag, term_image, expr_image, comparison_image}
use Rattle.snap_image.specs.Image.{condition_image, where_image}
use Rattle.snap_image.specs.ImageCodes.{terms, exprs, relations, joins, term_code, expr_code, relation_code, join_code}
use Rattle.snap_image.specs.ImageForms.{Rest, Read, known_code, code_in, slot_in, allowed, number_index, scalar_index}
use Rattle.snap_image.specs.ImageForms.{index_of_tag, index_in, row_term, field_term, handshake_term, index_term}
use Rattle.snap_image.specs.ImageForms.{term_of_tag, term_in, plain_expr, sum_expr, not_expr, expr_of_tag, expr_in}
use Rattle.snap_image.specs.ImageForms.{comparison_in, two_in, three_in, four_in, one_in, comparisons_in, count_in}
use Rattle.snap_image.specs.ImageForms.{condition_in, flag_in, where_of_flag, where_in}
use Rattle.snap_semantics.specs.IsListing.{HasIndex, HasTerm, HasExpr, HasComparison, HasCondition, HasWhere}
use Rattle.snap_semantics.specs.Listing.{with_lines}
use Rattle.snap_semantics.specs.Source.{Source}
use Rattle.snap_semantics.specs.Uses.{Use, FieldUse, HandshakeUse, index_uses, term_uses, expr_uses, comparison_uses}
use Rattle.snap_semantics.specs.Uses.{condition_uses, where_uses}
use Rattle.snap_image.proofs.Parts.{Holds, then_with, holds_as, holds_if, Says, then_said, of_one_said, of_two_said}
use Rattle.snap_image.proofs.Parts.{of_three_said, of_four_said, Part, both, reformed, skip, three_of, four_of, none}
use Rattle.snap_image.proofs.Parts.{spoken_of, one_byte, a_byte, a_code, HasSlots, SlotIs, a_slot, a_long}

-- the slots of the names of each sort
pub record Slots (s : Source) : Type 0 where
  pub scalars : HasSlots s s.scalars sort.Scalar
  pub rows : HasSlots s s.rows sort.Row
  pub words : HasSlots s s.words sort.Words
  pub views : HasSlots s s.views sort.View

-- a listing of which all that stands before its lines is known
pub record Begun : Type 0 where
  pub lines : List Line
  pub source : Source
  pub slots : Slots (with_lines lines source)

abbrev pub whole : Begun → Source
whole l = with_lines l.lines l.source

module _ (l : Begun) (line : ℕ) where
  pub a_scalar : Says (SlotIs (whole l) l.source.scalars sort.Scalar) (slot_in line l.source.scalars)
  a_scalar = a_slot (whole l) l.source.scalars sort.Scalar l.slots.scalars line

  pub a_row : Says (SlotIs (whole l) l.source.rows sort.Row) (slot_in line l.source.rows)
  a_row = a_slot (whole l) l.source.rows sort.Row l.slots.rows line

  pub some_words : Says (SlotIs (whole l) l.source.words sort.Words) (slot_in line l.source.words)
  some_words = a_slot (whole l) l.source.words sort.Words l.slots.words line

  pub a_view : Says (SlotIs (whole l) l.source.views sort.View) (slot_in line l.source.views)
  a_view = a_slot (whole l) l.source.views sort.View l.slots.views line

-- a byte, and what stands behind it
pub behind : {s : Source} {a b x c : List ℕ} {us : List Use} {F : Type 0} (k : ℕ) → a ≡ k ∷ b →
    Part s b x c us F → Part s a (k ∷ x) c us F
behind {s} {a} {b} k e p = skip (one_byte s a b k e) p

-- bytes that are said otherwise
said_as : {s : Source} {a b x y : List ℕ} {us : List Use} {F : Type 0} → x ≡ y →
    Part s a x b us F → Part s a y b us F
said_as {s} {a} {b} {x} {y} {us} {F} e p = subst (λ (z : List ℕ). Part s a z b us F) e p

abbrev WhenDone : Type 0 → Unit {0} → Type 0
WhenDone P done = P

abbrev Done : Type 0
Done = Result (Unit {0}) ListingRefusal

kind_ok : (line : ℕ) (b : Bool) →
    Holds (WhenDone (b ≡ true)) (let c : Result (Unit {0}) ImageRefusal = refused_as Invalid
    ((let d : Done = if b then Ok tt else Err (refusal.WrongKind line) in d) >>= λ done. (let d : Done = Ok tt in d)) in
    c)
kind_ok line true = refl
kind_ok line false = tt

-- a part with an image of its own, which speaks of this and has this form; and one behind its tag
module _ {A : Type 0} (s : Source) (image : A → List ℕ) (uses : A → List Use) (IsRight : A → Type 0) where
  abbrev PartIs : Rest → (A × Rest) → Type 0
  PartIs r x = Part s r.bytes (image x.0) x.1.bytes (uses x.0) (IsRight x.0)

  abbrev TaggedIs : TermTag → Rest → (A × Rest) → Type 0
  TaggedIs t r x =
      (said : List ℕ) × (term_code t ∷ said ≡ image x.0) × Part s r.bytes said x.1.bytes (uses x.0) (IsRight x.0)

  tagged_is : (read : ℕ → TermTag → Rest → Read A) →
      ((at : ℕ) (t : TermTag) (r : Rest) → Holds (TaggedIs t r) (read at t r)) → (r : Rest) →
      Holds (PartIs r) (code_in terms r >>= λ t. read r.passed t.0 t.1)
  tagged_is read h r =
      then_said (PartIs r) _ (a_code terms) r (λ t e.
      holds_as (TaggedIs t.0 t.1) (PartIs r) (read r.passed t.0 t.1) (h r.passed t.0 t.1)
      (λ x p. said_as p.1 (behind (term_code t.0) e p.2)))

-- the count and the join stand before the comparisons
abbrev Opened : ℕ → Join → Rest → Rest → Type 0
Opened n j r after = r.bytes ≡ n ∷ join_code j ∷ after.bytes

opened : {g : Source} {x c : List ℕ} {us : List Use} {F : Type 0} (n : ℕ) (j : Join) (r after : Rest) →
    Opened n j r after → Part g after.bytes x c us F → Part g r.bytes (n ∷ join_code j ∷ x) c us F
opened n j r after e p = behind n e (behind (join_code j) refl p)

abbrev CountIs : Rest → (ℕ × Rest) → Type 0
CountIs r x = (r.bytes ≡ x.0 ∷ x.1.bytes) × ((nat_le 1 x.0 && nat_le x.0 4) ≡ true)

count_if : (r after : Rest) (at b : ℕ) (t : Bool) → (nat_le 1 b && nat_le b 4) ≡ t → r.bytes ≡ b ∷ after.bytes →
    Holds (CountIs r) (known_code at after (if t then Some b else None))
count_if r after at b true f e = (e, f)
count_if r after at b false f e = tt

a_count : Says CountIs count_in
unfolding count_in
a_count = record {
  said = λ r. then_said (CountIs r) _ a_byte r
      (λ b e. count_if r b.1 r.passed b.0 (nat_le 1 b.0 && nat_le b.0 4) refl e);
}

module _ (l : Begun) (line : ℕ) (q : Bool) where
  -- the lines that are to follow say nothing of names
  abbrev pub IndexIs : Rest → (Index × Rest) → Type 0
  IndexIs = PartIs (whole l) (index_image (whole l)) index_uses (HasIndex q)

  abbrev IndexTag : TermTag → Rest → (Index × Rest) → Type 0
  IndexTag = TaggedIs (whole l) (index_image (whole l)) index_uses (HasIndex q)

  index_tag : (at : ℕ) (t : TermTag) (r : Rest) → Holds (IndexTag t r) (index_of_tag l.source line q at t r)
  unfolding number_index scalar_index
  index_tag at tag.Number r =
      of_one_said (IndexTag tag.Number r) index.Number (a_long (whole l)) r (λ k p. (_, refl, p))
  index_tag at tag.Processes r = ([], refl, none (whole l) r.bytes)
  index_tag at tag.Words r = ([], refl, none (whole l) r.bytes)
  index_tag at tag.Me r = ([], refl, none (whole l) r.bytes)
  index_tag at tag.Word r = ([], refl, none (whole l) r.bytes)
  index_tag at tag.Place r =
      holds_if (IndexTag tag.Place r) q _ _ (λ e. ([], refl, reformed (λ f. e) (none (whole l) r.bytes))) (λ e. tt)
  index_tag at tag.Scalar r =
      of_one_said (IndexTag tag.Scalar r) index.Scalar (a_scalar l line) r (λ x p. (_, refl, p))
  index_tag at _ r = tt

  pub an_index : Says IndexIs (index_in l.source line q)
  unfolding index_in
  an_index = record {
    said = tagged_is (whole l) (index_image (whole l)) index_uses (HasIndex q)
        (λ at t r. index_of_tag l.source line q at t r) index_tag;
  }

  abbrev TermIs : Rest → (Term × Rest) → Type 0
  TermIs = PartIs (whole l) (term_image (whole l)) term_uses (HasTerm q)

  abbrev TermOf : TermTag → Rest → (Term × Rest) → Type 0
  TermOf = TaggedIs (whole l) (term_image (whole l)) term_uses (HasTerm q)

  field_is : (f : Field) (r : Rest) → Holds (TermOf (field_tag f) r) (field_term l.source line q f r)
  unfolding field_term
  field_is f r =
      let T = TermOf (field_tag f) r in
      then_with (WhenDone (has_field l.source.kind f ≡ true)) T (allowed l.source line (FieldUse f ∷ [])) _
      (kind_ok line (has_field l.source.kind f)) (λ done has.
      of_two_said T (term.Field f) (some_words l line) an_index r (λ x p i k.
      (_, refl, skip (spoken_of (whole l) r.bytes (FieldUse f ∷ []) (has, tt)) (skip p k))))

  term_tag : (at : ℕ) (t : TermTag) (r : Rest) → Holds (TermOf t r) (term_of_tag l.source line q at t r)
  unfolding row_term handshake_term index_term
  term_tag at tag.Arg r = ([], refl, none (whole l) r.bytes)
  term_tag at tag.Row r =
      of_two_said (TermOf tag.Row r) term.Row (a_row l line) an_index r (λ x p i k. (_, refl, skip p k))
  term_tag at tag.Seq r = field_is field.Seq r
  term_tag at tag.Datum r = field_is field.Datum r
  term_tag at tag.Toggle r = field_is field.Toggle r
  term_tag at tag.Id r = field_is field.Id r
  term_tag at tag.Handshake r =
      let T = TermOf tag.Handshake r in
      then_with (WhenDone (has_handshakes l.source.kind ≡ true)) T (allowed l.source line (HandshakeUse ∷ [])) _
      (kind_ok line (has_handshakes l.source.kind)) (λ done has.
      of_three_said T term.Handshake (some_words l line) an_index an_index r (λ x p i k j m.
      (_, refl, skip (spoken_of (whole l) r.bytes (HandshakeUse ∷ []) (has, tt)) (skip p (both k m)))))
  term_tag at t r =
      then_with (IndexTag t r) (TermOf t r) (index_of_tag l.source line q at t r) (λ i. Ok (term.Index i.0, i.1))
      (index_tag at t r) (λ i k. k)

  a_term : Says TermIs (term_in l.source line q)
  unfolding term_in
  a_term = record {
    said = tagged_is (whole l) (term_image (whole l)) term_uses (HasTerm q)
        (λ at t r. term_of_tag l.source line q at t r) term_tag;
  }

  abbrev pub ExprIs : Rest → (Expr × Rest) → Type 0
  ExprIs = PartIs (whole l) (expr_image (whole l)) expr_uses (HasExpr q)

  expr_tag : (t : ExprTag) (r after : Rest) → r.bytes ≡ expr_code t ∷ after.bytes →
      Holds (ExprIs r) (expr_of_tag l.source line q t after)
  unfolding plain_expr sum_expr not_expr
  expr_tag etag.Term r after e =
      of_one_said (ExprIs r) expr.Term a_term after (λ t p. behind (expr_code etag.Term) e p)
  expr_tag etag.Sum r after e =
      of_two_said (ExprIs r) expr.Sum a_term a_term after (λ t p u k. behind (expr_code etag.Sum) e (both p k))
  expr_tag etag.Not r after e =
      of_one_said (ExprIs r) expr.Not a_term after (λ t p. behind (expr_code etag.Not) e p)

  pub an_expr : Says ExprIs (expr_in l.source line q)
  unfolding expr_in
  an_expr = record { said = λ r. then_said (ExprIs r) _ (a_code exprs) r (λ t e. expr_tag t.0 r t.1 e) }

  abbrev ComparisonIs : Rest → (Comparison × Rest) → Type 0
  ComparisonIs = PartIs (whole l) (comparison_image (whole l)) comparison_uses (HasComparison q)

  a_comparison : Says ComparisonIs (comparison_in l.source line q)
  unfolding comparison_in
  a_comparison = record {
    said = λ r.
        of_three_said (ComparisonIs r) (λ k t u.
        let c : Comparison = record { left = t; relation = k; right = u } in c) (a_code relations) a_term a_term r
        (λ k e t p u m. behind (relation_code k.0) e (both p m));
  }

  abbrev pub ConditionIs : Rest → (Condition × Rest) → Type 0
  ConditionIs = PartIs (whole l) (condition_image (whole l)) condition_uses (HasCondition q)

  one_is : (at : ℕ) (j : Join) (r after : Rest) → Opened 1 j r after →
      Holds (ConditionIs r) (one_in l.source line q at j after)
  unfolding one_in
  one_is at And r after e = of_one_said (ConditionIs r) One a_comparison after (λ k p. opened 1 And r after e p)
  one_is at Or r after e = tt

  comparisons_are : (at n : ℕ) (j : Join) (r after : Rest) → (nat_le 1 n && nat_le n 4) ≡ true → Opened n j r after →
      Holds (ConditionIs r) (comparisons_in l.source line q at n j after)
  unfolding two_in three_in four_in
  comparisons_are at n j r after small e =
      let C = ConditionIs r in
      let k = a_comparison in
      let as_counted : (m : ℕ) → n ≡ m → Opened m j r after = λ m f. subst (λ i. Opened i j r after) f e in
      holds_if C (nat_eq n 1) _ _ (λ f. one_is at j r after (as_counted 1 (eqb-true n 1 f))) (λ no1.
      holds_if C (nat_eq n 2) _ _
      (λ f. of_two_said C (Two j) k k after (λ a pa b pb.
      opened 2 j r after (as_counted 2 (eqb-true n 2 f)) (both pa pb))) (λ no2.
      holds_if C (nat_eq n 3) _ _
      (λ f. of_three_said C (Three j) k k k after (λ a pa b pb c pc.
      opened 3 j r after (as_counted 3 (eqb-true n 3 f)) (three_of (both pa (both pb pc))))) (λ no3.
      of_four_said C (Four j) k k k k after (λ a pa b pb c pc d pd.
      opened 4 j r after (as_counted 4 (grind arith)) (four_of (both pa (both pb (both pc pd))))))))

  pub a_condition : Says ConditionIs (condition_in l.source line q)
  unfolding condition_in
  a_condition = record {
    said = λ r.
        then_said (ConditionIs r) _ a_count r (λ n e.
        then_said (ConditionIs r) _ (a_code joins) n.1 (λ j f.
        comparisons_are n.1.passed n.0 j.0 r j.1 e.1 (e.0 ∙ ap (λ (z : List ℕ). n.0 ∷ z) f)));
  }

abbrev pub flag_byte : Bool → ℕ
flag_byte false = 0
flag_byte true = 1

abbrev FlagIs : Rest → (Bool × Rest) → Type 0
FlagIs r x = r.bytes ≡ flag_byte x.0 ∷ x.1.bytes

flag_if : (r after : Rest) (at b : ℕ) (t u : Bool) → nat_eq b 0 ≡ t → nat_eq b 1 ≡ u → r.bytes ≡ b ∷ after.bytes →
    Holds (FlagIs r) (known_code at after (if t then Some false else if u then Some true else None))
flag_if r after at b true u f g e = e ∙ ap (λ (k : ℕ). k ∷ after.bytes) (eqb-true b 0 f)
flag_if r after at b false true f g e = e ∙ ap (λ (k : ℕ). k ∷ after.bytes) (eqb-true b 1 g)
flag_if r after at b false false f g e = tt

pub a_flag : Says FlagIs flag_in
unfolding flag_in
a_flag = record {
  said = λ r. then_said (FlagIs r) _ a_byte r
      (λ b e. flag_if r b.1 r.passed b.0 (nat_eq b.0 0) (nat_eq b.0 1) refl refl e);
}

module _ (l : Begun) (line : ℕ) where
  abbrev pub WhereIs : Rest → (Option Condition × Rest) → Type 0
  WhereIs = PartIs (whole l) (where_image (whole l)) where_uses HasWhere

  where_by : (flag : Bool) (r after : Rest) → r.bytes ≡ flag_byte flag ∷ after.bytes →
      Holds (WhereIs r) (where_of_flag l.source line flag after)
  unfolding where_of_flag
  where_by false r after e = behind 0 e (none (whole l) after.bytes)
  where_by true r after e =
      of_one_said (WhereIs r) (λ k. let o : Option Condition = Some k in o) (a_condition l line true) after
      (λ k p. behind 1 e p)

  pub a_where : Says WhereIs (where_in l.source line)
  unfolding where_in
  a_where = record { said = λ r. then_said (WhereIs r) _ a_flag r (λ flag e. where_by flag.0 r flag.1 e) }
