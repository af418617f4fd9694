-- Of an instruction in an image, form by form: where its form is allowed, what it speaks of is right; its image is of
-- bytes; what its image says is read from it again; and what is read is what the image says.
use Rattle.std.proofs.Common.{Result, ◌≡◌, ℕ, Bool, true, false, Ok, Err, if◌then◌else◌, refl, List, ◌∷◌, ◌++◌, Some}
use Rattle.std.proofs.Common.{sym, subst, ap, ◌∙◌, []}
use Rattle.std.specs.Prelude.{⊤}
use Rattle.std.specs.List.{AllByRecursion}
use Rattle.snap_words.specs.declared.kind.KindTag.TheVariants as kind
use Rattle.snap_semantics.specs.declared.refusal.ImageRefusal.{ImageRefusal}
use Rattle.snap_semantics.specs.declared.refusal.ListingRefusal.{ListingRefusal}
use Rattle.snap_semantics.specs.declared.refusal.ImageRefusal.TheVariants.{Invalid}
use Rattle.snap_semantics.specs.declared.refusal.ListingRefusal.TheVariants as refusal
use Rattle.snap_semantics.specs.declared.instr.Line.{Line}
use Rattle.snap_semantics.specs.declared.instr.Instr.{Instr}
use Rattle.snap_semantics.specs.declared.instr.Instr.TheVariants.{Let, LetPlace, Get, Bit, Look, Put, PutBit, PutView}
use Rattle.snap_semantics.specs.declared.instr.Instr.TheVariants.{ViewData, ViewOf, Each, First, Next, If, IfAll, Goto}
use Rattle.snap_semantics.specs.declared.instr.Instr.TheVariants.{Call, Return, Finish}
use Rattle.snap_semantics.specs.declared.instr.Range.{Range}
use Rattle.snap_semantics.specs.declared.instr.Range.TheVariants as range
use Rattle.snap_semantics.specs.declared.instr.BitBank.{BitBank}
use Rattle.snap_semantics.specs.declared.instr.BitBank.TheVariants as bits
use Rattle.snap_semantics.specs.declared.instr.Expr.{Expr}
use Rattle.snap_semantics.specs.declared.instr.Index.{Index}
use Rattle.snap_semantics.specs.declared.instr.Tuple.{Tuple}
use Rattle.snap_semantics.specs.declared.instr.Tuple.TheVariants as tuple
use Rattle.snap_semantics.specs.declared.text.Sort.TheVariants as sort
use Rattle.snap_semantics.specs.Answers.{◌>>=◌, refused_as}
use Rattle.snap_semantics.specs.Listing.{with_lines}
use Rattle.snap_semantics.specs.RightUses.{IsRight}
use Rattle.snap_semantics.specs.Source.{Source, Name}
use Rattle.snap_semantics.specs.IsListing.{HasExpr, HasForm, HasIndex}
use Rattle.snap_semantics.specs.Uses.{TupleUse, tuple_uses, row, view, index_uses, expr_uses, instr_uses, Use, BankUse}
use Rattle.snap_semantics.specs.Table.{bank_of}
use Rattle.snap_image.specs.declared.instrs.InstrTag.{InstrTag}
use Rattle.snap_image.specs.declared.instrs.InstrTag.TheVariants as tag
use Rattle.snap_image.specs.ImageForms.{allowed, Rest, short_in, code_in, index_in, slot_in, expr_in, of_four}
use Rattle.snap_image.specs.ImageInstrs.{form_uses, has_form, let_in, let_place_in, get_in, bit_in, look_in, put_seq_in}
use Rattle.snap_image.specs.ImageInstrs.{put_bits_in, put_multi_in, put_bit_in, put_view_in, view_data_in, view_of_in}
use Rattle.snap_image.specs.ImageInstrs.{each_in, first_in, next_in, if_in, if_all_in, goto_in, call_in, return_in}
use Rattle.snap_image.specs.ImageInstrs.{operands_in, instr_in}
use Rattle.snap_image.specs.Image.{operands_image, instr_tags, instr_code, instr_tag, tuple_tag, bit_tag, put_bit_tag}
use Rattle.snap_image.specs.Image.{index_image, expr_image}
use Rattle.snap_image.specs.Laws.{AreBytes}
use Rattle.snap_image.specs.ImageCodes.{of_code, ranges, range_code}
use Rattle.snap_image.specs.Widths.{HasShortTargets}
use Rattle.snap_image.proofs.Parts.{Holds, Part, then_with, U, both, skip, last, ending, three_of, none, Says}
use Rattle.snap_image.proofs.Parts.{then_said, of_one_said, of_two_said, of_three_said, of_four_said, spoken_of, SlotIs}
use Rattle.snap_image.proofs.Parts.{ShortIs, a_number, holds_as, holds_if}
use Rattle.snap_image.proofs.Tables.{Tables}
use Rattle.snap_image.proofs.PartBytes.{appended, short_bytes, slot_is_byte, range_is_byte, index_bytes, expr_bytes}
use Rattle.snap_image.proofs.PartBytes.{condition_bytes, where_bytes, tuple_bytes}
use Rattle.snap_image.proofs.AgainForms.{head, first, rest, an_index, an_expr, a_condition, a_where}
use Rattle.snap_image.proofs.AgainParts.{Again, then_again, one_again, two_again, three_again, four_again, a_code}
use Rattle.snap_image.proofs.AgainParts.{coded_again, a_scalar, a_row, some_words, a_view, a_short, Right}
use Rattle.snap_image.proofs.AgainParts.{allowed_then, nothing_again}
use Rattle.snap_image.proofs.SaidForms.{Begun, whole, behind, IndexIs, ExprIs}
use Rattle.snap_image.proofs.SaidForms as saying
use Rattle.snap_image.proofs.Parts as parts

abbrev Checked : Type 0
Checked = Result (Unit {0}) ImageRefusal

abbrev Done : Type 0
Done = Result (Unit {0}) ListingRefusal

-- one use alone
use_alone : (line : ℕ) (b : Bool) →
    (let c : Checked = refused_as Invalid ((let d : Done = if b then Ok tt else Err (refusal.WrongKind line) in d)
    >>= λ done. (let d : Done = Ok tt in d)) in c) ≡
    (let c : Checked = if b then Ok tt else Err (Invalid (refusal.WrongKind line)) in c)
use_alone line true = refl
use_alone line false = refl

pub form_allowed : (s : Source) (line : ℕ) (f : InstrTag) →
    allowed s line (form_uses f)
    ≡ (let c : Checked = if has_form s.kind f then Ok tt else Err (Invalid (refusal.WrongKind line)) in c)
form_allowed s line tag.Let = refl
form_allowed s line _ = first_of (search, search use_alone)

form_is_right : (g : Source) (f : InstrTag) → has_form g.kind f ≡ true → AllByRecursion (IsRight g) (form_uses f)
form_is_right g tag.Let e = tt
form_is_right g _ e = search

-- where a form is allowed, what it speaks of is right
uses_allowed : (ls : List Line) (s : Source) (line : ℕ) (f : InstrTag) →
    Holds (λ done. AllByRecursion (IsRight (with_lines ls s)) (form_uses f)) (allowed s line (form_uses f))
uses_allowed ls s line f =
    let P : Unit {0} → Type 0 = λ done. AllByRecursion (IsRight (with_lines ls s)) (form_uses f) in
    subst (λ (c : Checked). Holds P c) (sym (form_allowed s line f))
    (holds_if P (has_form s.kind f) _ _ (λ e. form_is_right (with_lines ls s) f e) (λ e. tt))

ruleset operands_are_bytes = (
  appended,
  slot_is_byte,
  range_is_byte,
  index_bytes,
  expr_bytes,
  condition_bytes,
  where_bytes,
  tuple_bytes,
  short_bytes,
)

pub operands_bytes : (g : Source) → Tables g → (x : Instr) → AreBytes (operands_image g x)
operands_bytes g tables (Let x v) = (slot_is_byte g.scalars x tables.scalars, expr_bytes g tables v)
operands_bytes g tables _ = search operands_are_bytes

range_coded : (over : Range) → of_code ranges (range_code over) ≡ Some over
range_coded range.Processes = refl
range_coded range.Words = refl

form_coded : (f : InstrTag) → of_code instr_tags (instr_code f) ≡ Some f
form_coded tag.Let = refl
form_coded _ = refl

module _ (g : Source) (line : ℕ) where
  a_range : (over : Range) → Again over (range_code over ∷ []) (code_in ranges)
  a_range over = a_code ranges over (range_coded over)

  index : (i : Index) → HasIndex false i → Right g (index_uses i) →
      Again i (index_image g i) (index_in (head g) line false)
  index = an_index g line false

  expr : (x : Expr) → HasExpr false x → Right g (expr_uses x) → Again x (expr_image g x) (expr_in (head g) line false)
  expr = an_expr g line false

  bit_again : (x : Name) (b : BitBank) (i j : Index) → (let y = Bit x b i j in
      HasForm y → Right g (instr_uses y) → Again y (operands_image g y) (bit_in (head g) line b))
  unfolding bit_in
  bit_again x b i j h uses =
      three_again (λ x i j. Bit x b i j) (a_scalar g line x uses.0) (index i h.0 (first g _ _ uses.1.1))
      (index j h.1 (rest g _ _ uses.1.1))

  put_bit_again : (b : BitBank) (i j : Index) (v : Expr) → (let y = PutBit b i j v in
      HasForm y → Right g (instr_uses y) → Again y (operands_image g y) (put_bit_in (head g) line b))
  unfolding put_bit_in
  put_bit_again b i j v h uses =
      let more = rest g (index_uses i) (index_uses j ++ expr_uses v) uses.1 in
      three_again (PutBit b) (index i h.0 (first g _ _ uses.1)) (index j h.1 (first g _ _ more))
      (expr v h.2 (rest g _ _ more))

  put_again : (i : Index) (u : Tuple) → (let y = Put i u in
      HasForm y → Right g (instr_uses y) → Again y (operands_image g y) (operands_in (head g) line (tuple_tag u)))
  unfolding put_seq_in put_bits_in put_multi_in
  put_again i (tuple.Seq m n v) h uses =
      let more = rest g (index_uses i) (TupleUse kind.Seq ∷ (expr_uses m ++ (expr_uses n ++ view v ∷ []))) uses in
      let more1 = rest g (expr_uses m) (expr_uses n ++ view v ∷ []) more.1 in
      four_again (λ i d q v. Put i (tuple.Seq d q v)) (index i h.0 (first g _ _ uses))
      (expr m h.1.0 (first g _ _ more.1)) (expr n h.1.1 (first g _ _ more1))
      (a_view g line v (rest g (expr_uses n) (view v ∷ []) more1).0)
  put_again i (tuple.Bits m x n v) h uses =
      let more =
      rest g (index_uses i) (TupleUse kind.Bits ∷ (expr_uses m ++ row x ∷ (expr_uses n ++ view v ∷ []))) uses in
      let more1 = rest g (expr_uses m) (row x ∷ (expr_uses n ++ view v ∷ [])) more.1 in
      then_again (λ i r. of_four (expr_in (head g) line false) (slot_in line g.rows) (expr_in (head g) line false)
      (slot_in line g.views) (λ d h t v. Put i (tuple.Bits d h t v)) r) (index i h.0 (first g _ _ uses))
      (four_again (λ d h t v. Put i (tuple.Bits d h t v)) (expr m h.1.0 (first g _ _ more.1))
      (a_row g line x more1.0) (expr n h.1.1 (first g _ _ more1.1))
      (a_view g line v (rest g (expr_uses n) (view v ∷ []) more1.1).0))
  put_again i (tuple.Multi m n o) h uses =
      let more = rest g (index_uses i) (TupleUse kind.Multi ∷ (expr_uses m ++ (expr_uses n ++ expr_uses o))) uses in
      let more1 = rest g (expr_uses m) (expr_uses n ++ expr_uses o) more.1 in
      four_again (λ i d k t. Put i (tuple.Multi d k t)) (index i h.0 (first g _ _ uses))
      (expr m h.1.0 (first g _ _ more.1)) (expr n h.1.1 (first g _ _ more1)) (expr o h.1.2 (rest g _ _ more1))

  operands_again : (x : Instr) → HasForm x → Right g (instr_uses x) → HasShortTargets x →
      Again x (operands_image g x) (operands_in (head g) line (instr_tag x))
  unfolding let_in let_place_in get_in look_in put_view_in view_data_in view_of_in each_in first_in next_in if_in
      if_all_in goto_in call_in return_in
  operands_again (Let x v) h uses small = two_again Let (a_scalar g line x uses.0) (expr v h uses.1)
  operands_again (LetPlace x i v) h uses small =
      three_again LetPlace (a_row g line x uses.0) (index i h.0 (first g _ _ uses.1))
      (expr v h.1 (rest g _ _ uses.1))
  operands_again (Get x i j) h uses small =
      three_again Get (some_words g line x uses.0) (index i h.0 (first g _ _ uses.1)) (index j h.1 (rest g _ _ uses.1))
  operands_again (Bit x bits.Q i j) h uses small = bit_again x bits.Q i j h uses
  operands_again (Bit x bits.P i j) h uses small = bit_again x bits.P i j h uses
  operands_again (Look x i) h uses small = two_again Look (a_view g line x uses.0) (index i h uses.1.1)
  operands_again (Put i t) h uses small = put_again i t h uses
  operands_again (PutBit bits.Q i j v) h uses small = put_bit_again bits.Q i j v h uses
  operands_again (PutBit bits.P i j v) h uses small = put_bit_again bits.P i j v h uses
  operands_again (PutView i x) h uses small =
      two_again PutView (index i h (first g _ _ uses.1))
      (a_view g line x (rest g (index_uses i) (view x ∷ []) uses.1).0)
  operands_again (ViewData x z) h uses small =
      two_again ViewData (a_view g line x uses.0) (some_words g line z uses.1.0)
  operands_again (ViewOf x z i) h uses small =
      three_again ViewOf (a_view g line x uses.0) (some_words g line z uses.1.1.0) (index i h uses.1.1.1)
  operands_again (Each over x v k) h uses small =
      four_again Each (a_range over) (a_row g line x uses.0) (an_expr g line true v h.0 (first g _ _ uses.1))
      (a_where g line k h.1 (rest g _ _ uses.1))
  operands_again (First x over k target) h uses small =
      four_again First (a_scalar g line x uses.0) (a_range over) (a_condition g line true k h uses.1)
      (a_short target small.0)
  operands_again (Next x over target) h uses small =
      three_again Next (a_scalar g line x uses.0) (a_range over) (a_short target small.0)
  operands_again (If k target) h uses small =
      two_again If (a_condition g line false k h uses) (a_short target small.0)
  operands_again (IfAll over k target) h uses small =
      three_again IfAll (a_range over) (a_condition g line true k h uses) (a_short target small.0)
  operands_again (Goto target) h uses small = one_again Goto (a_short target small.0)
  operands_again (Call target) h uses small = one_again Call (a_short target small.0)
  operands_again (Return x) h uses small = one_again Return (a_view g line x uses.0)
  operands_again Finish h uses small = nothing_again Finish

  -- the form of an instruction is allowed
  form_right : (x : Instr) → Right g (instr_uses x) → Right (head g) (form_uses (instr_tag x))
  form_right (Bit x bits.Q i j) uses = (uses.1.0, tt)
  form_right (Bit x bits.P i j) uses = (uses.1.0, tt)
  form_right (Put i (tuple.Seq m n v)) uses = ((rest g (index_uses i) (tuple_uses (tuple.Seq m n v)) uses).0, tt)
  form_right (Put i (tuple.Bits m x n v)) uses = ((rest g (index_uses i) (tuple_uses (tuple.Bits m x n v)) uses).0, tt)
  form_right (Put i (tuple.Multi m n o)) uses = ((rest g (index_uses i) (tuple_uses (tuple.Multi m n o)) uses).0, tt)
  form_right (PutBit bits.Q i j v) uses = (uses.0, tt)
  form_right (PutBit bits.P i j v) uses = (uses.0, tt)
  form_right _ uses = search

  pub an_instr : (x : Instr) → HasForm x → Right g (instr_uses x) → HasShortTargets x →
      Again x (instr_code (instr_tag x) ∷ operands_image g x) (instr_in (head g) line)
  unfolding instr_in
  an_instr x h uses small =
      let f = instr_tag x in
      coded_again instr_tags f x (operands_image g x)
      (λ at f r. allowed (head g) line (form_uses f) >>= λ done. operands_in (head g) line f r) (form_coded f)
      (λ at. allowed_then (head g) line (form_uses f) (form_right x uses) (operands_again x h uses small))

module _ (l : Begun) (line : ℕ) where
  -- what stands behind the code of a form
  abbrev OperandsAre : InstrTag → Rest → (Instr × Rest) → Type 0
  OperandsAre f r x =
      (instr_tag x.0 ≡ f)
      × Part (whole l) r.bytes (operands_image (whole l) x.0) x.1.bytes (instr_uses x.0) (HasForm x.0)

  abbrev AreRight : List Use → Type 0
  AreRight us = AllByRecursion (IsRight (whole l)) us

  scalar_said : Says (SlotIs (whole l) l.source.scalars sort.Scalar) (slot_in line l.source.scalars)
  scalar_said = saying.a_scalar l line

  index_said : Says (IndexIs l line false) (index_in l.source line false)
  index_said = saying.an_index l line false

  expr_said : Says (ExprIs l line false) (expr_in l.source line false)
  expr_said = saying.an_expr l line false

  target_said : Says (ShortIs (whole l)) short_in
  target_said = a_number (whole l)

  -- what the kind has to have, where the rule is at these bytes
  had : (f : InstrTag) (a : List ℕ) → AreRight (form_uses f) → Part (whole l) a [] a (form_uses f) U
  had f a right = spoken_of (whole l) a (form_uses f) right

  bit_is : (b : BitBank) (r : Rest) → AreRight (BankUse (bank_of b) ∷ []) →
      Holds (OperandsAre (bit_tag b) r) (bit_in l.source line b r)
  unfolding bit_in
  bit_is b r right =
      of_three_said (OperandsAre (bit_tag b) r) (λ x i j. Bit x b i j) scalar_said index_said index_said r
      (λ x px y py z pz.
      (refl, skip px (skip (spoken_of (whole l) x.1.bytes (BankUse (bank_of b) ∷ []) right) (both py pz))))

  put_bit_is : (b : BitBank) (r : Rest) → AreRight (BankUse (bank_of b) ∷ []) →
      Holds (OperandsAre (put_bit_tag b) r) (put_bit_in l.source line b r)
  unfolding put_bit_in
  put_bit_is b r right =
      of_three_said (OperandsAre (put_bit_tag b) r) (PutBit b) index_said index_said expr_said r (λ x px y py z pz.
      (refl, skip (spoken_of (whole l) r.bytes (BankUse (bank_of b) ∷ []) right) (three_of (both px (both py pz)))))

  operands_are : (f : InstrTag) (r : Rest) → AreRight (form_uses f) →
      Holds (OperandsAre f r) (operands_in l.source line f r)
  unfolding let_in let_place_in get_in look_in put_seq_in put_bits_in put_multi_in put_view_in view_data_in view_of_in
      each_in first_in next_in if_in if_all_in goto_in call_in return_in
  operands_are tag.Let r right =
      of_two_said (OperandsAre tag.Let r) Let scalar_said expr_said r (λ a pa b pb. (refl, skip pa pb))
  operands_are tag.LetPlace r right =
      of_three_said (OperandsAre tag.LetPlace r) LetPlace (saying.a_row l line) index_said expr_said r
      (λ a pa b pb c pc. (refl, skip pa (both pb pc)))
  operands_are tag.Get r right =
      of_three_said (OperandsAre tag.Get r) Get (saying.some_words l line) index_said index_said r
      (λ a pa b pb c pc. (refl, skip pa (both pb pc)))
  operands_are tag.BitQ r right = bit_is bits.Q r right
  operands_are tag.BitP r right = bit_is bits.P r right
  operands_are tag.Look r right =
      of_two_said (OperandsAre tag.Look r) Look (saying.a_view l line) index_said r
      (λ a pa b pb. (refl, skip pa (skip (had tag.Look a.1.bytes right) pb)))
  operands_are tag.PutSeq r right =
      of_four_said (OperandsAre tag.PutSeq r) (λ i d q v. Put i (tuple.Seq d q v)) index_said expr_said expr_said
      (saying.a_view l line) r
      (λ a pa b pb c pc d pd. (refl, both pa (skip (had tag.PutSeq a.1.bytes right) (both pb (last pc pd)))))
  operands_are tag.PutBits r right =
      then_said (OperandsAre tag.PutBits r) _ index_said r (λ i pi.
      of_four_said (OperandsAre tag.PutBits r) (λ d h t v. Put i.0 (tuple.Bits d h t v)) expr_said (saying.a_row l line)
      expr_said (saying.a_view l line) i.1 (λ a pa b pb c pc d pd.
      (refl, both pi (skip (had tag.PutBits i.1.bytes right) (both pa (skip pb (last pc pd)))))))
  operands_are tag.PutMulti r right =
      of_four_said (OperandsAre tag.PutMulti r) (λ i d k t. Put i (tuple.Multi d k t)) index_said expr_said expr_said
      expr_said r (λ a pa b pb c pc d pd.
      (refl, both pa (skip (had tag.PutMulti a.1.bytes right) (three_of (both pb (both pc pd))))))
  operands_are tag.PutQ r right = put_bit_is bits.Q r right
  operands_are tag.PutP r right = put_bit_is bits.P r right
  operands_are tag.PutView r right =
      of_two_said (OperandsAre tag.PutView r) PutView index_said (saying.a_view l line) r
      (λ a pa b pb. (refl, skip (had tag.PutView r.bytes right) (last pa pb)))
  operands_are tag.ViewData r right =
      of_two_said (OperandsAre tag.ViewData r) ViewData (saying.a_view l line) (saying.some_words l line) r
      (λ a pa b pb. (refl, skip pa pb))
  operands_are tag.ViewOf r right =
      of_three_said (OperandsAre tag.ViewOf r) ViewOf (saying.a_view l line) (saying.some_words l line) index_said r
      (λ a pa b pb c pc. (refl, skip pa (skip (had tag.ViewOf a.1.bytes right) (skip pb pc))))
  operands_are tag.Each r right =
      of_four_said (OperandsAre tag.Each r) Each (parts.a_code ranges) (saying.a_row l line)
      (saying.an_expr l line true) (saying.a_where l line) r
      (λ a pa b pb c pc d pd. (refl, behind (range_code a.0) pa (skip pb (both pc pd))))
  operands_are tag.First r right =
      of_four_said (OperandsAre tag.First r) First scalar_said (parts.a_code ranges) (saying.a_condition l line true)
      target_said r
      (λ a pa b pb c pc d pd. (refl, skip pa (behind (range_code b.0) pb (ending pc pd))))
  operands_are tag.Next r right =
      of_three_said (OperandsAre tag.Next r) Next scalar_said (parts.a_code ranges) target_said r
      (λ a pa b pb c pc. (refl, skip pa (behind (range_code b.0) pb pc)))
  operands_are tag.If r right =
      of_two_said (OperandsAre tag.If r) If (saying.a_condition l line false) target_said r
      (λ a pa b pb. (refl, ending pa pb))
  operands_are tag.IfAll r right =
      of_three_said (OperandsAre tag.IfAll r) IfAll (parts.a_code ranges) (saying.a_condition l line true) target_said r
      (λ a pa b pb c pc. (refl, behind (range_code a.0) pa (ending pb pc)))
  operands_are tag.Goto r right = of_one_said (OperandsAre tag.Goto r) Goto target_said r (λ a pa. (refl, pa))
  operands_are tag.Call r right = of_one_said (OperandsAre tag.Call r) Call target_said r (λ a pa. (refl, pa))
  operands_are tag.Return r right =
      of_one_said (OperandsAre tag.Return r) Return (saying.a_view l line) r (λ a pa. (refl, pa))
  operands_are tag.Finish r right = (refl, none (whole l) r.bytes)

  abbrev pub InstrIs : Rest → (Instr × Rest) → Type 0
  InstrIs r x =
      let g = whole l in
      Part g r.bytes (instr_code (instr_tag x.0) ∷ operands_image g x.0) x.1.bytes (instr_uses x.0) (HasForm x.0)

  pub instr_said : Says InstrIs (instr_in l.source line)
  unfolding instr_in
  instr_said = record {
    said = λ r.
        let I = InstrIs r in
        then_said I _ (parts.a_code instr_tags) r (λ f e.
        then_with (λ done. AreRight (form_uses f.0)) I (allowed l.source line (form_uses f.0)) _
        (uses_allowed l.lines l.source line f.0) (λ done right.
        holds_as (OperandsAre f.0 f.1) I (operands_in l.source line f.0 f.1) (operands_are f.0 f.1 right) (λ x p.
        behind (instr_code (instr_tag x.0)) (e ∙ ap (λ (k : InstrTag). instr_code k ∷ f.1.bytes) (sym p.0)) p.1)));
  }

-- what computes the decoder of instructions on a literal
unfoldable pub instrs_on_literals : ⊤
unfolding let_in let_place_in get_in bit_in look_in put_seq_in put_bits_in put_multi_in put_bit_in put_view_in
    view_data_in view_of_in each_in first_in next_in if_in if_all_in goto_in call_in return_in instr_in
instrs_on_literals = tt
