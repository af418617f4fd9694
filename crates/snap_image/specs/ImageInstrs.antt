-- How an instruction is read from an image: what the form that
-- its code names needs of the kind, and then its operands.
use Rattle.std.specs.Prelude.{List, [], ◌∷◌, Bool, true, ℕ, false, Ok}
use Rattle.snap_words.specs.declared.address.Bank.TheVariants as bank
use Rattle.snap_words.specs.declared.kind.KindTag.TheVariants as kind
use Rattle.snap_words.specs.Kind.{has_bank, has_view}
use Rattle.snap_words.specs.declared.kind.KindTag.{KindTag}
use Rattle.snap_semantics.specs.declared.instr.Instr.{Instr}
use Rattle.snap_semantics.specs.declared.instr.Instr.TheVariants as instr
use Rattle.snap_semantics.specs.declared.instr.BitBank.{BitBank}
use Rattle.snap_semantics.specs.declared.instr.Tuple.TheVariants as tuple
use Rattle.snap_semantics.specs.declared.instr.BitBank.TheVariants as bits
use Rattle.snap_semantics.specs.Uses.{Use, BankUse, ViewUse, TupleUse, same_kind}
use Rattle.snap_semantics.specs.Answers.{◌>>=◌}
use Rattle.snap_semantics.specs.Source.{Source}
use Rattle.snap_image.specs.declared.instrs.InstrTag.{InstrTag}
use Rattle.snap_image.specs.declared.instrs.InstrTag.TheVariants as tag
use Rattle.snap_image.specs.ImageForms.{Rest, Read, of_two, slot_in, expr_in, of_three, index_in, of_four, code_in}
use Rattle.snap_image.specs.ImageForms.{where_in, short_in, condition_in, of_one, allowed}
use Rattle.snap_image.specs.ImageCodes.{ranges}
use Rattle.snap_image.specs.Image.{instr_tags}

-- the bank, tuple or view of a word that a form speaks of
abbrev pub form_uses : InstrTag → List Use
form_uses tag.BitQ = BankUse bank.Q ∷ []
form_uses tag.BitP = BankUse bank.P ∷ []
form_uses tag.Look = BankUse bank.V ∷ []
form_uses tag.PutSeq = TupleUse kind.Seq ∷ []
form_uses tag.PutBits = TupleUse kind.Bits ∷ []
form_uses tag.PutMulti = TupleUse kind.Multi ∷ []
form_uses tag.PutQ = BankUse bank.Q ∷ []
form_uses tag.PutP = BankUse bank.P ∷ []
form_uses tag.PutView = BankUse bank.V ∷ []
form_uses tag.ViewOf = ViewUse ∷ []
form_uses _ = []

-- whether a kind has what a form speaks of
abbrev pub has_form : KindTag → InstrTag → Bool
has_form k tag.BitQ = has_bank k bank.Q
has_form k tag.BitP = has_bank k bank.P
has_form k tag.Look = has_bank k bank.V
has_form k tag.PutSeq = same_kind k kind.Seq
has_form k tag.PutBits = same_kind k kind.Bits
has_form k tag.PutMulti = same_kind k kind.Multi
has_form k tag.PutQ = has_bank k bank.Q
has_form k tag.PutP = has_bank k bank.P
has_form k tag.PutView = has_bank k bank.V
has_form k tag.ViewOf = has_view k
has_form k _ = true

unfoldable pub let_in : Source → ℕ → Rest → Read Instr
let_in s line r = of_two (slot_in line s.scalars) (expr_in s line false) instr.Let r

unfoldable pub let_place_in : Source → ℕ → Rest → Read Instr
let_place_in s line r = of_three (slot_in line s.rows) (index_in s line false) (expr_in s line false) instr.LetPlace r

unfoldable pub get_in : Source → ℕ → Rest → Read Instr
get_in s line r = of_three (slot_in line s.words) (index_in s line false) (index_in s line false) instr.Get r

unfoldable pub bit_in : Source → ℕ → BitBank → Rest → Read Instr
bit_in s line b r =
    of_three (slot_in line s.scalars) (index_in s line false) (index_in s line false) (λ x i j. instr.Bit x b i j) r

unfoldable pub look_in : Source → ℕ → Rest → Read Instr
look_in s line r = of_two (slot_in line s.views) (index_in s line false) instr.Look r

unfoldable pub put_seq_in : Source → ℕ → Rest → Read Instr
put_seq_in s line r =
    of_four (index_in s line false) (expr_in s line false) (expr_in s line false) (slot_in line s.views)
    (λ i d q v. instr.Put i (tuple.Seq d q v)) r

unfoldable pub put_bits_in : Source → ℕ → Rest → Read Instr
put_bits_in s line r = do
  i ← index_in s line false r
  of_four (expr_in s line false) (slot_in line s.rows) (expr_in s line false) (slot_in line s.views)
      (λ d h t v. instr.Put i.0 (tuple.Bits d h t v)) i.1

unfoldable pub put_multi_in : Source → ℕ → Rest → Read Instr
put_multi_in s line r =
    of_four (index_in s line false) (expr_in s line false) (expr_in s line false) (expr_in s line false)
    (λ i d k t. instr.Put i (tuple.Multi d k t)) r

unfoldable pub put_bit_in : Source → ℕ → BitBank → Rest → Read Instr
put_bit_in s line b r =
    of_three (index_in s line false) (index_in s line false) (expr_in s line false) (instr.PutBit b) r

unfoldable pub put_view_in : Source → ℕ → Rest → Read Instr
put_view_in s line r = of_two (index_in s line false) (slot_in line s.views) instr.PutView r

unfoldable pub view_data_in : Source → ℕ → Rest → Read Instr
view_data_in s line r = of_two (slot_in line s.views) (slot_in line s.words) instr.ViewData r

unfoldable pub view_of_in : Source → ℕ → Rest → Read Instr
view_of_in s line r = of_three (slot_in line s.views) (slot_in line s.words) (index_in s line false) instr.ViewOf r

unfoldable pub each_in : Source → ℕ → Rest → Read Instr
each_in s line r =
    of_four (code_in ranges) (slot_in line s.rows) (expr_in s line true) (where_in s line) instr.Each r

unfoldable pub first_in : Source → ℕ → Rest → Read Instr
first_in s line r =
    of_four (slot_in line s.scalars) (code_in ranges) (condition_in s line true) short_in instr.First r

unfoldable pub next_in : Source → ℕ → Rest → Read Instr
next_in s line r = of_three (slot_in line s.scalars) (code_in ranges) short_in instr.Next r

unfoldable pub if_in : Source → ℕ → Rest → Read Instr
if_in s line r = of_two (condition_in s line false) short_in instr.If r

unfoldable pub if_all_in : Source → ℕ → Rest → Read Instr
if_all_in s line r = of_three (code_in ranges) (condition_in s line true) short_in instr.IfAll r

unfoldable pub goto_in : Rest → Read Instr
goto_in r = of_one short_in instr.Goto r

unfoldable pub call_in : Rest → Read Instr
call_in r = of_one short_in instr.Call r

unfoldable pub return_in : Source → ℕ → Rest → Read Instr
return_in s line r = of_one (slot_in line s.views) instr.Return r

-- what stands behind the code of a form
abbrev pub operands_in : Source → ℕ → InstrTag → Rest → Read Instr
operands_in s line tag.Let r = let_in s line r
operands_in s line tag.LetPlace r = let_place_in s line r
operands_in s line tag.Get r = get_in s line r
operands_in s line tag.BitQ r = bit_in s line bits.Q r
operands_in s line tag.BitP r = bit_in s line bits.P r
operands_in s line tag.Look r = look_in s line r
operands_in s line tag.PutSeq r = put_seq_in s line r
operands_in s line tag.PutBits r = put_bits_in s line r
operands_in s line tag.PutMulti r = put_multi_in s line r
operands_in s line tag.PutQ r = put_bit_in s line bits.Q r
operands_in s line tag.PutP r = put_bit_in s line bits.P r
operands_in s line tag.PutView r = put_view_in s line r
operands_in s line tag.ViewData r = view_data_in s line r
operands_in s line tag.ViewOf r = view_of_in s line r
operands_in s line tag.Each r = each_in s line r
operands_in s line tag.First r = first_in s line r
operands_in s line tag.Next r = next_in s line r
operands_in s line tag.If r = if_in s line r
operands_in s line tag.IfAll r = if_all_in s line r
operands_in s line tag.Goto r = goto_in r
operands_in s line tag.Call r = call_in r
operands_in s line tag.Return r = return_in s line r
operands_in s line tag.Finish r = Ok (instr.Finish, r)

unfoldable pub instr_in : Source → ℕ → Rest → Read Instr
instr_in s line r = do
  f ← code_in instr_tags r
  done ← allowed s line (form_uses f.0)
  operands_in s line f.0 f.1
