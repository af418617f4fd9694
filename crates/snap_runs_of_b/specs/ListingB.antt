-- Listing B as a `Source`: single-writer words with a handshake bit for each reader and a toggle.
use Rattle.std.specs.Prelude.{ℕ, [], ◌∷◌, Some, None}
use Rattle.snap_words.specs.declared.kind.Field.TheVariants as field
use Rattle.snap_words.specs.declared.kind.KindTag.TheVariants as kind
use Rattle.snap_semantics.specs.declared.instr.BitBank.TheVariants as bits
use Rattle.snap_semantics.specs.declared.instr.Comparison.{Comparison}
use Rattle.snap_semantics.specs.declared.instr.Condition.{Condition}
use Rattle.snap_semantics.specs.declared.instr.Condition.TheVariants.{One, Three}
use Rattle.snap_semantics.specs.declared.instr.Expr.TheVariants.{Term, Sum, Not}
use Rattle.snap_semantics.specs.declared.instr.Index.TheVariants.{Number, Me, Place, Scalar}
use Rattle.snap_semantics.specs.declared.instr.Instr.{Instr}
use Rattle.snap_semantics.specs.declared.instr.Instr.TheVariants.{Let, LetPlace, Get, Bit, Put, PutBit, ViewData}
use Rattle.snap_semantics.specs.declared.instr.Instr.TheVariants.{ViewOf, Each, First, Next, IfAll}
use Rattle.snap_semantics.specs.declared.instr.Instr.TheVariants.{Goto, Call, Return, Finish}
use Rattle.snap_semantics.specs.declared.instr.Join.TheVariants.{And, Or}
use Rattle.snap_semantics.specs.declared.instr.Line.{Line}
use Rattle.snap_semantics.specs.declared.instr.Range.TheVariants.{Processes}
use Rattle.snap_semantics.specs.declared.instr.Relation.{Relation}
use Rattle.snap_semantics.specs.declared.instr.Relation.TheVariants.{Equal, Different}
use Rattle.snap_semantics.specs.declared.instr.Term.{Term as Operand}
use Rattle.snap_semantics.specs.declared.instr.Term.TheVariants.{Index, Arg, Row, Field, Handshake}
use Rattle.snap_semantics.specs.declared.instr.Tuple.TheVariants as tuple
use Rattle.snap_semantics.specs.Source.{Name, Source}

-- the names of its locals, letter by letter
abbrev pub j : Name
j = 106 ∷ []

abbrev pub x : Name
x = 120 ∷ []

abbrev pub t : Name
t = 116 ∷ []

abbrev pub moved : Name
moved = 109 ∷ 111 ∷ 118 ∷ 101 ∷ 100 ∷ []

abbrev pub g : Name
g = 103 ∷ []

abbrev pub f : Name
f = 102 ∷ []

abbrev pub a : Name
a = 97 ∷ []

abbrev pub b : Name
b = 98 ∷ []

abbrev pub s : Name
s = 115 ∷ []

abbrev pub at : ℕ → Instr → Line
at k i = record { number = k; instr = i }

abbrev pub number : ℕ → Operand
number k = Index (Number k)

abbrev pub compare : Operand → Relation → Operand → Comparison
compare x r y = record { left = x; relation = r; right = y }

-- what the two copies of the word at @ say to this process, their toggles, and the bit that it drew
abbrev pub handshake_a : Operand
handshake_a = Handshake a Place Me

abbrev pub handshake_b : Operand
handshake_b = Handshake b Place Me

abbrev pub toggle_a : Operand
toggle_a = Field field.Toggle a Place

abbrev pub toggle_b : Operand
toggle_b = Field field.Toggle b Place

abbrev pub bit : Operand
bit = Row g Place

-- the copies agree at @
abbrev pub agree : Condition
agree = Three And (compare handshake_a Equal bit) (compare handshake_b Equal bit) (compare toggle_a Equal toggle_b)

-- the copies differ at @
abbrev pub differ : Condition
differ = Three Or (compare handshake_a Different bit) (compare handshake_b Different bit) (compare toggle_a Different toggle_b)

abbrev pub listing_b : Source
listing_b = record {
  kind = kind.Bits;
  scalars = j ∷ x ∷ t ∷ [];
  rows = moved ∷ g ∷ f ∷ [];
  words = a ∷ b ∷ [];
  views = s ∷ [];
  scan = 10;
  update = 40;
  lines =
      at 10 (Each Processes moved (Term (number 0)) None)
      ∷ at 11 (Let j (Term (number 1)))
      ∷ at 12 (Get a (Scalar j) (Scalar j))
      ∷ at 13 (LetPlace g (Scalar j) (Term (Handshake a (Scalar j) Me)))
      ∷ at 14 (PutBit bits.Q Me (Scalar j) (Term (Row g (Scalar j))))
      ∷ at 15 (Next j Processes 12)
      ∷ at 16 (Get a (Scalar j) (Scalar j))
      ∷ at 17 (Next j Processes 16)
      ∷ at 18 (Get b (Scalar j) (Scalar j))
      ∷ at 19 (Next j Processes 18)
      ∷ at 20 (IfAll Processes agree 25)
      ∷ at 21 (Each Processes moved (Sum (Row moved Place) (number 1)) (Some differ))
      ∷ at 22 (First j Processes (One (compare (Row moved Place) Equal (number 2))) 27)
      ∷ at 23 (Goto 12)
      ∷ at 25 (ViewData s b)
      ∷ at 26 (Return s)
      ∷ at 27 (ViewOf s b (Scalar j))
      ∷ at 28 (Return s)
      ∷ at 40 (Let j (Term (number 1)))
      ∷ at 41 (Bit x bits.Q (Scalar j) Me)
      ∷ at 42 (LetPlace f (Scalar j) (Not (Index (Scalar x))))
      ∷ at 43 (Next j Processes 41)
      ∷ at 44 (Call 10)
      ∷ at 45 (Let t (Not (Index (Scalar t))))
      ∷ at 46 (Put Me (tuple.Bits (Term Arg) f (Term (Index (Scalar t))) s))
      ∷ at 47 Finish
      ∷ [];
}
