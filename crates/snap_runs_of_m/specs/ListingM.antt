-- Listing M as a `Source`: words that every process writes, with ids
-- and toggles; handshake bits and views in registers of their own.
use Rattle.std.specs.Prelude.{ℕ, [], ◌∷◌, Some, None}
use Rattle.snap_words.specs.declared.kind.Field.TheVariants as field
use Rattle.snap_words.specs.declared.kind.KindTag.TheVariants as kind
use Rattle.snap_semantics.specs.declared.instr.BitBank.TheVariants.{Q, P}
use Rattle.snap_semantics.specs.declared.instr.Condition.TheVariants.{One, Two}
use Rattle.snap_semantics.specs.declared.instr.Expr.TheVariants.{Term, Sum, Not}
use Rattle.snap_semantics.specs.declared.instr.Index.TheVariants.{Number, Me, Word, Place, Scalar}
use Rattle.snap_semantics.specs.declared.instr.Instr.{Instr}
use Rattle.snap_semantics.specs.declared.instr.Instr.TheVariants.{Let, LetPlace, Get, Bit, Look, Put, PutBit, PutView}
use Rattle.snap_semantics.specs.declared.instr.Instr.TheVariants.{ViewData, Each, First, Next, If, IfAll}
use Rattle.snap_semantics.specs.declared.instr.Instr.TheVariants.{Goto, Call, Return, Finish}
use Rattle.snap_semantics.specs.declared.instr.Join.TheVariants.{And}
use Rattle.snap_semantics.specs.declared.instr.Line.{Line}
use Rattle.snap_semantics.specs.declared.instr.Range.TheVariants.{Processes, Words}
use Rattle.snap_semantics.specs.declared.instr.Relation.TheVariants.{Equal, Different}
use Rattle.snap_semantics.specs.declared.instr.Term.{Term as Operand}
use Rattle.snap_semantics.specs.declared.instr.Term.TheVariants.{Index, Arg, Row, Field}
use Rattle.snap_semantics.specs.declared.instr.Tuple.TheVariants as tuple
use Rattle.snap_semantics.specs.Source.{Name, Source}

-- the names of its locals, letter by letter
abbrev pub j : Name
j = 106 ∷ []

abbrev pub k : Name
k = 107 ∷ []

abbrev pub x : Name
x = 120 ∷ []

abbrev pub moved : Name
moved = 109 ∷ 111 ∷ 118 ∷ 101 ∷ 100 ∷ []

abbrev pub g : Name
g = 103 ∷ []

abbrev pub h : Name
h = 104 ∷ []

abbrev pub d : Name
d = 100 ∷ []

abbrev pub tog : Name
tog = 116 ∷ 111 ∷ 103 ∷ []

abbrev pub a : Name
a = 97 ∷ []

abbrev pub b : Name
b = 98 ∷ []

abbrev pub s : Name
s = 115 ∷ []

abbrev pub at : ℕ → Instr → Line
at number i = record { number = number; instr = i }

abbrev pub number : ℕ → Operand
number value = Index (Number value)

-- the two copies of word k have the same id, and the same toggle
abbrev pub id_of : Name → Operand
id_of copies = Field field.Id copies (Scalar k)

abbrev pub toggle_of : Name → Operand
toggle_of copies = Field field.Toggle copies (Scalar k)

abbrev pub listing_m : Source
listing_m = record {
  kind = kind.Multi;
  scalars = j ∷ k ∷ x ∷ [];
  rows = moved ∷ g ∷ h ∷ d ∷ tog ∷ [];
  words = a ∷ b ∷ [];
  views = s ∷ [];
  scan = 10;
  update = 50;
  lines =
      at 10 (Each Processes moved (Term (number 0)) None)
      ∷ at 11 (Let j (Term (number 1)))
      ∷ at 12 (Let k (Term (number 1)))
      ∷ at 13 (Bit x P (Scalar j) Me)
      ∷ at 14 (LetPlace g (Scalar j) (Term (Index (Scalar x))))
      ∷ at 15 (PutBit Q Me (Scalar j) (Term (Index (Scalar x))))
      ∷ at 16 (Next j Processes 13)
      ∷ at 17 (Get a (Scalar k) (Scalar k))
      ∷ at 18 (Next k Words 17)
      ∷ at 19 (Get b (Scalar k) (Scalar k))
      ∷ at 20 (Next k Words 19)
      ∷ at 21 (Bit x P (Scalar j) Me)
      ∷ at 22 (LetPlace h (Scalar j) (Term (Index (Scalar x))))
      ∷ at 23 (Next j Processes 21)
      ∷ at 24 (Each Processes d (Term (number 0)) None)
      ∷ at 25 (Each Processes d (Term (number 1))
      (Some (One (record { left = Row h Place; relation = Different; right = Row g Place }))))
      ∷ at 26 (If (Two And (record { left = id_of a; relation = Equal; right = id_of b })
      (record { left = toggle_of a; relation = Equal; right = toggle_of b })) 29)
      ∷ at 27 (Let x (Term (id_of b)))
      ∷ at 28 (LetPlace d (Scalar x) (Term (number 1)))
      ∷ at 29 (Next k Words 26)
      ∷ at 30 (IfAll Processes (One (record { left = Row d Place; relation = Equal; right = number 0 })) 34)
      ∷ at 31 (Each Processes moved (Sum (Row moved Place) (number 1))
      (Some (One (record { left = Row d Place; relation = Equal; right = number 1 }))))
      ∷ at 32 (First j Processes (One (record { left = Row moved Place; relation = Equal; right = number 3 })) 36)
      ∷ at 33 (Goto 13)
      ∷ at 34 (ViewData s b)
      ∷ at 35 (Return s)
      ∷ at 36 (Look s (Scalar j))
      ∷ at 37 (Return s)
      ∷ at 50 (Let j (Term (number 1)))
      ∷ at 51 (Bit x Q (Scalar j) Me)
      ∷ at 52 (PutBit P Me (Scalar j) (Not (Index (Scalar x))))
      ∷ at 53 (Next j Processes 51)
      ∷ at 54 (Call 10)
      ∷ at 55 (PutView Me s)
      ∷ at 56 (LetPlace tog Word (Not (Row tog Word)))
      ∷ at 57 (Put Word (tuple.Multi (Term Arg) (Term (Index Me)) (Term (Row tog Word))))
      ∷ at 58 Finish
      ∷ [];
}
