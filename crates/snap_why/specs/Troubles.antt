-- The operand at which a line traps: the first, in the order in which the table of lines takes them, that is no
-- place, no number of 64 bits, no bit, or no register of the process.
use Rattle.std.specs.Prelude.{ℕ, zero, suc, ◌+◌, ◌-◌, ◌^◌, List, [], ◌∷◌, take, min, Option, Some, None, nat_eq}
use Rattle.std.specs.Prelude.{nat_lt, if◌then◌else◌, slice_index, slice_index_or}
use Rattle.snap_words.specs.Kind.{field_of, is_bit, may_write}
use Rattle.snap_words.specs.Shape.{Counts, is_place, places}
use Rattle.snap_words.specs.Word.{Word, no_word}
use Rattle.snap_words.specs.declared.address.Bank.{Bank}
use Rattle.snap_words.specs.declared.address.Bank.TheVariants as bank
use Rattle.snap_words.specs.declared.kind.KindTag.{KindTag}
use Rattle.snap_semantics.specs.Readers.{LocalValue, RowValue, WordsValue, local_value}
use Rattle.snap_semantics.specs.Rules.{or_else}
use Rattle.snap_semantics.specs.Source.{Name}
use Rattle.snap_semantics.specs.State.{Locals, State, process_at}
use Rattle.snap_semantics.specs.Table.{bank_of, range_end}
use Rattle.snap_semantics.specs.Value.{Context, arg_of, index_value}
use Rattle.snap_semantics.specs.declared.instr.BitBank.{BitBank}
use Rattle.snap_semantics.specs.declared.instr.Comparison.{Comparison}
use Rattle.snap_semantics.specs.declared.instr.Condition.{Condition}
use Rattle.snap_semantics.specs.declared.instr.Condition.TheVariants.{One, Two, Three, Four}
use Rattle.snap_semantics.specs.declared.instr.Expr.{Expr}
use Rattle.snap_semantics.specs.declared.instr.Expr.TheVariants as expr
use Rattle.snap_semantics.specs.declared.instr.Index.{Index}
use Rattle.snap_semantics.specs.declared.instr.Instr.{Instr}
use Rattle.snap_semantics.specs.declared.instr.Instr.TheVariants as instr
use Rattle.snap_semantics.specs.declared.instr.Term.{Term}
use Rattle.snap_semantics.specs.declared.instr.Term.TheVariants as term
use Rattle.snap_semantics.specs.declared.instr.Tuple.{Tuple}
use Rattle.snap_semantics.specs.declared.instr.Tuple.TheVariants as tuple
use Rattle.snap_why.specs.declared.taker.Taker.{Taker}
use Rattle.snap_why.specs.declared.trouble.Trouble.{Trouble}
use Rattle.snap_why.specs.declared.trouble.Trouble.TheVariants.{NoPlace, LargeSum, NoBit, NotOwn}

-- who takes values, in a state
abbrev pub context_of : Counts → State → Taker → Context
context_of shape S t =
    record { shape = shape; me = t.process; op = t.op; locals = (process_at S t.process).locals; place = t.place }

abbrev pub row_in : Option LocalValue → List ℕ
row_in (Some (RowValue row)) = row
row_in _ = []

abbrev pub words_in : Option LocalValue → List Word
words_in (Some (WordsValue words)) = words
words_in _ = []

-- what a row, or a `words` local, has at place k
abbrev pub row_number : Locals → Name → ℕ → ℕ
row_number l x k = slice_index (row_in (local_value l x)) (k - 1)

abbrev pub word_of : Locals → Name → ℕ → Word
word_of l x k = slice_index_or (words_in (local_value l x)) (k - 1) no_word

-- the number of an operand whose places are there
abbrev pub term_number : Context → Term → ℕ
term_number c (term.Index i) = index_value c i
term_number c term.Arg = arg_of c.op
term_number c (term.Row x i) = row_number c.locals x (index_value c i)
term_number c (term.Field f x i) = field_of f (word_of c.locals x (index_value c i))
term_number c (term.Handshake x i j) =
    slice_index (word_of c.locals x (index_value c i)).handshakes (index_value c j - 1)

abbrev pub negated : ℕ → ℕ
negated x = if nat_eq x 0 then 1 else 0

-- the number of an expression; a sum above 2^64 - 1 is a trouble of its own
abbrev pub expr_number : Context → Expr → ℕ
expr_number c (expr.Term t) = term_number c t
expr_number c (expr.Sum t u) = min (term_number c t + term_number c u) (2 ^ 64 - 1)
expr_number c (expr.Not t) = negated (term_number c t)

-- an index that is none of so many places
abbrev pub place_trouble : Context → Index → ℕ → Option Trouble
place_trouble c i count = if is_place count (index_value c i) then None else Some (NoPlace i (index_value c i) count)

abbrev pub term_trouble : Context → Term → Option Trouble
term_trouble c (term.Index i) = None
term_trouble c term.Arg = None
term_trouble c (term.Row x i) = place_trouble c i (places c.shape)
term_trouble c (term.Field f x i) = place_trouble c i (places c.shape)
term_trouble c (term.Handshake x i j) = or_else (place_trouble c i (places c.shape)) (place_trouble c j c.shape.n)

-- two numbers whose sum is none of 64 bits
abbrev pub sum_trouble : ℕ → ℕ → Option Trouble
sum_trouble x y = if nat_lt (x + y) (2 ^ 64) then None else Some (LargeSum x y)

abbrev pub expr_trouble : Context → Expr → Option Trouble
expr_trouble c (expr.Term t) = term_trouble c t
expr_trouble c (expr.Sum t u) =
    or_else (term_trouble c t) (or_else (term_trouble c u) (sum_trouble (term_number c t) (term_number c u)))
expr_trouble c (expr.Not t) = term_trouble c t

abbrev pub comparison_trouble : Context → Comparison → Option Trouble
comparison_trouble c k = or_else (term_trouble c k.left) (term_trouble c k.right)

abbrev pub condition_trouble : Context → Condition → Option Trouble
condition_trouble c (One k) = comparison_trouble c k
condition_trouble c (Two j k l) = or_else (comparison_trouble c k) (comparison_trouble c l)
condition_trouble c (Three j k l m) =
    or_else (comparison_trouble c k) (or_else (comparison_trouble c l) (comparison_trouble c m))
condition_trouble c (Four j k l m o) =
    or_else (comparison_trouble c k)
    (or_else (comparison_trouble c l) (or_else (comparison_trouble c m) (comparison_trouble c o)))

abbrev pub where_trouble : Context → Option Condition → Option Trouble
where_trouble c None = None
where_trouble c (Some k) = condition_trouble c k

-- a taker at another place of a quantifier
abbrev pub taker_at : Taker → ℕ → Taker
taker_at t p = record { process = t.process; op = t.op; place = p }

-- a condition at so many places, from place p on
abbrev pub conditions_trouble : Counts → State → Taker → Condition → (p : ℕ) → ℕ → Option Trouble
conditions_trouble shape S t k p zero = None
conditions_trouble shape S t k p (suc more) =
    or_else (condition_trouble (context_of shape S (taker_at t p)) k) (conditions_trouble shape S t k (p + 1) more)

-- the new values of so many places, from place p on
abbrev pub values_trouble : Counts → State → Taker → Expr → Option Condition → (p : ℕ) → ℕ → Option Trouble
values_trouble shape S t e k p zero = None
values_trouble shape S t e k p (suc more) =
    or_else (or_else (expr_trouble (context_of shape S (taker_at t p)) e)
    (where_trouble (context_of shape S (taker_at t p)) k))
    (values_trouble shape S t e k (p + 1) more)

-- a number that is no bit
abbrev pub bit_trouble : ℕ → Option Trouble
bit_trouble x = if is_bit x then None else Some (NoBit x)

-- the first of these numbers that is no bit
abbrev pub bits_trouble : List ℕ → Option Trouble
bits_trouble [] = None
bits_trouble (x ∷ xs) = or_else (bit_trouble x) (bits_trouble xs)

-- the numbers of a tuple, and the bits of a word that is made of them
abbrev pub tuple_trouble : Context → Tuple → Option Trouble
tuple_trouble c (tuple.Seq d q s) = or_else (expr_trouble c d) (expr_trouble c q)
tuple_trouble c (tuple.Bits d h t s) =
    or_else (expr_trouble c d) (or_else (expr_trouble c t)
    (or_else (bit_trouble (expr_number c t)) (bits_trouble (take c.shape.n (row_in (local_value c.locals h))))))
tuple_trouble c (tuple.Multi d i t) =
    or_else (expr_trouble c d) (or_else (expr_trouble c i) (or_else (expr_trouble c t) (bit_trouble (expr_number c t))))

-- a register of another process; j is 0 where there is one index alone
abbrev pub owner_trouble : KindTag → Context → Bank → ℕ → ℕ → Option Trouble
owner_trouble kind c b i j = if may_write kind c.me b i then None else Some (NotOwn b i j)

-- the bit that is put, and its register
abbrev pub put_bit_trouble : KindTag → Context → BitBank → Index → Index → Expr → Option Trouble
put_bit_trouble kind c b i j e =
    or_else (place_trouble c i c.shape.n) (or_else (place_trouble c j c.shape.n) (or_else (expr_trouble c e)
    (or_else (bit_trouble (expr_number c e)) (owner_trouble kind c (bank_of b) (index_value c i) (index_value c j)))))

-- a line of process t, in a state
abbrev pub line_trouble : KindTag → Counts → State → Taker → Instr → Option Trouble
line_trouble kind shape S t (instr.Let x e) = expr_trouble (context_of shape S t) e
line_trouble kind shape S t (instr.LetPlace x i e) =
    or_else (place_trouble (context_of shape S t) i (places shape)) (expr_trouble (context_of shape S t) e)
line_trouble kind shape S t (instr.Get x i j) =
    or_else (place_trouble (context_of shape S t) i (places shape)) (place_trouble (context_of shape S t) j shape.w)
line_trouble kind shape S t (instr.Bit x b i j) =
    or_else (place_trouble (context_of shape S t) i shape.n) (place_trouble (context_of shape S t) j shape.n)
line_trouble kind shape S t (instr.Look x i) = place_trouble (context_of shape S t) i shape.n
line_trouble kind shape S t (instr.Put i parts) =
    or_else (place_trouble (context_of shape S t) i shape.w) (or_else (tuple_trouble (context_of shape S t) parts)
    (owner_trouble kind (context_of shape S t) bank.R (index_value (context_of shape S t) i) 0))
line_trouble kind shape S t (instr.PutBit b i j e) = put_bit_trouble kind (context_of shape S t) b i j e
line_trouble kind shape S t (instr.PutView i x) =
    or_else (place_trouble (context_of shape S t) i shape.n)
    (owner_trouble kind (context_of shape S t) bank.V (index_value (context_of shape S t) i) 0)
line_trouble kind shape S t (instr.ViewOf x y i) = place_trouble (context_of shape S t) i (places shape)
line_trouble kind shape S t (instr.Each g x e k) = values_trouble shape S t e k 1 (range_end shape g)
line_trouble kind shape S t (instr.First x g k target) = conditions_trouble shape S t k 1 (range_end shape g)
line_trouble kind shape S t (instr.If k target) = condition_trouble (context_of shape S t) k
line_trouble kind shape S t (instr.IfAll g k target) = conditions_trouble shape S t k 1 (range_end shape g)
line_trouble kind shape S t _ = None
