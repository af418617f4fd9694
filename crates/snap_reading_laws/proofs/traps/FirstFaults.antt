-- What is told of a line is the first of its operands that the process cannot take: `IsFirstFault`.
use Rattle.std.proofs.Common.{◌≡◌, ℕ, zero, suc, ◌+◌, ◌^◌, ◌<◌, List, [], ◌∷◌, ◌++◌, Option, Some, None, Result}
use Rattle.std.proofs.Common.{Ok, Err, Bool, true, false, if◌then◌else◌, map, take, nat_lt, refl, sym, ap, ◌∙◌, arith}
use Rattle.std.specs.List.{range_with_len}
use Rattle.snap_words.specs.Kind.{is_bit, may_write}
use Rattle.snap_words.specs.Shape.{Counts, is_place, places}
use Rattle.snap_words.specs.declared.address.Bank.{Bank}
use Rattle.snap_words.specs.declared.kind.KindTag.{KindTag}
use Rattle.snap_semantics.specs.Readers.{local_value}
use Rattle.snap_semantics.specs.Rules.{or_else}
use Rattle.snap_semantics.specs.State.{State, process_at, value_at}
use Rattle.snap_semantics.specs.Table.{bit_value}
use Rattle.snap_semantics.specs.Value.{Context, at_place, checked_sum, expr_value, index_value, term_value}
use Rattle.snap_semantics.specs.declared.instr.Comparison.{Comparison}
use Rattle.snap_semantics.specs.declared.instr.Condition.{Condition}
use Rattle.snap_semantics.specs.declared.instr.Condition.TheVariants.{One}
use Rattle.snap_semantics.specs.declared.instr.Expr.{Expr}
use Rattle.snap_semantics.specs.declared.instr.Expr.TheVariants as expr
use Rattle.snap_semantics.specs.declared.instr.Index.{Index}
use Rattle.snap_semantics.specs.declared.instr.Instr.{Instr}
use Rattle.snap_semantics.specs.declared.instr.Instr.TheVariants as instr
use Rattle.snap_semantics.specs.declared.instr.Term.{Term}
use Rattle.snap_semantics.specs.declared.instr.Term.TheVariants as term
use Rattle.snap_semantics.specs.declared.instr.Tuple.{Tuple}
use Rattle.snap_semantics.specs.declared.instr.Tuple.TheVariants as tuple
use Rattle.snap_semantics.specs.declared.process.Cause.{Cause}
use Rattle.snap_semantics.specs.declared.process.Cause.TheVariants as cause
use Rattle.snap_why.specs.Troubles.{bit_trouble, bits_trouble, comparison_trouble, condition_trouble}
use Rattle.snap_why.specs.Troubles.{conditions_trouble, context_of, expr_number, expr_trouble, line_trouble}
use Rattle.snap_why.specs.Troubles.{owner_trouble, place_trouble, row_in, sum_trouble}
use Rattle.snap_why.specs.Troubles.{term_number, term_trouble, tuple_trouble, values_trouble, where_trouble}
use Rattle.snap_why.specs.declared.taker.Taker.{Taker}
use Rattle.snap_why.specs.declared.trouble.Trouble.{Trouble}
use Rattle.snap_why.specs.declared.trouble.Trouble.TheVariants.{NoPlace, LargeSum, NoBit, NotOwn}
use Rattle.snap_reading_laws.specs.traps.Operands.{IsFirstFault, Operand, Taken, at_each, bit, bit_fault}
use Rattle.snap_reading_laws.specs.traps.Operands.{comparison_operands, condition_operands, expr_operands, fault_at, fault_of}
use Rattle.snap_reading_laws.specs.traps.Operands.{handshake, here, operands_of, place, register, sum, sum_fault}
use Rattle.snap_reading_laws.specs.traps.Operands.{term_operands, told_where_none, tuple_operands, where_operands}
use Rattle.snap_reading_laws.proofs.traps.Places.{or_none}
use Rattle.snap_reading_laws.proofs.traps.Values.{Gives, HaveOneSort, expr_gives, term_gives}

-- the first fault among operands
abbrev pub first_fault : KindTag → List Taken → Option Trouble
first_fault kind [] = None
first_fault kind (o ∷ os) = or_else (fault_of kind o.0 o.1) (first_fault kind os)

-- the fault that is found is the first
pub is_first : (kind : KindTag) (os : List Taken) → IsFirstFault kind os (first_fault kind os)
is_first kind [] = λ k. refl
is_first kind (o ∷ os) = go (fault_of kind o.0 o.1) (first_fault kind os) refl (is_first kind os) where
  go : (f rest : Option Trouble) → fault_of kind o.0 o.1 ≡ f → IsFirstFault kind os rest →
      IsFirstFault kind (o ∷ os) (or_else f rest)
  go (Some t) rest is h = (0, is, λ j lt. absurd (omega (arith, lt)))
  go None None is h = none
    where
      none : (k : ℕ) → fault_at kind (o ∷ os) k ≡ None
      none zero = is
      none (suc k) = h k
  go None (Some t) is h = (suc h.0, h.1, before)
    where
      before : (j : ℕ) → j < suc h.0 → fault_at kind (o ∷ os) j ≡ None
      before zero lt = is
      before (suc j) lt = h.2 j (omega (arith, lt))

-- chains of troubles
or_or : {A : Type 0} (a b c : Option A) → or_else (or_else a b) c ≡ or_else a (or_else b c)
or_or None b c = refl
or_or (Some x) b c = refl

both : {A : Type 0} (a b c d : Option A) → a ≡ b → c ≡ d → or_else a c ≡ or_else b d
both a b c d h k = ap (λ x. or_else x c) h ∙ ap (λ y. or_else b y) k

front : (kind : KindTag) (xs ys : List Taken) →
    first_fault kind (xs ++ ys) ≡ or_else (first_fault kind xs) (first_fault kind ys)
front kind [] ys = refl
front kind (x ∷ xs) ys =
    ap (λ o. or_else (fault_of kind x.0 x.1) o) (front kind xs ys)
    ∙ sym (or_or (fault_of kind x.0 x.1) (first_fault kind xs) (first_fault kind ys))

here_front : (c : Context) (xs ys : List Operand) → here c (xs ++ ys) ≡ here c xs ++ here c ys
here_front c [] ys = refl
here_front c (x ∷ xs) ys = ap (λ zs. (c, x) ∷ zs) (here_front c xs ys)

-- what a test lets through or not
tested : {A : Type 0} (b : Bool) (x : A) (c : Cause) (t : Trouble) →
    (if b then None else Some t) ≡ told_where_none (if b then Ok x else Err c) t
tested true x c t = refl
tested false x c t = refl

-- an index, a bit and an owner
place_is : (kind : KindTag) (c : Context) (i : Index) (count : ℕ) →
    place_trouble c i count ≡ fault_of kind c (place i count)
place_is kind c i count = tested (is_place count (index_value c i)) _ cause.Index (NoPlace i (index_value c i) count)

number_is : (x : ℕ) → bit_trouble x ≡ told_where_none (bit_value x) (NoBit x)
number_is x = tested (is_bit x) x cause.NotABit (NoBit x)

owner_is : (kind : KindTag) (c : Context) (b : Bank) (i j : ℕ) →
    owner_trouble kind c b i j ≡ fault_of kind c (register b i j)
owner_is kind c b i j = tested (may_write kind c.me b i) tt cause.Owner (NotOwn b i j)

sum_is : (x y : ℕ) → sum_trouble x y ≡ told_where_none (checked_sum x y) (LargeSum x y)
sum_is x y = tested (nat_lt (x + y) (2 ^ 64)) (x + y) cause.Overflow (LargeSum x y)

-- behind operands that can be taken
sum_behind : (a b : Option Trouble) (x y : ℕ) (r s : Result ℕ Cause) → Gives a x r → Gives b y s →
    or_else a (or_else b (sum_trouble x y)) ≡ or_else a (or_else b (sum_fault r s))
sum_behind None None x y r s h k = rw (h, k) (sum_is x y)
sum_behind None (Some t) x y r s h k = refl
sum_behind (Some t) b x y r s h k = refl

bit_behind : (a rest : Option Trouble) (x : ℕ) (r : Result ℕ Cause) → Gives a x r →
    or_else a (or_else (bit_trouble x) rest) ≡ or_else a (or_else (bit_fault r) rest)
bit_behind None rest x r h = rw (h, number_is x) refl
bit_behind (Some t) rest x r h = refl

module _ (kind : KindTag) (c : Context) where
  abbrev first_here : List Operand → Option Trouble
  first_here os = first_fault kind (here c os)

  first_front : (xs ys : List Operand) → first_here (xs ++ ys) ≡ or_else (first_here xs) (first_here ys)
  first_front xs ys = ap (first_fault kind) (here_front c xs ys) ∙ front kind (here c xs) (here c ys)

  -- one operand, and two
  one_place : (i : Index) (count : ℕ) → place_trouble c i count ≡ first_here (place i count ∷ [])
  one_place i count = place_is kind c i count ∙ sym (or_none (fault_of kind c (place i count)))

  then_place : (i : Index) (count : ℕ) (o : Option Trouble) (os : List Operand) → o ≡ first_here os →
      or_else (place_trouble c i count) o ≡ first_here (place i count ∷ os)
  then_place i count o os h = both (place_trouble c i count) (fault_of kind c (place i count)) o (first_here os)
      (place_is kind c i count) h

  one_register : (b : Bank) (i j : ℕ) → owner_trouble kind c b i j ≡ first_here (register b i j ∷ [])
  one_register b i j = owner_is kind c b i j ∙ sym (or_none (fault_of kind c (register b i j)))

  -- some, and then others
  then_others : (o p : Option Trouble) (xs ys : List Operand) → o ≡ first_here xs → p ≡ first_here ys →
      or_else o p ≡ first_here (xs ++ ys)
  then_others o p xs ys h k = both o (first_here xs) p (first_here ys) h k ∙ sym (first_front xs ys)

  term_first : (t : Term) → term_trouble c t ≡ first_here (term_operands c.shape t)
  term_first (term.Index i) = refl
  term_first term.Arg = refl
  term_first (term.Row x i) = one_place i (places c.shape)
  term_first (term.Field f x i) = one_place i (places c.shape)
  term_first (term.Handshake x i j) =
      then_place i (places c.shape) (place_trouble c j c.shape.n) (place j c.shape.n ∷ []) (one_place j c.shape.n)

  module _ (h : HaveOneSort c.locals) where
    expr_first : (e : Expr) → expr_trouble c e ≡ first_here (expr_operands c.shape e)
    expr_first (expr.Term t) = term_first t
    expr_first (expr.Not t) = term_first t
    expr_first (expr.Sum t u) =
        sum_behind (term_trouble c t) (term_trouble c u) (term_number c t) (term_number c u) (term_value c t)
        (term_value c u) (term_gives c t h) (term_gives c u h)
        ∙ then_others (term_trouble c t) (or_else (term_trouble c u) (fault_of kind c (sum t u)))
        (term_operands c.shape t) (term_operands c.shape u ++ sum t u ∷ []) (term_first t)
        (then_others (term_trouble c u) (fault_of kind c (sum t u)) (term_operands c.shape u) (sum t u ∷ [])
        (term_first u) (sym (or_none (fault_of kind c (sum t u)))))

    -- an expression that is to be a bit, and what follows
    bit_first : (e : Expr) (o : Option Trouble) (os : List Operand) → o ≡ first_here os →
        or_else (expr_trouble c e) (or_else (bit_trouble (expr_number c e)) o)
        ≡ first_here (expr_operands c.shape e ++ bit e ∷ os)
    bit_first e o os same =
        bit_behind (expr_trouble c e) o (expr_number c e) (expr_value c e) (expr_gives c e h)
        ∙ then_others (expr_trouble c e) (or_else (fault_of kind c (bit e)) o) (expr_operands c.shape e) (bit e ∷ os)
        (expr_first e) (ap (λ p. or_else (fault_of kind c (bit e)) p) same)

    comparison_first : (k : Comparison) → comparison_trouble c k ≡ first_here (comparison_operands c.shape k)
    comparison_first k = search (then_others, term_first)

    condition_first : (k : Condition) → condition_trouble c k ≡ first_here (condition_operands c.shape k)
    condition_first (One k) = comparison_first k
    condition_first _ = search (then_others, comparison_first) depth 7

    where_first : (k : Option Condition) → where_trouble c k ≡ first_here (where_operands c.shape k)
    where_first None = refl
    where_first (Some k) = condition_first k

    value_first : (e : Expr) (k : Option Condition) →
        or_else (expr_trouble c e) (where_trouble c k)
        ≡ first_here (expr_operands c.shape e ++ where_operands c.shape k)
    value_first e k = search (then_others, expr_first, where_first)

    bits_first : (xs : List ℕ) → bits_trouble xs ≡ first_here (map (λ x. handshake x) xs)
    bits_first [] = refl
    bits_first (x ∷ xs) = both (bit_trouble x) (fault_of kind c (handshake x)) (bits_trouble xs)
        (first_here (map (λ y. handshake y) xs)) (number_is x) (bits_first xs)

    tuple_first : (t : Tuple) → tuple_trouble c t ≡ first_here (tuple_operands c t)
    tuple_first (tuple.Seq d q s) = search (then_others, expr_first)
    tuple_first (tuple.Bits d x t s) =
        let row = take c.shape.n (value_at x c.locals.rows []) in
        let bits : bits_trouble (take c.shape.n (row_in (local_value c.locals x)))
        ≡ first_here (map (λ y. handshake y) row) =
        ap (λ ys. bits_trouble (take c.shape.n ys)) (h.rows x) ∙ bits_first row in
        search (then_others, expr_first, bit_first)
    tuple_first (tuple.Multi d i t) =
        let last : or_else (expr_trouble c t) (bit_trouble (expr_number c t))
        ≡ first_here (expr_operands c.shape t ++ bit t ∷ []) =
        ap (λ o. or_else (expr_trouble c t) o) (sym (or_none (bit_trouble (expr_number c t))))
        ∙ bit_first t None [] refl in
        search (then_others, expr_first)

-- the places of a quantifier
conditions_first : (kind : KindTag) (shape : Counts) (S : State) (t : Taker) (k : Condition) (p more : ℕ) →
    HaveOneSort (process_at S t.process).locals →
    conditions_trouble shape S t k p more
    ≡ first_fault kind (at_each (context_of shape S t) (condition_operands shape k) (range_with_len p more))
conditions_first kind shape S t k p zero h = refl
conditions_first kind shape S t k p (suc more) h =
    let c = context_of shape S t in
    both _ (first_fault kind (here (at_place c p) (condition_operands shape k))) _ _
    (condition_first kind (at_place c p) h k) (conditions_first kind shape S t k (p + 1) more h)
    ∙ sym (front kind (here (at_place c p) (condition_operands shape k))
    (at_each c (condition_operands shape k) (range_with_len (p + 1) more)))

values_first : (kind : KindTag) (shape : Counts) (S : State) (t : Taker) (e : Expr) (k : Option Condition)
    (p more : ℕ) → HaveOneSort (process_at S t.process).locals →
    values_trouble shape S t e k p more
    ≡ first_fault kind
    (at_each (context_of shape S t) (expr_operands shape e ++ where_operands shape k) (range_with_len p more))
values_first kind shape S t e k p zero h = refl
values_first kind shape S t e k p (suc more) h =
    let c = context_of shape S t in
    let os = expr_operands shape e ++ where_operands shape k in
    both _ (first_fault kind (here (at_place c p) os)) _ _ (value_first kind (at_place c p) h e k)
    (values_first kind shape S t e k (p + 1) more h)
    ∙ sym (front kind (here (at_place c p) os) (at_each c os (range_with_len (p + 1) more)))

ruleset firsts = (
  then_place,
  one_place,
  then_others,
  one_register,
  bit_first,
  expr_first,
  tuple_first,
  condition_first,
  conditions_first,
  values_first,
)

-- each form of a line
pub line_first : (kind : KindTag) (shape : Counts) (S : State) (t : Taker) (i : Instr) →
    HaveOneSort (process_at S t.process).locals →
    line_trouble kind shape S t i ≡ first_fault kind (operands_of (context_of shape S t) i)
line_first kind shape S t (instr.Let x e) h = expr_first kind (context_of shape S t) h e
line_first kind shape S t _ h = first_of (search, search firsts depth 9)
