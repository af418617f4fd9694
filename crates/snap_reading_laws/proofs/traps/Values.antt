-- What is told of the operands of a line, of its terms, expressions and conditions, is what the table of lines takes.
use Rattle.std.proofs.Common.{◌≡◌, ℕ, ◌+◌, ◌-◌, ◌^◌, ◌<◌, Option, Some, None, Result, Ok, Err, Bool, true, false, []}
use Rattle.std.proofs.Common.{min, nat_lt, if◌then◌else◌, slice_index, slice_index_or, refl, sym, ap, ◌∙◌, arith}
use Rattle.std.proofs.Common.{inl, inr}
use Rattle.std.proofs.lemmas.Bool.{cases_Bool, ltb-true}
use Rattle.std.proofs.lemmas.Grind.{common_steps}
use Rattle.snap_words.specs.Kind.{field_of, is_bit, may_write}
use Rattle.snap_words.specs.Shape.{is_place, places}
use Rattle.snap_words.specs.Word.{no_word}
use Rattle.snap_words.specs.declared.address.Bank.{Bank}
use Rattle.snap_words.specs.declared.kind.KindTag.{KindTag}
use Rattle.snap_semantics.specs.Answers.{◌>>=◌}
use Rattle.snap_semantics.specs.Readers.{local_value}
use Rattle.snap_semantics.specs.Rules.{or_else}
use Rattle.snap_semantics.specs.Source.{Name}
use Rattle.snap_semantics.specs.State.{Locals, value_at}
use Rattle.snap_semantics.specs.Table.{bit_value, owned}
use Rattle.snap_semantics.specs.Value.{Context, checked_sum, comparison_holds, condition_holds, expr_value, index_value}
use Rattle.snap_semantics.specs.Value.{place_in, term_value}
use Rattle.snap_semantics.specs.declared.instr.Comparison.{Comparison}
use Rattle.snap_semantics.specs.declared.instr.Condition.{Condition}
use Rattle.snap_semantics.specs.declared.instr.Condition.TheVariants.{One}
use Rattle.snap_semantics.specs.declared.instr.Expr.{Expr}
use Rattle.snap_semantics.specs.declared.instr.Expr.TheVariants as expr
use Rattle.snap_semantics.specs.declared.instr.Index.{Index}
use Rattle.snap_semantics.specs.declared.instr.Term.{Term}
use Rattle.snap_semantics.specs.declared.instr.Term.TheVariants as term
use Rattle.snap_semantics.specs.declared.process.Cause.{Cause}
use Rattle.snap_why.specs.Troubles.{bit_trouble, comparison_trouble, condition_trouble, expr_number, expr_trouble}
use Rattle.snap_why.specs.Troubles.{negated, owner_trouble, place_trouble, sum_trouble, term_number, term_trouble}
use Rattle.snap_why.specs.Troubles.{row_in, words_in}
use Rattle.snap_why.specs.declared.trouble.Trouble.{Trouble}
use Rattle.snap_why.specs.declared.trouble.Trouble.TheVariants.{NoPlace, NoBit, NotOwn}
use Rattle.snap_reading_laws.specs.traps.Told.{trouble_cause}

-- What is found under a name among all locals is what is found among those of its sort: no name has two sorts.
pub record HaveOneSort (l : Locals) : Type 0 where
  pub rows : (x : Name) → row_in (local_value l x) ≡ value_at x l.rows []
  pub words : (x : Name) → words_in (local_value l x) ≡ value_at x l.words []

-- an operand is told exactly where there is no value, and then for its cause
abbrev pub Takes : {A : Type 0} → Option Trouble → Result A Cause → Type 0
Takes {A} None found = (v : A) × (found ≡ Ok v)
Takes (Some t) found = found ≡ Err (trouble_cause t)

-- a result has this value, if it has one
abbrev pub Gives : {A : Type 0} → Option Trouble → A → Result A Cause → Type 0
Gives None v found = found ≡ Ok v
Gives (Some t) v found = found ≡ Err (trouble_cause t)

pub takes : {A : Type 0} (o : Option Trouble) (v : A) (found : Result A Cause) → Gives o v found → Takes o found
takes None v found h = (v, h)
takes (Some t) v found h = h

-- one value after the other
pub gives_then : {A B : Type 0} (o p : Option Trouble) (v : A) (w : B) (found : Result A Cause) (f : A →
    Result B Cause) →
    Gives o v found → Gives p w (f v) → Gives (or_else o p) w (found >>= f)
gives_then None p v w found f h k = rw h k
gives_then (Some t) p v w found f h k = ap (λ r. r >>= f) h

pub gives_last : {A B : Type 0} (o : Option Trouble) (v : A) (w : B) (found : Result A Cause) (f : A → Result B Cause) →
    Gives o v found → f v ≡ Ok w → Gives o w (found >>= f)
gives_last None v w found f h k = ap (λ r. r >>= f) h ∙ k
gives_last (Some t) v w found f h k = ap (λ r. r >>= f) h

pub takes_then : {A B : Type 0} (o p : Option Trouble) (found : Result A Cause) (f : A → Result B Cause) →
    Takes o found → ((v : A) → Takes p (f v)) → Takes (or_else o p) (found >>= f)
takes_then None p found f h k = rw h.1 (k h.0)
takes_then (Some t) p found f h k = ap (λ r. r >>= f) h

pub takes_last : {A B : Type 0} (o : Option Trouble) (found : Result A Cause) (f : A → B) →
    Takes o found → Takes o (found >>= λ v. Ok (f v))
takes_last None found f h = (f h.0, ap (λ r. r >>= λ v. Ok (f v)) h.1)
takes_last (Some t) found f h = ap (λ r. r >>= λ v. Ok (f v)) h

-- a value that is let through by a test
tested : {A : Type 0} (b : Bool) (v : A) (t : Trouble) →
    Gives (if b then None else Some t) v (if b then Ok v else Err (trouble_cause t))
tested true v t = refl
tested false v t = refl

-- a place
pub place_gives : (c : Context) (i : Index) (count : ℕ) →
    Gives (place_trouble c i count) (index_value c i - 1) (place_in count (index_value c i))
place_gives c i count = tested (is_place count (index_value c i)) _ (NoPlace i (index_value c i) count)

-- a term, whose row and words are those of its names
pub term_gives : (c : Context) (t : Term) → HaveOneSort c.locals → Gives (term_trouble c t) (term_number c t)
    (term_value c t)
term_gives c (term.Index i) h = refl
term_gives c term.Arg h = refl
term_gives c (term.Row x i) h =
    gives_last (place_trouble c i (places c.shape)) (index_value c i - 1) (term_number c (term.Row x i)) _ _
    (place_gives c i (places c.shape)) (ap (λ xs. Ok (slice_index xs (index_value c i - 1))) (sym (h.rows x)))
term_gives c (term.Field f x i) h =
    gives_last (place_trouble c i (places c.shape)) (index_value c i - 1) (term_number c (term.Field f x i)) _ _
    (place_gives c i (places c.shape))
    (ap (λ xs. Ok (field_of f (slice_index_or xs (index_value c i - 1) no_word))) (sym (h.words x)))
term_gives c (term.Handshake x i j) h =
    gives_then (place_trouble c i (places c.shape)) (place_trouble c j c.shape.n) (index_value c i - 1)
    (term_number c (term.Handshake x i j)) _ _ (place_gives c i (places c.shape))
    (gives_last (place_trouble c j c.shape.n) (index_value c j - 1) (term_number c (term.Handshake x i j)) _ _
    (place_gives c j c.shape.n)
    (ap (λ xs. Ok (slice_index (slice_index_or xs (index_value c i - 1) no_word).handshakes (index_value c j - 1)))
    (sym (h.words x))))

-- a sum
lesser : (x : ℕ) → x < 2 ^ 64 → min x (2 ^ 64 - 1) ≡ x
lesser x h = grind (arith, common_steps, h)

sum_gives : (x y : ℕ) → Gives (sum_trouble x y) (min (x + y) (2 ^ 64 - 1)) (checked_sum x y)
sum_gives x y = elim (cases_Bool (nat_lt (x + y) (2 ^ 64))) [
  | inl h ↦ rw h (ap (λ n. Ok n) (sym (lesser (x + y) (ltb-true (x + y) (2 ^ 64) h))))
  | inr h ↦ rw h refl
]

pub expr_gives : (c : Context) (e : Expr) → HaveOneSort c.locals → Gives (expr_trouble c e) (expr_number c e)
    (expr_value c e)
expr_gives c (expr.Term t) h = term_gives c t h
expr_gives c (expr.Sum t u) h =
    gives_then (term_trouble c t) _ (term_number c t) (expr_number c (expr.Sum t u)) (term_value c t) _
    (term_gives c t h)
    (gives_then (term_trouble c u) _ (term_number c u) (expr_number c (expr.Sum t u)) (term_value c u) _
    (term_gives c u h)
    (sum_gives (term_number c t) (term_number c u)))
expr_gives c (expr.Not t) h =
    gives_last (term_trouble c t) (term_number c t) (negated (term_number c t)) (term_value c t) _
    (term_gives c t h) refl

pub expr_takes : (c : Context) (e : Expr) → HaveOneSort c.locals → Takes (expr_trouble c e) (expr_value c e)
expr_takes c e h = takes (expr_trouble c e) (expr_number c e) (expr_value c e) (expr_gives c e h)

term_takes : (c : Context) (t : Term) → HaveOneSort c.locals → Takes (term_trouble c t) (term_value c t)
term_takes c t h = takes (term_trouble c t) (term_number c t) (term_value c t) (term_gives c t h)

-- a condition
comparison_takes : (c : Context) (k : Comparison) → HaveOneSort c.locals → Takes (comparison_trouble c k)
    (comparison_holds c k)
comparison_takes c k h = search (takes_then, takes_last, term_takes)

pub condition_takes : (c : Context) (k : Condition) → HaveOneSort c.locals → Takes (condition_trouble c k)
    (condition_holds c k)
condition_takes c (One k) h = comparison_takes c k h
condition_takes c _ h = search (takes_then, takes_last, comparison_takes) depth 7

-- a bit, and an owner
pub bit_gives : (x : ℕ) → Gives (bit_trouble x) x (bit_value x)
bit_gives x = tested (is_bit x) x (NoBit x)

pub owner_gives : {A : Type 0} (kind : KindTag) (c : Context) (b : Bank) (i j : ℕ) (x : A) →
    Gives (owner_trouble kind c b i j) x (owned kind c b i x)
owner_gives kind c b i j x = tested (may_write kind c.me b i) x (NotOwn b i j)
