-- What is told of the places of a quantifier, and of the word that a tuple writes, is what the table of lines takes.
use Rattle.std.proofs.Common.{◌≡◌, ℕ, zero, suc, ◌+◌, ◌-◌, List, [], ◌∷◌, take, Option, Some, None, Result, Ok}
use Rattle.std.proofs.Common.{Err, if◌then◌else◌, slice_index, refl, sym, subst, inl, inr}
use Rattle.std.proofs.lemmas.Bool.{cases_Bool}
use Rattle.std.specs.List.{range_with_len, list_all}
use Rattle.snap_words.specs.Kind.{is_bit}
use Rattle.snap_words.specs.Shape.{Counts}
use Rattle.snap_words.specs.Word.{Word}
use Rattle.snap_semantics.specs.Answers.{◌>>=◌}
use Rattle.snap_semantics.specs.Rules.{or_else}
use Rattle.snap_semantics.specs.Source.{Name}
use Rattle.snap_semantics.specs.State.{State, process_at, value_at}
use Rattle.snap_semantics.specs.Table.{each_value, tuple_word, with_bits}
use Rattle.snap_semantics.specs.Value.{Context, at_place, condition_holds, each_of, expr_value}
use Rattle.snap_semantics.specs.declared.instr.Condition.{Condition}
use Rattle.snap_semantics.specs.declared.instr.Expr.{Expr}
use Rattle.snap_semantics.specs.declared.instr.Tuple.{Tuple}
use Rattle.snap_semantics.specs.declared.instr.Tuple.TheVariants as tuple
use Rattle.snap_semantics.specs.declared.process.Cause.{Cause}
use Rattle.snap_semantics.specs.declared.process.Cause.TheVariants as cause
use Rattle.snap_why.specs.Troubles.{bit_trouble, bits_trouble, condition_trouble, conditions_trouble, context_of}
use Rattle.snap_why.specs.Troubles.{expr_number, expr_trouble, taker_at, tuple_trouble, values_trouble, where_trouble}
use Rattle.snap_why.specs.declared.taker.Taker.{Taker}
use Rattle.snap_why.specs.declared.trouble.Trouble.{Trouble}
use Rattle.snap_reading_laws.proofs.traps.Values.{HaveOneSort, Gives, Takes, condition_takes, expr_gives, expr_takes}
use Rattle.snap_reading_laws.proofs.traps.Values.{takes_last, takes_then}

pub or_none : {A : Type 0} (o : Option A) → or_else o None ≡ o
or_none None = refl
or_none (Some x) = refl

-- a condition at so many places
pub conditions_take : (shape : Counts) (S : State) (t : Taker) (k : Condition) (p more : ℕ) →
    HaveOneSort (process_at S t.process).locals →
    Takes (conditions_trouble shape S t k p more)
    (each_of (λ q. condition_holds (at_place (context_of shape S t) q) k) (range_with_len p more))
conditions_take shape S t k p zero h = ([], refl)
conditions_take shape S t k p (suc more) h =
    takes_then (condition_trouble (context_of shape S (taker_at t p)) k) (conditions_trouble shape S t k (p + 1) more)
    (condition_holds (at_place (context_of shape S t) p) k) _ (condition_takes (context_of shape S (taker_at t p)) k h)
    (λ b. takes_last (conditions_trouble shape S t k (p + 1) more) _ (λ bs. b ∷ bs)
    (conditions_take shape S t k (p + 1) more h))

-- the new values of so many places
value_takes : (c : Context) (x : Name) (e : Expr) (k : Option Condition) → HaveOneSort c.locals →
    Takes (or_else (expr_trouble c e) (where_trouble c k)) (each_value c x e k)
value_takes c x e None h = rw (or_none (expr_trouble c e)) (expr_takes c e h)
value_takes c x e (Some k) h =
    takes_then (expr_trouble c e) (condition_trouble c k) (expr_value c e) _ (expr_takes c e h)
    (λ v. takes_last (condition_trouble c k) (condition_holds c k)
    (λ b. if b then v else slice_index (value_at x c.locals.rows []) (c.place - 1)) (condition_takes c k h))

pub values_take : (shape : Counts) (S : State) (t : Taker) (x : Name) (e : Expr) (k : Option Condition) (p more : ℕ) →
    HaveOneSort (process_at S t.process).locals →
    Takes (values_trouble shape S t e k p more)
    (each_of (λ q. each_value (at_place (context_of shape S t) q) x e k) (range_with_len p more))
values_take shape S t x e k p zero h = ([], refl)
values_take shape S t x e k p (suc more) h =
    let c = context_of shape S (taker_at t p) in
    takes_then (or_else (expr_trouble c e) (where_trouble c k))
    (values_trouble shape S t e k (p + 1) more) (each_value (at_place (context_of shape S t) p) x e k) _
    (value_takes c x e k h)
    (λ v. takes_last (values_trouble shape S t e k (p + 1) more) _ (λ vs. v ∷ vs)
    (values_take shape S t x e k (p + 1) more h))

-- bits
bits_take : (xs : List ℕ) (w : Word) → Takes (bits_trouble xs) (if list_all is_bit xs then Ok w else Err cause.NotABit)
bits_take [] w = (w, refl)
bits_take (x ∷ xs) w = elim (cases_Bool (is_bit x)) [
  | inl is ↦ rw is (bits_take xs w)
  | inr is ↦ rw is refl
]

word_takes : (w : Word) → Takes (or_else (bit_trouble w.toggle) (bits_trouble w.handshakes)) (with_bits w)
word_takes w = elim (cases_Bool (is_bit w.toggle)) [
  | inl is ↦ rw is (bits_take w.handshakes w)
  | inr is ↦ rw is refl
]

-- a word of two numbers, and one of three
word_of_two : (o p q : Option Trouble) (x y : ℕ) (r s : Result ℕ Cause) (word : ℕ → ℕ → Word) → Gives o x r →
    Gives p y s →
    Takes q (with_bits (word x y)) →
    Takes (or_else o (or_else p q)) ((r >>= λ a. s >>= λ b. Ok (word a b)) >>= λ parts. with_bits parts)
word_of_two None None q x y r s word h k l = rw (h, k) l
word_of_two None (Some t) q x y r s word h k l = rw (h, k) refl
word_of_two (Some t) p q x y r s word h k l = rw h refl

word_of_three : (o p q z : Option Trouble) (x y u : ℕ) (r s v : Result ℕ Cause) (word : ℕ → ℕ → ℕ → Word) →
    Gives o x r → Gives p y s → Gives q u v → Takes z (with_bits (word x y u)) →
    Takes (or_else o (or_else p (or_else q z)))
    ((r >>= λ a. s >>= λ b. v >>= λ d. Ok (word a b d)) >>= λ parts. with_bits parts)
word_of_three None p q z x y u r s v word h k l m = rw h (word_of_two p q z y u s v (word x) k l m)
word_of_three (Some t) p q z x y u r s v word h k l m = rw h refl

-- the words that tuples make
abbrev word_with : (datum toggle : ℕ) (handshakes view : List ℕ) → Word
word_with datum toggle handshakes view =
    record { datum = datum; seq = 0; id = 0; toggle = toggle; handshakes = handshakes; view = view }

abbrev word_by : (datum id toggle : ℕ) → Word
word_by datum id toggle = record { datum = datum; seq = 0; id = id; toggle = toggle; handshakes = []; view = [] }

pub tuple_takes : (c : Context) (t : Tuple) → HaveOneSort c.locals →
    Takes (tuple_trouble c t) (tuple_word c t >>= λ parts. with_bits parts)
tuple_takes c (tuple.Seq d q s) h =
    subst (λ o. Takes (or_else (expr_trouble c d) o) (tuple_word c (tuple.Seq d q s) >>= λ parts. with_bits parts))
    (or_none (expr_trouble c q))
    (word_of_two (expr_trouble c d) (expr_trouble c q) None (expr_number c d) (expr_number c q) (expr_value c d)
    (expr_value c q) _ (expr_gives c d h) (expr_gives c q h) (_, refl))
tuple_takes c (tuple.Bits d x t s) h =
    word_of_two (expr_trouble c d) (expr_trouble c t) _ (expr_number c d) (expr_number c t) (expr_value c d)
    (expr_value c t) _ (expr_gives c d h) (expr_gives c t h)
    (subst (λ row. Takes (or_else (bit_trouble (expr_number c t)) (bits_trouble (take c.shape.n row)))
    (with_bits (word_with (expr_number c d) (expr_number c t) (take c.shape.n (value_at x c.locals.rows []))
    (value_at s c.locals.views [])))) (sym (h.rows x))
    (word_takes (word_with (expr_number c d) (expr_number c t) (take c.shape.n (value_at x c.locals.rows []))
    (value_at s c.locals.views []))))
tuple_takes c (tuple.Multi d i t) h =
    word_of_three (expr_trouble c d) (expr_trouble c i) (expr_trouble c t) (bit_trouble (expr_number c t))
    (expr_number c d) (expr_number c i) (expr_number c t) (expr_value c d) (expr_value c i) (expr_value c t) _
    (expr_gives c d h) (expr_gives c i h) (expr_gives c t h)
    (subst (λ o. Takes o (with_bits (word_by (expr_number c d) (expr_number c i) (expr_number c t))))
    (or_none (bit_trouble (expr_number c t)))
    (word_takes (word_by (expr_number c d) (expr_number c i) (expr_number c t))))
