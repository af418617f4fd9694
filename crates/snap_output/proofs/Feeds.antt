-- How many line feeds the printed texts of a report have (`feeds`): numbers have none, and a line has one at its end.
use Rattle.std.proofs.Common.{◌≡◌, ℕ, zero, suc, ◌+◌, ◌≤◌, ◌/◌, ◌%◌, Bool, true, false, List, [], ◌∷◌, ◌++◌, length}
use Rattle.std.proofs.Common.{Option, decimal, nat_eq, nat_lt, if◌then◌else◌, refl, sym, ◌∙◌}
use Rattle.std.proofs.Common.{slice_set, arith, length-set}
use Rattle.std.proofs.lemmas.Bool.{ne_eqb}
use Rattle.std.specs.List.{AllByRecursion}
use Rattle.std.specs.Prelude.{bytes_eq, ◌==◌}
use Rattle.std.specs.Fmt.{digit_glyph, digits, digits_onto}
use Rattle.snap_words.specs.Word.{Word}
use Rattle.snap_words.specs.declared.kind.KindTag.{KindTag}
use Rattle.snap_semantics.specs.declared.event.Event.{Event}
use Rattle.snap_semantics.specs.declared.event.Happening.{Happening}
use Rattle.snap_semantics.specs.declared.process.Activity.{Activity}
use Rattle.snap_semantics.specs.declared.process.Cause.{Cause}
use Rattle.snap_semantics.specs.declared.process.Op.{Op}
use Rattle.snap_semantics.specs.declared.process.Status.{Status}
use Rattle.snap_semantics.specs.Report.{bank_lines, bit_line, cause_text, event_line, happening_text, head_line}
use Rattle.snap_semantics.specs.Report.{link_text, list_local, locals_lines, number_local, numbers_text, op_text}
use Rattle.snap_semantics.specs.Report.{row_lines, status_text, stop_text, values_line, view_line, view_lines}
use Rattle.snap_semantics.specs.Report.{word_line, word_lines, word_local, word_text, words_local}
use Rattle.snap_semantics.specs.Source.{Name}
use Rattle.snap_semantics.specs.State.{NameMap, value_at, with_value}
use Rattle.snap_semantics.specs.Table.{with_bit_at}
use Rattle.snap_output.proofs.Splits.{IsInOrder, places_order, views_order, words_order}
use Rattle.snap_output.proofs.Wholes.{feeds, feeds_append}

-- each digit of a number is one of the bytes from 48 on
pub each_digit : (P : ℕ → Type 0) → ((b : ℕ) → 48 ≤ b → P b) → (n : ℕ) → AllByRecursion P (decimal n)
unfolding digits
each_digit P high n = digits_are 64 n [] tt
  where
    glyph : (d : ℕ) (v : Bool) → P (if v then 48 + d else 87 + d)
    glyph d true = high (48 + d) (omega arith)
    glyph d false = high (87 + d) (omega arith)

    digits_are : (k n : ℕ) (acc : List ℕ) → AllByRecursion P acc → AllByRecursion P (digits_onto k 10 false n acc)
    digits_are zero n acc h = h
    digits_are (suc k) n acc h = by_case (n / 10 == 0) (digits_are k (n / 10) (digit_glyph false (n % 10) ∷ acc) all)
      where
        all : AllByRecursion P (digit_glyph false (n % 10) ∷ acc)
        all = (glyph (n % 10) (nat_lt (n % 10) 10), h)

        by_case : (v : Bool) → AllByRecursion P (digits_onto k 10 false (n / 10) (digit_glyph false (n % 10) ∷ acc)) →
            AllByRecursion P (if v then digit_glyph false (n % 10) ∷ acc
            else digits_onto k 10 false (n / 10) (digit_glyph false (n % 10) ∷ acc))
        by_case true more = all
        by_case false more = more

plain_bytes : (xs : List ℕ) → AllByRecursion (λ b. nat_eq b 10 ≡ false) xs → feeds xs ≡ 0
plain_bytes [] h = refl
plain_bytes (b ∷ xs) h = rw h.0 (plain_bytes xs h.1)

pub decimal_plain : (n : ℕ) → feeds (decimal n) ≡ 0
decimal_plain n =
    plain_bytes (decimal n) (each_digit (λ b. nat_eq b 10 ≡ false) (λ b h. ne_eqb b 10 (λ e. omega (arith, h, e))) n)

pub numbers_plain : (xs : List ℕ) → feeds (numbers_text xs) ≡ 0
numbers_plain [] = refl
numbers_plain (x ∷ xs) = omega (arith, feeds_append, decimal_plain, numbers_plain xs)

word_plain : (g : KindTag) (x : Word) → feeds (word_text g x) ≡ 0
word_plain g x = grind (arith, feeds_append, decimal_plain, numbers_plain)

cause_plain : (c : Cause) → feeds (cause_text c) ≡ 0
cause_plain c = grind arith

pub op_plain : (o : Op) → feeds (op_text o) ≡ 0
op_plain o = grind (arith, feeds_append, decimal_plain)

link_plain : (link : Option ℕ) → feeds (link_text link) ≡ 0
link_plain link = grind (arith, decimal_plain)

stop_plain : (was : Option Activity) → feeds (stop_text was) ≡ 0
stop_plain was = grind (arith, decimal_plain)

status_plain : (s : Status) → feeds (status_text s) ≡ 0
status_plain s = grind (arith, feeds_append, decimal_plain, op_plain, link_plain, cause_plain, stop_plain)

pub head_feeds : (i : ℕ) (s : Status) → feeds (head_line i s) ≡ 1
head_feeds i s = simp (feeds_append, decimal_plain, status_plain)

pub values_feeds : (xs : List ℕ) → feeds (values_line xs) ≡ 1
values_feeds xs = simp (feeds_append, numbers_plain)

pub word_feeds : (g : KindTag) (k : ℕ) (x : Word) → feeds (word_line g k x) ≡ 1
word_feeds g k x = simp (feeds_append, decimal_plain, word_plain)

pub bit_feeds : (bank : List ℕ) (i j x : ℕ) → feeds bank ≡ 0 → feeds (bit_line bank i j x) ≡ 1
bit_feeds bank i j x h = simp (feeds_append, decimal_plain) (omega (arith, h))

pub row_feeds : (bank : List ℕ) (i j : ℕ) (xs : List ℕ) → feeds bank ≡ 0 → feeds (row_lines bank i j xs) ≡ length xs
row_feeds bank i j [] h = refl
row_feeds bank i j (x ∷ xs) h = omega (arith, feeds_append, bit_feeds bank i j x h, row_feeds bank i (j + 1) xs h)

pub view_feeds : (i : ℕ) (view : List ℕ) → feeds (view_line i view) ≡ 1
view_feeds i view = simp (feeds_append, decimal_plain, numbers_plain)

happening_plain : (h : Happening) → feeds (happening_text h) ≡ 0
happening_plain h = grind (arith, op_plain, numbers_plain)

pub event_feeds : (e : Event) → feeds (event_line e) ≡ 1
event_feeds e = simp (feeds_append, decimal_plain, happening_plain)

-- lists of as many elements, each text of which has as many lines
same_feeds : {A : Type 0} {f : ℕ → A → List ℕ} {F : ℕ → List A → List ℕ} → IsInOrder f F →
    ((n : ℕ) (x y : A) → feeds (f n x) ≡ feeds (f n y)) → (n : ℕ) (xs ys : List A) → length xs ≡ length ys →
    feeds (F n xs) ≡ feeds (F n ys)
same_feeds order each n [] [] e = refl
same_feeds {f = f} {F = F} order each n (x ∷ xs) (y ∷ ys) e =
    let first = each n x y in
    let rest = same_feeds order each (n + 1) xs ys (omega (arith, e)) in
    simp order.more (omega (arith, feeds_append))
same_feeds order each n _ _ e = absurd (omega (arith, e))

-- another word, another bit and another view, each in its place
pub word_set : (g : KindTag) (ws : List Word) (k : ℕ) (x : Word) →
    feeds (word_lines g 1 (slice_set ws k x)) ≡ feeds (word_lines g 1 ws)
word_set g ws k x =
    same_feeds (words_order g) (λ n v w. word_feeds g n v ∙ sym (word_feeds g n w)) 1 (slice_set ws k x) ws
    (length-set ws k x)

pub view_set : (views : List (List ℕ)) (k : ℕ) (v : List ℕ) →
    feeds (view_lines 1 (slice_set views k v)) ≡ feeds (view_lines 1 views)
view_set views k v =
    same_feeds views_order (λ n v w. view_feeds n v ∙ sym (view_feeds n w)) 1 (slice_set views k v) views
    (length-set views k v)

pub bit_set : (bank : List ℕ) (rows : List (List ℕ)) (i j x : ℕ) → feeds bank ≡ 0 →
    feeds (bank_lines bank 1 (with_bit_at rows i j x)) ≡ feeds (bank_lines bank 1 rows)
bit_set bank rows i j x h = set 1 rows i
  where
    set : (n : ℕ) (rows : List (List ℕ)) (i : ℕ) →
        feeds (bank_lines bank n (with_bit_at rows i j x)) ≡ feeds (bank_lines bank n rows)
    set n [] i = refl
    set n (r ∷ rows) zero =
        omega (arith, feeds_append, row_feeds bank n 1 (slice_set r j x) h, row_feeds bank n 1 r h, length-set r j x)
    set n (r ∷ rows) (suc i) = omega (arith, feeds_append, set (n + 1) rows i)

pub number_feeds : (x : Name) (v : ℕ) → feeds (number_local x v) ≡ feeds x + 1
number_feeds x v = simp (feeds_append, decimal_plain) (omega arith)

pub list_feeds : (x : Name) (vs : List ℕ) → feeds (list_local x vs) ≡ feeds x + 1
list_feeds x vs = simp (feeds_append, numbers_plain) (omega arith)

pub place_feeds : (g : KindTag) (x : Name) (p : ℕ) (v : Word) → feeds (word_local g x p v) ≡ feeds x + 1
place_feeds g x p v = simp (feeds_append, decimal_plain, word_plain) (omega arith)

-- as many words under one name
pub places_same : (g : KindTag) (x : Name) (p : ℕ) (vs ws : List Word) → length vs ≡ length ws →
    feeds (words_local g x p vs) ≡ feeds (words_local g x p ws)
places_same g x p vs ws e =
    same_feeds (places_order g x) (λ n v w. place_feeds g x n v ∙ sym (place_feeds g x n w)) p vs ws e

-- another value of a name, with as many lines
value_set : {A : Type 0} (f : Name → A → List ℕ) (d : A) (x : Name) (v : A) (es : NameMap A) →
    ((y : Name) → feeds (f y v) ≡ feeds (f y (value_at x es d))) →
    feeds (locals_lines f (with_value x v es)) ≡ feeds (locals_lines f es)
value_set f d x v [] h = refl
value_set f d x v (e ∷ es) h = by_case (bytes_eq x e.0) h (value_set f d x v es)
  where
    by_case : (b : Bool) → ((y : Name) → feeds (f y v) ≡ feeds (f y (if b then e.1 else value_at x es d))) →
        (((y : Name) → feeds (f y v) ≡ feeds (f y (value_at x es d))) →
        feeds (locals_lines f (with_value x v es)) ≡ feeds (locals_lines f es)) →
        feeds (locals_lines f (if b then (e.0, v) ∷ es else e ∷ with_value x v es))
        ≡ feeds (f e.0 e.1 ++ locals_lines f es)
    by_case true h rest = omega (arith, feeds_append, h e.0)
    by_case false h rest = omega (arith, feeds_append, rest h)

pub number_set : (x : Name) (v : ℕ) (es : NameMap ℕ) →
    feeds (locals_lines number_local (with_value x v es)) ≡ feeds (locals_lines number_local es)
number_set x v es = value_set number_local 0 x v es (λ y. number_feeds y v ∙ sym (number_feeds y (value_at x es 0)))

pub list_set : (x : Name) (v : List ℕ) (es : NameMap (List ℕ)) →
    feeds (locals_lines list_local (with_value x v es)) ≡ feeds (locals_lines list_local es)
list_set x v es = value_set list_local [] x v es (λ y. list_feeds y v ∙ sym (list_feeds y (value_at x es [])))

pub words_set : (g : KindTag) (x : Name) (k : ℕ) (w : Word) (es : NameMap (List Word)) →
    feeds (locals_lines (λ y vs. words_local g y 1 vs) (with_value x (slice_set (value_at x es []) k w) es))
    ≡ feeds (locals_lines (λ y vs. words_local g y 1 vs) es)
words_set g x k w es =
    value_set (λ y vs. words_local g y 1 vs) [] x (slice_set (value_at x es []) k w) es
    (λ y. places_same g y 1 (slice_set (value_at x es []) k w) (value_at x es []) (length-set (value_at x es []) k w))
