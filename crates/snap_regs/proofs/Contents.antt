-- Contents of registers: a register has what is written to it, and the registers of all other addresses keep what
-- they had.
use Rattle.std.proofs.Common.{◌≡◌, ◌∙◌, ℕ, zero, suc, ◌-◌, Bool, true, false, List, [], ◌∷◌, Option, Some, None}
use Rattle.std.proofs.Common.{nat_eq, nat_lt, if◌then◌else◌, refl, sym, ap, arith, subst}
use Rattle.std.proofs.lemmas.Bool.{eqb-true, eqb-false, ltb-true}
use Rattle.std.proofs.lemmas.Option.{get_or_from_slice_get}
use Rattle.std.specs.Prelude.{option_map, slice_index_or, slice_set}
use Rattle.std.specs.List.{slice_get}
use Rattle.snap_words.specs.Word.{Word}
use Rattle.snap_words.specs.declared.address.Bank.{Bank}
use Rattle.snap_words.specs.declared.address.Bank.TheVariants as bank
use Rattle.snap_semantics.specs.WithContents.{with_nth, with_bit_in, with_contents, IsOfBank}
use Rattle.snap_semantics.specs.Readers.{Contents, WordContents, BitContents, ViewContents, contents, nth, bit_in}
use Rattle.snap_semantics.specs.State.{Memory, with_memory_words}
use Rattle.snap_semantics.specs.Table.{with_memory_views}

got_set : {A : Type 0} (xs : List A) (k : ℕ) (x y : A) → slice_get xs k ≡ Some y →
    slice_get (slice_set xs k x) k ≡ Some x
got_set [] k x y h = absurd cc
got_set (a ∷ xs) zero x y h = refl
got_set (a ∷ xs) (suc k) x y h = got_set xs k x y h

got_none : {A : Type 0} (xs : List A) (k : ℕ) (x : A) → slice_get xs k ≡ None → slice_get (slice_set xs k x) k ≡ None
got_none [] k x h = refl
got_none (a ∷ xs) zero x h = absurd cc
got_none (a ∷ xs) (suc k) x h = got_none xs k x h

got_other : {A : Type 0} (xs : List A) (i k : ℕ) (x : A) → (i ≡ k → ⊥) → slice_get (slice_set xs i x) k ≡ slice_get xs k
got_other [] i k x other = refl
got_other (a ∷ xs) zero zero x other = absurd (other refl)
got_other (a ∷ xs) zero (suc k) x other = refl
got_other (a ∷ xs) (suc i) zero x other = refl
got_other (a ∷ xs) (suc i) (suc k) x other = got_other xs i k x (λ e. other (ap suc e))

-- place k of a list, once it is known whether k counts from 1
abbrev nth_if : {A : Type 0} → Bool → ℕ → List A → Option A
nth_if v k xs = if v then slice_get xs (k - 1) else None

abbrev set_if : {A : Type 0} → Bool → ℕ → A → List A → List A
set_if v k x xs = if v then slice_set xs (k - 1) x else xs

set_by : {A : Type 0} (v : Bool) (k : ℕ) (xs : List A) (x y : A) → nth_if v k xs ≡ Some y →
    nth_if v k (set_if v k x xs) ≡ Some x
set_by true k xs x y h = got_set xs (k - 1) x y h
set_by false k xs x y h = absurd cc

nth_set : {A : Type 0} (k : ℕ) (xs : List A) (x y : A) → nth k xs ≡ Some y → nth k (with_nth k x xs) ≡ Some x
nth_set k xs x y h = set_by (nat_lt 0 k) k xs x y h

none_by : {A : Type 0} (v : Bool) (k : ℕ) (xs : List A) (x : A) → nth_if v k xs ≡ None →
    nth_if v k (set_if v k x xs) ≡ None
none_by true k xs x h = got_none xs (k - 1) x h
none_by false k xs x h = refl

nth_none : {A : Type 0} (k : ℕ) (xs : List A) (x : A) → nth k xs ≡ None → nth k (with_nth k x xs) ≡ None
nth_none k xs x h = none_by (nat_lt 0 k) k xs x h

other_by : {A : Type 0} (v w : Bool) (i k : ℕ) (xs : List A) (x : A) → nat_lt 0 i ≡ v → nat_lt 0 k ≡ w → (i ≡ k → ⊥) →
    nth_if w k (set_if v i x xs) ≡ nth_if w k xs
other_by false w i k xs x e d other = refl
other_by true false i k xs x e d other = refl
other_by true true i k xs x e d other =
    let a = ltb-true 0 i e in
    let b = ltb-true 0 k d in
    got_other xs (i - 1) (k - 1) x (λ same. other (omega (arith, a, b, same)))

nth_other : {A : Type 0} (i k : ℕ) (xs : List A) (x : A) → (i ≡ k → ⊥) → nth k (with_nth i x xs) ≡ nth k xs
nth_other i k xs x other = other_by (nat_lt 0 i) (nat_lt 0 k) i k xs x refl refl other

row_by : (v : Bool) (i : ℕ) (rows : List (List ℕ)) (row : List ℕ) → nth_if v i rows ≡ Some row →
    slice_index_or rows (i - 1) [] ≡ row
row_by true i rows row h = get_or_from_slice_get rows (i - 1) row [] h
row_by false i rows row h = absurd cc

row_at : (i : ℕ) (rows : List (List ℕ)) (row : List ℕ) → nth i rows ≡ Some row → slice_index_or rows (i - 1) [] ≡ row
row_at i rows row h = row_by (nat_lt 0 i) i rows row h

bit_by : (o : Option (List ℕ)) (i j x old : ℕ) (rows : List (List ℕ)) → nth i rows ≡ o → bit_in j o ≡ Some old →
    bit_in j (nth i (with_bit_in i j x rows)) ≡ Some x
bit_by None i j x old rows e h = absurd cc
bit_by (Some row) i j x old rows e h =
    ap (bit_in j) (nth_set i rows (with_nth j x (slice_index_or rows (i - 1) [])) row e)
    ∙ nth_set j (slice_index_or rows (i - 1) []) x old (ap (nth j) (row_at i rows row e) ∙ h)

-- a bit that is put is there
bit_there : (i j x old : ℕ) (rows : List (List ℕ)) → bit_in j (nth i rows) ≡ Some old →
    bit_in j (nth i (with_bit_in i j x rows)) ≡ Some x
bit_there i j x old rows h = bit_by (nth i rows) i j x old rows refl h

same_row_by : (o : Option (List ℕ)) (i j l x : ℕ) (rows : List (List ℕ)) → nth i rows ≡ o → (j ≡ l → ⊥) →
    bit_in l (nth i (with_bit_in i j x rows)) ≡ bit_in l o
same_row_by None i j l x rows e other =
    ap (bit_in l) (nth_none i rows (with_nth j x (slice_index_or rows (i - 1) [])) e)
same_row_by (Some row) i j l x rows e other =
    ap (bit_in l) (nth_set i rows (with_nth j x (slice_index_or rows (i - 1) [])) row e)
    ∙ nth_other j l (slice_index_or rows (i - 1) []) x other
    ∙ ap (nth l) (row_at i rows row e)

bits_by : (v : Bool) (i j k l x : ℕ) (rows : List (List ℕ)) → nat_eq i k ≡ v → (i ≡ k → j ≡ l → ⊥) →
    bit_in l (nth k (with_bit_in i j x rows)) ≡ bit_in l (nth k rows)
bits_by true i j k l x rows e other =
    let same = eqb-true i k e in
    subst (λ (n : ℕ). bit_in l (nth n (with_bit_in i j x rows)) ≡ bit_in l (nth n rows)) same
    (same_row_by (nth i rows) i j l x rows refl (other same))
bits_by false i j k l x rows e other =
    ap (bit_in l) (nth_other i k rows (with_nth j x (slice_index_or rows (i - 1) [])) (eqb-false i k e))

-- a bit that is put leaves the other bits as they were
bits_stay : (i j k l x : ℕ) (rows : List (List ℕ)) → (i ≡ k → j ≡ l → ⊥) →
    bit_in l (nth k (with_bit_in i j x rows)) ≡ bit_in l (nth k rows)
bits_stay i j k l x rows other = bits_by (nat_eq i k) i j k l x rows refl other

-- what was there before
mapped : {A B : Type 0} (f : A → B) (o : Option A) (y : B) → option_map f o ≡ Some y → (x : A) × (o ≡ Some x)
mapped f None y h = absurd cc
mapped f (Some x) y h = (x, refl)

word_there : (v : Bool) (m : Memory) (i : ℕ) (x : Word) (old : Contents) →
    (let o : Option Contents = if v then option_map (λ y. WordContents y) (nth i m.words) else None in o) ≡ Some old →
    (let n : Memory = if v then with_memory_words (with_nth i x m.words) m
    else m in let o : Option Contents = if v then option_map (λ y. WordContents y) (nth i n.words) else None in o)
    ≡ Some (WordContents x)
word_there true m i x old h =
    let had = mapped (λ (y : Word). WordContents y) (nth i m.words) old h in
    ap (option_map (λ (y : Word). WordContents y)) (nth_set i m.words x had.0 had.1)
word_there false m i x old h = absurd cc

view_there : (v : Bool) (m : Memory) (i : ℕ) (x : List ℕ) (old : Contents) →
    (let o : Option Contents = if v then option_map (λ y. ViewContents y) (nth i m.views) else None in o) ≡ Some old →
    (let n : Memory = if v then with_memory_views (with_nth i x m.views) m
    else m in let o : Option Contents = if v then option_map (λ y. ViewContents y) (nth i n.views) else None in o)
    ≡ Some (ViewContents x)
view_there true m i x old h =
    let had = mapped (λ (y : List ℕ). ViewContents y) (nth i m.views) old h in
    ap (option_map (λ (y : List ℕ). ViewContents y)) (nth_set i m.views x had.0 had.1)
view_there false m i x old h = absurd cc

bit_is_there : (i j x : ℕ) (rows : List (List ℕ)) (old : Contents) →
    (let o : Option Contents = option_map (λ y. BitContents y) (bit_in j (nth i rows)) in o) ≡ Some old →
    (let o : Option Contents = option_map (λ y. BitContents y) (bit_in j (nth i (with_bit_in i j x rows))) in o)
    ≡ Some (BitContents x)
bit_is_there i j x rows old h =
    let had = mapped (λ (y : ℕ). BitContents y) (bit_in j (nth i rows)) old h in
    ap (option_map (λ (y : ℕ). BitContents y)) (bit_there i j x had.0 rows had.1)

pub put_is_there : (m : Memory) (b : Bank) (i j : ℕ) (c old : Contents) → contents m b i j ≡ Some old → IsOfBank b c →
    contents (with_contents m b i j c) b i j ≡ Some c
put_is_there m bank.R i j (WordContents x) old h fits = word_there (nat_eq j 0) m i x old h
put_is_there m bank.R i j (BitContents x) old h fits = absurd fits
put_is_there m bank.R i j (ViewContents v) old h fits = absurd fits
put_is_there m bank.Q i j (WordContents x) old h fits = absurd fits
put_is_there m bank.Q i j (BitContents x) old h fits = bit_is_there i j x m.q old h
put_is_there m bank.Q i j (ViewContents v) old h fits = absurd fits
put_is_there m bank.P i j (WordContents x) old h fits = absurd fits
put_is_there m bank.P i j (BitContents x) old h fits = bit_is_there i j x m.p old h
put_is_there m bank.P i j (ViewContents v) old h fits = absurd fits
put_is_there m bank.V i j (WordContents x) old h fits = absurd fits
put_is_there m bank.V i j (BitContents x) old h fits = absurd fits
put_is_there m bank.V i j (ViewContents v) old h fits = view_there (nat_eq j 0) m i v old h

-- the memory with other words, where that is so
abbrev words_if : Bool → List Word → Memory → Memory
words_if v xs m = if v then with_memory_words xs m else m

abbrev views_if : Bool → List (List ℕ) → Memory → Memory
views_if v xs m = if v then with_memory_views xs m else m

words_stay : (v w : Bool) (m : Memory) (i k : ℕ) (x : Word) → (v ≡ true → w ≡ true → i ≡ k → ⊥) →
    (let o : Option Contents =
    if w then option_map (λ y. WordContents y) (nth k (words_if v (with_nth i x m.words) m).words) else None in o)
    ≡ (let o : Option Contents = if w then option_map (λ y. WordContents y) (nth k m.words) else None in o)
words_stay false w m i k x other = refl
words_stay true false m i k x other = refl
words_stay true true m i k x other =
    ap (option_map (λ (y : Word). WordContents y)) (nth_other i k m.words x (other refl refl))

views_stay : (v w : Bool) (m : Memory) (i k : ℕ) (x : List ℕ) → (v ≡ true → w ≡ true → i ≡ k → ⊥) →
    (let o : Option Contents =
    if w then option_map (λ y. ViewContents y) (nth k (views_if v (with_nth i x m.views) m).views) else None in o)
    ≡ (let o : Option Contents = if w then option_map (λ y. ViewContents y) (nth k m.views) else None in o)
views_stay false w m i k x other = refl
views_stay true false m i k x other = refl
views_stay true true m i k x other =
    ap (option_map (λ (y : List ℕ). ViewContents y)) (nth_other i k m.views x (other refl refl))

words_q : (v : Bool) (xs : List Word) (m : Memory) (k l : ℕ) →
    contents (words_if v xs m) bank.Q k l ≡ contents m bank.Q k l
words_q true xs m k l = refl
words_q false xs m k l = refl

words_p : (v : Bool) (xs : List Word) (m : Memory) (k l : ℕ) →
    contents (words_if v xs m) bank.P k l ≡ contents m bank.P k l
words_p true xs m k l = refl
words_p false xs m k l = refl

words_v : (v : Bool) (xs : List Word) (m : Memory) (k l : ℕ) →
    contents (words_if v xs m) bank.V k l ≡ contents m bank.V k l
words_v true xs m k l = refl
words_v false xs m k l = refl

views_r : (v : Bool) (xs : List (List ℕ)) (m : Memory) (k l : ℕ) →
    contents (views_if v xs m) bank.R k l ≡ contents m bank.R k l
views_r true xs m k l = refl
views_r false xs m k l = refl

views_q : (v : Bool) (xs : List (List ℕ)) (m : Memory) (k l : ℕ) →
    contents (views_if v xs m) bank.Q k l ≡ contents m bank.Q k l
views_q true xs m k l = refl
views_q false xs m k l = refl

views_p : (v : Bool) (xs : List (List ℕ)) (m : Memory) (k l : ℕ) →
    contents (views_if v xs m) bank.P k l ≡ contents m bank.P k l
views_p true xs m k l = refl
views_p false xs m k l = refl

-- two second indices that are 0 are equal
both_zero : (j l : ℕ) → nat_eq j 0 ≡ true → nat_eq l 0 ≡ true → j ≡ l
both_zero j l e d = eqb-true j 0 e ∙ sym (eqb-true l 0 d)

pub others_stay : (m : Memory) (b d : Bank) (i j k l : ℕ) (c : Contents) → ((b ≡ d) × (i ≡ k) × (j ≡ l) → ⊥) →
    contents (with_contents m b i j c) d k l ≡ contents m d k l
others_stay m bank.R bank.R i j k l (WordContents x) other =
    words_stay (nat_eq j 0) (nat_eq l 0) m i k x (λ e d same. other (refl, same, both_zero j l e d))
others_stay m bank.R bank.Q i j k l (WordContents x) other = words_q (nat_eq j 0) (with_nth i x m.words) m k l
others_stay m bank.R bank.P i j k l (WordContents x) other = words_p (nat_eq j 0) (with_nth i x m.words) m k l
others_stay m bank.R bank.V i j k l (WordContents x) other = words_v (nat_eq j 0) (with_nth i x m.words) m k l
others_stay m bank.R d i j k l (BitContents x) other = refl
others_stay m bank.R d i j k l (ViewContents v) other = refl
others_stay m bank.Q d i j k l (WordContents x) other = refl
others_stay m bank.Q bank.R i j k l (BitContents x) other = refl
others_stay m bank.Q bank.Q i j k l (BitContents x) other =
    ap (option_map (λ (y : ℕ). BitContents y)) (bits_stay i j k l x m.q (λ e d. other (refl, e, d)))
others_stay m bank.Q bank.P i j k l (BitContents x) other = refl
others_stay m bank.Q bank.V i j k l (BitContents x) other = refl
others_stay m bank.Q d i j k l (ViewContents v) other = refl
others_stay m bank.P d i j k l (WordContents x) other = refl
others_stay m bank.P bank.R i j k l (BitContents x) other = refl
others_stay m bank.P bank.Q i j k l (BitContents x) other = refl
others_stay m bank.P bank.P i j k l (BitContents x) other =
    ap (option_map (λ (y : ℕ). BitContents y)) (bits_stay i j k l x m.p (λ e d. other (refl, e, d)))
others_stay m bank.P bank.V i j k l (BitContents x) other = refl
others_stay m bank.P d i j k l (ViewContents v) other = refl
others_stay m bank.V d i j k l (WordContents x) other = refl
others_stay m bank.V d i j k l (BitContents x) other = refl
others_stay m bank.V bank.R i j k l (ViewContents v) other = views_r (nat_eq j 0) (with_nth i v m.views) m k l
others_stay m bank.V bank.Q i j k l (ViewContents v) other = views_q (nat_eq j 0) (with_nth i v m.views) m k l
others_stay m bank.V bank.P i j k l (ViewContents v) other = views_p (nat_eq j 0) (with_nth i v m.views) m k l
others_stay m bank.V bank.V i j k l (ViewContents v) other =
    views_stay (nat_eq j 0) (nat_eq l 0) m i k v (λ e d same. other (refl, same, both_zero j l e d))
