-- Report lines of the elements of a list, added one at a time by number, are together the lines of the list.
use Rattle.std.proofs.Common.{◌≡◌, ℕ, zero, suc, ◌+◌, ◌-◌, ◌≤◌, Bool, true, false, nat_eq, nat_lt, if◌then◌else◌}
use Rattle.std.proofs.Common.{rules, arith, List, [], ◌∷◌, ◌++◌, Option, Some, None, length, drop, slice_get}
use Rattle.std.proofs.Common.{option_map, refl, sym, ◌∙◌, ap, append_assoc, append-nil, add-one}
use Rattle.std.proofs.Math.ListN.{drop_of_length-le}
use Rattle.std.proofs.lemmas.List.Elements.{All-nil, All-head, All-tail}
use Rattle.snap_words.specs.Kind.{has_bank}
use Rattle.snap_words.specs.Shape.{Counts}
use Rattle.snap_words.specs.Word.{Word}
use Rattle.snap_words.specs.declared.address.Bank.{Bank}
use Rattle.snap_words.specs.declared.address.Bank.TheVariants as bank
use Rattle.snap_words.specs.declared.kind.KindTag.{KindTag}
use Rattle.snap_semantics.specs.declared.text.Sort.{Sort}
use Rattle.snap_semantics.specs.declared.text.Sort.TheVariants as sort
use Rattle.snap_semantics.specs.Readers.{LocalValue, NumberValue, RowValue, WordsValue, ViewValue, Contents}
use Rattle.snap_semantics.specs.Readers.{WordContents, BitContents, ViewContents, contents, bit_in, nth}
use Rattle.snap_semantics.specs.Report.{word_line, bit_line, row_lines, view_line, locals_lines}
use Rattle.snap_semantics.specs.Report.{number_local, list_local, words_local}
use Rattle.snap_semantics.specs.Source.{Name}
use Rattle.snap_semantics.specs.State.{Locals, Memory, NameMap}
use Rattle.snap_regs.specs.Store.{HasColumns, IsOfShape}
use Rattle.snap_machine.specs.SeenContents.{local_at}
use Rattle.snap_report.specs.ReportLines.{register_line, bank_text, rows_of, row_at, bits_in, local_lines, sort_lines}

-- the text of what is there
abbrev pub there : {A : Type 0} → (ℕ → A → List ℕ) → ℕ → Option A → List ℕ
there line m None = []
there line m (Some x) = line m x

-- lines by numbers: `lines m xs` has the lines of xs, the first of which has number m
module _ {A : Type 0} (line : ℕ → A → List ℕ) (lines : ℕ → List A → List ℕ) (none : (m : ℕ) → lines m [] ≡ [])
    (some : (m : ℕ) (x : A) (xs : List A) → lines m (x ∷ xs) ≡ line m x ++ lines (m + 1) xs) where
  next_there : (xs : List A) (k m : ℕ) →
      there line m (slice_get xs k) ++ lines (m + 1) (drop (suc k) xs) ≡ lines m (drop k xs)
  next_there [] zero m = none (m + 1) ∙ sym (none m)
  next_there [] (suc k) m = none (m + 1) ∙ sym (none m)
  next_there (x ∷ xs) zero m = sym (some m x xs)
  next_there (x ∷ xs) (suc k) m = next_there xs k m

  -- one line more
  pub line_pushed : (xs : List A) (k : ℕ) (old out more text : List ℕ) → text ≡ there line (k + 1) (slice_get xs k) →
      more ≡ out ++ text → out ++ lines (k + 1) (drop k xs) ≡ old ++ lines 1 xs →
      more ++ lines (k + 1 + 1) (drop (k + 1) xs) ≡ old ++ lines 1 xs
  line_pushed xs k old out more text is pushed so_far =
      ap (λ t. t ++ lines (k + 1 + 1) (drop (k + 1) xs)) pushed
      ∙ append_assoc out text (lines (k + 1 + 1) (drop (k + 1) xs))
      ∙ ap (λ t. out ++ (t ++ lines (k + 1 + 1) (drop (k + 1) xs))) is
      ∙ ap (λ n. out ++ (there line (k + 1) (slice_get xs k) ++ lines (k + 1 + 1) (drop n xs))) (add-one k)
      ∙ ap (λ t. out ++ t) (next_there xs k (k + 1))
      ∙ so_far

  -- no line is left
  pub no_line_left : (xs : List A) (k : ℕ) (old out : List ℕ) → length xs ≤ k →
      out ++ lines (k + 1) (drop k xs) ≡ old ++ lines 1 xs → out ≡ old ++ lines 1 xs
  no_line_left xs k old out within so_far =
      sym (append-nil out)
      ∙ ap (λ t. out ++ t) (sym (ap (lines (k + 1)) (drop_of_length-le xs within) ∙ none (k + 1))) ∙ so_far

is_next : (k : ℕ) → nat_lt 0 (k + 1) ≡ true
is_next k = search rules

not_first : (k : ℕ) → nat_eq (k + 1) 0 ≡ false
not_first k = search rules

nth_next : {A : Type 0} (xs : List A) (k : ℕ) → nth (k + 1) xs ≡ slice_get xs k
nth_next {A} xs k =
    let e : k + 1 - 1 ≡ k = omega arith in
    ap (λ (b : Bool). let o : Option A = if b then slice_get xs (k + 1 - 1) else None in o) (is_next k)
    ∙ ap (slice_get xs) e

lone_word : (g : KindTag) (i : ℕ) (o : Option Word) →
    register_line g bank.R i 0 (option_map (λ x. WordContents x) o) ≡ there (word_line g) i o
lone_word g i None = refl
lone_word g i (Some x) = refl

lone_view : (g : KindTag) (i : ℕ) (o : Option (List ℕ)) →
    register_line g bank.V i 0 (option_map (λ x. ViewContents x) o) ≡ there view_line i o
lone_view g i None = refl
lone_view g i (Some v) = refl

pub word_there : (g : KindTag) (m : Memory) (k : ℕ) →
    register_line g bank.R (k + 1) 0 (contents m bank.R (k + 1) 0) ≡ there (word_line g) (k + 1) (slice_get m.words k)
word_there g m k =
    ap (λ o. register_line g bank.R (k + 1) 0 (option_map (λ x. WordContents x) o)) (nth_next m.words k)
    ∙ lone_word g (k + 1) (slice_get m.words k)

pub view_there : (g : KindTag) (m : Memory) (k : ℕ) →
    register_line g bank.V (k + 1) 0 (contents m bank.V (k + 1) 0) ≡ there view_line (k + 1) (slice_get m.views k)
view_there g m k =
    ap (λ o. register_line g bank.V (k + 1) 0 (option_map (λ x. ViewContents x) o)) (nth_next m.views k)
    ∙ lone_view g (k + 1) (slice_get m.views k)

bit_in_row : (j : ℕ) (o : Option (List ℕ)) → bit_in (j + 1) o ≡ slice_get (bits_in o) j
bit_in_row j None = refl
bit_in_row j (Some row) = nth_next row j

one_bit : (g : KindTag) (b : Bank) (i j : ℕ) (o : Option ℕ) →
    register_line g b i j (option_map (λ x. BitContents x) o) ≡ there (bit_line (bank_text b) i) j o
one_bit g b i j None = refl
one_bit g b i j (Some x) = refl

bit_of : (g : KindTag) (b : Bank) (i j : ℕ) (o : Option (List ℕ)) →
    register_line g b i (j + 1) (option_map (λ x. BitContents x) (bit_in (j + 1) o))
    ≡ there (bit_line (bank_text b) i) (j + 1) (slice_get (bits_in o) j)
bit_of g b i j o =
    ap (λ p. register_line g b i (j + 1) (option_map (λ x. BitContents x) p)) (bit_in_row j o)
    ∙ one_bit g b i (j + 1) (slice_get (bits_in o) j)

either : {A : Type 0} (b : Bool) → (let o : Option A = if b then None else None in o) ≡ None
either true = refl
either false = refl

no_row : (i : ℕ) → nth {A = List ℕ} i [] ≡ None
no_row i = either (nat_lt 0 i)

-- banks R and V have no bits
no_bit : (g : KindTag) (b : Bank) (i j : ℕ) (read : Option Contents) → read ≡ None →
    register_line g b i (j + 1) read ≡ there (bit_line (bank_text b) i) (j + 1) (slice_get (bits_in (nth i [])) j)
no_bit g b i j read is =
    ap (register_line g b i (j + 1)) is
    ∙ sym (ap (λ o. there (bit_line (bank_text b) i) (j + 1) (slice_get (bits_in o) j)) (no_row i))

no_second : {A : Type 0} (j : ℕ) (o : Option A) → (if nat_eq (j + 1) 0 then o else None) ≡ None
no_second {A} j o = ap (λ (b : Bool). let p : Option A = if b then o else None in p) (not_first j)

pub bit_there : (g : KindTag) (m : Memory) (b : Bank) (i j : ℕ) →
    register_line g b i (j + 1) (contents m b i (j + 1))
    ≡ there (bit_line (bank_text b) i) (j + 1) (slice_get (row_at b i m) j)
bit_there g m bank.R i j = no_bit g bank.R i j _ (no_second j _)
bit_there g m bank.Q i j = bit_of g bank.Q i j (nth i m.q)
bit_there g m bank.P i j = bit_of g bank.P i j (nth i m.p)
bit_there g m bank.V i j = no_bit g bank.V i j _ (no_second j _)

row_of : (t : List ℕ) (i : ℕ) (o : Option (List ℕ)) →
    row_lines t i 1 (bits_in o) ≡ there (λ k row. row_lines t k 1 row) i o
row_of t i None = refl
row_of t i (Some row) = refl

pub row_there : (b : Bank) (m : Memory) (k : ℕ) →
    row_lines (bank_text b) (k + 1) 1 (row_at b (k + 1) m)
    ≡ there (λ i row. row_lines (bank_text b) i 1 row) (k + 1) (slice_get (rows_of b m) k)
row_there b m k =
    ap (λ o. row_lines (bank_text b) (k + 1) 1 (bits_in o)) (nth_next (rows_of b m) k)
    ∙ row_of (bank_text b) (k + 1) (slice_get (rows_of b m) k)

-- the lines of the locals of a sort from local k on
abbrev pub lines_from : KindTag → Sort → Locals → ℕ → List ℕ
lines_from g sort.Scalar l k = locals_lines number_local (drop k l.scalars)
lines_from g sort.Row l k = locals_lines list_local (drop k l.rows)
lines_from g sort.Words l k = locals_lines (λ x vs. words_local g x 1 vs) (drop k l.words)
lines_from g sort.View l k = locals_lines list_local (drop k l.views)

abbrev text_of : KindTag → Option (Name × LocalValue) → List ℕ
text_of g None = []
text_of g (Some e) = local_lines g e.0 e.1

module _ {A : Type 0} (g : KindTag) (f : Name → A → List ℕ) (value : A → LocalValue)
    (as_lines : (x : Name) (v : A) → local_lines g x (value v) ≡ f x v) where
  next_of : (es : NameMap A) (k : ℕ) →
      text_of g (option_map (λ e. (e.0, value e.1)) (slice_get es k)) ++ locals_lines f (drop (suc k) es)
      ≡ locals_lines f (drop k es)
  next_of [] zero = refl
  next_of [] (suc k) = refl
  next_of (e ∷ es) zero = ap (λ t. t ++ locals_lines f es) (as_lines e.0 e.1)
  next_of (e ∷ es) (suc k) = next_of es k

  end_of : (es : NameMap A) (k : ℕ) → option_map {U = Name × LocalValue} (λ e. (e.0, value e.1)) (slice_get es k)
      ≡ None → locals_lines f (drop k es) ≡ []
  end_of [] zero h = refl
  end_of [] (suc k) h = refl
  end_of (e ∷ es) zero h = cc
  end_of (e ∷ es) (suc k) h = end_of es k h

next_local : (g : KindTag) (sort : Sort) (l : Locals) (k : ℕ) →
    text_of g (local_at l sort k) ++ lines_from g sort l (suc k) ≡ lines_from g sort l k
next_local g sort.Scalar l k = next_of g number_local (λ v. NumberValue v) (λ x v. refl) l.scalars k
next_local g sort.Row l k = next_of g list_local (λ v. RowValue v) (λ x v. refl) l.rows k
next_local g sort.Words l k = next_of g (λ x vs. words_local g x 1 vs) (λ v. WordsValue v) (λ x v. refl) l.words k
next_local g sort.View l k = next_of g list_local (λ v. ViewValue v) (λ x v. refl) l.views k

end_local : (g : KindTag) (sort : Sort) (l : Locals) (k : ℕ) → local_at l sort k ≡ None → lines_from g sort l k ≡ []
end_local g sort.Scalar l k h = end_of g number_local (λ v. NumberValue v) (λ x v. refl) l.scalars k h
end_local g sort.Row l k h = end_of g list_local (λ v. RowValue v) (λ x v. refl) l.rows k h
end_local g sort.Words l k h = end_of g (λ x vs. words_local g x 1 vs) (λ v. WordsValue v) (λ x v. refl) l.words k h
end_local g sort.View l k h = end_of g list_local (λ v. ViewValue v) (λ x v. refl) l.views k h

-- one local more
pub local_pushed : (g : KindTag) (sort : Sort) (l : Locals) (k : ℕ) (x : Name) (v : LocalValue)
    (old out more : List ℕ) → Some (x, v) ≡ local_at l sort k → more ≡ out ++ local_lines g x v →
    out ++ lines_from g sort l k ≡ old ++ sort_lines g sort l →
    more ++ lines_from g sort l (k + 1) ≡ old ++ sort_lines g sort l
local_pushed g sort l k x v old out more is pushed so_far =
    ap (λ t. t ++ lines_from g sort l (k + 1)) pushed
    ∙ append_assoc out (local_lines g x v) (lines_from g sort l (k + 1))
    ∙ ap (λ n. out ++ (local_lines g x v ++ lines_from g sort l n)) (add-one k)
    ∙ ap (λ o. out ++ (text_of g o ++ lines_from g sort l (suc k))) is
    ∙ ap (λ t. out ++ t) (next_local g sort l k)
    ∙ so_far

-- no local is left
pub no_local_left : (g : KindTag) (sort : Sort) (l : Locals) (k : ℕ) (old out : List ℕ) → None ≡ local_at l sort k →
    out ++ lines_from g sort l k ≡ old ++ sort_lines g sort l → out ≡ old ++ sort_lines g sort l
no_local_left g sort l k old out is so_far =
    sym (append-nil out) ∙ ap (λ t. out ++ t) (sym (end_local g sort l k (sym is))) ∙ so_far

no_more : (b : Bool) (n : ℕ) → (if b then n else 0) ≤ n
no_more true n = omega arith
no_more false n = omega arith

-- a bank has at most n rows
pub few_rows : (t : KindTag) (s : Counts) (m : Memory) (b : Bank) → IsOfShape t s m → length (rows_of b m) ≤ s.n
few_rows t s m bank.R h = omega arith
few_rows t s m bank.Q h = let e = no_more (has_bank t bank.Q) s.n in omega (arith, e, h.q_rows)
few_rows t s m bank.P h = let e = no_more (has_bank t bank.P) s.n in omega (arith, e, h.p_rows)
few_rows t s m bank.V h = omega arith

pub few_views : (t : KindTag) (s : Counts) (m : Memory) → IsOfShape t s m → length m.views ≤ s.n
few_views t s m h = let e = no_more (has_bank t bank.V) s.n in omega (arith, e, h.view_count)

short_row : (n k : ℕ) (rows : List (List ℕ)) → HasColumns n rows → length (bits_in (slice_get rows k)) ≤ n
short_row n k [] h = omega arith
short_row n zero (row ∷ rows) h =
    let e : length row ≡ n = All-head (λ (r : List ℕ). length r ≡ n) row rows h in
    omega (arith, e)
short_row n (suc k) (row ∷ rows) h = short_row n k rows (All-tail (λ (r : List ℕ). length r ≡ n) row rows h)

short_at : (n k : ℕ) (b : Bool) (rows : List (List ℕ)) → HasColumns n rows →
    length (bits_in (let o : Option (List ℕ) = if b then slice_get rows k else None in o)) ≤ n
short_at n k true rows h = short_row n k rows h
short_at n k false rows h = omega arith

-- a row has at most n bits
pub few_bits : (t : KindTag) (s : Counts) (m : Memory) (b : Bank) (i : ℕ) →
    IsOfShape t s m → length (row_at b i m) ≤ s.n
few_bits t s m bank.R i h = short_at s.n (i - 1) (nat_lt 0 i) [] (All-nil (λ (r : List ℕ). length r ≡ s.n))
few_bits t s m bank.Q i h = short_at s.n (i - 1) (nat_lt 0 i) m.q h.q_columns
few_bits t s m bank.P i h = short_at s.n (i - 1) (nat_lt 0 i) m.p h.p_columns
few_bits t s m bank.V i h = short_at s.n (i - 1) (nat_lt 0 i) [] (All-nil (λ (r : List ℕ). length r ≡ s.n))
