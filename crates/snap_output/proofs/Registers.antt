-- The lines of the registers, where a place was put back (`put_register`): those of its register differ, and the
-- others stay.
use Rattle.std.proofs.Common.{◌≡◌, ℕ, ◌+◌, ◌-◌, true, ◌&&◌, List, [], Option, Some, None, codes, nat_lt, if◌then◌else◌}
use Rattle.std.proofs.Common.{option_map, slice_get, slice_index_or, slice_set, refl, sym, ap, ◌∙◌, subst, arith}
use Rattle.std.proofs.lemmas.Bool.{and_parts}
use Rattle.std.proofs.lemmas.Bool.Decides.{Decides-ltb}
use Rattle.std.proofs.lemmas.List.{set-get_or}
use Rattle.snap_words.specs.Kind.{has_bank}
use Rattle.snap_words.specs.Shape.{Counts, is_place}
use Rattle.snap_words.specs.Word.{no_word}
use Rattle.snap_words.specs.declared.address.Bank.{Bank}
use Rattle.snap_words.specs.declared.address.Bank.TheVariants as bank
use Rattle.snap_words.specs.declared.kind.KindTag.{KindTag}
use Rattle.snap_semantics.specs.declared.instr.BitBank.{BitBank}
use Rattle.snap_semantics.specs.declared.instr.BitBank.TheVariants as bits
use Rattle.snap_semantics.specs.Readers.{BitContents, Contents, ViewContents, WordContents, bit_in, contents, nth}
use Rattle.snap_semantics.specs.Report.{bank_lines, bit_line, register_lines}
use Rattle.snap_semantics.specs.Source.{Source}
use Rattle.snap_semantics.specs.State.{Memory}
use Rattle.snap_semantics.specs.Table.{bank_of, with_bit_at}
use Rattle.snap_machine.specs.WritePlace.{write_place_of}
use Rattle.snap_machine.specs.Undo.{FitsPlace, Place, WordRegister, BitRegister, ViewRegister, put_register}
use Rattle.snap_machine.specs.declared.undo.WritePlace.{WritePlace}
use Rattle.snap_machine.specs.declared.undo.WritePlace.TheVariants as written
use Rattle.snap_report.specs.ReportLines.{bank_text, register_line}
use Rattle.snap_output.proofs.Wholes.{feeds}
use Rattle.snap_output.proofs.Feeds.{bit_feeds, view_feeds, word_feeds}
use Rattle.snap_output.proofs.Parts.{IsPart, bank_part, begins, bit_part, parts_join, registers_part, row_part}
use Rattle.snap_output.proofs.Parts.{view_part, views_part, word_part, words_part}
use Rattle.snap_output.proofs.Splits.{IsInOrder, any, bank_order, row_order, views_order, words_order}
use Rattle.snap_output.proofs.Differs.{Differs, at, differ_as, in_first, in_fourth, in_second, in_third}
use Rattle.snap_output.proofs.Differs.{itself, one_differs, stays}

-- the line of the register at a write place
abbrev pub written_register : KindTag → Memory → WritePlace → List ℕ
written_register g m (written.Register a) = register_line g a.bank a.i a.j (contents m a.bank a.i a.j)
written_register g m _ = []

-- a place that is counted from 1
one_at_least : (count k : ℕ) → is_place count k ≡ true → nat_lt 0 k ≡ true
one_at_least count k e = grind arith

back_up : (k : ℕ) → nat_lt 0 k ≡ true → 1 + (k - 1) ≡ k
back_up k e = let h = (Decides-ltb 0 k).0 e in omega (arith, h)

-- what is read at such a place
read : {A : Type 0} (k : ℕ) (xs : List A) → nat_lt 0 k ≡ true → nth k xs ≡ slice_get xs (k - 1)
read k xs e = ap (λ b. if b then slice_get xs (k - 1) else None) e

-- the element at such a place differs, in a part of it
element_differs : {A : Type 0} {f : ℕ → A → List ℕ} {F : ℕ → List A → List ℕ} → IsInOrder f F →
    ((n : ℕ) (x : A) → IsPart (f n x)) → (h : A → List ℕ) (k : ℕ) → nat_lt 0 k ≡ true → (xs : List A) (x d : A) →
    Differs IsPart (f k x) (f k (slice_index_or xs (k - 1) d)) (h x) (h (slice_index_or xs (k - 1) d)) →
    Differs IsPart (F 1 (slice_set xs (k - 1) x)) (F 1 xs)
    (at h (nth k (slice_set xs (k - 1) x))) (at h (nth k xs))
element_differs {f = f} order each h k one xs x d differs =
    let y = slice_index_or xs (k - 1) d in
    differ_as (one_differs parts_join order (λ z. Unit {0}) (λ n z good. each n z) h 1 (k - 1) xs x y (any xs) refl
    (sym (set-get_or xs (k - 1) d))
    (subst (λ n. Differs IsPart (f n x) (f n y) (h x) (h y)) (sym (back_up k one)) differs))
    (ap (at h) (sym (read k (slice_set xs (k - 1) x) one))) (ap (at h) (sym (read k xs one)))

module _ (g : KindTag) where
  -- the line of a register
  seen : {A : Type 0} (value : A → Contents) (b : Bank) (i j : ℕ) (o : Option A) →
      at (λ x. register_line g b i j (Some (value x))) o ≡ register_line g b i j (option_map value o)
  seen value b i j None = refl
  seen value b i j (Some x) = refl

  -- a register that has one index
  lone_differs : {A : Type 0} (value : A → Contents) (b : Bank) {F : ℕ → List A → List ℕ} →
      IsInOrder (λ n x. register_line g b n 0 (Some (value x))) F →
      ((n : ℕ) (x : A) → IsPart (register_line g b n 0 (Some (value x)))) →
      ((n : ℕ) (x : A) → feeds (register_line g b n 0 (Some (value x))) ≡ 1) →
      (k : ℕ) → nat_lt 0 k ≡ true → (xs : List A) (x d : A) →
      Differs IsPart (F 1 (slice_set xs (k - 1) x)) (F 1 xs)
      (register_line g b k 0 (option_map value (nth k (slice_set xs (k - 1) x))))
      (register_line g b k 0 (option_map value (nth k xs)))
  lone_differs value b order each count k one xs x d =
      let y = slice_index_or xs (k - 1) d in
      differ_as (element_differs order each (λ z. register_line g b k 0 (Some (value z))) k one xs x d
      (itself parts_join (each k x) (each k y) (count k x ∙ sym (count k y))))
      (seen value b k 0 (nth k (slice_set xs (k - 1) x))) (seen value b k 0 (nth k xs))

  -- a bit of a bank
  module _ (b : BitBank) (i j : ℕ) where
    abbrev letter : List ℕ
    letter = bank_text (bank_of b)

    -- the line of the bit in its row
    abbrev bit_of : List ℕ → List ℕ
    bit_of row = at (bit_line letter i j) (nth j row)

    bit_seen : (o : Option (List ℕ)) → at bit_of o
        ≡ register_line g (bank_of b) i j (option_map (λ x. BitContents x) (bit_in j o))
    bit_seen None = refl
    bit_seen (Some row) = seen (λ x. BitContents x) (bank_of b) i j (nth j row)

    bits_differ : begins letter ≡ true → feeds letter ≡ 0 → nat_lt 0 i ≡ true → nat_lt 0 j ≡ true →
        (rows : List (List ℕ)) (x : ℕ) → let new = with_bit_at rows (i - 1) (j - 1) x in
        Differs IsPart (bank_lines letter 1 new) (bank_lines letter 1 rows)
        (register_line g (bank_of b) i j (option_map (λ x. BitContents x) (bit_in j (nth i new))))
        (register_line g (bank_of b) i j (option_map (λ x. BitContents x) (bit_in j (nth i rows))))
    bits_differ begin plain one column rows x =
        let row = slice_index_or rows (i - 1) [] in
        let y = slice_index_or row (j - 1) 0 in
        let bit = bit_part letter begin in
        differ_as (element_differs (bank_order letter) (row_part letter begin) bit_of i one rows
        (slice_set row (j - 1) x) []
        (element_differs (row_order letter i) (bit i) (bit_line letter i j) j column row x 0
        (itself parts_join (bit i j x) (bit i j y)
        (bit_feeds letter i j x plain ∙ sym (bit_feeds letter i j y plain)))))
        (bit_seen (nth i (with_bit_at rows (i - 1) (j - 1) x))) (bit_seen (nth i rows))

-- what differs where a place was put back
pub register_differs : (g : KindTag) (s : Source) (n : Counts) (m : Memory) (u : Place) → FitsPlace s n u →
    Differs IsPart (register_lines g (put_register u m)) (register_lines g m)
    (written_register g (put_register u m) (write_place_of u)) (written_register g m (write_place_of u))
register_differs g s n m (WordRegister k x) h =
    in_first parts_join (bank_part (codes "q") refl m.q) (bank_part (codes "p") refl m.p) (views_part m.views)
    (lone_differs g (λ w. WordContents w) bank.R (words_order g) (word_part g) (word_feeds g) k (one_at_least n.w k h.0)
    m.words x no_word)
register_differs g s n m (BitRegister bits.Q i j x) h =
    let both = and_parts (has_bank s.kind bank.Q) (is_place n.n i && is_place n.n j) h in
    let places = and_parts (is_place n.n i) (is_place n.n j) both.1 in
    in_second parts_join (words_part g m.words) (bank_part (codes "p") refl m.p) (views_part m.views)
    (bits_differ g bits.Q i j refl refl (one_at_least n.n i places.0) (one_at_least n.n j places.1) m.q x)
register_differs g s n m (BitRegister bits.P i j x) h =
    let both = and_parts (has_bank s.kind bank.P) (is_place n.n i && is_place n.n j) h in
    let places = and_parts (is_place n.n i) (is_place n.n j) both.1 in
    in_third parts_join (words_part g m.words) (bank_part (codes "q") refl m.q) (views_part m.views)
    (bits_differ g bits.P i j refl refl (one_at_least n.n i places.0) (one_at_least n.n j places.1) m.p x)
register_differs g s n m (ViewRegister i v) h =
    in_fourth parts_join (words_part g m.words) (bank_part (codes "q") refl m.q) (bank_part (codes "p") refl m.p)
    (lone_differs g (λ v. ViewContents v) bank.V views_order view_part view_feeds i
    (one_at_least n.n i (and_parts (has_bank s.kind bank.V) (is_place n.n i) h.0).1) m.views v [])
register_differs g s n m _ h = stays parts_join (registers_part g m)
