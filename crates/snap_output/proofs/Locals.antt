-- The lines of the locals of a process, where a place was put back (`put_local`): those of its local differ, and the
-- others stay.
use Rattle.std.proofs.Common.{◌≡◌, ℕ, zero, suc, ◌+◌, List, [], ◌∷◌, Option, Some, None, option_map, slice_get}
use Rattle.std.proofs.Common.{slice_index_or, slice_set, refl, sym, ap, ◌∙◌, arith}
use Rattle.std.proofs.lemmas.List.{set-get_or}
use Rattle.std.specs.List.{AllByRecursion}
use Rattle.snap_words.specs.Word.{Word, no_word}
use Rattle.snap_words.specs.declared.kind.KindTag.{KindTag}
use Rattle.snap_semantics.specs.Readers.{LocalValue, NumberValue, RowValue, ViewValue, WordsValue}
use Rattle.snap_semantics.specs.Report.{list_local, locals_lines, locals_text, number_local, word_local, words_local}
use Rattle.snap_semantics.specs.Source.{Name, Source}
use Rattle.snap_semantics.specs.State.{Locals, NameMap, value_at, with_row, with_value}
use Rattle.snap_asm_program.specs.NamedLines.{name_at}
use Rattle.snap_machine.specs.WritePlace.{write_place_of}
use Rattle.snap_machine.specs.Undo.{Place, Scalar, Number, Row, LocalWord, LocalView, put_local}
use Rattle.snap_report.specs.ReportLines.{local_lines}
use Rattle.snap_report.specs.WrittenLines.{named_lines, place_line, written_local, word_there}
use Rattle.snap_output.proofs.Wholes.{feeds}
use Rattle.snap_output.proofs.Feeds.{list_feeds, number_feeds, place_feeds}
use Rattle.snap_output.proofs.Owned.{IsPlain}
use Rattle.snap_output.proofs.Indented.{IsIndented, IsLocalLine, indented, indented_join, list_line, number_line}
use Rattle.snap_output.proofs.Indented.{place_line as line_of_place, words_indented}
use Rattle.snap_output.proofs.Named.{AreGood, IsSorted, entries_plain, slot_has, with_slot}
use Rattle.snap_output.proofs.Splits.{all_are, any, entries_order, places_order}
use Rattle.snap_output.proofs.Differs.{Differs, at, differ_as, in_first, in_fourth, in_second, in_third}
use Rattle.snap_output.proofs.Differs.{itself, one_differs, stays}

name_plain : (ns : List Name) (k : ℕ) → AllByRecursion IsPlain ns → IsPlain (name_at ns k)
name_plain [] k h = refl
name_plain (n ∷ ns) zero h = h.0
name_plain (n ∷ ns) (suc k) h = name_plain ns k h.1

module _ {A : Type 0} (f : Name → A → List ℕ) (line : (x : Name) (v : A) → IsPlain x → IsIndented (f x v))
    (ns : List Name) (es : NameMap A) (good : AreGood ns es) where
  -- the lines of a sort
  sort_indented : IsIndented (locals_lines f es)
  sort_indented =
      all_are indented_join (entries_order f) (λ (e : Name × A). IsPlain e.0) (λ k e. line e.0 e.1) 0 es
      (entries_plain ns es good)

  -- the entry of one slot differs, in a part of it
  entry_differs : (h : Name × A → List ℕ) (k : ℕ) (v d : A) → let x = name_at ns k in
      Differs IsIndented (f x v) (f x (value_at x es d)) (h (x, v)) (h (x, value_at x es d)) →
      Differs IsIndented (locals_lines f (with_value x v es)) (locals_lines f es)
      (at h (slice_get (with_value x v es) k)) (at h (slice_get es k))
  entry_differs h k v d differs =
      let x = name_at ns k in
      one_differs indented_join (entries_order f) (λ (e : Name × A). IsPlain e.0) (λ n e. line e.0 e.1) h 0 k es (x, v)
      (x, value_at x es d) (entries_plain ns es good)
      (with_slot ns es k v good.names.distinct good.names.not_empty good.named)
      (slot_has ns es k d good.names good.named) differs

module _ (g : KindTag) where
  -- the line of a value of a sort whose locals have one line each
  value_seen : {A : Type 0} (value : A → LocalValue) (o : Option (Name × A)) →
      at (λ e. local_lines g e.0 (value e.1)) o ≡ named_lines g (option_map (λ e. (e.0, value e.1)) o)
  value_seen value None = refl
  value_seen value (Some e) = refl

  value_differs : {A : Type 0} (value : A → LocalValue)
      (line : (x : Name) (v : A) → IsPlain x → IsLocalLine (local_lines g x (value v)))
      (count : (x : Name) (v : A) → feeds (local_lines g x (value v)) ≡ feeds x + 1)
      (ns : List Name) (es : NameMap A) (k : ℕ) (v d : A) → AreGood ns es → let x = name_at ns k in
      Differs IsIndented (locals_lines (λ y w. local_lines g y (value w)) (with_value x v es))
      (locals_lines (λ y w. local_lines g y (value w)) es)
      (named_lines g (option_map (λ e. (e.0, value e.1)) (slice_get (with_value x v es) k)))
      (named_lines g (option_map (λ e. (e.0, value e.1)) (slice_get es k)))
  value_differs value line count ns es k v d good =
      let x = name_at ns k in
      let w = value_at x es d in
      let plain = name_plain ns k good.plain in
      differ_as (entry_differs (λ y u. local_lines g y (value u)) (λ y u h. indented (line y u h)) ns es good
      (λ e. local_lines g e.0 (value e.1)) k v d
      (itself indented_join (indented (line x v plain)) (indented (line x w plain)) (count x v ∙ sym (count x w))))
      (value_seen value (slice_get (with_value x v es) k)) (value_seen value (slice_get es k))

  -- one place of a `words` local
  place_at : (x : Name) (p : ℕ) (o : Option Word) → at (word_local g x (1 + p)) o ≡ word_there g x p o
  place_at x p None = refl
  place_at x p (Some w) = let e : 1 + p ≡ p + 1 = omega arith in ap (λ n. word_local g x n w) e

  places_differ : (x : Name) (p : ℕ) (vs : List Word) (w : Word) → IsPlain x →
      Differs IsIndented (words_local g x 1 (slice_set vs p w)) (words_local g x 1 vs)
      (word_there g x p (slice_get (slice_set vs p w) p)) (word_there g x p (slice_get vs p))
  places_differ x p vs w h =
      let v = slice_index_or vs p no_word in
      let line = λ (n : ℕ) (u : Word). indented (line_of_place g x n u h) in
      differ_as (one_differs indented_join (places_order g x) (λ u. Unit {0}) (λ n u good. line n u)
      (word_local g x (1 + p)) 1 p vs w v (any vs) refl (sym (set-get_or vs p no_word))
      (itself indented_join (line (1 + p) w) (line (1 + p) v)
      (place_feeds g x (1 + p) w ∙ sym (place_feeds g x (1 + p) v))))
      (place_at x p (slice_get (slice_set vs p w) p)) (place_at x p (slice_get vs p))

  abbrev words_lines : Name → List Word → List ℕ
  words_lines x vs = words_local g x 1 vs

  words_line : (x : Name) (vs : List Word) → IsPlain x → IsIndented (words_lines x vs)
  words_line x vs h = words_indented g x 1 vs h

  -- the entry of a slot, of which one place is printed
  abbrev line_of : ℕ → Option (Name × List Word) → List ℕ
  line_of p o = place_line g p (option_map (λ e. (e.0, WordsValue e.1)) o)

  abbrev line_in : ℕ → Name × List Word → List ℕ
  line_in p e = word_there g e.0 p (slice_get e.1 p)

  line_at : (p : ℕ) (o : Option (Name × List Word)) → at (line_in p) o ≡ line_of p o
  line_at p None = refl
  line_at p (Some e) = refl

  words_differ : (ns : List Name) (es : NameMap (List Word)) (k p : ℕ) (w : Word) → AreGood ns es →
      let x = name_at ns k in let vs = slice_set (value_at x es []) p w in
      Differs IsIndented (locals_lines words_lines (with_value x vs es)) (locals_lines words_lines es)
      (line_of p (slice_get (with_value x vs es) k)) (line_of p (slice_get es k))
  words_differ ns es k p w good =
      let x = name_at ns k in
      let vs = slice_set (value_at x es []) p w in
      differ_as (entry_differs words_lines words_line ns es good (line_in p) k vs []
      (places_differ x p (value_at x es []) w (name_plain ns k good.plain)))
      (line_at p (slice_get (with_value x vs es) k)) (line_at p (slice_get es k))

  module _ (s : Source) (l : Locals) (h : IsSorted s l) where
    scalars_are : IsIndented (locals_lines number_local l.scalars)
    scalars_are = sort_indented number_local (λ x v h. indented (number_line x v h)) s.scalars l.scalars h.scalars

    rows_are : IsIndented (locals_lines list_local l.rows)
    rows_are = sort_indented list_local (λ x vs h. indented (list_line x vs h)) s.rows l.rows h.rows

    words_are : IsIndented (locals_lines words_lines l.words)
    words_are = sort_indented words_lines words_line s.words l.words h.words

    views_are : IsIndented (locals_lines list_local l.views)
    views_are = sort_indented list_local (λ x vs h. indented (list_line x vs h)) s.views l.views h.views

    -- no local was written
    same_locals : Differs IsIndented (locals_text g l) (locals_text g l) [] []
    same_locals =
        stays indented_join
        (indented_join.join (indented_join.join (indented_join.join scalars_are rows_are) words_are) views_are)

    row_differs : (k : ℕ) (v : List ℕ) → Differs IsIndented
        (locals_text g (with_row (name_at s.rows k) v l)) (locals_text g l)
        (named_lines g (option_map (λ e. (e.0, RowValue e.1)) (slice_get (with_value (name_at s.rows k) v l.rows) k)))
        (named_lines g (option_map (λ e. (e.0, RowValue e.1)) (slice_get l.rows k)))
    row_differs k v =
        in_second indented_join scalars_are words_are views_are
        (value_differs (λ v. RowValue v) list_line list_feeds s.rows l.rows k v [] h.rows)

    -- what differs where a place was put back
    pub local_differs : (p : Place) → Differs IsIndented (locals_text g (put_local s p l)) (locals_text g l)
        (written_local g (put_local s p l) (write_place_of p)) (written_local g l (write_place_of p))
    local_differs (Scalar k v) =
        in_first indented_join rows_are words_are views_are
        (value_differs (λ v. NumberValue v) number_line number_feeds s.scalars l.scalars k v 0 h.scalars)
    local_differs (Number k p v) = row_differs k (slice_set (value_at (name_at s.rows k) l.rows []) p v)
    local_differs (Row k r) = row_differs k r
    local_differs (LocalWord k p x) =
        in_third indented_join scalars_are rows_are views_are (words_differ s.words l.words k p x h.words)
    local_differs (LocalView k v) =
        in_fourth indented_join scalars_are rows_are words_are
        (value_differs (λ v. ViewValue v) list_line list_feeds s.views l.views k v [] h.views)
    local_differs _ = same_locals
