-- What changed of the lines that an item can change, each with its owner (`owned`): those of registers, of a process
-- and of events speak of themselves, and the line of a local gets its process in front.
use Rattle.std.proofs.Common.{◌≡◌, ℕ, zero, suc, ◌+◌, true, false, List, [], ◌∷◌, ◌++◌, Option, Some, None, codes}
use Rattle.std.proofs.Common.{decimal, option_map, slice_get, refl, ◌∙◌, append_assoc, append-nil, arith}
use Rattle.std.specs.List.{AllByRecursion}
use Rattle.std.specs.Prelude.{◌==◌}
use Rattle.snap_words.specs.Word.{Word}
use Rattle.snap_words.specs.declared.address.Bank.{Bank}
use Rattle.snap_words.specs.declared.address.Bank.TheVariants as bank
use Rattle.snap_words.specs.declared.kind.KindTag.{KindTag}
use Rattle.snap_semantics.specs.declared.event.Event.{Event}
use Rattle.snap_semantics.specs.declared.process.Status.{Status}
use Rattle.snap_semantics.specs.Readers.{BitContents, Contents, LocalValue, NumberValue, RowValue, ViewContents}
use Rattle.snap_semantics.specs.Readers.{ViewValue, WordContents, WordsValue, contents}
use Rattle.snap_semantics.specs.Report.{event_line, event_lines, happening_text, head_line, numbers_text, status_text}
use Rattle.snap_semantics.specs.Report.{word_text}
use Rattle.snap_semantics.specs.Source.{Name, Source}
use Rattle.snap_semantics.specs.State.{Locals, NameMap, State, values}
use Rattle.snap_semantics.specs.Token.{lines_of}
use Rattle.snap_text.specs.Owned.{owned_text}
use Rattle.snap_machine.specs.WritePlace.{write_place_of}
use Rattle.snap_machine.specs.declared.undo.WritePlace.{WritePlace}
use Rattle.snap_machine.specs.declared.undo.WritePlace.TheVariants as written
use Rattle.snap_machine.specs.Undo.{Place, Scalar, Number, Row, LocalWord, LocalView}
use Rattle.snap_report.specs.ReportLines.{local_lines, register_line}
use Rattle.snap_report.specs.WrittenLines.{values_of, named_lines, place_line, written_local, written_shared}
use Rattle.snap_report.specs.WrittenLines.{word_there}
use Rattle.snap_report.specs.ReportLines.{bank_text}
use Rattle.snap_text.specs.Changes.{text_between}
use Rattle.snap_output.specs.Between.{between}
use Rattle.snap_output.specs.Touched.{came_text, changed_line, changed_local, of_process}
use Rattle.snap_output.proofs.Wholes.{IsWhole, feeds, joined, no_text}
use Rattle.snap_output.proofs.Feeds.{bit_feeds, event_feeds, head_feeds, values_feeds, view_feeds, word_feeds}
use Rattle.snap_output.proofs.Owned.{IsPlain, owned_apart}
use Rattle.snap_output.proofs.Parts.{begins, ended}
use Rattle.snap_output.proofs.Indented.{IsLocalLine, list_line, no_line, number_line, one_line, one_of}
use Rattle.snap_output.proofs.Indented.{owner_of, place_line as line_of_place, plain_before, told}
use Rattle.snap_output.proofs.Splits.{AreJoined, each_is, events_order}
use Rattle.snap_output.proofs.Named.{AreGood, IsSorted, entries_plain}
use Rattle.snap_output.proofs.Pieces.{came, line_change, local_change}

-- lines that speak of themselves
pub record IsOwn (t : List ℕ) : Type 0 where
  pub whole : IsWhole t
  pub own : (owner : List ℕ) → owned_text owner (lines_of t) ≡ t

none_own : IsOwn []
none_own = record { whole = no_text; own = λ owner. refl }

both_own : {a b : List ℕ} → IsOwn a → IsOwn b → IsOwn (a ++ b)
both_own h k = record {
  whole = joined h.whole k.whole;
  own = λ owner. simp (h.whole.apart, owned_apart, h.own, k.own);
}

own_joins : AreJoined IsOwn
own_joins = record { none = none_own; join = both_own }

line_own : (t : List ℕ) → begins (t ++ codes "\n") ≡ true → feeds (t ++ codes "\n") ≡ 1 → IsOwn (t ++ codes "\n")
line_own [] s e = absurd cc
line_own (b ∷ a) s e =
    let apart : (b == 32) ≡ false = grind arith in
    record {
      whole = ended (b ∷ a);
      own = λ owner. simp (one_line (b ∷ a) (plain_before (b ∷ a) e), apart, append-nil);
    }

register_own : (g : KindTag) (b : Bank) (i j : ℕ) (c : Option Contents) → IsOwn (register_line g b i j c)
register_own g b i j None = none_own
register_own g b i j (Some (WordContents x)) =
    line_own (codes "r " ++ decimal i ++ codes " = " ++ word_text g x) refl (word_feeds g i x)
register_own g b i j (Some (ViewContents v)) =
    line_own (codes "v " ++ decimal i ++ codes " =" ++ numbers_text v) refl (view_feeds i v)
register_own g b i j (Some (BitContents x)) =
    line_own (bank_text b ++ codes " " ++ decimal i ++ codes " " ++ decimal j ++ codes " = " ++ decimal x) (grind arith)
    (bit_feeds (bank_text b) i j x (grind arith))

values_own : (b : Bank) (S : State) → IsOwn (values_of b S)
values_own bank.R S = line_own (codes "values" ++ numbers_text (values S)) refl (values_feeds (values S))
values_own _ S = none_own

pub written_own : (g : KindTag) (S : State) (written : WritePlace) → IsOwn (written_shared g S written)
written_own g S (written.Register a) =
    both_own (values_own a.bank S) (register_own g a.bank a.i a.j (contents S.memory a.bank a.i a.j))
written_own g S _ = none_own

-- the first line of a process in the place of another
pub head_change : (i : ℕ) (s s' : Status) → text_between (told [] (head_line i s)) (told [] (head_line i s'))
    ≡ changed_line (head_line i s) (head_line i s')
head_change i s s' =
    rw ((line_own (words s) refl (head_feeds i s)).own [], (line_own (words s') refl (head_feeds i s')).own [])
    (line_change (words s) (words s') (head_feeds i s) (head_feeds i s'))
  where
    words : Status → List ℕ
    words s = codes "process " ++ decimal i ++ codes " " ++ status_text s

event_own : (e : Event) → IsOwn (event_line e)
event_own e =
    line_own (codes "event " ++ decimal e.item ++ codes " " ++ decimal e.process ++ codes " " ++ happening_text e.what)
    refl (event_feeds e)

-- events that came
pub events_change : (es : List Event) → between [] (event_lines es) ≡ came_text es
events_change es = rw ((each_is own_joins events_order (λ n e. event_own e) 0 es).own []) (came es)

abbrev IsTold : ℕ → List ℕ → Type 0
IsTold i t = owned_text (owner_of i) (lines_of t) ≡ of_process i t

line_told : (i : ℕ) (a : List ℕ) → feeds ((32 ∷ a) ++ codes "\n") ≡ 1 → IsTold i ((32 ∷ a) ++ codes "\n")
line_told i a e =
    rw (one_line (32 ∷ a) (plain_before (32 ∷ a) e))
    (append-nil ((owner_of i ++ a) ++ codes "\n") ∙ append_assoc (owner_of i) a (codes "\n"))

local_line_told : (i : ℕ) {t : List ℕ} → IsLocalLine t → IsTold i t
local_line_told i no_line = refl
local_line_told i (one_of a feed) = line_told i a feed

-- the line of a local in the place of another
pub locals_change : (i : ℕ) {l l' : List ℕ} → IsLocalLine l → IsLocalLine l' → feeds l ≡ feeds l' →
    text_between (told (owner_of i) l) (told (owner_of i) l') ≡ changed_local i l l'
locals_change i h h' same = rw (local_line_told i h, local_line_told i h') (local_change i h h' same)

-- the line of the entry at a slot
entry_line : {A : Type 0} (f : Option (Name × A) → List ℕ) → IsLocalLine (f None) →
    ((e : Name × A) → IsPlain e.0 → IsLocalLine (f (Some e))) → (es : NameMap A) (k : ℕ) →
    AllByRecursion (λ (e : Name × A). IsPlain e.0) es → IsLocalLine (f (slice_get es k))
entry_line f none some [] k h = none
entry_line f none some (e ∷ es) zero h = some e h.0
entry_line f none some (e ∷ es) (suc k) h = entry_line f none some es k h.1

module _ (g : KindTag) where
  value_line : {A : Type 0} (value : A → LocalValue) →
      ((x : Name) (v : A) → IsPlain x → IsLocalLine (local_lines g x (value v))) → (ns : List Name) (es : NameMap A)
      (k : ℕ) → AreGood ns es → IsLocalLine (named_lines g (option_map (λ e. (e.0, value e.1)) (slice_get es k)))
  value_line value line ns es k good =
      entry_line (λ o. named_lines g (option_map (λ e. (e.0, value e.1)) o)) no_line (λ e h. line e.0 e.1 h) es k
      (entries_plain ns es good)

  there_line : (x : Name) (p : ℕ) (o : Option Word) → IsPlain x → IsLocalLine (word_there g x p o)
  there_line x p None h = no_line
  there_line x p (Some w) h = line_of_place g x (p + 1) w h

  -- a place of a local has one line
  pub local_line : (s : Source) (l : Locals) (p : Place) → IsSorted s l →
      IsLocalLine (written_local g l (write_place_of p))
  local_line s l (Scalar k v) h = value_line (λ v. NumberValue v) number_line s.scalars l.scalars k h.scalars
  local_line s l (Number k p v) h = value_line (λ v. RowValue v) list_line s.rows l.rows k h.rows
  local_line s l (Row k r) h = value_line (λ v. RowValue v) list_line s.rows l.rows k h.rows
  local_line s l (LocalWord k p x) h =
      entry_line (λ o. place_line g p (option_map (λ e. (e.0, WordsValue e.1)) o)) no_line
      (λ e plain. there_line e.0 p (slice_get e.1 p) plain) l.words k (entries_plain s.words l.words h.words)
  local_line s l (LocalView k v) h = value_line (λ v. ViewValue v) list_line s.views l.views k h.views
  local_line s l _ h = no_line
