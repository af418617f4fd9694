-- The parts of a report (`IsPart`): each is made of whole lines, the first of which names its own owner
-- (`SpeaksFirst`).
use Rattle.std.proofs.Common.{◌≡◌, ℕ, ◌+◌, ◌-◌, ◌<◌, Bool, true, false, not, ◌&&◌, List, [], ◌∷◌, ◌++◌, length, codes}
use Rattle.std.proofs.Common.{decimal, nat_eq, refl, sym, ap, ◌∙◌, subst, append_assoc, append-nil, length-set, arith}
use Rattle.std.proofs.lemmas.Option.{slice_get-get_or}
use Rattle.std.specs.Prelude.{◌==◌}
use Rattle.std.proofs.lemmas.List.{set-get_or}
use Rattle.snap_words.specs.Word.{Word}
use Rattle.snap_words.specs.declared.kind.KindTag.{KindTag}
use Rattle.snap_semantics.specs.declared.event.Event.{Event}
use Rattle.snap_semantics.specs.declared.process.Status.{Status}
use Rattle.snap_semantics.specs.Report.{bank_lines, bit_line, event_line, event_lines, happening_text, head_line}
use Rattle.snap_semantics.specs.Report.{list_local, locals_lines, locals_text, number_local, numbers_text}
use Rattle.snap_semantics.specs.Report.{process_lines, processes_lines, register_lines, row_lines, status_text}
use Rattle.snap_semantics.specs.Report.{values_line, view_line, view_lines, word_line}
use Rattle.snap_semantics.specs.Report.{word_lines, word_text, words_local}
use Rattle.snap_semantics.specs.Source.{Name}
use Rattle.snap_semantics.specs.State.{Locals, Memory, NameMap, Process, State, nobody, process_at, values}
use Rattle.snap_semantics.specs.Token.{lines_of, onto_line}
use Rattle.snap_text.specs.Owned.{owned_text}
use Rattle.snap_output.specs.Between.{between, owned, process_text, state_text}
use Rattle.snap_output.proofs.Wholes.{IsWhole, before, feeds, feeds_both, joined, new_line, no_text}
use Rattle.snap_output.proofs.Changes as changes
use Rattle.snap_output.proofs.Feeds.{values_feeds}
use Rattle.snap_output.proofs.Owned.{SpeaksFirst, behind_lines, lines_plain, owned_feeds, owned_whole}
use Rattle.snap_output.proofs.Kept.{IsMove}
use Rattle.snap_output.proofs.Splits.{AreJoined, any, bank_order, each_is, entries_order, events_order}
use Rattle.snap_output.proofs.Splits.{places_order, processes_order, row_order, views_order, words_order}
use Rattle.snap_output.proofs.Differs.{Differs, at, differ_as, differ_feeds, itself, one_differs}

pub record IsPart (t : List ℕ) : Type 0 where
  pub whole : IsWhole t
  pub speaks : SpeaksFirst (lines_of t)

-- whether a text begins a line that speaks of itself
abbrev pub begins : List ℕ → Bool
begins [] = false
begins (b ∷ t) = not (nat_eq b 10) && not (b == 32)

speaks_byte : (b : ℕ) (lines : List (List ℕ)) → (b == 32) ≡ false → SpeaksFirst (onto_line b lines)
speaks_byte b [] e = e
speaks_byte b (line ∷ lines) e = e

pub speaks_text : (t : List ℕ) → begins t ≡ true → SpeaksFirst (lines_of t)
speaks_text [] e = tt
speaks_text (b ∷ t) e = grind (arith, speaks_byte b (lines_of t))

speaks_more : (xs ys : List (List ℕ)) → SpeaksFirst xs → SpeaksFirst ys → SpeaksFirst (xs ++ ys)
speaks_more [] ys h k = k
speaks_more ([] ∷ xs) ys h k = h
speaks_more ((b ∷ bs) ∷ xs) ys h k = h

pub no_part : IsPart []
no_part = record { whole = no_text; speaks = tt }

pub part_joined : {a b : List ℕ} → IsPart a → IsPart b → IsPart (a ++ b)
part_joined {a} {b} h k = record {
  whole = joined h.whole k.whole;
  speaks = subst SpeaksFirst (sym (h.whole.apart b)) (speaks_more (lines_of a) (lines_of b) h.speaks k.speaks);
}

-- a line
pub ended : (x : List ℕ) → IsWhole (x ++ codes "\n")
ended x = (before x (codes "\n") new_line).whole

pub parts_join : AreJoined IsPart
parts_join = record { none = no_part; join = part_joined }

-- a line that speaks of itself
pub line_part : (x : List ℕ) → begins (x ++ codes "\n") ≡ true → IsPart (x ++ codes "\n")
line_part x h = record { whole = ended x; speaks = speaks_text (x ++ codes "\n") h }

pub word_part : (g : KindTag) (k : ℕ) (x : Word) → IsPart (word_line g k x)
word_part g k x = line_part (codes "r " ++ decimal k ++ codes " = " ++ word_text g x) refl

pub view_part : (i : ℕ) (v : List ℕ) → IsPart (view_line i v)
view_part i v = line_part (codes "v " ++ decimal i ++ codes " =" ++ numbers_text v) refl

pub bit_part : (bank : List ℕ) → begins bank ≡ true → (i j x : ℕ) → IsPart (bit_line bank i j x)
bit_part [] h i j x = absurd cc
bit_part (b ∷ bs) h i j x =
    line_part ((b ∷ bs) ++ codes " " ++ decimal i ++ codes " " ++ decimal j ++ codes " = " ++ decimal x) h

-- the registers
pub words_part : (g : KindTag) (xs : List Word) → IsPart (word_lines g 1 xs)
words_part g xs = each_is parts_join (words_order g) (word_part g) 1 xs

pub row_part : (bank : List ℕ) → begins bank ≡ true → (i : ℕ) (xs : List ℕ) → IsPart (row_lines bank i 1 xs)
row_part bank h i xs = each_is parts_join (row_order bank i) (bit_part bank h i) 1 xs

pub bank_part : (bank : List ℕ) → begins bank ≡ true → (rows : List (List ℕ)) → IsPart (bank_lines bank 1 rows)
bank_part bank h rows = each_is parts_join (bank_order bank) (row_part bank h) 1 rows

pub views_part : (vs : List (List ℕ)) → IsPart (view_lines 1 vs)
views_part vs = each_is parts_join views_order view_part 1 vs

pub registers_part : (g : KindTag) (m : Memory) → IsPart (register_lines g m)
registers_part g m =
    part_joined (part_joined (part_joined (words_part g m.words) (bank_part (codes "q") refl m.q))
    (bank_part (codes "p") refl m.p)) (views_part m.views)

-- the locals of a process
whole_joins : AreJoined IsWhole
whole_joins = record { none = no_text; join = joined }

sort_whole : {A : Type 0} (f : Name → A → List ℕ) (es : NameMap A) →
    ((x : Name) (v : A) → IsWhole (f x v)) → IsWhole (locals_lines f es)
sort_whole f es h = each_is whole_joins (entries_order f) (λ n e. h e.0 e.1) 0 es

list_whole : (x : Name) (vs : List ℕ) → IsWhole (list_local x vs)
list_whole x vs = ended (codes "  " ++ x ++ codes " =" ++ numbers_text vs)

locals_whole : (g : KindTag) (l : Locals) → IsWhole (locals_text g l)
locals_whole g l =
    joined (joined (joined
    (sort_whole number_local l.scalars (λ x v. ended (codes "  " ++ x ++ codes " = " ++ decimal v)))
    (sort_whole list_local l.rows list_whole))
    (sort_whole (λ x vs. words_local g x 1 vs) l.words
    (λ x vs. each_is whole_joins (places_order g x)
    (λ p v. ended (codes "  " ++ x ++ codes " " ++ decimal p ++ codes " = " ++ word_text g v)) 1 vs)))
    (sort_whole list_local l.views list_whole)

pub head_part : (i : ℕ) (s : Status) → IsPart (head_line i s)
head_part i s = line_part (codes "process " ++ decimal i ++ codes " " ++ status_text s) refl

pub process_part : (g : KindTag) (i : ℕ) (p : Process) → IsPart (process_lines g i p)
process_part g i p = record {
  whole = joined (head_part i p.status).whole (locals_whole g p.locals);
  speaks = speaks_text (process_lines g i p) refl;
}

processes_part : (g : KindTag) (S : State) → IsPart (processes_lines g 1 S.processes)
processes_part g S = each_is parts_join (processes_order g) (process_part g) 1 S.processes

event_part : (e : Event) → IsPart (event_line e)
event_part e =
    line_part (codes "event " ++ decimal e.item ++ codes " " ++ decimal e.process ++ codes " " ++ happening_text e.what)
    refl

pub events_part : (es : List Event) → IsPart (event_lines es)
events_part es = each_is parts_join events_order (λ n e. event_part e) 0 es

events_more : (es new : List Event) → event_lines (es ++ new) ≡ event_lines es ++ event_lines new
events_more [] new = refl
events_more (e ∷ es) new =
    rw (events_more es new) (sym (append_assoc (event_line e) (event_lines es) (event_lines new)))

-- the values and the registers
abbrev pub shared : KindTag → State → List ℕ
shared g S = values_line (values S) ++ register_lines g S.memory

pub values_whole : (xs : List ℕ) → IsWhole (values_line xs)
values_whole xs = ended (codes "values" ++ numbers_text xs)

pub shared_whole : (g : KindTag) (S : State) → IsWhole (shared g S)
shared_whole g S =
    joined (values_whole (values S)) (registers_part g S.memory).whole

pub shared_feeds : (g : KindTag) (i : ℕ) (S S' : State) → IsMove g i S S' → feeds (shared g S) ≡ feeds (shared g S')
shared_feeds g i S S' h =
    feeds_both (values_line (values S)) (values_line (values S')) (register_lines g S.memory)
    (register_lines g S'.memory) (values_feeds (values S) ∙ sym (values_feeds (values S'))) (sym h.registers)

-- lines with their owners, behind others
owned_lines : (a b : List ℕ) → IsWhole a → IsPart b →
    lines_of (owned (a ++ b)) ≡ lines_of (owned a) ++ lines_of (owned b)
owned_lines a b h k =
    ap (λ ls. lines_of (owned_text [] ls)) (h.apart b)
    ∙ ap lines_of (behind_lines [] (lines_of a) (lines_of b) k.speaks)
    ∙ (owned_whole [] (lines_of a)).apart (owned b)

owned_count : (t : List ℕ) → IsWhole t → length (lines_of (owned t)) ≡ feeds t
owned_count t h = (owned_whole [] (lines_of t)).count ∙ owned_feeds [] (lines_of t) refl (lines_plain t) ∙ h.count

pub between_apart : {a a' b b' : List ℕ} → IsWhole a → IsWhole a' → IsPart b → IsPart b' → feeds a ≡ feeds a' →
    between (a ++ b) (a' ++ b') ≡ between a a' ++ between b b'
between_apart {a} {a'} {b} {b'} h h' k k' e =
    rw (owned_lines a b h k, owned_lines a' b' h' k')
    (changes.apart (lines_of (owned a)) (lines_of (owned a')) (lines_of (owned b)) (lines_of (owned b'))
    (owned_count a h ∙ e ∙ sym (owned_count a' h')))

pub between_same : (a : List ℕ) → between a a ≡ []
between_same a = changes.same (lines_of (owned a))

pub between_came : (a b : List ℕ) → IsWhole a → IsPart b → between a (a ++ b) ≡ between [] b
between_came a b h k = rw (owned_lines a b h k) (changes.came (lines_of (owned a)) (lines_of (owned b)))

-- what changed of a text around a part that differs
pub around : {a a' m m' : List ℕ} → Differs IsPart a a' m m' → between a a' ≡ between m m'
around {m = m} {m' = m'} h =
    let l = h.alike in
    rw (
      h.old_is,
      h.new_is,
      between_apart h.front_is.whole h.front_is.whole (part_joined l.mine h.rest_is)
          (part_joined l.mine' h.rest_is) refl,
      between_apart l.mine.whole l.mine'.whole h.rest_is h.rest_is l.same,
    )
    (simp (between_same, append-nil))

-- what changed of three parts, where texts came behind the last one
pub in_three : {a a' b b' e n : List ℕ} → IsWhole a → IsWhole a' → IsPart b → IsPart b' → IsPart e → IsPart n →
    feeds a ≡ feeds a' → feeds b ≡ feeds b' →
    between ((a ++ b) ++ e) ((a' ++ b') ++ (e ++ n)) ≡ between a a' ++ (between b b' ++ between [] n)
in_three {a} {a'} {b} {b'} {e} {n} ha ha' hb hb' he hn sa sb =
    rw (
      append_assoc a b e,
      append_assoc a' b' (e ++ n),
      between_apart ha ha' (part_joined hb he) (part_joined hb' (part_joined he hn)) sa,
      between_apart hb.whole hb'.whole he (part_joined he hn) sb,
      between_came e n he.whole hn,
    ) refl

-- A move of one process changes its own lines and those of the values and the registers, and
-- events come behind the others.
pub narrowed : (g : KindTag) (i : ℕ) (S S' : State) (es new : List Event) → 0 < i → i - 1 < length S.processes →
    IsMove g i S S' → between (state_text g S es) (state_text g S' (es ++ new))
    ≡ between (process_text g i S []) (process_text g i S' new)
narrowed g i S S' es new one there h =
    rw (
      events_more,
      in_three (shared_whole g S) (shared_whole g S') (processes_part g S) (processes_part g S')
          (events_part es) (events_part new) (shared_feeds g i S S' h) (differ_feeds moved),
      in_three (shared_whole g S) (shared_whole g S') (process_part g i (process_at S i))
          (process_part g i (process_at S' i)) no_part (events_part new) (shared_feeds g i S S' h) moved.alike.same,
      around moved,
    ) refl
  where
    number : i ≡ 1 + (i - 1)
    number = omega (arith, one)

    there' : i - 1 < length S'.processes
    there' = rw (h.processes, length-set) there

    moved : Differs IsPart (processes_lines g 1 S.processes) (processes_lines g 1 S'.processes)
        (process_lines g i (process_at S i)) (process_lines g i (process_at S' i))
    moved =
        differ_as (one_differs parts_join (processes_order g) (λ p. Unit {0}) (λ n p good. process_part g n p)
        (process_lines g i) 1 (i - 1) S.processes (process_at S i) h.process (any S.processes)
        (sym (set-get_or S.processes (i - 1) nobody)) h.processes
        (subst (λ n. Differs IsPart (process_lines g n (process_at S i)) (process_lines g n h.process)
        (process_lines g i (process_at S i)) (process_lines g i h.process)) number
        (itself parts_join (process_part g i (process_at S i)) (process_part g i h.process) (sym h.lines))))
        (ap (at (process_lines g i)) (slice_get-get_or S.processes (i - 1) nobody there))
        (ap (at (process_lines g i)) (slice_get-get_or S'.processes (i - 1) nobody there'))
