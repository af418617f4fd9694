-- What is printed of a history is read as that history.
use Rattle.std.proofs.Common.{◌≡◌, ℕ, zero, suc, ◌<◌, ◌≤◌, Bool, true, false, not, List, [], ◌∷◌, length, map}
use Rattle.std.proofs.Common.{replicate, Option, Some, None, Result, Ok, Err, nat_lt, nat_le, nat_eq, if◌then◌else◌}
use Rattle.std.proofs.Common.{refl, sym, ap, ◌∙◌, arith, subst}
use Rattle.std.proofs.lemmas.Bool.{and_from, eq-eqb, le-leb, le-ltb, lt-ltb}
use Rattle.std.specs.List.{All, AllByRecursion, AllPairs}
use Rattle.snap_words.specs.Shape.{Counts, IsOneOf, IsShape, is_place}
use Rattle.snap_semantics.specs.declared.event.Event.{Event}
use Rattle.snap_semantics.specs.declared.event.Happening.{Happening}
use Rattle.snap_semantics.specs.declared.event.Happening.TheVariants as what
use Rattle.snap_semantics.specs.declared.process.Op.TheVariants as op
use Rattle.snap_semantics.specs.Answers.{◌>>=◌}
use Rattle.snap_semantics.specs.Rules.{form_or, found_or}
use Rattle.snap_semantics.specs.ScheduleForms.{shape_form, spelled_shape}
use Rattle.snap_semantics.specs.Token.{Token, TextLine, text_lines}
use Rattle.snap_text.specs.Laws.{IsSoundLine}
use Rattle.snap_text.specs.Lines.{line_tokens, found_lines}
use Rattle.snap_text.proofs.Laid.{laid_read}
use Rattle.snap_sched.proofs.Again.{shape_again}
use Rattle.snap_judge.specs.History.{Caller, Free, Busy, Gone, History, IsHistory, MayCome, MayFollow, caller_after}
use Rattle.snap_judge.specs.History.{with_caller}
use Rattle.snap_history_text.specs.HistoryForms.{spelled_event, event_form}
use Rattle.snap_history_text.specs.HistoryText.{has_word, caller_at, callers_behind, wrong_turn, unless, event_of}
use Rattle.snap_history_text.specs.HistoryText.{line_event, events_of, history_of_lines, history_text}
use Rattle.snap_history_text.specs.HistoryLaws.{FitsEvent, PrintsAgain}
use Rattle.snap_history_text.specs.declared.event_form.EventForm.{EventForm}
use Rattle.snap_history_text.specs.declared.refusal.HistoryRefusal.{HistoryRefusal}
use Rattle.snap_history_text.specs.declared.refusal.HistoryRefusal.TheVariants as refusal
use Rattle.snap_history_text.proofs.Follows.{Same, same_free, same_behind}
use Rattle.snap_history_text.proofs.FormsAgain.{told, event_again, event_stands, shape_stands}

place_again : (count k : ℕ) → IsOneOf count k → is_place count k ≡ true
place_again count k h = and_from (nat_lt 0 k) (nat_le k count) (lt-ltb 0 k h.0) (le-leb k count h.1)

word_again : (shape : Counts) (caller : Caller) (happening : Happening) → MayCome shape caller happening →
    has_word shape happening ≡ true
word_again shape Free (what.Call (op.Update k x)) h = place_again shape.w k h
word_again shape (Busy op.Scan) (what.Call (op.Update k x)) h = absurd h
word_again shape (Busy (op.Update j y)) (what.Call (op.Update k x)) h = absurd h
word_again shape Gone (what.Call (op.Update k x)) h = absurd h
word_again shape caller happening h = refl

view_again : (line : ℕ) (b : Bool) → b ≡ true →
    (let o : Option HistoryRefusal = if b then None else Some (refusal.BadView line) in o) ≡ None
view_again line true e = refl
view_again line false e = absurd cc

turn_again : (shape : Counts) (line : ℕ) (caller : Caller) (happening : Happening) → MayCome shape caller happening →
    wrong_turn shape line caller happening ≡ None
turn_again shape line Free (what.Call o) h = refl
turn_again shape line Free what.Crash h = refl
turn_again shape line Free _ h = absurd h
turn_again shape line (Busy op.Scan) (what.Answer view) h =
    view_again line (nat_eq (length view) shape.w) (eq-eqb (length view) shape.w h)
turn_again shape line (Busy op.Scan) what.Crash h = refl
turn_again shape line (Busy op.Scan) _ h = absurd h
turn_again shape line (Busy (op.Update k x)) (what.Call o) h = absurd h
turn_again shape line (Busy (op.Update k x)) (what.Answer view) h = absurd h
turn_again shape line (Busy (op.Update k x)) _ h = refl
turn_again shape line Gone (what.Call o) h = absurd h
turn_again shape line Gone _ h = absurd h

form_by : (line : ℕ) (e : Event) (there less word : Bool) (wrong : Option HistoryRefusal) → there ≡ true →
    less ≡ true → word ≡ true → wrong ≡ None → (let r : Result Event HistoryRefusal =
    if not there then Err (refusal.NoSuchProcess line) else
    found_or (refusal.NotRising line) (if less then Some e.item else None) >>= λ t.
    if not word then Err (refusal.NoSuchWord line) else
    unless wrong (record { item = t; process = e.process; what = e.what }) in r) ≡ Ok e
form_by line e there less word wrong p l w n = rw (p, l, w, n)

form_again : (shape : Counts) (last : ℕ) (callers : List Caller) (line : ℕ) (e : Event) → IsOneOf shape.n e.process →
    last < e.item → MayCome shape (caller_at callers e.process) e.what →
    event_of shape last callers line (told e) ≡ Ok e
form_again shape last callers line e there rises may =
    form_by line e (is_place shape.n e.process) (nat_lt last e.item) (has_word shape e.what)
    (wrong_turn shape line (caller_at callers e.process) e.what) (place_again shape.n e.process there)
    (lt-ltb last e.item rises) (word_again shape (caller_at callers e.process) e.what may)
    (turn_again shape line (caller_at callers e.process) e.what may)

line_again : (shape : Counts) (last : ℕ) (callers : List Caller) (line : TextLine) (e : Event) →
    line.tokens ≡ Some (spelled_event e) → event_of shape last callers line.number (told e) ≡ Ok e →
    line_event shape last callers line ≡ Ok e
line_again shape last callers line e spelled made =
    ap (λ (ts : Option (List Token)).
    form_or (refusal.BadEvent line.number) event_form ts >>= event_of shape last callers line.number) spelled
    ∙ ap (λ (o : Option EventForm).
    found_or (refusal.BadEvent line.number) o >>= event_of shape last callers line.number) (event_again e)
    ∙ made

-- the numbers rise, and the first is above this one
abbrev Rises : ℕ → List Event → Type 0
Rises last [] = Unit {0}
Rises last (e ∷ es) = (last < e.item) × Rises e.item es

rises_from : (last : ℕ) (es : List Event) → All (λ (e : Event). last < e.item) es →
    AllPairs (λ (a b : Event). a.item < b.item) es → Rises last es
rises_from last [] above rising = tt
rises_from last (e ∷ es) above rising = (
  above 0 e (omega arith),
  rises_from e.item es (λ k d short. rising 0 (suc k) d (omega arith) (omega arith))
      (λ i j d lt short. rising (suc i) (suc j) d (omega arith) (omega arith)),
)

events_again : (shape : Counts) (last : ℕ) (callers : List Caller) (at : ℕ → Caller) (lines : List TextLine)
    (es : List Event) → line_tokens lines ≡ found_lines (map spelled_event es) → Same shape.n callers at →
    MayFollow shape at es → Rises last es → events_of shape last callers lines ≡ Ok es
events_again shape last callers at [] [] spelled same follow rises = refl
events_again shape last callers at [] (e ∷ es) spelled same follow rises = absurd cc
events_again shape last callers at (line ∷ lines) [] spelled same follow rises = absurd cc
events_again shape last callers at (line ∷ lines) (e ∷ es) spelled same follow rises =
    let first : line.tokens ≡ Some (spelled_event e) = cc in
    let others : line_tokens lines ≡ found_lines (map spelled_event es) = cc in
    let there = follow.0 in
    let may = subst (λ (c : Caller). MayCome shape c e.what) (sym (same.same e.process there)) follow.1 in
    let here = line_again shape last callers line e first (form_again shape last callers line.number e there rises.0 may) in
    let behind =
    events_again shape e.item (callers_behind callers e) (with_caller at e.process (caller_after e.what)) lines es others
    (same_behind shape.n callers at e there same) follow.2 rises.1 in
    ap (λ (r : Result Event HistoryRefusal). r >>= λ x. events_of shape x.item (callers_behind callers x) lines >>= λ xs.
    let y : Result (List Event) HistoryRefusal = Ok (x ∷ xs) in y) here
    ∙ ap (λ (r : Result (List Event) HistoryRefusal). r >>= λ xs.
    let y : Result (List Event) HistoryRefusal = Ok (e ∷ xs) in y) behind

lines_again : (h : History) (lines : List TextLine) → IsShape h.shape.n h.shape.w → IsHistory h →
    AllByRecursion FitsEvent h.events →
    line_tokens lines ≡ found_lines (spelled_shape h.shape ∷ map spelled_event h.events) →
    history_of_lines lines ≡ Ok h
lines_again h [] shape is fits spelled = absurd cc
lines_again h (line ∷ lines) shape is fits spelled =
    let first : line.tokens ≡ Some (spelled_shape h.shape) = cc in
    let others : line_tokens lines ≡ found_lines (map spelled_event h.events) = cc in
    let events =
    events_again h.shape 0 (replicate h.shape.n Free) (λ i. Free) lines h.events others (same_free h.shape.n) is.follow
    (rises_from 0 h.events (first_above h.events fits) is.rising) in
    let counts =
    ap (form_or refusal.BadShape shape_form) first ∙ ap (found_or refusal.BadShape) (shape_again h.shape shape) in
    ap (λ (r : Result Counts HistoryRefusal). r >>= λ s. events_of s 0 (replicate s.n Free) lines >>= λ es.
    let y : Result History HistoryRefusal = Ok (record { shape = s; events = es }) in y) counts
    ∙ ap (λ (r : Result (List Event) HistoryRefusal). r >>= λ es.
    let y : Result History HistoryRefusal = Ok (record { shape = h.shape; events = es }) in y) events
  where
    first_above : (es : List Event) → AllByRecursion FitsEvent es → All (λ (e : Event). 0 < e.item) es
    first_above [] g k d short = absurd (omega arith)
    first_above (e ∷ es) g zero d short = g.0.0
    first_above (e ∷ es) g (suc k) d short = first_above es g.1 k d (omega arith)

events_stand : (shape : Counts) (at : ℕ → Caller) (es : List Event) → shape.n ≤ 64 → MayFollow shape at es →
    AllByRecursion FitsEvent es → AllByRecursion IsSoundLine (map spelled_event es)
events_stand shape at [] few follow fits = tt
events_stand shape at (e ∷ es) few follow fits = (
  event_stands shape.n e few follow.0 fits.0,
  events_stand shape (with_caller at e.process (caller_after e.what)) es few follow.2 fits.1,
)

text_by : (b : Bool) (r : Result History HistoryRefusal) (h : History) → b ≡ false → r ≡ Ok h →
    (if b then Err refusal.TooLong else r) ≡ Ok h
text_by true r h e is = absurd cc
text_by false r h e is = is

pub printed_again : PrintsAgain
printed_again h shape is fits few =
    text_by (nat_lt 16777216 (length (history_text h))) (history_of_lines (text_lines (history_text h))) h
    (le-ltb 16777216 (length (history_text h)) few)
    (lines_again h (text_lines (history_text h)) shape is fits
    (laid_read (spelled_shape h.shape ∷ map spelled_event h.events)
    (shape_stands h.shape shape, events_stand h.shape (λ i. Free) h.events shape.0.1 is.follow fits)))
