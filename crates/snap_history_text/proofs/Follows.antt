-- What is read is a history.
use Rattle.std.proofs.Common.{◌≡◌, ℕ, ◌-◌, ◌<◌, Bool, true, false, List, [], ◌∷◌, length, Ok, Err, nat_lt}
use Rattle.std.proofs.Common.{if◌then◌else◌, ◌==◌, refl, ap, ◌∙◌, arith, subst, replicate, slice_index_or, slice_set}
use Rattle.std.proofs.lemmas.Bool.{eqb-true, eqb-false}
use Rattle.std.proofs.lemmas.List.{get_or-replicate, get_or-set_same, get_or-set_other, length-replicate, length-set}
use Rattle.std.proofs.lemmas.List.Elements.{All-cons}
use Rattle.std.proofs.lemmas.List.Kept.{AllPairs-cons}
use Rattle.std.specs.List.{All, AllPairs}
use Rattle.snap_words.specs.Shape.{Counts, IsOneOf}
use Rattle.snap_semantics.specs.declared.event.Event.{Event}
use Rattle.snap_semantics.specs.Rules.{form_or}
use Rattle.snap_semantics.specs.ScheduleForms.{shape_form}
use Rattle.snap_semantics.specs.Token.{TextLine, text_lines}
use Rattle.snap_judge.specs.History.{Caller, Free, History, IsHistory, MayCome, MayFollow, caller_after, with_caller}
use Rattle.snap_history_text.specs.HistoryText.{caller_at, callers_behind, line_event, events_of, history_of_lines}
use Rattle.snap_history_text.specs.HistoryLaws.{ReadsHistories}
use Rattle.snap_history_text.specs.declared.refusal.HistoryRefusal.TheVariants as refusal
use Rattle.snap_history_text.proofs.Reading.{IsNextEvent, line_known, ok_parts}

-- Each process is at the same in the list and in the function.
pub record Same (n : ℕ) (callers : List Caller) (at : ℕ → Caller) : Type 0 where
  pub each : length callers ≡ n
  pub same : (j : ℕ) → IsOneOf n j → caller_at callers j ≡ at j

pub same_free : (n : ℕ) → Same n (replicate n Free) (λ i. Free)
same_free n = record {
  each = length-replicate n Free;
  same = λ j there. get_or-replicate n (j - 1) Free Free (omega (arith, there.0, there.1));
}

same_place : (n i j : ℕ) (callers : List Caller) (at : ℕ → Caller) (c : Caller) (b : Bool) → (j == i) ≡ b →
    IsOneOf n i → IsOneOf n j → Same n callers at →
    caller_at (slice_set callers (i - 1) c) j ≡ (if b then c else at j)
same_place n i j callers at c true e there here h =
    ap (λ (k : ℕ). caller_at (slice_set callers (i - 1) c) k) (eqb-true j i e)
    ∙ get_or-set_same callers (i - 1) c Free (omega (arith, h.each, there.0, there.1))
same_place n i j callers at c false e there here h =
    get_or-set_other callers (i - 1) (j - 1) c Free
    (λ (is : j - 1 ≡ i - 1). eqb-false j i e (omega (arith, there.0, here.0))) ∙ h.same j here

pub same_behind : (n : ℕ) (callers : List Caller) (at : ℕ → Caller) (e : Event) → IsOneOf n e.process →
    Same n callers at → Same n (callers_behind callers e) (with_caller at e.process (caller_after e.what))
same_behind n callers at e there h = record {
  each = length-set callers (e.process - 1) (caller_after e.what) ∙ h.each;
  same = λ j here.
      same_place n e.process j callers at (caller_after e.what) (j == e.process) refl there here h;
}

-- What is known of events that were read behind one with the number `last`.
pub record Follow (shape : Counts) (last : ℕ) (at : ℕ → Caller) (es : List Event) : Type 0 where
  pub above : All (λ (e : Event). last < e.item) es
  pub rising : AllPairs (λ (a b : Event). a.item < b.item) es
  pub follow : MayFollow shape at es

no_pairs : AllPairs (λ (a b : Event). a.item < b.item) []
no_pairs i j d lt short = absurd (omega arith)

one_follows : (shape : Counts) (last : ℕ) (callers : List Caller) (at : ℕ → Caller) (e : Event) (es : List Event) →
    IsNextEvent shape last callers e → Same shape.n callers at →
    Follow shape e.item (with_caller at e.process (caller_after e.what)) es → Follow shape last at (e ∷ es)
one_follows shape last callers at e es known same h = record {
  above =
      All-cons (λ (x : Event). last < x.item) e es known.rises
      (λ k d short. let more : e.item < (slice_index_or es k d).item = h.above k d short in omega (arith, known.rises));
  rising = AllPairs-cons (λ (a b : Event). a.item < b.item) e es h.above h.rising;
  follow = (
    known.process,
    subst (λ (c : Caller). MayCome shape c e.what) (same.same e.process known.process) known.turn,
    h.follow,
  );
}

pub events_follow : (shape : Counts) (last : ℕ) (callers : List Caller) (at : ℕ → Caller) (lines : List TextLine)
    (es : List Event) → Same shape.n callers at → events_of shape last callers lines ≡ Ok es →
    Follow shape last at es
events_follow shape last callers at [] es same h =
    let none : [] ≡ es = cc in
    subst (λ (xs : List Event). Follow shape last at xs) none
    (record { above = λ k d short. absurd (omega arith); rising = no_pairs; follow = tt })
events_follow shape last callers at (line ∷ lines) es same h =
    let first = ok_parts (line_event shape last callers line) _ es h in
    let e = first.0 in
    let others = ok_parts (events_of shape e.item (callers_behind callers e) lines) _ es first.2 in
    let known = line_known shape last callers line e first.1 in
    let all = others.2 in
    let added : e ∷ others.0 ≡ es = cc in
    subst (λ (ys : List Event). Follow shape last at ys) added
    (one_follows shape last callers at e others.0 known same
    (events_follow shape e.item (callers_behind callers e) (with_caller at e.process (caller_after e.what)) lines
    others.0 (same_behind shape.n callers at e known.process same) others.1))

-- the events of all lines are a history
pub whole_history : (shape : Counts) (lines : List TextLine) (es : List Event) →
    events_of shape 0 (replicate shape.n Free) lines ≡ Ok es →
    IsHistory (record { shape = shape; events = es })
whole_history shape lines es h =
    let known = events_follow shape 0 (replicate shape.n Free) (λ i. Free) lines es (same_free shape.n) h in
    record { rising = known.rising; follow = known.follow }

lines_by : (lines : List TextLine) (h : History) → history_of_lines lines ≡ Ok h → IsHistory h
lines_by [] h all = absurd cc
lines_by (line ∷ lines) h all =
    let shape = ok_parts (form_or refusal.BadShape shape_form line.tokens) _ h all in
    let events = ok_parts (events_of shape.0 0 (replicate shape.0.n Free) lines) _ h shape.2 in
    let made : History = record { shape = shape.0; events = events.0 } in
    let is = events.2 in
    let same : made ≡ h = cc in
    subst IsHistory same (whole_history shape.0 lines events.0 events.1)

text_by : (b : Bool) (lines : List TextLine) (h : History) →
    (if b then Err refusal.TooLong else history_of_lines lines) ≡ Ok h → IsHistory h
text_by true lines h all = absurd cc
text_by false lines h all = lines_by lines h all

pub what_is_read : ReadsHistories
what_is_read text h all = text_by (nat_lt 16777216 (length text)) (text_lines text) h all
