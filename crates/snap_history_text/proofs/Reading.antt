-- The events of a history are read line after line.
use Rattle.std.proofs.Common.{◌≡◌, ℕ, ◌+◌, ◌^◌, ◌<◌, Bool, true, false, not, List, [], ◌∷◌}
use Rattle.std.proofs.Common.{◌++◌, length, Option, Some, None, Result, Ok, Err, nat_lt, nat_le, nat_eq, option_map}
use Rattle.std.proofs.Common.{if◌then◌else◌, refl, sym, ap, ◌∙◌, arith, append_assoc, subst}
use Rattle.std.proofs.lemmas.Bool.{leb-true, ltb-true, eqb-true, and_parts}
use Rattle.snap_words.specs.Shape.{Counts, IsOneOf, is_place}
use Rattle.snap_semantics.specs.declared.event.Event.{Event}
use Rattle.snap_semantics.specs.declared.event.Happening.{Happening}
use Rattle.snap_semantics.specs.declared.event.Happening.TheVariants as what
use Rattle.snap_semantics.specs.declared.process.Op.TheVariants as op
use Rattle.snap_semantics.specs.Answers.{◌>>=◌}
use Rattle.snap_semantics.specs.Rules.{form_or, found_or}
use Rattle.snap_semantics.specs.Token.{TextLine}
use Rattle.snap_judge.specs.History.{Caller, Free, Busy, Gone, MayCome}
use Rattle.snap_history_text.specs.HistoryForms.{event_form}
use Rattle.snap_history_text.specs.HistoryText.{number_behind, has_word, caller_at, callers_behind, wrong_turn, unless}
use Rattle.snap_history_text.specs.HistoryText.{event_of, line_event, events_of}
use Rattle.snap_history_text.specs.ReaderSteps.{next_event, prefixed}
use Rattle.snap_history_text.specs.declared.event_form.EventForm.{EventForm}
use Rattle.snap_history_text.specs.declared.refusal.HistoryRefusal.{HistoryRefusal}
use Rattle.snap_history_text.specs.declared.refusal.HistoryRefusal.TheVariants as refusal

prefixed_more : (before : List Event) (e : Event) (r : Result (List Event) HistoryRefusal) →
    prefixed (before ++ e ∷ []) r ≡ prefixed before (r >>= λ es. Ok (e ∷ es))
prefixed_more before e (Ok es) =
    ap (λ (xs : List Event). let r : Result (List Event) HistoryRefusal = Ok xs in r) (append_assoc before (e ∷ []) es)
prefixed_more before e (Err x) = refl

-- what two steps came to, of which the second takes what the first one gave
pub ok_parts : {A B E : Type 0} (r : Result A E) (f : A → Result B E) (y : B) → (r >>= f) ≡ Ok y →
    (x : A) × (r ≡ Ok x) × (f x ≡ Ok y)
ok_parts (Ok x) f y e = (x, refl, e)
ok_parts (Err d) f y e = absurd cc

-- The lines begin with one that is this event.
pub record BeginsWith (shape : Counts) (last : ℕ) (callers : List Caller) (lines : List TextLine) (e : Event)
    (rest : List TextLine) : Type 0 where
  pub line : TextLine
  pub stands : lines ≡ line ∷ rest
  pub event : line_event shape last callers line ≡ Ok e

begins_by : (shape : Counts) (last : ℕ) (callers : List Caller) (lines : List TextLine) (e : Event)
    (rest : List TextLine) → next_event shape last callers lines ≡ Ok (Some (e, rest)) →
    BeginsWith shape last callers lines e rest
begins_by shape last callers [] e rest h = absurd cc
begins_by shape last callers (line ∷ ls) e rest h =
    let found = ok_parts (line_event shape last callers line) _ _ h in
    let is = found.2 in
    let same : (let p : Event × List TextLine = (found.0, ls) in p) ≡ (e, rest) = cc in
    record {
      line = line;
      stands = ap (λ (p : Event × List TextLine). line ∷ p.1) same;
      event = found.1 ∙ ap (λ (p : Event × List TextLine). let r : Result Event HistoryRefusal = Ok p.0 in r) same;
    }

pub begins : (shape : Counts) (last : ℕ) (callers : List Caller) (lines : List TextLine) (o : Option Event) (e : Event)
    (rest : List TextLine) → next_event shape last callers lines ≡ Ok (option_map (λ x. (x, rest)) o) → o ≡ Some e →
    BeginsWith shape last callers lines e rest
begins shape last callers lines o e rest h is =
    begins_by shape last callers lines e rest
    (h ∙ ap (λ (x : Option Event).
    let y : Result (Option (Event × List TextLine)) HistoryRefusal = Ok (option_map (λ z. (z, rest)) x) in y) is)

-- the events so far, and those of the lines that are left, once one more is read
pub one_read : (shape : Counts) (last : ℕ) (callers after : List Caller) (lines : List TextLine) (e : Event)
    (rest : List TextLine) (before more : List Event) → BeginsWith shape last callers lines e rest →
    after ≡ callers_behind callers e → more ≡ before ++ e ∷ [] →
    prefixed more (events_of shape e.item after rest) ≡ prefixed before (events_of shape last callers lines)
one_read shape last callers after lines e rest before more h behind added =
    ap (λ (xs : List Event). prefixed xs (events_of shape e.item after rest)) added
    ∙ ap (λ (cs : List Caller). prefixed (before ++ e ∷ []) (events_of shape e.item cs rest)) behind
    ∙ prefixed_more before e (events_of shape e.item (callers_behind callers e) rest)
    ∙ ap (λ (r : Result Event HistoryRefusal). prefixed before (r >>= λ x.
    events_of shape x.item (callers_behind callers x) rest >>= λ es.
    let y : Result (List Event) HistoryRefusal = Ok (x ∷ es) in y)) (sym h.event)
    ∙ ap (λ (ls : List TextLine). prefixed before (events_of shape last callers ls)) (sym h.stands)

-- What is known of an event that was read.
pub record IsNextEvent (shape : Counts) (last : ℕ) (callers : List Caller) (e : Event) : Type 0 where
  pub process : IsOneOf shape.n e.process
  pub rises : last < e.item
  pub turn : MayCome shape (caller_at callers e.process) e.what

pub is_place_there : (count k : ℕ) → is_place count k ≡ true → IsOneOf count k
is_place_there count k h =
    let parts = and_parts (nat_lt 0 k) (nat_le k count) h in
    (ltb-true 0 k parts.0, leb-true k count parts.1)

next_rises : (last t : ℕ) (b : Bool) → (let o : Option ℕ = if b then Some (last + 1) else None in o) ≡ Some t → last < t
next_rises last t true h = let same : last + 1 ≡ t = cc in omega arith
next_rises last t false h = absurd cc

told_rises : (last u t : ℕ) (b : Bool) → nat_lt last u ≡ b →
    (let o : Option ℕ = if b then Some u else None in o) ≡ Some t → last < t
told_rises last u t true e h =
    let same : u ≡ t = cc in let less = ltb-true last u e in omega arith
told_rises last u t false e h = absurd cc

number_rises : (last : ℕ) (number : Option ℕ) (t : ℕ) → number_behind last number ≡ Some t → last < t
number_rises last None t h = next_rises last t (nat_lt (last + 1) (2 ^ 64)) h
number_rises last (Some u) t h = told_rises last u t (nat_lt last u) refl h

right_view : (line : ℕ) (b : Bool) →
    (let o : Option HistoryRefusal = if b then None else Some (refusal.BadView line) in o) ≡ None → b ≡ true
right_view line true h = refl
right_view line false h = absurd cc

right_turn : (shape : Counts) (line : ℕ) (caller : Caller) (happening : Happening) → has_word shape happening ≡ true →
    wrong_turn shape line caller happening ≡ None → MayCome shape caller happening
right_turn shape line Free (what.Call op.Scan) word h = tt
right_turn shape line Free (what.Call (op.Update k x)) word h = is_place_there shape.w k word
right_turn shape line Free what.Crash word h = tt
right_turn shape line Free _ word h = absurd cc
right_turn shape line (Busy op.Scan) (what.Answer view) word h =
    eqb-true (length view) shape.w (right_view line (nat_eq (length view) shape.w) h)
right_turn shape line (Busy op.Scan) what.Crash word h = tt
right_turn shape line (Busy op.Scan) _ word h = absurd cc
right_turn shape line (Busy (op.Update k x)) (what.Call p) word h = absurd cc
right_turn shape line (Busy (op.Update k x)) (what.Answer view) word h = absurd cc
right_turn shape line (Busy (op.Update k x)) _ word h = tt
right_turn shape line Gone happening word h = absurd cc

event_by : (shape : Counts) (last : ℕ) (callers : List Caller) (line : ℕ) (form : EventForm) (e : Event)
    (there word : Bool) (t : Option ℕ) (wrong : Option HistoryRefusal) → is_place shape.n form.process ≡ there →
    number_behind last form.number ≡ t → has_word shape form.what ≡ word →
    wrong_turn shape line (caller_at callers form.process) form.what ≡ wrong →
    (let r : Result Event HistoryRefusal =
    if not there then Err (refusal.NoSuchProcess line) else
    found_or (refusal.NotRising line) t >>= λ k.
    if not word then Err (refusal.NoSuchWord line) else
    unless wrong (record { item = k; process = form.process; what = form.what }) in r) ≡ Ok e →
    IsNextEvent shape last callers e
event_by shape last callers line form e false word t wrong p n w g h = absurd cc
event_by shape last callers line form e true word None wrong p n w g h = absurd cc
event_by shape last callers line form e true false (Some k) wrong p n w g h = absurd cc
event_by shape last callers line form e true true (Some k) (Some x) p n w g h = absurd cc
event_by shape last callers line form e true true (Some k) None p n w g h =
    let made : Event = record { item = k; process = form.process; what = form.what } in
    let same : made ≡ e = cc in
    let known : IsNextEvent shape last callers made = record {
      process = is_place_there shape.n form.process p;
      rises = number_rises last form.number k n;
      turn = right_turn shape line (caller_at callers form.process) form.what w g;
    } in
    subst (λ (x : Event). IsNextEvent shape last callers x) same known

pub event_known : (shape : Counts) (last : ℕ) (callers : List Caller) (line : ℕ) (form : EventForm) (e : Event) →
    event_of shape last callers line form ≡ Ok e → IsNextEvent shape last callers e
event_known shape last callers line form e h =
    event_by shape last callers line form e (is_place shape.n form.process) (has_word shape form.what)
    (number_behind last form.number) (wrong_turn shape line (caller_at callers form.process) form.what)
    refl refl refl refl h

pub line_known : (shape : Counts) (last : ℕ) (callers : List Caller) (line : TextLine) (e : Event) →
    line_event shape last callers line ≡ Ok e → IsNextEvent shape last callers e
line_known shape last callers line e h =
    let found = ok_parts (form_or (refusal.BadEvent line.number) event_form line.tokens) _ e h in
    event_known shape last callers line.number found.0 e found.2
